-- What finds requests, of requests that are sent again.
use Rattle.std.proofs.Common.{List, ℕ}
use Rattle.request_queue.specs.Found.{AreFound}
use Rattle.request_queue.specs.Queue.{sent_again}
use Rattle.request_queue.specs.declared.index.Index.{Index}
use Rattle.request_queue.specs.declared.request.Request.{Request}
use Rattle.request_queue.proofs.EidLemmas.{are-again}
use Rattle.request_queue.proofs.TermLemmas.{terms-again}

-- what is sent again is found as before
pub found-again : (nonce : ℕ) (index : Index) (requests : List Request) → AreFound index requests → AreFound index (sent_again nonce requests)
found-again nonce index requests found = record {
  eids = are-again index.eids.pairs requests found.eids nonce;
  terms = terms-again nonce index.terms.keys requests found.terms;
}
