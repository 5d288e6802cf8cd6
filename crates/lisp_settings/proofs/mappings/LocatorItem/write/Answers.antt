use Rattle.std.proofs.Common.{rules}
use Rattle.std.proofs.lemmas.Result.{IfOk-weaker}
use Rattle.lisp_settings.proofs.mappings.LocatorItem.write.Goals as goal

pub returns-clause-reads : goal.returns-clause-reads
returns-clause-reads c =
    IfOk-weaker c.write.result _ _ (λ table reads known fits. search (rules, reads known fits)) c.write.ensures.reads
