use Rattle.std.proofs.Common.{rules, ◌≡◌, List, [], ◌∷◌, ◌++◌, sym, subst}
use Rattle.router_log.specs.declared.entry.Entry.{Entry}
use Rattle.router_model.specs.Proper.{IsProper}
use Rattle.router_model.specs.Sharing.{filled}
use Rattle.forwarders.specs.Batches.{journal_of}
use Rattle.forwarders.specs.Publication.{Publication}
use Rattle.forwarders.proofs.BatchLemmas.{journal-more}
use Rattle.forwarders.proofs.notices.publish_more.Goals as goal

pub publish_all-requires-clause-proper : goal.publish_all-requires-clause-proper
publish_all-requires-clause-proper g c =
    let p : Publication = c.args.published.now in
    let batches : List (List Entry) = c.as_slice-2.result.now in
    let is : filled (c.args.entries ∷ []) ≡ batches = search rules in
    let same : p ≡ record c.plan.new.self { plan = p.plan } = search rules in
    let here = subst (IsProper p.settings) (sym (journal-more p.batches c.args.entries)) c.requires.proper in
    subst (λ (t : Publication × List (List Entry)). IsProper t.0.settings (journal_of (t.0.batches ++ t.1))) (λ i. (same i, is i)) here
