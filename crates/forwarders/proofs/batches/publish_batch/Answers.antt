use Rattle.std.proofs.Common.{rules, ◌≡◌, IsTrue, take, get_or, sym, subst}
use Rattle.router_log.specs.declared.entry.Entry.{Entry}
use Rattle.router_model.specs.Journal.{extended}
use Rattle.router_model.specs.Proper.{fits}
use Rattle.forwarders.specs.Batches.{journal_of}
use Rattle.forwarders.specs.Publication.{Publication}
use Rattle.forwarders.proofs.PlanLemmas.{fit-at, long-enough}
use Rattle.forwarders.proofs.batches.publish_batch.Goals as goal

pub append-requires : goal.append-requires
append-requires g c =
    let p : Publication = c.args.published.now in
    let i = c.loop-entry.entry-index in
    let e : Entry = c.entry-item.result in
    let at : get_or c.args.batch.now i e ≡ e = search rules in
    let here = fit-at p.settings (journal_of p.batches) c.args.batch.now i e
    (long-enough p.settings (journal_of p.batches) c.requires.stands) c.requires.proper c.loop-entry-test.true in
    subst (λ (q : Publication). IsTrue (fits q.settings (extended (journal_of q.batches) q.pending) e)) (sym c.loop-entry.invariant)
    (subst (λ (z : Entry). IsTrue (fits p.settings (extended (journal_of p.batches) (take i c.args.batch.now)) z)) at here)
