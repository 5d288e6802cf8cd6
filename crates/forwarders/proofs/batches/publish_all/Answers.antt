use Rattle.std.proofs.Common.{rules, ◌≡◌, [], ◌∷◌, ◌++◌, take, get_or, List, sym, subst}
use Rattle.router_log.specs.declared.entry.Entry.{Entry}
use Rattle.router_model.specs.Journal.{extended}
use Rattle.router_model.specs.Proper.{IsProper}
use Rattle.forwarders.specs.Batches.{Begins, journal_of}
use Rattle.forwarders.specs.Publication.{Publication}
use Rattle.forwarders.proofs.BatchLemmas.{begins-on}
use Rattle.forwarders.proofs.PlanLemmas.{batch-proper, front-stands, next-begins}
use Rattle.forwarders.proofs.batches.publish_all.Goals as goal

pub publish_batch-requires-clause-next : goal.publish_batch-requires-clause-next
publish_batch-requires-clause-next g c =
    let p : Publication = c.args.published.now in
    let bs : List (List Entry) = c.args.batches.now in
    let i = c.loop-batch.batch-index in
    let b : List Entry = c.as_slice.result.now in
    let at : get_or bs i b ≡ b = search rules in
    let here = begins-on ((p.batches ++ take i bs) ++ get_or bs i b ∷ []) (p.batches ++ bs) p.plan (next-begins p.batches bs i b c.loop-batch-test.true) c.requires.next in
    subst (λ (q : Publication). Begins (q.batches ++ b ∷ []) q.plan) (sym c.loop-batch.invariant)
    (subst (λ (z : List Entry). Begins ((p.batches ++ take i bs) ++ z ∷ []) p.plan) at here)

pub publish_batch-requires-clause-stands : goal.publish_batch-requires-clause-stands
publish_batch-requires-clause-stands g c =
    let p : Publication = c.args.published.now in
    let bs : List (List Entry) = c.args.batches.now in
    subst (λ (q : Publication). IsProper q.settings (journal_of q.batches)) (sym c.loop-batch.invariant)
    (front-stands p.settings p.batches bs c.loop-batch.batch-index c.requires.stands c.requires.proper)

pub publish_batch-requires-clause-proper : goal.publish_batch-requires-clause-proper
publish_batch-requires-clause-proper g c =
    let p : Publication = c.args.published.now in
    let bs : List (List Entry) = c.args.batches.now in
    let i = c.loop-batch.batch-index in
    let b : List Entry = c.as_slice.result.now in
    let at : get_or bs i b ≡ b = search rules in
    let here = batch-proper p.settings p.batches bs i b c.requires.stands c.requires.proper c.loop-batch-test.true in
    subst (λ (q : Publication). IsProper q.settings (extended (journal_of q.batches) b)) (sym c.loop-batch.invariant)
    (subst (λ (z : List Entry). IsProper p.settings (extended (journal_of (p.batches ++ take i bs)) z)) at here)
