use Rattle.std.proofs.Common.{◌≡◌, ◌∙◌, List, ◌++◌, drop, take, append_assoc, sym, ap, subst}
use Rattle.std.proofs.lemmas.List.{take-append-drop}
use Rattle.router_log.specs.declared.entry.Entry.{Entry}
use Rattle.router_model.specs.Proper.{IsProper}
use Rattle.forwarders.specs.Batches.{journal_of}
use Rattle.forwarders.specs.Publication.{Publication}
use Rattle.forwarders.proofs.PlanLemmas.{front-stands}
use Rattle.forwarders.proofs.hiring.publish_round.Goals as goal

pub publish_all-requires-clause-proper : goal.publish_all-requires-clause-proper
publish_all-requires-clause-proper g c =
    let p : Publication = c.args.published.now in
    let batches : List (List Entry) = c.args.batches.now in
    subst (λ (t : Publication × List (List Entry)). IsProper t.0.settings (journal_of (p.batches ++ t.1))) (λ i. (record p { settings = sym c.requires.settings i }, sym c.split_at.ensures.front i))
    (front-stands c.args.round.now.settings.now p.batches batches c.args.from c.requires.stands c.requires.proper)

pub publish_all-requires-clause-next : goal.publish_all-requires-clause-next
publish_all-requires-clause-next g c =
    let p : Publication = c.args.published.now in
    let batches : List (List Entry) = c.args.batches.now in
    let from = c.args.from in (
      drop from batches,
      ap (λ (l : List (List Entry)). (p.batches ++ l) ++ drop from batches) c.split_at.ensures.front
          ∙ (append_assoc p.batches (take from batches) (drop from batches)
          ∙ (ap (λ (l : List (List Entry)). p.batches ++ l) (take-append-drop from batches) ∙ sym c.requires.plan)),
    )

pub publish_beside-requires-clause-stands : goal.publish_beside-requires-clause-stands
publish_beside-requires-clause-stands g c = λ κs bounds.
    let p : Publication = c.args.published.now in
    let batches : List (List Entry) = c.args.batches.now in
    let is : record p { batches = p.batches ++ c.split_at.result.0.now } ≡ c.hired.new.published = sym (c.in_ok-workers.ensures.same ∙ c.in_ok-publish_all.ensures) in
    subst (λ (q : Publication). IsProper q.settings (journal_of q.batches)) is
    (subst (λ (t : Publication × List (List Entry)). IsProper t.0.settings (journal_of (p.batches ++ t.1))) (λ i. (record p { settings = sym c.requires.settings i }, sym c.split_at.ensures.front i))
    (front-stands c.args.round.now.settings.now p.batches batches c.args.from c.requires.stands c.requires.proper))
