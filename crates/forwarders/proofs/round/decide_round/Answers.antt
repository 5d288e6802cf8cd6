use Rattle.std.proofs.Common.{◌≡◌, ◌∙◌, List, ◌++◌, take, drop, append_assoc, ap}
use Rattle.std.proofs.lemmas.List.{take-append-drop}
use Rattle.router_log.specs.declared.entry.Entry.{Entry}
use Rattle.forwarders.specs.Publication.{Publication}
use Rattle.forwarders.proofs.TakeLemmas.{answers-ruled}
use Rattle.forwarders.proofs.round.decide_round.Goals as goal

pub returns-clause-ruled : goal.returns-clause-ruled
returns-clause-ruled g c =
    let p : Publication = c.args.published.now in
    let q : Publication = c.publish_round.new.published in
    let from = c.args.from in
    let batches : List (List Entry) = c.args.written.now.batches in
    let given : List (List Entry) = c.as_slice-batches.result.now in
    let same : given ≡ batches = c.as_slice-batches.ensures in
    let planned : c.plan.new.self.batches ≡ p.batches = ap (λ (t : Publication). t.batches) c.plan.ensures in
    let whole : c.plan.new.self.batches ++ given ≡ p.batches ++ batches = λ i. planned i ++ same i in
    let first : c.plan.new.self.batches ++ take from given ≡ p.batches ++ take from batches = λ i. planned i ++ take from (same i) in
    let last : q.batches ≡ p.batches ++ batches = ap (λ (t : Publication). t.batches) c.in_ok-workers.ensures.published ∙ whole in
    answers-ruled c.rule_all.result c.args.round.now.settings.now c.args.round.now.frames.now (p.batches ++ take from batches) (p.batches ++ batches) (c.plan.new.self.batches ++ take from given) (c.plan.new.self.batches ++ given) q.batches
    c.args.written.now.places c.as_slice-places.result.now c.in_ok-workers.workers.items c.as_mut_slice.result.now
    (drop from batches, append_assoc p.batches (take from batches) (drop from batches) ∙ ap (λ (l : List (List Entry)). p.batches ++ l) (take-append-drop from batches))
    first whole last c.as_slice-places.ensures c.as_mut_slice.ensures.value c.in_ok-workers.ensures.answered c.rule_all.ensures.ruled
