use Rattle.std.proofs.Common.{◌≡◌, ℕ, cond, is_some, length, sym, ap, ◌∙◌, arith, true≢false}
use Rattle.prefix_table.proofs.FieldLemmas.{length-with_pair, length-without_pair}
use Rattle.prefix_table.specs.Pairs.{value_in}
use Rattle.request_queue.proofs.eids.tell_latest.Goals as goal

pub insert-requires : goal.insert-requires
insert-requires c none = absurd (true≢false (sym c.requires ∙ ap is_some none))

pub returns-in-None-clause-total : goal.returns-in-None-clause-total
returns-in-None-clause-total c =
    let fewer = length-without_pair c.args.eid.now c.args.eids.now.pairs in
    let was = ap (λ o. cond {A = ℕ} (is_some o) 1 0) c.remove.ensures.was in
    omega (arith, fewer, was, ap length c.remove.ensures.pairs, c.remove.ensures.spare)

pub returns-in-Some-clause-total : goal.returns-in-Some-clause-total
returns-in-Some-clause-total c =
    let pairs = c.args.eids.now.pairs in
    let here : cond {A = ℕ} (is_some (value_in c.args.eid.now pairs)) 0 1 ≡ 0 = ap (λ b. cond {A = ℕ} b 0 1) c.requires in
    let left : cond {A = ℕ} (is_some c.insert.result) 0 1 ≡ 0 = ap (λ o. cond {A = ℕ} (is_some o) 0 1) c.insert.ensures.was ∙ here in
    let kept = ap length c.insert.ensures.pairs ∙ length-with_pair c.args.eid.now _ pairs in
    omega (arith, kept, here, left, c.insert.ensures.spare)
