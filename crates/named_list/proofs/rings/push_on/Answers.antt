use Rattle.std.proofs.Common.{ℕ, arith, sym, subst, ◌≡◌, ◌+◌, ◌-◌, ◌*◌, ◌<◌, ◌∷◌, ◌++◌, [], length, take, drop, get_or, set}
use Rattle.named_list.specs.Limits.{ring_names}
use Rattle.named_list.specs.Rings.{rolled}
use Rattle.named_list.proofs.ChainLemmas.{Pushed, pushed-more}
use Rattle.named_list.proofs.RingsLemmas.{put_mid-laid}
use Rattle.named_list.proofs.rings.push_on.Goals as goal

pub loop-ring-preserved : goal.loop-ring-preserved
loop-ring-preserved c =
    let loop = c.loop-ring in
    let at : ℕ = loop.ring * ring_names in
    let one : at + ring_names - at ≡ ring_names = omega arith in
    let more : loop.ring < length c.args.heads.now = omega (arith, c.loop-ring-test.true, loop.invariant.heads_len) in
    let said = subst (λ n. loop.carried ∷ rolled (get_or loop.heads loop.ring 0) (take n (drop at loop.slots)) ≡ rolled c.roll_on-carried.new.head c.roll_on-carried.new.ring ++ c.roll_on-carried.result ∷ []) one c.roll_on-carried.ensures.names in
    subst (λ slots. Pushed ring_names c.args.heads.now c.args.slots.now (set loop.heads loop.ring c.roll_on-carried.new.head) slots c.args.name c.roll_on-carried.result (loop.ring + 1))
    (sym (put_mid-laid at (at + ring_names - at) loop.slots c.roll_on-carried.new.ring one))
    (pushed-more _ _ loop.heads loop.slots _ loop.carried loop.ring loop.invariant c.requires.full more c.roll_on-carried.new.head c.roll_on-carried.result c.roll_on-carried.new.ring said c.roll_on-carried.ensures.len c.roll_on-carried.ensures.head)
