use Rattle.std.proofs.Common.{ℕ, arith, sym, subst, ◌≡◌, ◌+◌, ◌-◌, ◌*◌, ◌∷◌, ◌++◌, [], take, drop, get_or, set}
use Rattle.named_list.specs.Limits.{ring_names}
use Rattle.named_list.specs.Rings.{rolled}
use Rattle.named_list.proofs.ChainLemmas.{Pulled, pulled-more}
use Rattle.named_list.proofs.RingsLemmas.{put_mid-laid}
use Rattle.named_list.proofs.rings.pull_back.Goals as goal

pub loop-ring-preserved : goal.loop-ring-preserved
loop-ring-preserved c =
    let loop = c.loop-ring in
    let k : ℕ = loop.ring - 1 in
    let at : ℕ = k * ring_names in
    let one : at + ring_names - at ≡ ring_names = omega arith in
    let back : loop.ring ≡ k + 1 = omega (arith, c.loop-ring-test.true) in
    let is = subst (λ r. Pulled ring_names c.args.heads.now c.args.slots.now loop.heads loop.slots c.args.name loop.carried r) back loop.invariant in
    let said = subst (λ n. c.roll_back-carried.result ∷ rolled c.roll_back-carried.new.head c.roll_back-carried.new.ring ≡ rolled (get_or loop.heads k 0) (take n (drop at loop.slots)) ++ loop.carried ∷ []) one c.roll_back-carried.ensures.names in
    subst (λ slots. Pulled ring_names c.args.heads.now c.args.slots.now (set loop.heads k c.roll_back-carried.new.head) slots c.args.name c.roll_back-carried.result k)
    (sym (put_mid-laid at (at + ring_names - at) loop.slots c.roll_back-carried.new.ring one))
    (pulled-more _ _ loop.heads loop.slots _ loop.carried k is c.requires.full c.roll_back-carried.new.head c.roll_back-carried.result c.roll_back-carried.new.ring said c.roll_back-carried.ensures.len c.roll_back-carried.ensures.head)
