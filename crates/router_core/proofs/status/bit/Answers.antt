use Rattle.std.proofs.Common.{◌≡◌, ◌∙◌, ℕ, ◌<◌, ◌≤◌, ◌^◌, ◌/◌, ◌%◌, ◌==◌, nat_lt, false, sym, ap, arith}
use Rattle.std.proofs.Math.Nat.{div-eq_of_lt}
use Rattle.std.proofs.Math.Pow.{pow_mono}
use Rattle.std.proofs.lemmas.Bool.Decides.{nat_tests}
use Rattle.router_model.specs.Mappings.{bit}
use Rattle.router_core.proofs.status.bit.Goals as goal

past_all : (i n : ℕ) → n < 2 ^ 32 → 32 ≤ i → nat_lt i 32 ≡ bit i n
past_all i n few past = here i past ∙ sym (ap (λ (q : ℕ). q % 2 == 1) none)
  where
    none : n / 2 ^ i ≡ 0
    none = div-eq_of_lt (let more = pow_mono past in omega (arith, few, more))

    here : (i : ℕ) → 32 ≤ i → nat_lt i 32 ≡ false
    here i past = grind (arith, nat_tests)

pub returns-else-index-lt32 : goal.returns-else-index-lt32
returns-else-index-lt32 c = past_all c.args.index c.args.bits c.ranges.bits.fits c.if-index-lt32.false
