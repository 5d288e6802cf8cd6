-- What the rules of a block's head read is the block's first octets.
use Rattle.std.proofs.Common.{◌≡◌, ◌≤◌, ◌&&◌, ◌++◌, nat_le, ℕ, Bool, true, false, List, take, drop, length, unwrap_or, refl, sym, ap, subst, ◌∙◌, arith, inl, inr}
use Rattle.std.proofs.lemmas.Bool.{cases_Bool, leb-false, leb-true}
use Rattle.std.proofs.lemmas.List.{length-take, take_all}
use Rattle.std.proofs.Math.Seq.{take-add}
use Rattle.octets.proofs.Fronts.{little-take}
use Rattle.capture_io.proofs.Fronts.{number-take}
use Rattle.capture_ng.specs.Blocks.{begins_section, first_size, kind_at, order_of}
use Rattle.capture_ng.specs.Position.{Position}
use Rattle.capture_io.specs.declared.order.Order.TheVariants.{Little}

-- a section header is told by its front
pub section-take : (size : ℕ) (left : List ℕ) → 4 ≤ size → begins_section (take size left) ≡ begins_section left
section-take size left long = rw (little-take 4 0 size left (omega arith)) refl

-- and so is any kind
pub kind_at-take : (at : Position) (size : ℕ) (left : List ℕ) → 4 ≤ size → kind_at at (take size left) ≡ kind_at at left
kind_at-take at size left long =
    rw (section-take size left long, number-take (unwrap_or at.order Little) 4 0 size left (omega arith)) refl

-- the order of a block's numbers is told by its first octets
pub order_of-take : (at : Position) (size : ℕ) (left : List ℕ) → first_size left ≤ size → order_of at (take size left) ≡ order_of at left
order_of-take at size left long =
    elim (cases_Bool (begins_section left)) [
      | inl yes_section ↦ (let whole : 12 ≤ size = (rw yes_section at long) in rw (section-take size left (omega arith), yes_section, little-take 4 8 size left (omega arith)) refl)
      | inr none_section ↦ (let part : 8 ≤ size = (rw none_section at long) in rw (section-take size left (omega arith), none_section) refl)
    ]

-- the tests of eight octets that begin a section header
both : (a b : Bool) → (a && b) ≡ true → (a ≡ true) × (b ≡ true)
both true b e = (refl, e)
both false b e = cc

neither : (a b : Bool) → (a && b) ≡ false → b ≡ true → a ≡ false
neither a true e is = and-right a e where
  and-right : (a : Bool) → (a && true) ≡ false → a ≡ false
  and-right true e = cc
  and-right false e = refl
neither a false e is = cc

-- the first octets of a block that is no section header, or that is cut
first_short : (left : List ℕ) → (nat_le 8 (length (take 8 left)) && begins_section (take 8 left)) ≡ false → take 8 left ≡ take (first_size left) left
first_short left test =
    elim (cases_Bool (begins_section left)) [
      | inl yes_section ↦
          (let cut = leb-false 8 (length (take 8 left)) (neither (nat_le 8 (length (take 8 left))) (begins_section (take 8 left)) test (section-take 8 left (omega arith) ∙ yes_section)) in
          rw yes_section (take_all 8 left (omega (arith, cut, length-take 8 left)) ∙ sym (take_all 12 left (omega (arith, cut, length-take 8 left)))))
      | inr none_section ↦ rw none_section refl
    ]

-- the first octets of a section header
first_long : (left : List ℕ) → (nat_le 8 (length (take 8 left)) && begins_section (take 8 left)) ≡ true → take 8 left ++ take 4 (drop 8 left) ≡ take (first_size left) left
first_long left test =
    let says = both (nat_le 8 (length (take 8 left))) (begins_section (take 8 left)) test in
    let section : begins_section left ≡ true = sym (section-take 8 left (omega arith)) ∙ says.1 in
    rw section (sym (take-add 8 4 left))

-- the same of octets that came
pub short_came : (left first : List ℕ) → first ≡ take 8 left → (nat_le 8 (length first) && begins_section first) ≡ false → first ≡ take (first_size left) left
short_came left first is test = is ∙ first_short left (subst (λ (l : List ℕ). (nat_le 8 (length l) && begins_section l) ≡ false) is test)

pub long_came : (left first more : List ℕ) → first ≡ take 8 left → (nat_le 8 (length first) && begins_section first) ≡ true → more ≡ first ++ take 4 (drop (length first) left) → more ≡ take (first_size left) left
long_came left first more is test comes =
    let test_left = subst (λ (l : List ℕ). (nat_le 8 (length l) && begins_section l) ≡ true) is test in
    let long = leb-true 8 (length (take 8 left)) (both (nat_le 8 (length (take 8 left))) (begins_section (take 8 left)) test_left).0 in
    let len : length first ≡ 8 = omega (arith, long, length-take 8 left, ap (λ (l : List ℕ). length l) is) in
    comes ∙ ap (λ (k : ℕ). first ++ take 4 (drop k left)) len ∙ ap (λ (l : List ℕ). l ++ take 4 (drop 8 left)) is ∙ first_long left test_left
