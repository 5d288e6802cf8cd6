-- The rules of a whole block, by the number in its last octets.
use Rattle.std.proofs.Common.{◌≡◌, ◌≤◌, ◌+◌, ◌-◌, nat_le, ℕ, Bool, true, false, List, drop, length, refl, ap, ◌∙◌, arith, inl, inr}
use Rattle.std.proofs.lemmas.Bool.{cases_Bool, le-leb, leb-true, lt-leb, leb-false}
use Rattle.std.proofs.lemmas.List.{length-drop, drop-drop}
use Rattle.byteorder.specs.Endian.{big_number, little_number}
use Rattle.octets.specs.Rules.{first_failing}
use Rattle.capture_ng.specs.Blocks.{last_number}
use Rattle.capture_ng.specs.Faults.{ended_rules, whole_rules}
use Rattle.capture_io.specs.Capture.{number}
use Rattle.capture_ng.specs.Position.{Position}
use Rattle.capture_ng.specs.declared.head.Head.{Head}
use Rattle.capture_io.specs.declared.order.Order.{Order}
use Rattle.capture_io.specs.declared.order.Order.TheVariants.{Little, Big}

-- both tables judge alike
pub ended-whole : (at : Position) (head : Head) (left : List ℕ) → first_failing (ended_rules at head (last_number head.order head.length left)) ≡ first_failing (whole_rules at head left)
ended-whole at head left =
    elim (cases_Bool (nat_le head.length (length left))) [
      | inl there ↦ rw there refl
      | inr cut ↦ rw cut refl
    ]

-- a number is read of the rest as of the whole
number-rest : (order : Order) (have at : ℕ) (left : List ℕ) → number order 4 (drop have left) at ≡ number order 4 left (at + have)
number-rest Little have at left = ap (λ (l : List ℕ). little_number 4 l) (drop-drop at have left ∙ ap (λ (k : ℕ). drop k left) (omega arith))
number-rest Big have at left = ap (λ (l : List ℕ). big_number 4 l) (drop-drop at have left ∙ ap (λ (k : ℕ). drop k left) (omega arith))

-- and so is the number in the last four octets, where some came before
last-rest : (order : Order) (have size : ℕ) (left : List ℕ) (there : Bool) → have + 4 ≤ size → nat_le size (length left) ≡ there → last_number order (size - have) (drop have left) ≡ last_number order size left
last-rest order have size left true some is =
    let long = leb-true size (length left) is in
    let at : (size - have) - 4 + have ≡ size - 4 = omega arith in
    rw (le-leb (size - have) (length (drop have left)) (omega (arith, long, length-drop have left)), is, number-rest order have ((size - have) - 4) left, at) refl
last-rest order have size left false some is =
    let cut = leb-false size (length left) is in
    rw (lt-leb (size - have) (length (drop have left)) (omega (arith, cut, length-drop have left)), is) refl

pub last_number-rest : (order : Order) (have size : ℕ) (left : List ℕ) → have + 4 ≤ size → last_number order (size - have) (drop have left) ≡ last_number order size left
last_number-rest order have size left some = last-rest order have size left (nat_le size (length left)) some refl
