-- The rules of a header read only its octets.
use Rattle.std.proofs.Common.{◌≡◌, ◌<◌, ◌≤◌, ◌+◌, ℕ, List, take, length, min, None, refl, sym, ap, ◌∙◌, arith, inl, inr}
use Rattle.std.proofs.lemmas.Bool.{cases_lt, le-leb, ltb-true, leb-true}
use Rattle.std.proofs.lemmas.List.{length-take, take_all}
use Rattle.desk.specs.World.{Fills}
use Rattle.octets.proofs.Fronts.{little-take, big-take}
use Rattle.octets.proofs.RuleLemmas.{all_hold}
use Rattle.octets.specs.Rules.{first_failing}
use Rattle.capture_io.specs.Limits.{most_frame_octets, most_records}
use Rattle.capture_io.specs.Capture.{number, header_rules, format_of, order_of, head_rules, fraction, kept, moment, per_second}
use Rattle.capture_io.specs.declared.order.Order.{Order}
use Rattle.capture_io.specs.declared.order.Order.TheVariants.{Little, Big}
use Rattle.capture_io.specs.declared.format.Format.{Format}
use Rattle.capture_io.specs.declared.position.Position.{Position}

-- a number that lies in the front of a list is read of the front alone
pub number-take : (order : Order) (n at size : ℕ) (left : List ℕ) → at + n ≤ size → number order n (take size left) at ≡ number order n left at
number-take Little n at size left within = little-take n at size left within
number-take Big n at size left within = big-take n at size left within

-- the byte order is told by the first 24 octets
order_of-take : (file : List ℕ) → order_of (take 24 file) ≡ order_of file
order_of-take file = rw (little-take 4 0 24 file (omega arith)) refl

-- and so is the format
pub format_of-take : (file : List ℕ) → format_of (take 24 file) ≡ format_of file
format_of-take file =
    rw (order_of-take file, number-take (order_of file) 4 0 24 file (omega arith), number-take (order_of file) 4 20 24 file (omega arith)) refl

-- where all of the header is there, its rules read only those
header_whole : (file : List ℕ) → 24 ≤ length file → first_failing (header_rules (take 24 file)) ≡ first_failing (header_rules file)
header_whole file long =
    let len : length (take 24 file) ≡ 24 = omega (arith, length-take 24 file) in
    rw (len, le-leb 24 (length file) long, order_of-take file, number-take (order_of file) 4 0 24 file (omega arith), number-take (order_of file) 2 4 24 file (omega arith), number-take (order_of file) 2 6 24 file (omega arith), number-take (order_of file) 4 20 24 file (omega arith)) refl

-- and so they do where it is cut
pub header-take : (file : List ℕ) → first_failing (header_rules (take 24 file)) ≡ first_failing (header_rules file)
header-take file =
    elim (cases_lt (length file) 24)
    [ inl short ↦ ap (λ (x : List ℕ). first_failing (header_rules x)) (take_all 24 file (omega arith)) | inr long ↦ header_whole file long ]

-- the lesser of two numbers
min_is : (m n : ℕ) → n ≤ m → min m n ≡ n
min_is m n most = omega arith

-- as many octets as there are
take-min : (m : ℕ) (octets : List ℕ) → take (min m (length octets)) octets ≡ take m octets
take-min m octets =
    elim (cases_lt (length octets) m) [
      | inl short ↦ rw (min_is m (length octets) (omega arith)) (take_all (length octets) octets (omega arith) ∙ sym (take_all m octets (omega arith)))
      | inr long ↦ ap (λ (k : ℕ). take k octets) (omega arith)
    ]

-- the front that a buffer of m octets holds of what was left
pub filled_front : (m n : ℕ) (left buf : List ℕ) → length buf ≡ m → Fills left n buf → take n buf ≡ take m left
filled_front m n left buf len fills =
    fills.octets ∙ ap (λ (k : ℕ). take k left) (fills.count ∙ ap (λ (k : ℕ). min k (length left)) len) ∙ take-min m left

-- where all of a record's header is there, its rules read only its 16 octets
head_whole : (format : Format) (at : Position) (left : List ℕ) → 16 ≤ length left → first_failing (head_rules format at (take 16 left)) ≡ first_failing (head_rules format at left)
head_whole format at left long =
    let len : length (take 16 left) ≡ 16 = omega (arith, length-take 16 left) in
    rw (len, le-leb 16 (length left) long, number-take format.order 4 4 16 left (omega arith), number-take format.order 4 8 16 left (omega arith)) refl

-- and so they do where it is cut
pub head-take : (format : Format) (at : Position) (left : List ℕ) → first_failing (head_rules format at (take 16 left)) ≡ first_failing (head_rules format at left)
head-take format at left =
    elim (cases_lt (length left) 16)
    [ inl short ↦ ap (λ (x : List ℕ). first_failing (head_rules format at x)) (take_all 16 left (omega arith)) | inr long ↦ head_whole format at left long ]

-- the kept length is told by the first 16 octets
pub kept-take : (format : Format) (left : List ℕ) → kept format (take 16 left) ≡ kept format left
kept-take format left = number-take format.order 4 8 16 left (omega arith)

-- and so is the moment
pub moment-take : (format : Format) (left : List ℕ) → moment format (take 16 left) ≡ moment format left
moment-take format left = rw (number-take format.order 4 0 16 left (omega arith), number-take format.order 4 4 16 left (omega arith)) refl

-- a record's header that breaks no rule
pub record Passed (format : Format) (at : Position) (left : List ℕ) : Type 0 where
  pub room : at.count < most_records
  pub head : 16 ≤ length left
  pub fraction : fraction format left < per_second format.fraction
  pub kept : kept format left ≤ most_frame_octets

-- what no rule that fails says
pub passes : (format : Format) (at : Position) (left : List ℕ) → first_failing (head_rules format at left) ≡ None → Passed format at left
passes format at left none =
    let all = all_hold (head_rules format at left) none in
    record { room = ltb-true _ _ all.0; head = leb-true _ _ all.1.0; fraction = ltb-true _ _ all.1.1.0; kept = leb-true _ _ all.1.1.1.0 }
