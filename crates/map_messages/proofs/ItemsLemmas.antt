-- Items, one after another.
use Rattle.std.proofs.Common.{◌≡◌, ◌≤◌, ◌<◌, ℕ, zero, suc, ◌+◌, ◌-◌, Bool, List, [], ◌∷◌, ◌++◌, length, drop, Some, None, sym, ap, subst, ◌∙◌, arith}
use Rattle.std.specs.Prelude.{Err}
use Rattle.std.proofs.lemmas.List.{drop-drop, length-append, length-drop}
use Rattle.octets.specs.Rules.{first_failing}
use Rattle.octets.specs.declared.refused.Refused.{Refused}
use Rattle.octets.proofs.RuleLemmas.{first_failing-append, first_failing-append_refused}
use Rattle.mapping_records.specs.Record.{RefusesBy}
use Rattle.mapping_records.specs.declared.fault.RecordFault.{RecordFault}
use Rattle.mapping_records.specs.declared.fault.RecordFault.TheVariants as fault
use Rattle.map_messages.specs.Items.{items_rules, items_size, EachAt}

-- the rules of so many items of one kind, and their octets
abbrev pub Rules : Type 0
Rules = ℕ → List ℕ → List (Bool × Refused)

-- the octets of one item
abbrev pub Size : Type 0
Size = List ℕ → ℕ

-- the octets of one item more
items_size-more : (size : Size) (i : ℕ) (octets : List ℕ)
    → items_size size (suc i) octets ≡ items_size size i octets + size (drop (items_size size i octets) octets)
items_size-more size zero octets = omega arith
items_size-more size (suc i) octets =
    let rest : List ℕ = drop (size octets) octets in
    let more = items_size-more size i rest in
    let moved : drop (items_size size i rest) rest ≡ drop (size octets + items_size size i rest) octets = drop-drop (items_size size i rest) (size octets) octets in
    let place : size (drop (items_size size i rest) rest) ≡ size (drop (size octets + items_size size i rest) octets) = ap size moved in
    omega (arith, more, place)

-- one item more stands at its place
each-more : {T : Type 0} (Is : List ℕ → T → Type 0) (size : Size) (octets : List ℕ) (items : List T) (item : T)
    → EachAt Is size octets items → Is (drop (items_size size (length items) octets) octets) item
    → EachAt Is size octets (items ++ item ∷ [])
each-more Is size octets [] item each is = (is, tt)
each-more Is size octets (first ∷ items) item each is =
    let rest : List ℕ = drop (size octets) octets in
    let moved : drop (items_size size (length items) rest) rest ≡ drop (size octets + items_size size (length items) rest) octets =
    drop-drop (items_size size (length items) rest) (size octets) octets in
    (each.0, each-more Is size rest items item each.1 (subst (λ (d : List ℕ). Is d item) (sym moved) is))

-- the first i of the items were read, up to a place
pub record Before {T : Type 0} (Is : List ℕ → T → Type 0) (rules : Rules) (size : Size) (count base : ℕ) (octets : List ℕ) (i at : ℕ) (items : List T) : Type 0 where
  pub left : first_failing (items_rules rules size (count - i) (base + at) (drop at octets)) ≡ first_failing (items_rules rules size count base octets)
  pub each : EachAt Is size octets items
  pub number : length items ≡ i
  pub place : at ≡ items_size size i octets
  pub inside : at ≤ length octets

-- the rules of what is left, where something is
next_rules : (rules : Rules) (size : Size) (count i base : ℕ) (octets : List ℕ) → i < count
    → items_rules rules size (count - i) base octets
    ≡ rules base octets ++ items_rules rules size (count - (i + 1)) (base + size octets) (drop (size octets) octets)
next_rules rules size count i base octets more =
    let next : count - i ≡ suc (count - (i + 1)) = omega arith in
    ap (λ (n : ℕ). items_rules rules size n base octets) next

-- one more was read
pub goes_on : {T : Type 0} (Is : List ℕ → T → Type 0) (rules : Rules) (size : Size) (count base : ℕ) (octets : List ℕ) (i at : ℕ) (items : List T) (item : T)
    → i < count → Before Is rules size count base octets i at items
    → first_failing (rules (base + at) (drop at octets)) ≡ None → Is (drop at octets) item → size (drop at octets) ≤ length (drop at octets)
    → Before Is rules size count base octets (i + 1) (at + size (drop at octets)) (items ++ item ∷ [])
goes_on Is rules size count base octets i at items item more before none is fits =
    let k = count - (i + 1) in
    let rest : List ℕ = drop at octets in
    let n = size rest in
    let place : base + at + n ≡ base + (at + n) = omega arith in
    let moved : drop n rest ≡ drop (at + n) octets = drop-drop n at octets in
    let left : first_failing (items_rules rules size (count - i) (base + at) rest) ≡ first_failing (items_rules rules size k (base + (at + n)) (drop (at + n) octets)) =
    ap (λ (rs : List (Bool × Refused)). first_failing rs) (next_rules rules size count i (base + at) rest more)
    ∙ first_failing-append (rules (base + at) rest) (items_rules rules size k (base + at + n) (drop n rest)) none
    ∙ ap (λ (p : ℕ). first_failing (items_rules rules size k p (drop n rest))) place
    ∙ ap (λ (d : List ℕ). first_failing (items_rules rules size k (base + (at + n)) d)) moved in
    let one : suc i ≡ i + 1 = omega arith in
    let stands : at ≡ items_size size (length items) octets = before.place ∙ ap (λ (m : ℕ). items_size size m octets) (sym before.number) in
    record {
      left = sym left ∙ before.left;
      each = each-more Is size octets items item before.each (subst (λ (p : ℕ). Is (drop p octets) item) stands is);
      number = omega (arith, before.number, length-append items (item ∷ []));
      place = ap (λ (p : ℕ). p + size (drop p octets)) before.place ∙ sym (items_size-more size i octets) ∙ ap (λ (k : ℕ). items_size size k octets) one;
      inside = omega (arith, fits, length-drop at octets, before.inside);
    }

-- the next one is refused
pub is_refused : {T : Type 0} (Is : List ℕ → T → Type 0) (rules : Rules) (size : Size) (count base : ℕ) (octets : List ℕ) (i at : ℕ) (items : List T) (refused : Refused)
    → i < count → Before Is rules size count base octets i at items
    → first_failing (rules (base + at) (drop at octets)) ≡ Some refused → first_failing (items_rules rules size count base octets) ≡ Some refused
is_refused Is rules size count base octets i at items refused more before some =
    let k = count - (i + 1) in
    let rest : List ℕ = drop at octets in
    sym before.left
    ∙ ap (λ (rs : List (Bool × Refused)). first_failing rs) (next_rules rules size count i (base + at) rest more)
    ∙ first_failing-append_refused (rules (base + at) rest) (items_rules rules size k (base + at + size rest) (drop (size rest) rest)) refused some

-- the fault of the next one is that of all
pub items_fault : {T : Type 0} (Is : List ℕ → T → Type 0) (rules : Rules) (size : Size) (count base : ℕ) (octets : List ℕ) (i at : ℕ) (items : List T) (f : RecordFault)
    → i < count → Before Is rules size count base octets i at items
    → RefusesBy {T = T × ℕ} (first_failing (rules (base + at) (drop at octets))) (Err f)
    → RefusesBy {T = List T × ℕ} (first_failing (items_rules rules size count base octets)) (Err f)
items_fault Is rules size count base octets i at items (fault.Refused r) more before some = is_refused Is rules size count base octets i at items r more before some
items_fault Is rules size count base octets i at items fault.Memory more before some = tt
