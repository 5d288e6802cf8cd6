-- An item in the place of one with its number, its marks and its links.
use Rattle.std.proofs.Common.{◌≡◌, ℕ, ◌<◌, ◌==◌, cond, List, get_or, length, map, slice_get, slice_set, All, Some, inl, inr, refl, sym, ap, subst, ◌∙◌, arith, eq-eqb, eqb-true}
use Rattle.std.proofs.lemmas.Bool.{cases_Bool, cases_eq, cases_order, ne_eqb}
use Rattle.std.proofs.lemmas.List.{get_or-set_other, get_or-set_same, length-set, map-id}
use Rattle.std.proofs.lemmas.Option.{get_or_from_slice_get, same_Some, slice_get_within}
use Rattle.keyed_list.specs.Keyed.{Ascends, has_age, link_of, IsFound, IsKeyed, IsLink, IsLinked}
use Rattle.keyed_list.specs.Keys.{same_key}
use Rattle.keyed_list.specs.declared.key.Age.{Age}
use Rattle.keyed_list.specs.declared.key.Key.{Key}
use Rattle.keyed_list.specs.declared.key.Mark.{Mark}
use Rattle.keyed_list.specs.declared.keyed.Marks.{Marks}
use Rattle.keyed_list.specs.declared.keyed.Numbered.{Numbered}
use Rattle.keyed_list.proofs.AmongLemmas.{among-at, Among}
use Rattle.keyed_list.proofs.EditLemmas.{any-set, set-map}
use Rattle.keyed_list.proofs.MapLemmas.{found-mapped, linked-at, linked-mapped}
use Rattle.keyed_list.proofs.NumberLemmas.{same-number}

module _ {T : Type 0} (items : List (Numbered T)) where
  pub ascend-at : (j k : ℕ) (a b : Numbered T) → Ascends items → j < k → slice_get items j ≡ Some a → slice_get items k ≡ Some b → a.number < b.number
  ascend-at j k a b ascends less at_j at_k =
      subst (λ (x : Numbered T). x.number < b.number) (get_or_from_slice_get items j a a at_j)
      (subst (λ (y : Numbered T). (get_or items j a).number < y.number) (get_or_from_slice_get items k b a at_k) (ascends j k a less (slice_get_within items k b at_k)))

  pub same-place : (j k : ℕ) (a b : Numbered T) → Ascends items → slice_get items j ≡ Some a → slice_get items k ≡ Some b → a.number ≡ b.number → j ≡ k
  same-place j k a b ascends at_j at_k same = elim (cases_order j k) [
    | inl here ↦ here
    | inr apart ↦ elim apart [
      | inl less ↦ absurd (omega (arith, same, ascend-at j k a b ascends less at_j at_k))
      | inr more ↦ absurd (omega (arith, same, ascend-at k j b a ascends more at_k at_j))
    ]
  ]

  -- where those with other numbers stay, the one at the place alone is changed
  pub set-stays : (f : Numbered T → Numbered T) (place : ℕ) (x : Numbered T) → Ascends items → slice_get items place ≡ Some x → ((z : Numbered T) → (z.number ≡ x.number → ⊥) → f z ≡ z) → slice_set items place (f x) ≡ map f items
  set-stays f place x ascends at others =
      ap (λ l. slice_set l place (f x)) (sym (map-id items))
      ∙ set-map (λ z. z) f items place (f x) (λ z there. ap f (same_Some x z (sym at ∙ there)))
      (λ k z there apart. sym (others z (λ same. apart (same-place k place z x ascends there at same))))

module _ {T : Type 0} (items : List (Numbered T)) (place : ℕ) (x y : Numbered T) (at : slice_get items place ≡ Some x) (same : y.number ≡ x.number) where
  number-set : (k : ℕ) (d : Numbered T) → (get_or (slice_set items place y) k d).number ≡ (get_or items k d).number
  number-set k d = elim (cases_eq k place) [
    | inl here ↦
        ap (λ n. (get_or (slice_set items place y) n d).number) here
        ∙ ap (λ (z : Numbered T). z.number) (get_or-set_same items place y d (slice_get_within items place x at))
        ∙ same
        ∙ sym (ap (λ n. (get_or items n d).number) here ∙ ap (λ (z : Numbered T). z.number) (get_or_from_slice_get items place x d at))
    | inr apart ↦ ap (λ (z : Numbered T). z.number) (get_or-set_other items place k y d apart)
  ]

  pub less-set : (bound : ℕ) → All (λ z. z.number < bound) items → All (λ z. z.number < bound) (slice_set items place y)
  less-set bound all k d within =
      subst (λ n. n < bound) (sym (number-set k d)) (all k d (omega (arith, within, length-set items place y)))

-- an item in the place of another
abbrev pub made : {T : Type 0} → Numbered T → T → Numbered T
made x item = record { number = x.number; item = item; link = x.link; other_link = x.other_link }

module _ {T : Type 0} (marks_of : T → Marks) (items : List (Numbered T)) (place : ℕ) (x : Numbered T) (item : T) (at : slice_get items place ≡ Some x) (marks : marks_of item ≡ marks_of x.item) (ascends : Ascends items) where
  abbrev set : List (Numbered T)
  set = slice_set items place (made x item)

  abbrev exchanged : Numbered T → Numbered T
  exchanged z = cond (z.number == x.number) (made x item) z

  exchanged-is : exchanged x ≡ made x item
  exchanged-is = ap (λ b. cond b (made x item) x) (eq-eqb x.number x.number refl)

  set-is : set ≡ map exchanged items
  set-is =
      ap (slice_set items place) (sym exchanged-is)
      ∙ set-stays items exchanged place x ascends at (λ z apart. ap (λ b. cond b (made x item) z) (ne_eqb z.number x.number apart))

  -- what the exchanged item and the one before have in common
  common : {B : Type 0} (of : Numbered T → B) → of (made x item) ≡ of x → (z : Numbered T) → Among z items → of (exchanged z) ≡ of z
  common of same z among = elim (cases_Bool (z.number == x.number)) [
    | inl here ↦
        ap (λ b. of (cond b (made x item) z)) here
        ∙ same
        ∙ ap of (sym (same-number items z x ascends among (among-at items place x at) (eqb-true z.number x.number here)))
    | inr apart ↦ ap (λ b. of (cond b (made x item) z)) apart
  ]

  pub linked-set : (key : Key) → IsLinked marks_of key items → IsLinked marks_of key set
  linked-set key linked =
      subst (λ (l : List (Numbered T)). IsLinked marks_of key l) (sym set-is)
      (linked-mapped marks_of exchanged items (common (λ z. z.number) refl) (common (λ z. marks_of z.item) marks) key (λ z among has.
      subst (λ o. IsLink marks_of key items z o)
      (sym (common (link_of marks_of key) (ap (λ (m : Marks). cond (same_key m.key key) x.link x.other_link) marks) z among))
      (linked-at marks_of key items linked z among has)))

  pub ascends-set : Ascends set
  ascends-set j k d less within =
      let inside : k < length items = omega (arith, within, length-set items place (made x item)) in
      subst (λ n. n < (get_or set k d).number) (sym (number-set items place x (made x item) at refl j d))
      (subst (λ n. (get_or items j d).number < n) (sym (number-set items place x (made x item) at refl k d)) (ascends j k d less inside))

  pub keyed-set : (index : List Mark) (ages : List Age) → IsKeyed marks_of items index ages → IsKeyed marks_of set index ages
  keyed-set index ages keyed = record {
    ascends = ascends-set;
    found = λ key.
        subst (λ (l : List (Numbered T)). IsFound marks_of key l index) (sym set-is)
        (found-mapped marks_of exchanged items (common (λ z. z.number) refl) (common (λ z. marks_of z.item) marks) key index (keyed.found key));
    linked = λ key. linked-set key (keyed.linked key);
    aged = λ age.
        keyed.aged age ∙ sym (any-set (λ z. has_age age z.number (marks_of z.item)) items place x (made x item) at (ap (has_age age x.number) marks));
  }
