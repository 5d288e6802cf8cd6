-- How many keys find items: no more than two for each.
use Rattle.std.proofs.Common.{◌≡◌, ℕ, ◌*◌, ◌≤◌, ◌||◌, Bool, true, false, List, [], ◌∷◌, length, map, Option, None, Some, Ordering, Less, refl, sym, ap, ap₂, ◌∙◌, arith, suc}
use Rattle.std.specs.Cmp.{IsTotalOrder}
use Rattle.std.specs.List.{list_any}
use Rattle.std.specs.List.Sorted.{IsStrictlySortedBy}
use Rattle.std.specs.Option.{option_map}
use Rattle.std.specs.Ordering.{eq_by_cmp}
use Rattle.std.specs.Set.{is_member}
use Rattle.std.proofs.lemmas.Bool.{both_ways}
use Rattle.std.proofs.lemmas.Cmp.{eq_by_cmp_equiv}
use Rattle.std.proofs.lemmas.List.{length-map}
use Rattle.std.proofs.lemmas.List.Elements.{recursion_from_All}
use Rattle.std.proofs.lemmas.Map.Keys.{IsDistinct-from_sorted}
use Rattle.std.proofs.lemmas.Map.Made.{length-le_from_is_member}
use Rattle.ordered_set.specs.Keys.{has, Ascends}
use Rattle.keyed_list.specs.Keyed.{has_age, is_key, is_other, last_of, IsKeyed}
use Rattle.keyed_list.specs.Keys.{age_order, age_order-total, mark_order, mark_order-total, same_key}
use Rattle.keyed_list.specs.declared.key.Age.{Age}
use Rattle.keyed_list.specs.declared.key.Key.{Key}
use Rattle.keyed_list.specs.declared.key.Mark.{Mark}
use Rattle.keyed_list.specs.declared.keyed.Marks.{Marks}
use Rattle.keyed_list.specs.declared.keyed.Numbered.{Numbered}
use Rattle.keyed_list.proofs.AmongLemmas.{among-any, any-among, Among}
use Rattle.keyed_list.proofs.LastLemmas.{last-among, last-passes, none-last}

-- ### keys that ascend

module _ {K : Type 0} (order : K → K → Ordering) (total : IsTotalOrder order) where
  pub sorted : (keys : List K) → Ascends order keys → IsStrictlySortedBy order keys
  unfolding IsStrictlySortedBy
  sorted [] ascends = tt
  sorted (k ∷ keys) ascends = (
    recursion_from_All (λ (other : K). order k other ≡ Less) keys (λ i d within. ascends 0 (suc i) d (omega arith) (omega (arith, within))),
    sorted keys (λ i j d before within. ascends (suc i) (suc j) d (omega (arith, before)) (omega (arith, within))),
  )

  pub member-has : (keys : List K) (key : K) → is_member (eq_by_cmp order) keys key ≡ has order key keys
  member-has [] key = refl
  member-has (k ∷ keys) key = ap₂ (λ a b. a || b) ((eq_by_cmp_equiv total).symm key k) (member-has keys key)

  -- keys that a list has, each once, are no more than it is long
  at_most : (keys others : List K) → Ascends order keys → ((key : K) → has order key keys ≡ true → has order key others ≡ true) → length keys ≤ length others
  at_most keys others ascends among =
      length-le_from_is_member (eq_by_cmp_equiv total) keys others (IsDistinct-from_sorted order keys (sorted keys ascends)) (λ key is. member-has others key ∙ among key (sym (member-has keys key) ∙ is))

pub none-map : {A B : Type 0} (f : A → B) (o : Option A) → option_map f o ≡ None → o ≡ None
none-map f None is = refl
none-map f (Some x) is = absurd (cc is)

module _ {T : Type 0} (marks_of : T → Marks) where
  -- ### by key

  abbrev mark_of : Numbered T → Mark
  mark_of x = record { key = (marks_of x.item).key; number = x.number }

  -- a mark of a key before others, if there is one
  abbrev other_before : ℕ → Option Key → List Mark → List Mark
  other_before number None marks = marks
  other_before number (Some key) marks = record { key = key; number = number } ∷ marks

  abbrev all_marks : List (Numbered T) → List Mark
  all_marks [] = []
  all_marks (x ∷ items) = mark_of x ∷ other_before x.number (marks_of x.item).other (all_marks items)

  other-had : (mark : Mark) (number : ℕ) (other : Option Key) (marks : List Mark) (a b : Bool) → has mark_order mark marks ≡ b → (a || has mark_order mark (other_before number other marks)) ≡ ((a || is_other other mark.key) || b)
  other-had mark number other marks true b is = refl
  other-had mark number None marks false b is = is
  other-had mark number (Some key) marks false b is = ap (λ c. same_key key mark.key || c) is

  marks-had : (mark : Mark) (items : List (Numbered T)) → has mark_order mark (all_marks items) ≡ list_any (λ x. is_key marks_of mark.key x.item) items
  marks-had mark [] = refl
  marks-had mark (x ∷ items) =
      other-had mark x.number (marks_of x.item).other (all_marks items) (same_key (marks_of x.item).key mark.key) _ (marks-had mark items)

  length-other : (number : ℕ) (other : Option Key) (marks : List Mark) → length (other_before number other marks) ≤ suc (length marks)
  length-other number None marks = omega arith
  length-other number (Some key) marks = omega arith

  length-all_marks : (items : List (Numbered T)) → length (all_marks items) ≤ 2 * length items
  length-all_marks [] = omega arith
  length-all_marks (x ∷ items) =
      let rest = length-all_marks items in
      let more = length-other x.number (marks_of x.item).other (all_marks items) in
      omega (arith, rest, more)

  -- ### by age

  abbrev pub age_of : Numbered T → Age
  age_of x = record { moment = (marks_of x.item).moment; number = x.number }

  pub ages-had : (age : Age) (some : List (Numbered T)) → has age_order age (map age_of some) ≡ list_any (λ x. has_age age x.number (marks_of x.item)) some
  ages-had age [] = refl
  ages-had age (x ∷ some) = ap (λ b. has_age age x.number (marks_of x.item) || b) (ages-had age some)

  module _ (items : List (Numbered T)) (index : List Mark) (ages : List Age) (keyed : IsKeyed marks_of items index ages) where
    -- a key that has a mark is that of an item
    found : (mark : Mark) → has mark_order mark index ≡ true → has mark_order mark (all_marks items) ≡ true
    found mark is =
        let one = among-any (λ (other : Mark). same_key other.key mark.key) index is in
        marks-had mark items ∙ by one.item one.among one.passes (last_of marks_of mark.key items) refl
      where
        by : (other : Mark) → Among other index → same_key other.key mark.key ≡ true → (o : Option (Numbered T)) → last_of marks_of mark.key items ≡ o → list_any (λ x. is_key marks_of mark.key x.item) items ≡ true
        by other among same None none =
            let number = keyed.found mark.key ∙ ap (option_map (λ x. x.number)) none in
            absurd (both_ways _ (none-last (λ other. same_key other.key mark.key) index (none-map (λ (m : Mark). m.number) _ number) other among) same)
        by other among same (Some x) some =
            any-among (λ x. is_key marks_of mark.key x.item) items x (last-passes (λ x. is_key marks_of mark.key x.item) items x some) (last-among (λ x. is_key marks_of mark.key x.item) items x some)

    -- there are at most two marks for each item
    pub marks-few : Ascends mark_order index → length index ≤ 2 * length items
    marks-few ascends =
        let few = at_most mark_order mark_order-total index (all_marks items) ascends found in
        omega (arith, few, length-all_marks items)

    -- there are no more ages than items
    pub ages-few : Ascends age_order ages → length ages ≤ length items
    ages-few ascends =
        let few = at_most age_order age_order-total ages (map age_of items) ascends (λ age is. ages-had age items ∙ sym (keyed.aged age) ∙ is) in
        omega (arith, few, length-map items age_of)
