-- The least age tells whether an item is old.
use Rattle.std.proofs.Common.{◌≡◌, ℕ, ◌-◌, ◌<◌, ◌≤◌, nat_lt, true, false, List, [], ◌∷◌, length, None, Some, IfSome, slice_get, Less, is_eq, inl, inr, refl, sym, ap, subst, ◌∙◌, arith, lt-ltb, eqb-true, eq-eqb}
use Rattle.std.specs.List.{list_all}
use Rattle.std.proofs.lemmas.Bool.{and_from, and_parts, le-ltb}
use Rattle.std.proofs.lemmas.Cmp.{tied_itself}
use Rattle.std.proofs.lemmas.Option.{same_Some, slice_get_within}
use Rattle.ordered_set.specs.Keys.{has, Ascends}
use Rattle.keyed_list.specs.Keyed.{has_age, is_young, IsKeyed, IsPlace}
use Rattle.keyed_list.specs.Keys.{age_order, age_order-total}
use Rattle.keyed_list.specs.declared.key.Age.{Age}
use Rattle.keyed_list.specs.declared.key.Mark.{Mark}
use Rattle.keyed_list.specs.declared.keyed.Marks.{Marks}
use Rattle.keyed_list.specs.declared.keyed.Numbered.{Numbered}
use Rattle.keyed_list.proofs.AmongLemmas.{among-any, any-among, each-passes, pairs-behind_first, Among}
use Rattle.keyed_list.proofs.OrderLemmas.{has_age-is, is_eq-age, lesser-moment}
use Rattle.keyed_list.proofs.PlaceLemmas.{at-place}

none-among : (ages : List Age) (age : Age) → None ≡ slice_get ages 0 → Among age ages → ⊥
none-among [] age none among = among
none-among (first ∷ ages) age none among = cc none

-- no age is less than the first
first-least : (ages : List Age) (first age : Age) → Ascends age_order ages → Some first ≡ slice_get ages 0 → Among age ages → first.moment ≤ age.moment
first-least [] first age ascends is among = absurd among
first-least (one ∷ ages) first age ascends is among =
    let same : one.moment ≡ first.moment = ap (λ (a : Age). a.moment) (same_Some one first (sym is)) in
    elim among [
      | inl here ↦ omega (arith, same, ap (λ (a : Age). a.moment) here)
      | inr later ↦
          omega (arith, same, lesser-moment one age (pairs-behind_first (λ a b. age_order a b ≡ Less) one ages age ascends later))
    ]

first-among : (ages : List Age) (first : Age) → Some first ≡ slice_get ages 0 → Among first ages
first-among [] first is = absurd (cc is)
first-among (one ∷ ages) first is = inl (same_Some one first (sym is))

module _ {T : Type 0} (marks_of : T → Marks) (now life : ℕ) (items : List (Numbered T)) (index : List Mark) (ages : List Age) (keyed : IsKeyed marks_of items index ages) where
  -- the age of an item
  record HasAge (moment : ℕ) : Type 0 where
    age : Age
    among : Among age ages
    same : age.moment ≡ moment

  aged : (x : Numbered T) → Among x items → HasAge (marks_of x.item).moment
  aged x among =
      let moment : ℕ = (marks_of x.item).moment in
      let own : Age = record { moment = moment; number = x.number } in
      let told : has_age own x.number (marks_of x.item) ≡ true = has_age-is own x.number (marks_of x.item) ∙ and_from _ _ (eq-eqb moment moment refl) (eq-eqb x.number x.number refl) in
      let found = among-any (λ (a : Age). is_eq (age_order a own)) ages (keyed.aged own ∙ any-among (λ (y : Numbered T). has_age own y.number (marks_of y.item)) items x told among) in
      record { age = found.item; among = found.among; same = same found.item own found.passes }
    where
      same : (a b : Age) → is_eq (age_order a b) ≡ true → a.moment ≡ b.moment
      same a b ties = eqb-true a.moment b.moment (and_parts _ _ (sym (is_eq-age a b) ∙ ties)).0

  -- where there are no ages, there are no items
  pub none-old : None ≡ slice_get ages 0 → list_all (λ x. is_young marks_of now life x.item) items ≡ true
  none-old none =
      each-passes (λ (x : Numbered T). is_young marks_of now life x.item) items (λ x among. let own = aged x among in absurd (none-among ages own.age none own.among))

  module _ (first : Age) (is : Some first ≡ slice_get ages 0) where
    -- where the least age is young, all are
    pub all-young : Ascends age_order ages → now - first.moment < life → list_all (λ x. is_young marks_of now life x.item) items ≡ true
    all-young ascends young = each-passes (λ (x : Numbered T). is_young marks_of now life x.item) items each
      where
        each : (x : Numbered T) → Among x items → is_young marks_of now life x.item ≡ true
        each x among =
            let own = aged x among in
            let least = first-least ages first own.age ascends is own.among in
            lt-ltb (now - (marks_of x.item).moment) life (omega (arith, young, least, own.same))

    module _ (place : ℕ) (at : IsPlace first.number items place) where
      -- the item of the least age
      record IsFirst : Type 0 where
        item : Numbered T
        there : slice_get items place ≡ Some item
        moment : (marks_of item.item).moment ≡ first.moment

      found : IsFirst
      found =
          let had : has age_order first ages ≡ true = any-among (λ (a : Age). is_eq (age_order a first)) ages first (ap is_eq (tied_itself age_order-total first)) (first-among ages first is) in
          let one = among-any (λ (y : Numbered T). has_age first y.number (marks_of y.item)) items (sym (keyed.aged first) ∙ had) in
          let x : Numbered T = one.item in
          let parts = and_parts _ _ (sym (has_age-is first x.number (marks_of x.item)) ∙ one.passes) in
          record {
            item = x;
            there = at-place first.number items place x keyed.ascends at one.among (eqb-true x.number first.number parts.1);
            moment = eqb-true (marks_of x.item).moment first.moment parts.0;
          }

      pub old-at : (now - first.moment < life → ⊥) → IfSome (slice_get items place) (λ x. is_young marks_of now life x.item ≡ false)
      old-at old =
          let late : nat_lt (now - first.moment) life ≡ false = le-ltb (now - first.moment) life (omega (arith, old)) in
          subst (λ o. IfSome o (λ (x : Numbered T). is_young marks_of now life x.item ≡ false)) (sym found.there) (ap (λ m. nat_lt (now - m) life) found.moment ∙ late)

      pub old-within : place < length items
      old-within = slice_get_within items place found.item found.there
