-- What the orders of keys, marks and ages say of two of them.
use Rattle.std.proofs.Common.{◌≡◌, ℕ, ◌≤◌, ◌==◌, ◌&&◌, ◌||◌, nat_lt, true, false, Option, None, Some, Ordering, Less, Equal, Greater, is_eq, nat_cmp, inl, inr, refl, sym, ap, ap₂, ◌∙◌, arith, ltb-false}
use Rattle.std.specs.Cmp.{Equal-is}
use Rattle.std.specs.Ordering.{is_gt, ordering_then}
use Rattle.std.proofs.lemmas.Bool.{cases_Bool}
use Rattle.std.proofs.lemmas.Bool.Decides.{nat_tests}
use Rattle.std.proofs.lemmas.Cmp.{alike_right, tied_back, tied_itself}
use Rattle.keyed_list.specs.Keyed.{has_age, has_key, is_other}
use Rattle.keyed_list.specs.Keys.{age_order, key_order, key_order-total, same_key}
use Rattle.keyed_list.specs.declared.key.Age.{Age}
use Rattle.keyed_list.specs.declared.key.Key.{Key}
use Rattle.keyed_list.specs.declared.keyed.Marks.{Marks}

-- ### two answers, one after the other

pub is_eq-then : (a b : Ordering) → is_eq (ordering_then a b) ≡ (is_eq a && is_eq b)
is_eq-then Less b = refl
is_eq-then Equal b = refl
is_eq-then Greater b = refl

pub is_eq-nat : (x y : ℕ) → is_eq (nat_cmp x y) ≡ (x == y)
is_eq-nat x y = grind (arith, nat_tests)

is_gt-nat : (x y : ℕ) → is_gt (nat_cmp x y) ≡ nat_lt y x
is_gt-nat x y = grind (arith, nat_tests)

not_greater : (a b : Ordering) → ordering_then a b ≡ Less → is_gt a ≡ false
not_greater Less b is = refl
not_greater Equal b is = refl
not_greater Greater b is = cc

-- ### ages

pub is_eq-age : (a b : Age) → is_eq (age_order a b) ≡ ((a.moment == b.moment) && (a.number == b.number))
is_eq-age a b =
    is_eq-then (nat_cmp a.moment b.moment) (nat_cmp a.number b.number)
    ∙ ap₂ (λ x y. x && y) (is_eq-nat a.moment b.moment) (is_eq-nat a.number b.number)

pub has_age-is : (age : Age) (number : ℕ) (marks : Marks) → has_age age number marks ≡ ((marks.moment == age.moment) && (number == age.number))
has_age-is age number marks =
    is_eq-age (record { moment = marks.moment; number = number }) age

-- ### keys that tie

pub ties : (a b : Key) → same_key a b ≡ true → key_order a b ≡ Equal
ties a b same = (Equal-is (key_order a b)).0 same

is_other-alike : (other : Option Key) (a b : Key) → key_order a b ≡ Equal → is_other other a ≡ is_other other b
is_other-alike None a b tied = refl
is_other-alike (Some key) a b tied = ap is_eq (alike_right key_order-total a b key tied)

pub has_key-alike : (marks : Marks) (a b : Key) → key_order a b ≡ Equal → has_key marks a ≡ has_key marks b
has_key-alike marks a b tied =
    ap₂ (λ x y. x || y) (ap is_eq (alike_right key_order-total a b marks.key tied)) (is_other-alike marks.other a b tied)

pub same_key-itself : (key : Key) → same_key key key ≡ true
same_key-itself key = ap is_eq (tied_itself key_order-total key)

-- keys that tie with one tie with each other
pub same-both : (a b key : Key) → same_key a key ≡ true → same_key b key ≡ true → same_key a b ≡ true
same-both a b key first second = ap is_eq (alike_right key_order-total b key a (ties b key second)) ∙ first

pub same-back : (a b : Key) → same_key a b ≡ true → same_key b a ≡ true
same-back a b same = ap is_eq (tied_back key_order-total a b (ties a b same))

-- what ties with one that ties ties
pub same-left : (a b key : Key) → key_order a b ≡ Equal → same_key a key ≡ same_key b key
same-left a b key tied = ap is_eq (key_order-total.congr a b key tied)

pub same-right : (a b key : Key) → key_order a b ≡ Equal → same_key key a ≡ same_key key b
same-right a b key tied = ap is_eq (alike_right key_order-total a b key tied)

-- of two keys in order at most one ties with a third
pub same-apart : (a b key : Key) → key_order a b ≡ Less → same_key a key ≡ true → same_key b key ≡ false
same-apart a b key less same = elim (cases_Bool (same_key b key)) [
  | inl also ↦ absurd (cc (less, ties a b (same-both a b key same also)))
  | inr apart ↦ apart
]

-- ### ages in order

pub lesser-moment : (a b : Age) → age_order a b ≡ Less → a.moment ≤ b.moment
lesser-moment a b less =
    omega (arith, ltb-false b.moment a.moment (sym (is_gt-nat a.moment b.moment) ∙ not_greater _ _ less))
