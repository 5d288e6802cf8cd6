-- The least address that is named: it is named, none is less, and of those that name it the first in order of EID is meant.
use Rattle.std.proofs.Common.{◌≡◌, ◌⊎◌, ◌↔◌, Bool, true, false, cond, List, [], ◌∷◌, ◌++◌, filter, fold, map, Option, None, Some, IfSome, Ordering, Less, Equal, Greater, is_lt, refl, sym, subst, ap, ◌∙◌, inl, inr}
use Rattle.std.proofs.lemmas.Bool.{cases_Bool}
use Rattle.std.proofs.lemmas.Cmp.{alike_right, tied_itself, upto}
use Rattle.std.proofs.lemmas.List.Elements.{All-cons, All-head, All-nil, All-tail, Contains-append_left, Contains-append_right, Contains-push}
use Rattle.std.proofs.lemmas.Option.{IfSome_then}
use Rattle.std.specs.Cmp.{IsTotalOrder}
use Rattle.std.specs.List.{All, Contains}
use Rattle.std.specs.Ordering.{is_gt, ordering_reverse}
use Rattle.ip_headers.specs.declared.addr.Addr.{Addr}
use Rattle.mapping_records.specs.Orders.{addr_order, eid_order}
use Rattle.mapping_records.specs.declared.eid.Eid.{Eid}
use Rattle.mapping_records.specs.declared.record.Locator.{Locator}
use Rattle.mapping_records.proofs.OrderLemmas.{addr_order-total, eid_order-total}
use Rattle.map_cache.specs.Lists.{IsAscending, IsBelow}
use Rattle.map_cache.specs.Named.{is_named, least_named, lesser, named_above, IsNoLess, IsNoLessAtOne}
use Rattle.map_cache.specs.declared.mapping.Mapping.{Mapping}

pub flip : {K : Type 0} {R : K → K → Ordering} → IsTotalOrder R → (x y : K) → is_lt (R y x) ≡ is_gt (R x y)
flip {R = R} order x y = ap is_lt (order.antisymm y x) ∙ turned (R x y)
  where
    turned : (o : Ordering) → is_lt (ordering_reverse o) ≡ is_gt o
    turned Less = refl
    turned Equal = refl
    turned Greater = refl

-- what isn't below a second, which isn't below a third, isn't below the third
pub not_below : {K : Type 0} {R : K → K → Ordering} → IsTotalOrder R → (x y z : K) → is_lt (R y x) ≡ false → is_lt (R z y) ≡ false → is_lt (R z x) ≡ false
not_below order x y z first second = flip order x z ∙ upto order x y z (sym (flip order x y) ∙ first) (sym (flip order y z) ∙ second)

pub not_itself : {K : Type 0} {R : K → K → Ordering} → IsTotalOrder R → (x : K) → is_lt (R x x) ≡ false
not_itself order x = ap is_lt (tied_itself order x)

pub below-not : {K : Type 0} {R : K → K → Ordering} → IsTotalOrder R → (x y : K) → is_lt (R x y) ≡ true → is_lt (R y x) ≡ false
below-not {R = R} order x y less = flip order x y ∙ by (R x y) less
  where
    by : (o : Ordering) → is_lt o ≡ true → is_gt o ≡ false
    by Less is = refl
    by Equal is = cc
    by Greater is = cc

pub tied : (o : Ordering) → is_lt o ≡ false → is_gt o ≡ false → o ≡ Equal
tied Less low high = cc
tied Equal low high = refl
tied Greater low high = cc

-- an EID isn't below another
abbrev IsFrom : Eid → Addr × Eid → Type 0
IsFrom eid other = is_lt (eid_order other.1 eid) ≡ false

-- each EID isn't below those before it
abbrev InOrder : List (Addr × Eid) → Type 0
InOrder [] = Unit {0}
InOrder (x ∷ named) = All (IsFrom x.1) named × InOrder named

-- the least of a first and of the others
record IsBest (first : Addr × Eid) (named : List (Addr × Eid)) (best : Addr × Eid) : Type 0 where
  one : (best ≡ first) ⊎ Contains named best
  from_first : IsNoLess best first
  least : All (IsNoLess best) named
  stays : addr_order first.0 best.0 ≡ Equal → best ≡ first
  eids : InOrder (first ∷ named) → All (IsNoLessAtOne best) (first ∷ named)

contains_first : (x : Addr × Eid) (named : List (Addr × Eid)) → Contains (x ∷ named) x
contains_first x named = Contains-append_left (x ∷ []) named x (Contains-push [] x)

contains_later : (x best : Addr × Eid) (named : List (Addr × Eid)) → Contains named best → Contains (x ∷ named) best
contains_later x best named among = Contains-append_right (x ∷ []) named best among

-- a lesser one takes the place of the first, which doesn't tie with the best then
taken : (first x : Addr × Eid) (named : List (Addr × Eid)) (best : Addr × Eid) → is_lt (addr_order x.0 first.0) ≡ true → IsBest x named best → IsBest first (x ∷ named) best
taken first x named best less is = record {
  one = elim is.one [ inl e ↦ inr (subst (Contains (x ∷ named)) (sym e) (contains_first x named)) | inr among ↦ inr (contains_later x best named among) ];
  from_first = not_below addr_order-total best.0 x.0 first.0 is.from_first (below-not addr_order-total x.0 first.0 less);
  least = All-cons (IsNoLess best) x named is.from_first is.least;
  stays = λ ties. absurd (apart ties);
  eids = λ in_order. All-cons (IsNoLessAtOne best) first (x ∷ named) (λ ties. absurd (apart ties)) (is.eids in_order.1);
}
  where
    apart : addr_order first.0 best.0 ≡ Equal → ⊥
    apart ties = let alike : addr_order x.0 first.0 ≡ addr_order x.0 best.0 = alike_right addr_order-total first.0 best.0 x.0 ties in cc (less, ap is_lt alike, is.from_first)

-- one that isn't less changes nothing
passed : (first x : Addr × Eid) (named : List (Addr × Eid)) (best : Addr × Eid) → is_lt (addr_order x.0 first.0) ≡ false → IsBest first named best → IsBest first (x ∷ named) best
passed first x named best more is = record {
  one = elim is.one [ inl e ↦ inl e | inr among ↦ inr (contains_later x best named among) ];
  from_first = is.from_first;
  least = All-cons (IsNoLess best) x named (not_below addr_order-total best.0 first.0 x.0 is.from_first more) is.least;
  stays = is.stays;
  eids = λ in_order.
      let others = is.eids (All-tail (IsFrom first.1) x named in_order.0, in_order.1.1) in
      All-cons (IsNoLessAtOne best) first (x ∷ named) (All-head (IsNoLessAtOne best) first named others)
      (All-cons (IsNoLessAtOne best) x named (λ ties. subst (λ (b : Addr × Eid). is_lt (eid_order x.1 b.1) ≡ false) (sym (is.stays (first-ties ties))) (All-head (IsFrom first.1) x named in_order.0))
      (All-tail (IsNoLessAtOne best) first named others));
}
  where
    first-ties : addr_order x.0 best.0 ≡ Equal → addr_order first.0 best.0 ≡ Equal
    first-ties ties =
        let alike : addr_order first.0 x.0 ≡ addr_order first.0 best.0 = alike_right addr_order-total x.0 best.0 first.0 ties in
        tied (addr_order first.0 best.0) is.from_first (ap is_gt (sym alike) ∙ sym (flip addr_order-total first.0 x.0) ∙ more)

best_of : (named : List (Addr × Eid)) (first : Addr × Eid) → IfSome (fold lesser (Some first) named) (IsBest first named)
best_of [] first = record {
  one = inl refl;
  from_first = not_itself addr_order-total first.0;
  least = All-nil (IsNoLess first);
  stays = λ _. refl;
  eids = λ _. All-cons (IsNoLessAtOne first) first [] (λ _. not_itself eid_order-total first.1) (All-nil (IsNoLessAtOne first));
}
best_of (x ∷ named) first = elim (cases_Bool (is_lt (addr_order x.0 first.0))) [
  | inl less ↦ rw less (IfSome_then _ (best_of named x) (λ best is. taken first x named best less is))
  | inr more ↦ rw more (IfSome_then _ (best_of named first) (λ best is. passed first x named best more is))
]

pub least-one : (named : List (Addr × Eid)) → IfSome (least_named named) (Contains named)
least-one [] = tt
least-one (x ∷ named) = IfSome_then _ (best_of named x) (λ (best : Addr × Eid) (is : IsBest x named best). elim is.one [ inl e ↦ subst (Contains (x ∷ named)) (sym e) (contains_first x named) | inr among ↦ contains_later x best named among ])

pub least-least : (named : List (Addr × Eid)) → IfSome (least_named named) (λ best. All (IsNoLess best) named)
least-least [] = tt
least-least (x ∷ named) = IfSome_then _ (best_of named x) (λ (best : Addr × Eid) (is : IsBest x named best). All-cons (IsNoLess best) x named is.from_first is.least)

some-left : (named : List (Addr × Eid)) (first : Addr × Eid) → fold lesser (Some first) named ≡ None → ⊥
some-left [] first none = cc
some-left (x ∷ named) first none = by (is_lt (addr_order x.0 first.0)) (some-left named x) (some-left named first) none
  where
    by : (b : Bool) → (fold lesser (Some x) named ≡ None → ⊥) → (fold lesser (Some first) named ≡ None → ⊥) → fold lesser (cond b (Some x) (Some first)) named ≡ None → ⊥
    by true taken_one left = taken_one
    by false taken_one left = left

pub least-none : (named : List (Addr × Eid)) → (least_named named ≡ None) ↔ (named ≡ [])
least-none [] = (λ _. refl, λ _. refl)
least-none (x ∷ named) = (λ none. absurd (some-left named x none), λ empty. cc)

-- a mapping of an EID, and others from it on
all_from : (from eid : Eid) (locators : List Locator) (rest : List (Addr × Eid)) → is_lt (eid_order eid from) ≡ false → All (IsFrom from) rest → All (IsFrom from) (map (λ locator. (locator.addr, eid)) locators ++ rest)
all_from from eid [] rest is all = all
all_from from eid (x ∷ locators) rest is all = All-cons (IsFrom from) (x.addr, eid) (map (λ locator. (locator.addr, eid)) locators ++ rest) is (all_from from eid locators rest is all)

order-from : (eid : Eid) (locators : List Locator) (rest : List (Addr × Eid)) → All (IsFrom eid) rest → InOrder rest → InOrder (map (λ locator. (locator.addr, eid)) locators ++ rest)
order-from eid [] rest all in_order = in_order
order-from eid (x ∷ locators) rest all in_order = (all_from eid eid locators rest (not_itself eid_order-total eid) all, order-from eid locators rest all in_order)

from-below : (after : Option Addr) (eid : Eid) (mappings : List Mapping) → IsBelow eid mappings → All (IsFrom eid) (named_above after mappings)
from-below after eid [] below = All-nil (IsFrom eid)
from-below after eid (x ∷ mappings) below =
    all_from eid x.eid (filter (is_named after) x.details.locators) (named_above after mappings) (below-not eid_order-total eid x.eid (ap is_lt below.0)) (from-below after eid mappings below.1)

in_order : (after : Option Addr) (mappings : List Mapping) → IsAscending mappings → InOrder (named_above after mappings)
in_order after [] ascending = tt
in_order after (x ∷ mappings) ascending =
    order-from x.eid (filter (is_named after) x.details.locators) (named_above after mappings) (from-below after x.eid mappings ascending.0) (in_order after mappings ascending.1)

first-eid : (named : List (Addr × Eid)) → InOrder named → IfSome (least_named named) (λ best. All (IsNoLessAtOne best) named)
first-eid [] ordered = tt
first-eid (x ∷ named) ordered = IfSome_then _ (best_of named x) (λ (best : Addr × Eid) (is : IsBest x named best). is.eids ordered)

pub least-eid : (after : Option Addr) (mappings : List Mapping) → IsAscending mappings → IfSome (least_named (named_above after mappings)) (λ best. All (IsNoLessAtOne best) (named_above after mappings))
least-eid after mappings ascending = first-eid (named_above after mappings) (in_order after mappings ascending)
