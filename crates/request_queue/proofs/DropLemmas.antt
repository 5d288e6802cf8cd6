-- Requests that are dropped one after another, until all that are left pass a test.
use Rattle.std.proofs.Common.{◌≡◌, ℕ, ◌≤◌, ◌<◌, ◌+◌, ◌-◌, ◌*◌, Bool, true, List, [], ◌∷◌, cond, filter, length, max, min, remove, slice_get, Option, None, Some, IfSome, false, refl, sym, subst, ap, ap₂, ◌∙◌, arith}
use Rattle.std.specs.List.{list_all}
use Rattle.std.proofs.lemmas.Bool.{and_parts}
use Rattle.std.proofs.lemmas.List.Edits.{length-remove}
use Rattle.std.proofs.lemmas.List.Sums.{count_by-le-length, length-filter}
use Rattle.keyed_list.specs.Keyed.{Kept}
use Rattle.keyed_list.proofs.FilterLemmas.{filter-remove}
use Rattle.lisp_settings.specs.declared.settings.LimitItem.{LimitItem}
use Rattle.request_queue.specs.Found.{least_of, places_of, AreFound}
use Rattle.request_queue.specs.Lists.{all_rest, are_distinct, KeepsLimits}
use Rattle.request_queue.specs.declared.index.Index.{Index}
use Rattle.request_queue.specs.declared.request.Request.{Request}
use Rattle.request_queue.proofs.DistinctLemmas.{distinct-left}
use Rattle.request_queue.proofs.FoundLemmas.{some-there}
use Rattle.request_queue.proofs.OpenLemmas.{keeps-filter}
use Rattle.request_queue.proofs.RestLemmas.{all_rest-filter}

pub dropped-less : (old new : Kept Request) (place : ℕ) → place < length old.items → new.items ≡ remove old.items place → length new.items < length old.items
dropped-less old new place within items =
    let fewer = length-remove old.items place within in
    omega (arith, fewer, ap (λ (l : List Request). length l) items)

module _ (test : Request → Bool) where
  -- what was dropped doesn't pass, and no room is lost
  pub record Dropped (old new : Kept Request) (were are : Index) : Type 0 where
    pub same : filter test new.items ≡ filter test old.items
    pub distinct : are_distinct new.items ≡ true
    pub found : AreFound are new.items
    pub room : old.room ≤ new.room
    pub places : new.places ≡ old.places
    pub least : least_of are ≡ least_of were
    pub total : places_of are ≡ places_of were
    pub rooms : length new.items + new.room ≤ length old.items + old.room

  -- before any is dropped
  pub dropped-none : (old : Kept Request) (were : Index) → are_distinct old.items ≡ true → AreFound were old.items → Dropped old old were were
  dropped-none old were distinct found = record {
    same = refl;
    distinct = distinct;
    found = found;
    room = omega arith;
    places = refl;
    least = refl;
    total = refl;
    rooms = omega arith;
  }

  pub filter-all : (requests : List Request) → list_all test requests ≡ true → filter test requests ≡ requests
  filter-all [] all = refl
  filter-all (x ∷ requests) all =
      let both = and_parts (test x) _ all in
      ap₂ (λ b (l : List Request). cond b (x ∷ l) l) both.0 (filter-all requests both.1)

  pub length-filter_le : (requests : List Request) → length (filter test requests) ≤ length requests
  length-filter_le requests = omega (arith, length-filter test requests, count_by-le-length test requests)

  -- an item at a place that doesn't pass
  filter-without : (requests : List Request) (place : ℕ) → place < length requests → IfSome (slice_get requests place) (λ x. test x ≡ false) → filter test (remove requests place) ≡ filter test requests
  filter-without requests place within fails = by (slice_get requests place) refl fails
    where
      by : (o : Option Request) → slice_get requests place ≡ o → IfSome o (λ x. test x ≡ false) → filter test (remove requests place) ≡ filter test requests
      by None at is = absurd (some-there requests place within at)
      by (Some x) at is = filter-remove test requests place x at is

  distinct-without : (requests : List Request) (place : ℕ) → place < length requests → are_distinct requests ≡ true → are_distinct (remove requests place) ≡ true
  distinct-without requests place within distinct = by (slice_get requests place) refl
    where
      by : (o : Option Request) → slice_get requests place ≡ o → are_distinct (remove requests place) ≡ true
      by None at = absurd (some-there requests place within at)
      by (Some x) at = distinct-left requests place x distinct at

  -- one more is dropped
  pub dropped-step : (old mid new : Kept Request) (were between are : Index) (place : ℕ) → Dropped old mid were between → place < length mid.items → IfSome (slice_get mid.items place) (λ x. test x ≡ false) → new.items ≡ remove mid.items place → mid.room ≤ new.room → AreFound are new.items → new.places ≡ mid.places → least_of are ≡ least_of between → places_of are ≡ places_of between → length new.items + new.room ≤ length mid.items + mid.room → Dropped old new were are
  dropped-step old mid new were between are place so within fails items room found places least total rooms = record {
    same = ap (filter test) items ∙ filter-without mid.items place within fails ∙ so.same;
    distinct = ap are_distinct items ∙ distinct-without mid.items place within so.distinct;
    found = found;
    room = omega (arith, room, so.room);
    places = places ∙ so.places;
    least = least ∙ so.least;
    total = total ∙ so.total;
    rooms = omega (arith, rooms, so.rooms);
  }

  module _ (old new : Kept Request) (were are : Index) (so : Dropped old new were are) where
    pub dropped-items : filter test new.items ≡ new.items → new.items ≡ filter test old.items
    dropped-items all = sym all ∙ so.same

    pub dropped-invariant : (wake : ℕ) (limits : List LimitItem) → filter test new.items ≡ new.items → KeepsLimits limits old.items × ((all_rest wake old.items ≡ true) × ((are_distinct old.items ≡ true) × AreFound were old.items))
        → KeepsLimits limits new.items × ((all_rest wake new.items ≡ true) × ((are_distinct new.items ≡ true) × AreFound are new.items))
    dropped-invariant wake limits all is =
        let items = dropped-items all in (
          subst (KeepsLimits limits) (sym items) (keeps-filter test limits old.items is.0),
          (ap (all_rest wake) items ∙ all_rest-filter test wake old.items is.1.0, (so.distinct, so.found)),
        )

    pub dropped-spare : min old.room (least_of were - length old.items) ≤ min new.room (least_of are - length new.items)
    dropped-spare = omega (arith, so.room, so.rooms, so.least)

    pub dropped-total : length new.items + min new.room (least_of are - length new.items) ≤ length old.items + min old.room (least_of were - length old.items)
    dropped-total = omega (arith, so.room, so.rooms, so.least)

    pub dropped-places : max new.places (2 * places_of are) ≤ max old.places (2 * places_of were)
    dropped-places = omega (arith, so.places, so.total)
