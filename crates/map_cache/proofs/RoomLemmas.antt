-- How many keys find mappings: no more than there are mappings.
use Rattle.std.proofs.Common.{◌≡◌, ℕ, suc, ◌*◌, ◌==◌, ◌≤◌, ◌&&◌, ◌||◌, Bool, true, false, not, List, [], ◌∷◌, ◌++◌, length, map, Ordering, Less, is_eq, Result, Ok, Err, OnOk, OnErr, max, refl, sym, ap, ap₂, ◌∙◌, arith, length-append, true≢false}
use Rattle.std.specs.Cmp.{IsTotalOrder}
use Rattle.std.specs.List.{list_any, sum_by}
use Rattle.std.specs.List.Sorted.{IsStrictlySortedBy}
use Rattle.std.specs.Ordering.{eq_by_cmp}
use Rattle.std.specs.Set.{is_member}
use Rattle.std.proofs.lemmas.Cmp.{eq_by_cmp_equiv}
use Rattle.std.proofs.lemmas.List.{length-map}
use Rattle.std.proofs.lemmas.List.Folds.{list_any-append}
use Rattle.std.proofs.lemmas.List.Elements.{recursion_from_All}
use Rattle.std.proofs.lemmas.List.Sums.{sum_by-cons}
use Rattle.std.proofs.lemmas.Map.Keys.{IsDistinct-from_sorted}
use Rattle.std.proofs.lemmas.Map.Made.{length-le_from_is_member}
use Rattle.mapping_records.specs.declared.eid.Eid.{Eid}
use Rattle.mapping_records.specs.declared.record.Locator.{Locator}
use Rattle.ordered_set.specs.Keys.{has, Ascends}
use Rattle.map_cache.specs.Indexed.{ending_order, ending_order-total, ends_as, name_order, name_order-total, names_as, names_by, Counted, IsIndexed}
use Rattle.map_cache.specs.Limits.{most_locators}
use Rattle.map_cache.specs.Lists.{AllFew}
use Rattle.map_cache.specs.declared.keys.Ending.{Ending}
use Rattle.map_cache.specs.declared.keys.Name.{Name}
use Rattle.map_cache.specs.declared.mapping.Mapping.{Mapping}
use Rattle.map_cache.proofs.EidLemmas.{is_eq-eid, is_eq-name, is_eq-nat, is_eq-then}

-- ### keys that ascend

module _ {K : Type 0} (order : K → K → Ordering) (total : IsTotalOrder order) where
  pub sorted : (keys : List K) → Ascends order keys → IsStrictlySortedBy order keys
  unfolding IsStrictlySortedBy
  sorted [] ascends = tt
  sorted (k ∷ keys) ascends = (
    recursion_from_All (λ (other : K). order k other ≡ Less) keys (λ i d within. ascends 0 (suc i) d (omega arith) (omega (arith, within))),
    sorted keys (λ i j d before within. ascends (suc i) (suc j) d (omega (arith, before)) (omega (arith, within))),
  )

  pub member-has : (keys : List K) (key : K) → is_member (eq_by_cmp order) keys key ≡ has order key keys
  member-has [] key = refl
  member-has (k ∷ keys) key = ap₂ (λ a b. a || b) ((eq_by_cmp_equiv total).symm key k) (member-has keys key)

  -- keys that a list has, each once, are no more than it is long
  at_most : (keys others : List K) → Ascends order keys → ((key : K) → has order key keys ≡ true → has order key others ≡ true) → length keys ≤ length others
  at_most keys others ascends among =
      length-le_from_is_member (eq_by_cmp_equiv total) keys others (IsDistinct-from_sorted order keys (sorted keys ascends)) (λ key is. member-has others key ∙ among key (sym (member-has keys key) ∙ is))

either_way : (a b c d : Bool) → (a ≡ true → c ≡ true) → (b ≡ true → d ≡ true) → (a || b) ≡ true → (c || d) ≡ true
either_way true b c d first second is = ap (λ (x : Bool). x || d) (first refl)
either_way false b true d first second is = refl
either_way false b false d first second is = second is

right_of : (a b : Bool) → (a && b) ≡ true → b ≡ true
right_of true b is = is
right_of false b is = absurd (true≢false (sym is))

-- ### by end

abbrev pub ending_of : Mapping → Ending
ending_of mapping = record { end = mapping.end; eid = mapping.eid }

ends-among : (key : Ending) (items : List Mapping) → list_any (ends_as key) items ≡ true → has ending_order key (map ending_of items) ≡ true
ends-among key [] is = is
ends-among key (x ∷ items) is = either_way (ends_as key x) (list_any (ends_as key) items) (is_eq (ending_order (ending_of x) key)) (has ending_order key (map ending_of items)) ties (ends-among key items) is
  where
    ties : ends_as key x ≡ true → is_eq (ending_order (ending_of x) key) ≡ true
    ties passes =
        is_eq-then _ _
        ∙ ap₂ (λ p q. p && q) (is_eq-nat x.end key.end) (is_eq-eid x.eid key.eid)
        ∙ right_of (not x.fixed) _ passes

-- there are no more ends than mappings
pub endings-few : (mappings : List Mapping) (endings : List Ending) (counts : Counted) → IsIndexed mappings endings counts → Ascends ending_order endings → length endings ≤ length mappings
endings-few mappings endings counts is ascends =
    let few = at_most ending_order ending_order-total endings (map ending_of mappings) ascends (λ key among. ends-among key mappings (sym (is.ends key) ∙ among)) in
    omega (arith, few, length-map mappings ending_of)

-- ### by name

abbrev pub name_of : Eid → Locator → Name
name_of eid locator = record { addr = locator.addr; eid = eid }

-- the names of all locators
abbrev names_in : List Mapping → List Name
names_in [] = []
names_in (x ∷ items) = map (name_of x.eid) x.details.locators ++ names_in items

by-among : (key : Name) (eid : Eid) (locators : List Locator) → list_any (names_by key eid) locators ≡ true → has name_order key (map (name_of eid) locators) ≡ true
by-among key eid [] is = is
by-among key eid (x ∷ locators) is = either_way (names_by key eid x) (list_any (names_by key eid) locators) (is_eq (name_order (name_of eid x) key)) (has name_order key (map (name_of eid) locators)) ties (by-among key eid locators) is
  where
    ties : names_by key eid x ≡ true → is_eq (name_order (name_of eid x) key) ≡ true
    ties passes = is_eq-name (name_of eid x) key ∙ right_of (not (x.priority == 255)) _ passes

names-among : (key : Name) (items : List Mapping) → list_any (names_as key) items ≡ true → has name_order key (names_in items) ≡ true
names-among key [] is = is
names-among key (x ∷ items) is =
    list_any-append (λ (other : Name). is_eq (name_order other key)) (map (name_of x.eid) x.details.locators) (names_in items)
    ∙ either_way (names_as key x) (list_any (names_as key) items) (has name_order key (map (name_of x.eid) x.details.locators)) (has name_order key (names_in items)) (by-among key x.eid x.details.locators) (names-among key items) is

names_in-few : (items : List Mapping) → AllFew items → length (names_in items) ≤ most_locators * length items
names_in-few [] few = omega arith
names_in-few (x ∷ items) few =
    let rest = names_in-few items few.1 in
    omega (arith, rest, few.0, length-append (map (name_of x.eid) x.details.locators) (names_in items), length-map x.details.locators (name_of x.eid))

-- there are at most 32 for each mapping
pub names-few : (mappings : List Mapping) (keys : List Name) → AllFew mappings → ((key : Name) → has name_order key keys ≡ list_any (names_as key) mappings) → Ascends name_order keys → length keys ≤ most_locators * length mappings
names-few mappings keys few are ascends =
    let among = at_most name_order name_order-total keys (names_in mappings) ascends (λ key had. names-among key mappings (sym (are key) ∙ had)) in
    omega (arith, among, names_in-few mappings few)

-- ### all locators

-- there are at most 32 for each mapping
pub locators-few : (items : List Mapping) → AllFew items → sum_by (λ mapping. length mapping.details.locators) items ≤ 32 * length items
locators-few [] few = omega arith
locators-few (x ∷ items) few =
    let rest = locators-few items few.1 in
    omega (arith, rest, few.0, sum_by-cons (λ (mapping : Mapping). length mapping.details.locators) x items)

-- ### room

-- whatever is answered, there is no more room than there was, or was asked for
pub room-after : {T E : Type 0} (result : Result T E) (old new n : ℕ) → OnOk result (new ≡ max old n) → OnErr result (new ≡ old) → new ≤ max old n
room-after (Ok done) old new n ok err = omega (arith, ok)
room-after (Err fault) old new n ok err = omega (arith, err)

-- nor less than there was
pub room-least : {T E : Type 0} (result : Result T E) (old new n : ℕ) → OnOk result (new ≡ max old n) → OnErr result (new ≡ old) → old ≤ new
room-least (Ok done) old new n ok err = omega (arith, ok)
room-least (Err fault) old new n ok err = omega (arith, err)
