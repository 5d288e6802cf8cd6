-- The least address that is named, found among names in order: the first name whose mapping lasts.
use Rattle.std.proofs.Common.{◌≡◌, ℕ, ◌+◌, ◌-◌, ◌<◌, ◌≤◌, ◌==◌, ◌&&◌, nat_lt, Bool, true, false, not, List, [], ◌∷◌, length, filter, get_or, slice_get, All, Contains, Option, None, Some, IfSome, is_some, Ordering, Less, Equal, Greater, is_lt, is_eq, inl, inr, refl, sym, subst, ap, ap₂, ◌∙◌, arith, ltb-true, ltb-false}
use Rattle.std.specs.Cmp.{IsTotalOrder}
use Rattle.std.specs.List.{list_any}
use Rattle.std.specs.Ordering.{ordering_then}
use Rattle.std.proofs.lemmas.Bool.{cases_Bool, cases_eq, and_from, and_parts, false≢true}
use Rattle.std.proofs.lemmas.Cmp.{tied_itself}
use Rattle.std.proofs.lemmas.Option.{get_or_from_slice_get, same_Some, slice_get-get_or, slice_get_within}
use Rattle.ip_headers.specs.declared.addr.Addr.{Addr}
use Rattle.mapping_records.proofs.OrderLemmas.{addr_order-total, eid_order-total}
use Rattle.mapping_records.specs.Eids.{same_address, same_eid}
use Rattle.mapping_records.specs.Orders.{addr_order, eid_order}
use Rattle.mapping_records.specs.declared.eid.Eid.{Eid}
use Rattle.mapping_records.specs.declared.record.Locator.{Locator}
use Rattle.ordered_set.specs.Keys.{has, Ascends}
use Rattle.map_cache.specs.Cache.{exact, lasting, lasts}
use Rattle.map_cache.specs.Indexed.{name_order, name_order-total, names_as, names_by}
use Rattle.map_cache.specs.Lists.{IsAscending}
use Rattle.map_cache.specs.Named.{comes_after, is_named, least_named, named_above, named_by, IsNoLess, IsNoLessAtOne}
use Rattle.map_cache.specs.declared.keys.Name.{Name}
use Rattle.map_cache.specs.declared.mapping.Mapping.{Mapping}
use Rattle.map_cache.proofs.AmongLemmas.{Among, among-all, among-any, among-at, among-contains, among-either, among-filter, among-left, among-map, among-place, among-right, any-among, filter-among, map-among}
use Rattle.map_cache.proofs.AscendingLemmas.{IsAscending-filter}
use Rattle.map_cache.proofs.EidLemmas.{is_eq-addr, is_eq-eid, is_eq-name}
use Rattle.map_cache.proofs.EndedLemmas.{no_more}
use Rattle.map_cache.proofs.ExactLemmas.{equal-address, equal-same, exact-among, exact-one, one-same, same-equal}
use Rattle.map_cache.proofs.NamedLemmas.{below-not, flip, least-eid, least-least, least-none, least-one, not_below, not_itself, tied}
use Rattle.map_cache.proofs.RoomLemmas.{name_of}

-- ### the least is determined

same_pair : (x y : Addr × Eid) → x.0 ≡ y.0 → x.1 ≡ y.1 → x ≡ y
same_pair (a, e) (b, f) addr eid = ap₂ (λ (p : Addr) (q : Eid). (p, q)) addr eid

among-as : (named : List (Addr × Eid)) (a b : Addr) (e f : Eid) → a ≡ b → e ≡ f → Among (a, e) named → Among (b, f) named
among-as named a b e f addr eid among =
    subst (λ (p : Addr × Eid). Among p named) (same_pair (a, e) (b, f) addr eid) among

-- where neither is less than the other, they tie
level : {K : Type 0} {R : K → K → Ordering} → IsTotalOrder R → (x y : K) → is_lt (R x y) ≡ false → is_lt (R y x) ≡ false → R x y ≡ Equal
level {R = R} order x y low high = tied (R x y) low (sym (flip order x y) ∙ high)

one-least : (x y : Addr × Eid) → IsNoLess x y → IsNoLess y x → IsNoLessAtOne x y → IsNoLessAtOne y x → x ≡ y
one-least x y first second first_eid second_eid =
    let ties : addr_order x.0 y.0 ≡ Equal = level addr_order-total x.0 y.0 second first in
    let back : addr_order y.0 x.0 ≡ Equal = level addr_order-total y.0 x.0 first second in
    let eids : eid_order x.1 y.1 ≡ Equal = level eid_order-total x.1 y.1 (second_eid ties) (first_eid back) in
    same_pair x y (equal-address x.0 y.0 (sym (is_eq-addr x.0 y.0) ∙ ap is_eq ties)) (equal-same x.1 y.1 (sym (is_eq-eid x.1 y.1) ∙ ap is_eq eids))

-- one that is named, and than which none has a lesser address nor, of its address, a lesser EID
least-is : (named : List (Addr × Eid)) (best : Addr × Eid) → IfSome (least_named named) (λ b. All (IsNoLessAtOne b) named) → Among best named → ((other : Addr × Eid) → Among other named → IsNoLess best other × IsNoLessAtOne best other) → least_named named ≡ Some best
least-is named best first among least = by (least_named named) refl
  where
    by : (o : Option (Addr × Eid)) → least_named named ≡ o → o ≡ Some best
    by None is = absurd (subst (λ (l : List (Addr × Eid)). Among best l) ((least-none named).0 is) among)
    by (Some other) is =
        let there : Contains named other = subst (λ (o : Option (Addr × Eid)). IfSome o (Contains named)) is (least-one named) in
        let addrs : All (IsNoLess other) named = subst (λ (o : Option (Addr × Eid)). IfSome o (λ b. All (IsNoLess b) named)) is (least-least named) in
        let eids : All (IsNoLessAtOne other) named = subst (λ (o : Option (Addr × Eid)). IfSome o (λ b. All (IsNoLessAtOne b) named)) is first in
        let mine = least other (among-contains named other there) in
        ap (λ (p : Addr × Eid). Some p) (one-least other best (among-all (IsNoLess other) named best addrs among) mine.0 (among-all (IsNoLessAtOne other) named best eids among) mine.1)

-- ### what mappings name

-- a mapping and its locator that name an address
record IsNamedBy (after : Option Addr) (items : List Mapping) (p : Addr × Eid) : Type 0 where
  item : Mapping
  among : Among item items
  locator : Locator
  there : Among locator item.details.locators
  named : is_named after locator ≡ true
  is : (locator.addr, item.eid) ≡ p

named-among : (after : Option Addr) (items : List Mapping) (p : Addr × Eid) → Among p (named_above after items) → IsNamedBy after items p
named-among after [] p among = absurd among
named-among after (x ∷ items) p among = elim (among-either p (named_by after x) (named_above after items) among) [
  | inl here ↦
      let one = map-among (λ (locator : Locator). (locator.addr, x.eid)) (filter (is_named after) x.details.locators) p here in
      let left = filter-among (is_named after) x.details.locators one.item one.among in
      record { item = x; among = inl refl; locator = one.item; there = left.0; named = left.1; is = one.is }
  | inr later ↦
      let one = named-among after items p later in
      record { item = one.item; among = inr one.among; locator = one.locator; there = one.there; named = one.named; is = one.is }
]

among-named : (after : Option Addr) (items : List Mapping) (x : Mapping) (locator : Locator) → Among x items → Among locator x.details.locators → is_named after locator ≡ true → Among (locator.addr, x.eid) (named_above after items)
among-named after [] x locator among there named = absurd among
among-named after (y ∷ items) x locator among there named = elim among [
  | inl is ↦
      let here : Among (locator.addr, x.eid) (named_by after x) = among-map (λ (l : Locator). (l.addr, x.eid)) (filter (is_named after) x.details.locators) locator (among-filter (is_named after) x.details.locators locator named there) in
      among-left (locator.addr, x.eid) (named_by after y) (named_above after items) (subst (λ (z : Mapping). Among (locator.addr, x.eid) (named_by after z)) (sym is) here)
  | inr later ↦ among-right (locator.addr, x.eid) (named_by after y) (named_above after items) (among-named after items x locator later there named)
]

-- a mapping that lasts is the one that is found among those that do
lasting-there : (m : ℕ) (eid : Eid) (items : List Mapping) (x : Mapping) → IsAscending items → Among x items → same_eid x.eid eid ≡ true → is_some (exact (lasting m items) eid) ≡ true → Among x (lasting m items)
lasting-there m eid items x ascending among same last = by (exact (lasting m items) eid) refl last
  where
    by : (o : Option Mapping) → exact (lasting m items) eid ≡ o → is_some o ≡ true → Among x (lasting m items)
    by None is none = absurd (cc none)
    by (Some y) is some =
        let found = exact-among eid (lasting m items) y is in
        let left = filter-among (lasts m) items y found.0 in
        let one : x ≡ y = one-same eid items x y ascending among left.0 same found.1 in
        subst (λ (z : Mapping). Among z (lasting m items)) (sym one) found.0

-- ### what an order says

first-not : (o r : Ordering) → is_lt (ordering_then o r) ≡ false → is_lt o ≡ false
first-not Less r is = is
first-not Equal r is = refl
first-not Greater r is = refl

then-not : (o r : Ordering) → is_lt (ordering_then o r) ≡ false → o ≡ Equal → is_lt r ≡ false
then-not Less r is ties = cc
then-not Equal r is ties = is
then-not Greater r is ties = cc

name-equal : (a b : Name) → is_eq (name_order a b) ≡ true → (a.addr ≡ b.addr) × (a.eid ≡ b.eid)
name-equal a b ties =
    let parts = and_parts (same_address a.addr b.addr) (same_eid a.eid b.eid) (sym (is_eq-name a b) ∙ ties) in
    (equal-address a.addr b.addr parts.0, equal-same a.eid b.eid parts.1)

-- the address of a lesser name is no greater
lesser-addr : (a b : Name) → name_order a b ≡ Less → is_lt (addr_order b.addr a.addr) ≡ false
lesser-addr a b less = flip addr_order-total a.addr b.addr ∙ no_more (addr_order a.addr b.addr) (eid_order a.eid b.eid) less

-- of two places the first has the lesser name
lesser-at : (keys : List Name) (i j : ℕ) (a b : Name) → Ascends name_order keys → slice_get keys i ≡ Some a → slice_get keys j ≡ Some b → i < j → name_order a b ≡ Less
lesser-at keys i j a b ascends first second before =
    let within : j < length keys = slice_get_within keys j b second in
    let less : name_order (get_or keys i a) (get_or keys j a) ≡ Less = ascends i j a before within in
    sym (ap₂ name_order (get_or_from_slice_get keys i a a first) (get_or_from_slice_get keys j b a second)) ∙ less

same-at : (keys : List Name) (i j : ℕ) (a b : Name) → slice_get keys i ≡ Some a → slice_get keys j ≡ Some b → i ≡ j → a ≡ b
same-at keys i j a b first second same = same_Some a b (sym first ∙ ap (slice_get keys) same ∙ second)

-- ### the place of the first name above another address

module _ (after : Addr) (keys : List Name) (p : ℕ) (ascends : Ascends name_order keys) (within : p ≤ length keys) where
  pub none-upto : (0 < p → IfSome (slice_get keys (p - 1)) (λ name. not (comes_after (Some after) name.addr) ≡ true)) → (k : ℕ) (name : Name) → k < p → slice_get keys k ≡ Some name → comes_after (Some after) name.addr ≡ false
  none-upto before k name less at = elim (cases_eq k (p - 1)) [
    | inl same ↦ ap (λ (n : Name). is_lt (addr_order after n.addr)) (same-at keys k (p - 1) name last at there same) ∙ not_above
    | inr apart ↦ not_below addr_order-total name.addr last.addr after (lesser-addr name last (lesser-at keys k (p - 1) name last ascends at there (omega (arith, less, apart)))) not_above
  ]
    where
      last : Name
      last = get_or keys (p - 1) name

      there : slice_get keys (p - 1) ≡ Some last
      there = slice_get-get_or keys (p - 1) name (omega (arith, less, within))

      turned : (b : Bool) → not b ≡ true → b ≡ false
      turned true is = sym is
      turned false is = refl

      not_above : is_lt (addr_order after last.addr) ≡ false
      not_above = turned (is_lt (addr_order after last.addr)) (subst (λ (o : Option Name). IfSome o (λ n. not (comes_after (Some after) n.addr) ≡ true)) there (before (omega (arith, less))))

  pub all-above : IfSome (slice_get keys p) (λ name. not (comes_after (Some after) name.addr) ≡ false) → (k : ℕ) (name : Name) → p ≤ k → slice_get keys k ≡ Some name → comes_after (Some after) name.addr ≡ true
  all-above behind k name more at = elim (cases_eq p k) [
    | inl same ↦ ap (λ (n : Name). is_lt (addr_order after n.addr)) (sym (same-at keys p k first name there at same)) ∙ above
    | inr apart ↦ elim (cases_Bool (is_lt (addr_order after name.addr))) [
      | inl is ↦ is
      | inr not_above ↦ absurd (false≢true (sym (not_below addr_order-total first.addr name.addr after (lesser-addr first name (lesser-at keys p k first name ascends there at (omega (arith, more, apart)))) not_above) ∙ above))
    ]
  ]
    where
      first : Name
      first = get_or keys p name

      there : slice_get keys p ≡ Some first
      there = slice_get-get_or keys p name (omega (arith, more, slice_get_within keys k name at))

      turned : (b : Bool) → not b ≡ false → b ≡ true
      turned true is = refl
      turned false is = sym is

      above : is_lt (addr_order after first.addr) ≡ true
      above = turned (is_lt (addr_order after first.addr)) (subst (λ (o : Option Name). IfSome o (λ n. not (comes_after (Some after) n.addr) ≡ false)) there behind)

-- ### from there on, name by name

-- of the names before a place that are above another address no mapping lasts, and all from there on are above it
pub record NoneBefore (after : Option Addr) (m : ℕ) (items : List Mapping) (keys : List Name) (index : ℕ) : Type 0 where
  pub within : index ≤ length keys
  pub passed : (k : ℕ) (name : Name) → k < index → slice_get keys k ≡ Some name → comes_after after name.addr ≡ true → is_some (exact (lasting m items) name.eid) ≡ false
  pub above : (k : ℕ) (name : Name) → index ≤ k → slice_get keys k ≡ Some name → comes_after after name.addr ≡ true

pub none-first : (after : Option Addr) (m : ℕ) (items : List Mapping) (keys : List Name) (index : ℕ) → index ≤ length keys
    → ((k : ℕ) (name : Name) → k < index → slice_get keys k ≡ Some name → comes_after after name.addr ≡ false)
    → ((k : ℕ) (name : Name) → index ≤ k → slice_get keys k ≡ Some name → comes_after after name.addr ≡ true)
    → NoneBefore after m items keys index
none-first after m items keys index within upto above = record {
  within = within;
  passed = λ k name before at comes. absurd (false≢true (sym (upto k name before at) ∙ comes));
  above = above;
}

pub none-next : (after : Option Addr) (m : ℕ) (items : List Mapping) (keys : List Name) (index : ℕ) (name : Name) → NoneBefore after m items keys index → slice_get keys index ≡ Some name → is_some (exact (lasting m items) name.eid) ≡ false → NoneBefore after m items keys (index + 1)
none-next after m items keys index name so_far at ended =
    let inside : index < length keys = slice_get_within keys index name at in
    record {
      within = omega (arith, inside);
      passed = λ k other before there comes. elim (cases_eq k index) [
        | inl same ↦ ap (λ (n : Name). is_some (exact (lasting m items) n.eid)) (same-at keys k index other name there at same) ∙ ended
        | inr apart ↦ so_far.passed k other (omega (arith, before, apart)) there comes
      ];
      above = λ k other more there. so_far.above k other (omega (arith, more)) there;
    }

module _ (after : Option Addr) (m : ℕ) (items : List Mapping) (keys : List Name) (ascending : IsAscending items) (ascends : Ascends name_order keys) (are : (key : Name) → has name_order key keys ≡ list_any (names_as key) items) where
  -- the name of an address, whose mapping lasts
  record IsKept (p : Addr × Eid) : Type 0 where
    place : ℕ
    key : Name
    at : slice_get keys place ≡ Some key
    addr : key.addr ≡ p.0
    eid : key.eid ≡ p.1
    comes : comes_after after key.addr ≡ true
    last : is_some (exact (lasting m items) key.eid) ≡ true

  -- the set has the name of each locator that may be used
  key-had : (x : Mapping) (locator : Locator) → Among x items → Among locator x.details.locators → not (locator.priority == 255) ≡ true → has name_order (name_of x.eid locator) keys ≡ true
  key-had x locator among there usable =
      are (name_of x.eid locator)
      ∙ any-among (names_as (name_of x.eid locator)) items x (any-among (names_by (name_of x.eid locator) x.eid) x.details.locators locator passes there) among
    where
      passes : names_by (name_of x.eid locator) x.eid locator ≡ true
      passes = and_from (not (locator.priority == 255)) (same_address locator.addr locator.addr && same_eid x.eid x.eid) usable (and_from (same_address locator.addr locator.addr) (same_eid x.eid x.eid) (sym (is_eq-addr locator.addr locator.addr) ∙ ap is_eq (tied_itself addr_order-total locator.addr)) (same-equal x.eid x.eid refl))

  kept : (p : Addr × Eid) → Among p (named_above after (lasting m items)) → IsKept p
  kept p among =
      let one = named-among after (lasting m items) p among in
      let left = filter-among (lasts m) items one.item one.among in
      let may = and_parts (not ((one.locator).priority == 255)) (comes_after after (one.locator).addr) one.named in
      let had = key-had one.item one.locator left.0 one.there may.0 in
      let other = among-any (λ (n : Name). is_eq (name_order n (name_of (one.item).eid one.locator))) keys had in
      let there = among-at keys other.item other.among in
      let same = name-equal other.item (name_of (one.item).eid one.locator) other.passes in
      let found = exact-one (other.item).eid (lasting m items) one.item (IsAscending-filter (lasts m) items ascending) one.among (same-equal (one.item).eid (other.item).eid (sym same.1)) in
      record {
        place = there.place;
        key = other.item;
        at = there.at;
        addr = same.0 ∙ ap (λ (q : Addr × Eid). q.0) one.is;
        eid = same.1 ∙ ap (λ (q : Addr × Eid). q.1) one.is;
        comes = ap (comes_after after) same.0 ∙ may.1;
        last = ap is_some found;
      }

  module _ (index : ℕ) (so_far : NoneBefore after m items keys index) where
    -- it stands at the place or behind it
    from_place : (p : Addr × Eid) (one : IsKept p) → index ≤ one.place
    from_place p one = elim (cases_Bool (nat_lt one.place index)) [
      | inl before ↦ absurd (false≢true (sym (so_far.passed one.place one.key (ltb-true one.place index before) one.at one.comes) ∙ one.last))
      | inr behind ↦ ltb-false one.place index behind
    ]

    -- the first name whose mapping lasts is the least
    pub first-least : (name : Name) → slice_get keys index ≡ Some name → is_some (exact (lasting m items) name.eid) ≡ true → least_named (named_above after (lasting m items)) ≡ Some (name.addr, name.eid)
    first-least name at last =
        least-is (named_above after (lasting m items)) (name.addr, name.eid) (least-eid after (lasting m items) (IsAscending-filter (lasts m) items ascending)) named each
      where
        named : Among (name.addr, name.eid) (named_above after (lasting m items))
        named =
            let had = any-among (λ (n : Name). is_eq (name_order n name)) keys name (ap is_eq (tied_itself name_order-total name)) (among-place keys index name at) in
            let one = among-any (names_as name) items (sym (are name) ∙ had) in
            let how = among-any (names_by name (one.item).eid) (one.item).details.locators one.passes in
            let outer = and_parts (not ((how.item).priority == 255)) (same_address (how.item).addr name.addr && same_eid (one.item).eid name.eid) how.passes in
            let inner = and_parts (same_address (how.item).addr name.addr) (same_eid (one.item).eid name.eid) outer.1 in
            let addr : (how.item).addr ≡ name.addr = equal-address (how.item).addr name.addr inner.0 in
            let eid : (one.item).eid ≡ name.eid = equal-same (one.item).eid name.eid inner.1 in
            let comes : comes_after after (how.item).addr ≡ true = ap (comes_after after) addr ∙ so_far.above index name (omega arith) at in
            let lasting_one = lasting-there m name.eid items one.item ascending one.among inner.1 last in
            among-as (named_above after (lasting m items)) (how.item).addr name.addr (one.item).eid name.eid addr eid (among-named after (lasting m items) one.item how.item lasting_one how.among (and_from (not ((how.item).priority == 255)) (comes_after after (how.item).addr) outer.0 comes))

        no_less : (k : ℕ) (key : Name) → slice_get keys k ≡ Some key → index ≤ k → is_lt (name_order key name) ≡ false
        no_less k key there more = elim (cases_eq index k) [
          | inl same ↦ ap (λ (n : Name). is_lt (name_order n name)) (sym (same-at keys index k name key at there same)) ∙ not_itself name_order-total name
          | inr apart ↦ below-not name_order-total name key (ap is_lt (lesser-at keys index k name key ascends at there (omega (arith, more, apart))))
        ]

        each : (other : Addr × Eid) → Among other (named_above after (lasting m items)) → IsNoLess (name.addr, name.eid) other × IsNoLessAtOne (name.addr, name.eid) other
        each other among =
            let one = kept other among in
            let less = no_less one.place one.key one.at (from_place other one) in (
              subst (λ (a : Addr). is_lt (addr_order a name.addr) ≡ false) one.addr (first-not (addr_order (one.key).addr name.addr) (eid_order (one.key).eid name.eid) less),
              λ ties. subst (λ (e : Eid). is_lt (eid_order e name.eid) ≡ false) one.eid (then-not (addr_order (one.key).addr name.addr) (eid_order (one.key).eid name.eid) less (ap (λ (a : Addr). addr_order a name.addr) one.addr ∙ ties)),
            )

    -- where no name is left, none is named
    pub none-least : None ≡ slice_get keys index → None ≡ least_named (named_above after (lasting m items))
    none-least behind = by (least_named (named_above after (lasting m items))) refl
      where
        by : (o : Option (Addr × Eid)) → least_named (named_above after (lasting m items)) ≡ o → None ≡ o
        by None is = refl
        by (Some best) is =
            let there : Contains (named_above after (lasting m items)) best = subst (λ (o : Option (Addr × Eid)). IfSome o (Contains (named_above after (lasting m items)))) is (least-one (named_above after (lasting m items))) in
            let one = kept best (among-contains (named_above after (lasting m items)) best there) in
            let inside = slice_get_within keys one.place one.key one.at in
            absurd (cc (behind ∙ slice_get-get_or keys index one.key (omega (arith, inside, from_place best one))))
