-- How many of an instance's mappings have ended: as many as the keys of those that end say.
use Rattle.std.proofs.Common.{◌≡◌, ℕ, zero, suc, ◌+◌, ◌<◌, ◌≤◌, ◌==◌, ◌&&◌, ◌||◌, nat_lt, Bool, true, false, cond, not, List, [], ◌∷◌, count_by, filter, map, slice_get, take, None, Some, is_eq, nat_cmp, refl, sym, ap, ap₂, ◌∙◌, arith, lt-ltb}
use Rattle.std.specs.List.{AllByRecursion, list_any, IsDistinct}
use Rattle.std.specs.Ordering.{eq_by_cmp}
use Rattle.std.specs.Set.{is_member}
use Rattle.std.proofs.lemmas.Cmp.{eq_by_cmp_equiv}
use Rattle.std.proofs.lemmas.List.Filters.{sum_by-filter_both}
use Rattle.std.proofs.lemmas.List.Sums.{length-filter, sum_by-cons, sum_by_more}
use Rattle.std.proofs.lemmas.Map.Keys.{IsDistinct-from_sorted}
use Rattle.std.proofs.lemmas.Map.Made.{is_member-filter, length-from_same_keys}
use Rattle.std.proofs.lemmas.Option.{get_or_from_slice_get, same_Some, slice_get_within}
use Rattle.mapping_records.specs.Eids.{same_eid}
use Rattle.mapping_records.specs.Orders.{eid_order}
use Rattle.mapping_records.specs.declared.eid.Eid.{Eid}
use Rattle.ordered_set.specs.Keys.{has, Ascends}
use Rattle.map_cache.specs.Cache.{lasting, lasts, learned_in}
use Rattle.map_cache.specs.Indexed.{ending_order, ending_order-total, ends_as, has_ended_in, is_learned}
use Rattle.map_cache.specs.Lists.{IsAscending, IsBelow}
use Rattle.map_cache.specs.declared.keys.Ending.{Ending}
use Rattle.map_cache.specs.declared.mapping.Mapping.{Mapping}
use Rattle.map_cache.proofs.EidLemmas.{is_eq-eid, is_eq-nat, is_eq-then}
use Rattle.map_cache.proofs.EndedLemmas.{both_tie, less-end, tied-end}
use Rattle.map_cache.proofs.ExactLemmas.{equal-same}
use Rattle.map_cache.proofs.RoomLemmas.{ending_of, member-has, sorted}

none_more : (n : ℕ) → 0 + n ≡ n
none_more n = omega arith

module _ (m iid : ℕ) where
  abbrev one_if : Ending → ℕ
  one_if key = cond (has_ended_in m iid key) 1 0

  -- ### a loop over the keys

  -- one more that is over
  pub ended-next : (keys : List Ending) (i : ℕ) (key : Ending) → slice_get keys i ≡ Some key → nat_lt m key.end ≡ false → count_by (has_ended_in m iid) (take (i + 1) keys) ≡ count_by (has_ended_in m iid) (take i keys) + cond (key.eid.iid == iid) 1 0
  ended-next keys i key at over =
      sum_by_more one_if keys i key (slice_get_within keys i key at)
      ∙ ap (λ (k : Ending). count_by (has_ended_in m iid) (take i keys) + one_if k) (get_or_from_slice_get keys i key key at)
      ∙ ap (λ b. count_by (has_ended_in m iid) (take i keys) + cond {A = ℕ} (not b && (key.eid.iid == iid)) 1 0) over

  none-later : (key : Ending) (keys : List Ending) → Ascends ending_order (key ∷ keys) → m < key.end → count_by (has_ended_in m iid) (key ∷ keys) ≡ 0
  none-later key [] ascends later =
      sum_by-cons one_if key [] ∙ ap (λ b. cond {A = ℕ} (not b && (key.eid.iid == iid)) 1 0 + 0) (lt-ltb m key.end later)
  none-later key (next ∷ keys) ascends later =
      let above = less-end key next (ascends 0 1 key (omega arith) (omega arith)) in
      sum_by-cons one_if key (next ∷ keys)
      ∙ ap (λ b. cond {A = ℕ} (not b && (key.eid.iid == iid)) 1 0 + count_by (has_ended_in m iid) (next ∷ keys)) (lt-ltb m key.end later)
      ∙ none_more (count_by (has_ended_in m iid) (next ∷ keys))
      ∙ none-later next keys (λ i j d before within. ascends (suc i) (suc j) d (omega (arith, before)) (omega (arith, within))) (omega (arith, above, later))

  -- from the first that isn't over on, none is
  pub ended-later : (keys : List Ending) (i : ℕ) (key : Ending) → Ascends ending_order keys → slice_get keys i ≡ Some key → m < key.end → count_by (has_ended_in m iid) (take i keys) ≡ count_by (has_ended_in m iid) keys
  ended-later [] i key ascends at later = absurd (cc at)
  ended-later (first ∷ keys) zero key ascends at later =
      let same = ap (λ (k : Ending). k.end) (same_Some first key at) in
      sym (none-later first keys ascends (omega (arith, later, same)))
  ended-later (first ∷ keys) (suc i) key ascends at later =
      sum_by-cons one_if first (take i keys)
      ∙ ap (λ n. one_if first + n) (ended-later keys i key (λ j k d before within. ascends (suc j) (suc k) d (omega (arith, before)) (omega (arith, within))) at later)
      ∙ sym (sum_by-cons one_if first keys)

  -- behind the last there is none
  pub ended-all : (keys : List Ending) (i : ℕ) → None ≡ slice_get keys i → count_by (has_ended_in m iid) (take i keys) ≡ count_by (has_ended_in m iid) keys
  ended-all [] zero none = refl
  ended-all [] (suc i) none = refl
  ended-all (first ∷ keys) zero none = absurd (cc none)
  ended-all (first ∷ keys) (suc i) none =
      sum_by-cons one_if first (take i keys)
      ∙ ap (λ n. one_if first + n) (ended-all keys i none)
      ∙ sym (sum_by-cons one_if first keys)

  -- ### the keys and the mappings

  -- the keys of those that aren't fixed
  abbrev keys_of : List Mapping → List Ending
  keys_of items = map ending_of (filter (λ x. not x.fixed) items)

  -- as many of these are over as mappings have ended
  keys-count : (items : List Mapping) → count_by (has_ended_in m iid) (keys_of items) ≡ learned_in iid (filter (λ x. not (lasts m x)) items)
  keys-count [] = refl
  keys-count (x ∷ items) = by x.fixed (nat_lt m x.end) (x.eid.iid == iid) refl refl refl (keys-count items)
    where
      by : (fixed late same : Bool) → x.fixed ≡ fixed → nat_lt m x.end ≡ late → (x.eid.iid == iid) ≡ same → count_by (has_ended_in m iid) (keys_of items) ≡ learned_in iid (filter (λ x. not (lasts m x)) items)
          → count_by (has_ended_in m iid) (map ending_of (cond (not fixed) (x ∷ filter (λ x. not x.fixed) items) (filter (λ x. not x.fixed) items)))
          ≡ learned_in iid (cond (not (fixed || late)) (x ∷ filter (λ x. not (lasts m x)) items) (filter (λ x. not (lasts m x)) items))
      by true late same is_fixed is_late is_same rest = rest
      by false true same is_fixed is_late is_same rest =
          sum_by-cons one_if (ending_of x) (keys_of items)
          ∙ ap (λ b. cond {A = ℕ} (not b && (x.eid.iid == iid)) 1 0 + count_by (has_ended_in m iid) (keys_of items)) is_late
          ∙ none_more (count_by (has_ended_in m iid) (keys_of items))
          ∙ rest
      by false false same is_fixed is_late is_same rest =
          sum_by-cons one_if (ending_of x) (keys_of items)
          ∙ ap₂ (λ b n. cond {A = ℕ} (not b && (x.eid.iid == iid)) 1 0 + n) is_late rest
          ∙ ap (λ b. cond {A = ℕ} b 1 0 + learned_in iid (filter (λ x. not (lasts m x)) items)) (sym (free (x.eid.iid == iid)))
          ∙ sym (sum_by-cons (λ y. cond (is_learned iid y) 1 0) x (filter (λ x. not (lasts m x)) items))
        where
          free : (b : Bool) → (b && not x.fixed) ≡ b
          free true = ap not is_fixed
          free false = refl

  -- keys that tie are over alike
  alike : (a b : Ending) → eq_by_cmp ending_order a b ≡ true → has_ended_in m iid a ≡ has_ended_in m iid b
  alike a b ties =
      let same : a.eid ≡ b.eid = equal-same a.eid b.eid (sym (is_eq-eid a.eid b.eid) ∙ (both_tie (nat_cmp a.end b.end) (eid_order a.eid b.eid) ties).1) in
      ap₂ (λ n (e : Eid). not (nat_lt m n) && (e.iid == iid)) (tied-end a b ties) same

  -- the keys are distinct
  keys-apart : (x : Mapping) (items : List Mapping) → IsBelow x.eid items → AllByRecursion (λ key. eq_by_cmp ending_order (ending_of x) key ≡ false) (keys_of items)
  keys-apart x [] below = tt
  keys-apart x (y ∷ items) below = by (not y.fixed) (keys-apart x items below.1)
    where
      apart : eq_by_cmp ending_order (ending_of x) (ending_of y) ≡ false
      apart = is_eq-then (nat_cmp x.end y.end) (eid_order x.eid y.eid) ∙ ap (λ o. is_eq (nat_cmp x.end y.end) && is_eq o) below.0 ∙ never (is_eq (nat_cmp x.end y.end))
        where
          never : (b : Bool) → (b && false) ≡ false
          never true = refl
          never false = refl

      by : (b : Bool) → AllByRecursion (λ key. eq_by_cmp ending_order (ending_of x) key ≡ false) (keys_of items) → AllByRecursion (λ key. eq_by_cmp ending_order (ending_of x) key ≡ false) (map ending_of (cond b (y ∷ filter (λ x. not x.fixed) items) (filter (λ x. not x.fixed) items)))
      by true rest = (apart, rest)
      by false rest = rest

  keys-distinct : (items : List Mapping) → IsAscending items → IsDistinct (eq_by_cmp ending_order) (keys_of items)
  unfolding IsDistinct
  keys-distinct [] ascending = tt
  keys-distinct (x ∷ items) ascending = by (not x.fixed) (keys-distinct items ascending.1)
    where
      by : (b : Bool) → IsDistinct (eq_by_cmp ending_order) (keys_of items) → IsDistinct (eq_by_cmp ending_order) (map ending_of (cond b (x ∷ filter (λ x. not x.fixed) items) (filter (λ x. not x.fixed) items)))
      by true rest = (keys-apart x items ascending.0, rest)
      by false rest = rest

  -- what is left of distinct keys is distinct
  apart-filter : (key : Ending) (keys : List Ending) → AllByRecursion (λ other. eq_by_cmp ending_order key other ≡ false) keys → AllByRecursion (λ other. eq_by_cmp ending_order key other ≡ false) (filter (has_ended_in m iid) keys)
  apart-filter key [] apart = tt
  apart-filter key (first ∷ keys) apart = by (has_ended_in m iid first) (apart-filter key keys apart.1)
    where
      by : (b : Bool) → AllByRecursion (λ other. eq_by_cmp ending_order key other ≡ false) (filter (has_ended_in m iid) keys) → AllByRecursion (λ other. eq_by_cmp ending_order key other ≡ false) (cond b (first ∷ filter (has_ended_in m iid) keys) (filter (has_ended_in m iid) keys))
      by true rest = (apart.0, rest)
      by false rest = rest

  distinct-filter : (keys : List Ending) → IsDistinct (eq_by_cmp ending_order) keys → IsDistinct (eq_by_cmp ending_order) (filter (has_ended_in m iid) keys)
  unfolding IsDistinct
  distinct-filter [] distinct = tt
  distinct-filter (key ∷ keys) distinct = by (has_ended_in m iid key) (distinct-filter keys distinct.1)
    where
      by : (b : Bool) → IsDistinct (eq_by_cmp ending_order) (filter (has_ended_in m iid) keys) → IsDistinct (eq_by_cmp ending_order) (cond b (key ∷ filter (has_ended_in m iid) keys) (filter (has_ended_in m iid) keys))
      by true rest = (apart-filter key keys distinct.0, rest)
      by false rest = rest

  -- a key is one of theirs exactly where a mapping ends so
  keys-had : (key : Ending) (items : List Mapping) → has ending_order key (keys_of items) ≡ list_any (ends_as key) items
  keys-had key [] = refl
  keys-had key (x ∷ items) = by x.fixed refl (keys-had key items)
    where
      ties : is_eq (ending_order (ending_of x) key) ≡ ((x.end == key.end) && same_eid x.eid key.eid)
      ties = is_eq-then (nat_cmp x.end key.end) (eid_order x.eid key.eid) ∙ ap₂ (λ p q. p && q) (is_eq-nat x.end key.end) (is_eq-eid x.eid key.eid)

      by : (b : Bool) → x.fixed ≡ b → has ending_order key (keys_of items) ≡ list_any (ends_as key) items → has ending_order key (map ending_of (cond (not b) (x ∷ filter (λ x. not x.fixed) items) (filter (λ x. not x.fixed) items))) ≡ ((not b && ((x.end == key.end) && same_eid x.eid key.eid)) || list_any (ends_as key) items)
      by true is rest = rest
      by false is rest = ap₂ (λ p q. p || q) ties rest

  module _ (items : List Mapping) (endings : List Ending) (ends : (key : Ending) → has ending_order key endings ≡ list_any (ends_as key) items) (ascends : Ascends ending_order endings) (ascending : IsAscending items) where
    members : (key : Ending) → is_member (eq_by_cmp ending_order) (filter (has_ended_in m iid) endings) key ≡ is_member (eq_by_cmp ending_order) (filter (has_ended_in m iid) (keys_of items)) key
    members key =
        is_member-filter (eq_by_cmp_equiv ending_order-total) (has_ended_in m iid) key (alike key) endings
        ∙ ap (λ b. b && has_ended_in m iid key) (member-has ending_order ending_order-total endings key ∙ ends key ∙ sym (keys-had key items) ∙ sym (member-has ending_order ending_order-total (keys_of items) key))
        ∙ sym (is_member-filter (eq_by_cmp_equiv ending_order-total) (has_ended_in m iid) key (alike key) (keys_of items))

    same-count : count_by (has_ended_in m iid) endings ≡ count_by (has_ended_in m iid) (keys_of items)
    same-count =
        sym (length-filter (has_ended_in m iid) endings)
        ∙ length-from_same_keys (eq_by_cmp_equiv ending_order-total) (filter (has_ended_in m iid) endings) (filter (has_ended_in m iid) (keys_of items))
        (distinct-filter endings (IsDistinct-from_sorted ending_order endings (sorted ending_order ending_order-total endings ascends)))
        (distinct-filter (keys_of items) (keys-distinct items ascending))
        members
        ∙ length-filter (has_ended_in m iid) (keys_of items)

    -- with those that last they are all that the instance has learned
    pub ended-in : count_by (has_ended_in m iid) endings + learned_in iid (lasting m items) ≡ learned_in iid items
    ended-in =
        let both : learned_in iid (lasting m items) + learned_in iid (filter (λ x. not (lasts m x)) items) ≡ learned_in iid items = sum_by-filter_both (lasts m) (λ x. not (lasts m x)) (λ _. refl) (λ x. cond (is_learned iid x) 1 0) items in
        omega (arith, same-count, keys-count items, both)

-- no more of them last than there are
pub lasting-fewer : (m iid : ℕ) (items : List Mapping) → learned_in iid (lasting m items) ≤ learned_in iid items
lasting-fewer m iid items =
    let both : learned_in iid (lasting m items) + learned_in iid (filter (λ x. not (lasts m x)) items) ≡ learned_in iid items = sum_by-filter_both (lasts m) (λ x. not (lasts m x)) (λ _. refl) (λ x. cond (is_learned iid x) 1 0) items in
    omega (arith, both)

-- where that many are below a limit, so are fewer
pub below-too : (fewer more most : ℕ) → fewer ≤ more → more < most → nat_lt more most ≡ nat_lt fewer most
below-too fewer more most less below = lt-ltb more most below ∙ sym (lt-ltb fewer most (omega (arith, less, below)))
