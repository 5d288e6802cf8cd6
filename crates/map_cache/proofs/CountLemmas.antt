-- How many mappings an instance has learned, and the numbers that are kept for each limit.
use Rattle.std.proofs.Common.{◌≡◌, ◌≢◌, ℕ, zero, suc, ◌+◌, ◌-◌, ◌<◌, ◌≤◌, ◌==◌, ◌&&◌, Bool, true, false, cond, not, List, [], ◌∷◌, length, map, insert, remove, replicate, slice_get, slice_index_or, slice_set, option_map, Option, Some, None, Less, nat_cmp, refl, sym, ap, ap₂, ◌∙◌, arith, eq-eqb, ne_eqb}
use Rattle.std.specs.List.{AllByRecursion}
use Rattle.std.specs.List.Sorted.{IsStrictlySortedBy}
use Rattle.std.proofs.lemmas.Bool.{eqb-true}
use Rattle.std.proofs.lemmas.Cmp.{ranked}
use Rattle.std.proofs.lemmas.List.Sums.{count_by-le-length, sum_by-cons, sum_by-insert, sum_by-remove}
use Rattle.std.proofs.lemmas.Option.{get_or_from_slice_get, same_Some, slice_get-get_or, slice_get-map, slice_get_within}
use Rattle.lisp_settings.specs.Instances.{stated}
use Rattle.lisp_settings.specs.declared.settings.LimitItem.{LimitItem}
use Rattle.mapping_records.specs.Eids.{same_eid}
use Rattle.mapping_records.specs.Orders.{eid_order, put_in_order}
use Rattle.mapping_records.specs.declared.eid.Eid.{Eid}
use Rattle.map_cache.specs.Cache.{bits_told, learned_in, told_mapping, with_bits}
use Rattle.map_cache.specs.Indexed.{for_each, is_learned, with_one}
use Rattle.map_cache.specs.declared.mapping.Mapping.{Mapping}
use Rattle.map_cache.proofs.PlaceLemmas.{insert-position}

-- ### what an instance has learned

abbrev one_if : ℕ → Mapping → ℕ
one_if iid x = cond (is_learned iid x) 1 0

pub learned_in-few : (iid : ℕ) (items : List Mapping) → learned_in iid items ≤ length items
learned_in-few iid items = count_by-le-length (is_learned iid) items

pub learned_in-insert : (iid : ℕ) (items : List Mapping) (n : ℕ) (x : Mapping) → learned_in iid (insert items n x) ≡ with_one x (λ iid. learned_in iid items) iid
learned_in-insert iid items n x = sum_by-insert (one_if iid) items n x

pub learned_in-put : (iid : ℕ) (x : Mapping) (items : List Mapping) → learned_in iid (put_in_order (λ i. i.eid) eid_order x items) ≡ with_one x (λ iid. learned_in iid items) iid
learned_in-put iid x items =
    ap (learned_in iid) (sym (insert-position (λ (i : Mapping). i.eid) eid_order x items)) ∙ learned_in-insert iid items _ x

pub learned_in-remove : (iid : ℕ) (items : List Mapping) (n : ℕ) (x : Mapping) → slice_get items n ≡ Some x → learned_in iid items ≡ with_one x (λ iid. learned_in iid (remove items n)) iid
learned_in-remove iid items n x at =
    sym (sum_by-remove (one_if iid) items n x (slice_get_within items n x at))
    ∙ ap (λ (y : Mapping). learned_in iid (remove items n) + one_if iid y) (get_or_from_slice_get items n x x at)

pub learned_in-told : (eid : Eid) (bits width iid : ℕ) (items : List Mapping) → learned_in iid (bits_told eid bits width items) ≡ learned_in iid items
learned_in-told eid bits width iid [] = refl
learned_in-told eid bits width iid (x ∷ items) =
    sum_by-cons (one_if iid) (told_mapping eid bits width x) (bits_told eid bits width items)
    ∙ ap₂ (λ m n. m + n) (by (same_eid x.eid eid)) (learned_in-told eid bits width iid items)
    ∙ sym (sum_by-cons (one_if iid) x items)
  where
    by : (b : Bool) → one_if iid (cond b (with_bits bits width x) x) ≡ one_if iid x
    by true = refl
    by false = refl

-- ### numbers for each limit

pub for_each-same : (f g : ℕ → ℕ) → ((iid : ℕ) → f iid ≡ g iid) → (limits : List LimitItem) → for_each f limits ≡ for_each g limits
for_each-same f g same [] = refl
for_each-same f g same (limit ∷ limits) = ap₂ (λ n l. n ∷ l) (same limit.iid) (for_each-same f g same limits)

pub for_each-none : (limits : List LimitItem) → replicate (length limits) 0 ≡ for_each (λ iid. 0) limits
for_each-none [] = refl
for_each-none (limit ∷ limits) = ap (λ l. 0 ∷ l) (for_each-none limits)

pub stated-is : (limits : List LimitItem) (iid : ℕ) (limit : LimitItem) → stated limits iid ≡ Some limit → limit.iid ≡ iid
stated-is [] iid limit is = absurd (cc is)
stated-is (first ∷ limits) iid limit is = by (first.iid == iid) refl (stated-is limits iid limit) is
  where
    by : (b : Bool) → (first.iid == iid) ≡ b → (stated limits iid ≡ Some limit → limit.iid ≡ iid) → cond b (Some first) (stated limits iid) ≡ Some limit → limit.iid ≡ iid
    by true same rest is = ap (λ (l : LimitItem). l.iid) (sym (same_Some first limit is)) ∙ eqb-true first.iid iid same
    by false apart rest is = rest is

module _ (f g : ℕ → ℕ) (iid : ℕ) (others : (other : ℕ) → iid ≢ other → f other ≡ g other) where
  -- where the instance has no limit, no number changes
  pub for_each-absent : (limits : List LimitItem) → stated limits iid ≡ None → for_each f limits ≡ for_each g limits
  for_each-absent [] none = refl
  for_each-absent (limit ∷ limits) none = by (limit.iid == iid) refl none (for_each-absent limits)
    where
      by : (b : Bool) → (limit.iid == iid) ≡ b → cond b (Some limit) (stated limits iid) ≡ None → (stated limits iid ≡ None → for_each f limits ≡ for_each g limits) → for_each f (limit ∷ limits) ≡ for_each g (limit ∷ limits)
      by true same none rest = absurd (cc none)
      by false apart none rest = ap₂ (λ n l. n ∷ l) (others limit.iid (λ same. cc (ap (λ n. n == iid) same, apart, eq-eqb iid iid refl))) (rest none)

  for_each-above : (limits : List LimitItem) → AllByRecursion (λ other. nat_cmp iid other ≡ Less) (map (λ limit. limit.iid) limits) → for_each f limits ≡ for_each g limits
  for_each-above [] above = refl
  for_each-above (limit ∷ limits) above =
      let less = ranked iid limit.iid _ (sym above.0) in
      ap₂ (λ n l. n ∷ l) (others limit.iid (λ same. omega (arith, less, same))) (for_each-above limits above.1)

  above-at : (low : ℕ) (limits : List LimitItem) (p : ℕ) (limit : LimitItem) → AllByRecursion (λ other. nat_cmp low other ≡ Less) (map (λ limit. limit.iid) limits) → slice_get limits p ≡ Some limit → low < limit.iid
  above-at low [] p limit above at = absurd (cc at)
  above-at low (first ∷ limits) zero limit above at =
      let less = ranked low first.iid _ (sym above.0) in
      omega (arith, less, ap (λ (l : LimitItem). l.iid) (same_Some first limit at))
  above-at low (first ∷ limits) (suc p) limit above at = above-at low limits p limit above.1 at

  -- where it has one, that of its place changes
  pub for_each-set : (limits : List LimitItem) (p : ℕ) (limit : LimitItem) → IsStrictlySortedBy nat_cmp (map (λ limit. limit.iid) limits) → slice_get limits p ≡ Some limit → limit.iid ≡ iid → slice_set (for_each f limits) p (g iid) ≡ for_each g limits
  unfolding IsStrictlySortedBy
  for_each-set [] p limit sorted at is = absurd (cc at)
  for_each-set (first ∷ limits) zero limit sorted at is =
      let same : first.iid ≡ iid = ap (λ (l : LimitItem). l.iid) (same_Some first limit at) ∙ is in
      ap₂ (λ n l. n ∷ l) (ap g (sym same)) (for_each-above limits (rw (sym same) sorted.0))
  for_each-set (first ∷ limits) (suc p) limit sorted at is =
      let less = above-at first.iid limits p limit sorted.0 at in
      ap₂ (λ n l. n ∷ l) (others first.iid (λ same. omega (arith, less, is, same))) (for_each-set limits p limit sorted.1 at is)

-- one more for a mapping changes the number of its instance alone
pub with_one-apart : (x : Mapping) (number : ℕ → ℕ) (other : ℕ) → x.eid.iid ≢ other → with_one x number other ≡ number other
with_one-apart x number other apart =
    ap (λ b. number other + cond {A = ℕ} (b && not x.fixed) 1 0) (ne_eqb x.eid.iid other apart) ∙ omega arith

-- and none where the mapping is fixed
pub with_one-fixed : (x : Mapping) (number : ℕ → ℕ) (iid : ℕ) → x.fixed ≡ true → with_one x number iid ≡ number iid
with_one-fixed x number iid fixed = ap (λ b. number iid + cond {A = ℕ} b 1 0) (by (x.eid.iid == iid) fixed) ∙ omega arith
  where
    by : (b : Bool) → x.fixed ≡ true → (b && not x.fixed) ≡ false
    by true is = ap not is
    by false is = refl

pub with_one-same : (x : Mapping) (number : ℕ → ℕ) → x.fixed ≡ false → with_one x number x.eid.iid ≡ number x.eid.iid + 1
with_one-same x number free =
    ap₂ (λ b c. number x.eid.iid + cond {A = ℕ} (b && not c) 1 0) (eq-eqb x.eid.iid x.eid.iid refl) free

-- ### where a mapping counts

-- the place of the limit of a mapping's instance, where the mapping isn't fixed
record IsCountAt (limits : List LimitItem) (x : Mapping) (p : ℕ) : Type 0 where
  limit : LimitItem
  at : slice_get limits p ≡ Some limit
  is : limit.iid ≡ x.eid.iid
  free : x.fixed ≡ false

count-at : (limits : List LimitItem) (x : Mapping) (p : ℕ) → slice_get limits p ≡ cond x.fixed None (stated limits x.eid.iid) → p < length limits → IsCountAt limits x p
count-at limits x p found within = by x.fixed refl (slice_get limits p) refl found
  where
    there : (limits : List LimitItem) (p : ℕ) → p < length limits → slice_get limits p ≡ None → ⊥
    there [] p within none = omega (arith, within)
    there (limit ∷ limits) zero within none = cc none
    there (limit ∷ limits) (suc p) within none = there limits p (omega (arith, within)) none

    by : (b : Bool) → x.fixed ≡ b → (o : Option LimitItem) → slice_get limits p ≡ o → o ≡ cond b None (stated limits x.eid.iid) → IsCountAt limits x p
    by true fixed o is found = absurd (there limits p within (is ∙ found))
    by false free None is found = absurd (there limits p within is)
    by false free (Some limit) is found = record { limit = limit; at = is; is = stated-is limits x.eid.iid limit (sym found); free = free }

module _ (limits : List LimitItem) (learned : List ℕ) (x : Mapping) (p v : ℕ) (sorted : IsStrictlySortedBy nat_cmp (map (λ limit. limit.iid) limits)) (value : v ≡ slice_index_or learned p v) (found : slice_get limits p ≡ cond x.fixed None (stated limits x.eid.iid)) (within : p < length limits) (number : ℕ → ℕ) where
  -- the number there is that of the instance
  number-at : (f : ℕ → ℕ) → learned ≡ for_each f limits → v ≡ f x.eid.iid
  number-at f is =
      let count = count-at limits x p found within in
      let here : slice_get learned p ≡ Some (f (count.limit).iid) = ap (λ l. slice_get l p) is ∙ slice_get-map (λ (limit : LimitItem). f limit.iid) limits p ∙ ap (option_map (λ (limit : LimitItem). f limit.iid)) count.at in
      value ∙ get_or_from_slice_get learned p (f (count.limit).iid) v here ∙ ap f count.is

  set-at : (f g : ℕ → ℕ) → ((other : ℕ) → x.eid.iid ≢ other → f other ≡ g other) → learned ≡ for_each f limits → slice_set learned p (g x.eid.iid) ≡ for_each g limits
  set-at f g others is =
      let count = count-at limits x p found within in
      ap (λ l. slice_set l p (g x.eid.iid)) is ∙ for_each-set f g x.eid.iid others limits p count.limit sorted count.at count.is

  pub counted-come : learned ≡ for_each number limits → slice_set learned p (v + 1) ≡ for_each (with_one x number) limits
  counted-come is =
      let more : v + 1 ≡ with_one x number x.eid.iid = ap (λ n. n + 1) (number-at number is) ∙ sym (with_one-same x number (count-at limits x p found within).free) in
      ap (slice_set learned p) more ∙ set-at number (with_one x number) (λ other apart. sym (with_one-apart x number other apart)) is

  pub counted-one : learned ≡ for_each (with_one x number) limits → v ≡ number x.eid.iid + 1
  counted-one is = number-at (with_one x number) is ∙ with_one-same x number (count-at limits x p found within).free

  pub counted-gone : learned ≡ for_each (with_one x number) limits → slice_set learned p (v - 1) ≡ for_each number limits
  counted-gone is =
      let one = counted-one is in
      let less : v - 1 ≡ number x.eid.iid = omega (arith, one) in
      ap (slice_set learned p) less ∙ set-at (with_one x number) number (λ other apart. with_one-apart x number other apart) is

-- a mapping that counts nowhere
pub counted-nowhere : (limits : List LimitItem) (x : Mapping) (number : ℕ → ℕ) → None ≡ cond x.fixed None (stated limits x.eid.iid) → for_each number limits ≡ for_each (with_one x number) limits
counted-nowhere limits x number nowhere = by x.fixed refl nowhere
  where
    by : (b : Bool) → x.fixed ≡ b → None ≡ cond b None (stated limits x.eid.iid) → for_each number limits ≡ for_each (with_one x number) limits
    by true fixed none = for_each-same number (with_one x number) (λ iid. sym (with_one-fixed x number iid fixed)) limits
    by false free none = for_each-absent number (with_one x number) x.eid.iid (λ other apart. sym (with_one-apart x number other apart)) limits (sym none)

-- ### what is told of an instance

-- the number at the place of its limit is its own
pub number-there : (limits : List LimitItem) (learned : List ℕ) (p v iid : ℕ) → v ≡ slice_index_or learned p v → slice_get limits p ≡ stated limits iid → p < length limits → (number : ℕ → ℕ) → learned ≡ for_each number limits → v ≡ number iid
number-there limits learned p v iid value found within number is = by (slice_get limits p) refl found
  where
    by : (o : Option LimitItem) → slice_get limits p ≡ o → o ≡ stated limits iid → v ≡ number iid
    by None none stands = absurd (cc (none, slice_get-get_or limits p nothing within))
      where
        nothing : LimitItem
        nothing = record { iid = 0; mappings = 0; requests = 0 }
    by (Some limit) at stands =
        let here : slice_get learned p ≡ Some (number limit.iid) = ap (λ l. slice_get l p) is ∙ slice_get-map (λ (limit : LimitItem). number limit.iid) limits p ∙ ap (option_map (λ (limit : LimitItem). number limit.iid)) at in
        value ∙ get_or_from_slice_get learned p (number limit.iid) v here ∙ ap number (stated-is limits iid limit (sym stands))
