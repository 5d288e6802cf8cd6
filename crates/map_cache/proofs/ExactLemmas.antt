-- The mapping of just one EID, among mappings in order.
use Rattle.std.proofs.Common.{◌≡◌, ◌<◌, ◌^◌, ℕ, suc, Bool, true, false, cond, List, [], ◌∷◌, length, slice_get, Option, None, Some, Ordering, Less, Equal, Greater, is_lt, is_eq, inl, inr, refl, sym, ap, ◌∙◌, arith}
use Rattle.std.specs.Ordering.{ordering_reverse}
use Rattle.std.proofs.lemmas.Bool.{cases_Bool, and_parts, eqb-true, false≢true}
use Rattle.std.proofs.lemmas.Cmp.{tied_itself}
use Rattle.std.proofs.lemmas.Option.{same_Some}
use Rattle.ip_headers.specs.Addr.{number, width}
use Rattle.ip_headers.specs.declared.addr.Addr.{Addr}
use Rattle.ip_headers.specs.declared.addr.Addr.TheVariants.{V4, V6}
use Rattle.prefix_table.specs.Pairs.{value_in}
use Rattle.mapping_records.proofs.EqualValue.{equal_eid, equal_prefix}
use Rattle.mapping_records.proofs.OrderLemmas.{eid_order-total}
use Rattle.mapping_records.specs.Eids.{same_address, same_eid}
use Rattle.mapping_records.specs.Orders.{eid_order}
use Rattle.mapping_records.specs.declared.eid.Eid.{Eid}
use Rattle.map_cache.specs.Cache.{exact, lasting, lasts}
use Rattle.map_cache.specs.Indexed.{all_stays, stay_lasts, stay_of}
use Rattle.map_cache.specs.Lists.{IsAscending, IsBelow}
use Rattle.map_cache.specs.declared.stay.Stay.{Stay}
use Rattle.map_cache.specs.declared.mapping.Mapping.{Mapping}
use Rattle.map_cache.proofs.AmongLemmas.{Among, among-filter, filter-among, one-among}
use Rattle.map_cache.proofs.AscendingLemmas.{IsAscending-filter}
use Rattle.map_cache.proofs.EidLemmas.{is_eq-eid}
use Rattle.map_cache.proofs.StayLemmas.{stay-lasts}

same_addr : (a b : Addr) → width a ≡ width b → number a ≡ number b → a ≡ b
same_addr (V4 m) (V4 n) w is = ap (λ x. V4 x) is
same_addr (V6 m) (V6 n) w is = ap (λ x. V6 x) is
same_addr (V4 m) (V6 n) w is = absurd (omega (arith, w))
same_addr (V6 m) (V4 n) w is = absurd (omega (arith, w))

pub equal-address : (a b : Addr) → same_address a b ≡ true → a ≡ b
equal-address a b same =
    let parts = and_parts _ _ same in
    same_addr a b (eqb-true (width a) (width b) parts.0) (eqb-true (number a) (number b) parts.1)

-- the same EIDs are equal
pub equal-same : (a b : Eid) → same_eid a b ≡ true → a ≡ b
equal-same a b same =
    let outer = and_parts _ _ same in
    let inner = and_parts _ _ outer.1 in
    equal_eid a b (eqb-true a.iid b.iid outer.0) (equal_prefix a.prefix b.prefix (equal-address a.prefix.addr b.prefix.addr inner.0) (eqb-true a.prefix.len b.prefix.len inner.1))

pub same-equal : (a b : Eid) → a ≡ b → same_eid a b ≡ true
same-equal a b is = ap (λ e. same_eid e b) is ∙ sym (is_eq-eid b b) ∙ ap is_eq (tied_itself eid_order-total b)

ties-equal : (a b : Eid) → a ≡ b → eid_order a b ≡ Equal
ties-equal a b is = ap (λ e. eid_order e b) is ∙ tied_itself eid_order-total b

-- of mappings in order one has the EID
pub one-same : (eid : Eid) (items : List Mapping) (x y : Mapping) → IsAscending items → Among x items → Among y items → same_eid x.eid eid ≡ true → same_eid y.eid eid ≡ true → x ≡ y
one-same eid items x y ascending first second x_same y_same =
    one-among items x y ascending first second (ties-equal x.eid y.eid (equal-same x.eid eid x_same ∙ sym (equal-same y.eid eid y_same)))

-- what is found is among them, and has the EID
pub exact-among : (eid : Eid) (items : List Mapping) (x : Mapping) → exact items eid ≡ Some x → Among x items × (same_eid x.eid eid ≡ true)
exact-among eid [] x is = absurd (cc is)
exact-among eid (y ∷ items) x is = by (same_eid y.eid eid) refl (exact-among eid items x) is
  where
    by : (b : Bool) → same_eid y.eid eid ≡ b → (exact items eid ≡ Some x → Among x items × (same_eid x.eid eid ≡ true)) → cond b (Some y) (exact items eid) ≡ Some x → Among x (y ∷ items) × (same_eid x.eid eid ≡ true)
    by true same rest is = (inl (same_Some y x is), ap (λ (i : Mapping). same_eid i.eid eid) (sym (same_Some y x is)) ∙ same)
    by false apart rest is = (inr (rest is).0, (rest is).1)

-- where nothing is found, none has it
pub none-exact : (eid : Eid) (items : List Mapping) (x : Mapping) → exact items eid ≡ None → Among x items → same_eid x.eid eid ≡ false
none-exact eid [] x is among = absurd among
none-exact eid (y ∷ items) x is among = by (same_eid y.eid eid) refl (none-exact eid items x) is
  where
    by : (b : Bool) → same_eid y.eid eid ≡ b → (exact items eid ≡ None → Among x items → same_eid x.eid eid ≡ false) → cond b (Some y) (exact items eid) ≡ None → same_eid x.eid eid ≡ false
    by true same rest is = absurd (cc is)
    by false apart rest is = elim among [ inl here ↦ ap (λ (i : Mapping). same_eid i.eid eid) (sym here) ∙ apart | inr later ↦ rest is later ]

-- and where none has it, nothing is found
pub exact-none : (eid : Eid) (items : List Mapping) → ((x : Mapping) → Among x items → same_eid x.eid eid ≡ false) → exact items eid ≡ None
exact-none eid [] each = refl
exact-none eid (y ∷ items) each =
    ap (λ b. cond b (Some y) (exact items eid)) (each y (inl refl)) ∙ exact-none eid items (λ x among. each x (inr among))

-- one of mappings in order that has it is found
pub exact-one : (eid : Eid) (items : List Mapping) (x : Mapping) → IsAscending items → Among x items → same_eid x.eid eid ≡ true → exact items eid ≡ Some x
exact-one eid items x ascending among same = by (exact items eid) refl
  where
    by : (o : Option Mapping) → exact items eid ≡ o → o ≡ Some x
    by None is = absurd (false≢true (sym (none-exact eid items x is among) ∙ same))
    by (Some y) is =
        let found = exact-among eid items y is in
        ap (λ i. Some i) (one-same eid items y x ascending found.0 among found.1 same)

-- of those that last none is found where none is found at all
pub lasting-none : (m : ℕ) (eid : Eid) (items : List Mapping) → exact items eid ≡ None → exact (lasting m items) eid ≡ None
lasting-none m eid items is = exact-none eid (lasting m items) (λ x among. none-exact eid items x is (filter-among (lasts m) items x among).0)

-- nor where the one that is found has ended
pub lasting-ended : (m : ℕ) (eid : Eid) (items : List Mapping) (x : Mapping) → IsAscending items → exact items eid ≡ Some x → lasts m x ≡ false → exact (lasting m items) eid ≡ None
lasting-ended m eid items x ascending is ended = exact-none eid (lasting m items) each
  where
    each : (y : Mapping) → Among y (lasting m items) → same_eid y.eid eid ≡ false
    each y among =
        let found = exact-among eid items x is in
        let left = filter-among (lasts m) items y among in
        elim (cases_Bool (same_eid y.eid eid)) [
          | inl same ↦ absurd (false≢true (sym ended ∙ ap (lasts m) (one-same eid items x y ascending found.0 left.0 found.1 same) ∙ left.1))
          | inr apart ↦ apart
        ]

-- one that lasts is found among those that do
pub lasting-some : (m : ℕ) (eid : Eid) (items : List Mapping) (x : Mapping) → IsAscending items → exact items eid ≡ Some x → lasts m x ≡ true → exact (lasting m items) eid ≡ Some x
lasting-some m eid items x ascending is last =
    let found = exact-among eid items x is in
    exact-one eid (lasting m items) x (IsAscending-filter (lasts m) items ascending) (among-filter (lasts m) items x last found.0) found.1

-- ### by the trie

-- by how a key stands to the EID
abbrev value_by : Ordering → Stay → Option Stay → Option Stay
value_by Less old rest = rest
value_by Equal old rest = Some old
value_by Greater old rest = None

value-step : (eid key : Eid) (old : Stay) (pairs : List (Eid × Stay)) → value_in eid ((key, old) ∷ pairs) ≡ value_by (eid_order key eid) old (value_in eid pairs)
value-step eid key old pairs =
    ap (λ o. cond (is_lt (eid_order key eid)) (value_in eid pairs) (cond (is_lt o) None (Some old))) (eid_order-total.antisymm eid key)
    ∙ by (eid_order key eid)
  where
    by : (o : Ordering) → cond (is_lt o) (value_in eid pairs) (cond (is_lt (ordering_reverse o)) None (Some old)) ≡ value_by o old (value_in eid pairs)
    by Less = refl
    by Equal = refl
    by Greater = refl

-- what the trie tells of an EID, it tells of its mapping
pub record IsTold (names : List ℕ) (items : List Mapping) (eid : Eid) (stay : Stay) : Type 0 where
  pub index : ℕ
  pub item : Mapping
  pub named : slice_get names index ≡ Some stay.name
  pub there : slice_get items index ≡ Some item
  pub is : (stay_of stay.name item).1 ≡ stay
  pub found : exact items eid ≡ Some item

pub value-some : (names : List ℕ) (items : List Mapping) (eid : Eid) (stay : Stay) → value_in eid (all_stays names items) ≡ Some stay → IsTold names items eid stay
value-some [] items eid stay is = absurd (cc is)
value-some (name ∷ names) [] eid stay is = absurd (cc is)
value-some (name ∷ names) (x ∷ items) eid stay is =
    by (eid_order x.eid eid) refl (sym (value-step eid x.eid (stay_of name x).1 (all_stays names items)) ∙ is) (value-some names items eid stay)
  where
    apart : (o : Ordering) → eid_order x.eid eid ≡ o → same_eid x.eid eid ≡ is_eq o
    apart o is = sym (is_eq-eid x.eid eid) ∙ ap is_eq is

    by : (o : Ordering) → eid_order x.eid eid ≡ o → value_by o (stay_of name x).1 (value_in eid (all_stays names items)) ≡ Some stay → (value_in eid (all_stays names items) ≡ Some stay → IsTold names items eid stay) → IsTold (name ∷ names) (x ∷ items) eid stay
    by Less order is rest =
        let later = rest is in
        record {
          index = suc later.index;
          item = later.item;
          named = later.named;
          there = later.there;
          is = later.is;
          found = ap (λ b. cond b (Some x) (exact items eid)) (apart Less order) ∙ later.found;
        }
    by Equal order is rest =
        let here : (stay_of name x).1 ≡ stay = same_Some (stay_of name x).1 stay is in
        let same : name ≡ stay.name = ap (λ (h : Stay). h.name) here in
        record {
          index = 0;
          item = x;
          named = ap (λ n. Some n) same;
          there = refl;
          is = ap (λ n. (stay_of n x).1) (sym same) ∙ here;
          found = ap (λ b. cond b (Some x) (exact items eid)) (apart Equal order);
        }
    by Greater order is rest = absurd (cc is)

pub told-lasts : (m : ℕ) (names : List ℕ) (items : List Mapping) (eid : Eid) (stay : Stay) (t : IsTold names items eid stay) (b : Bool) → m < 2 ^ 64 → b ≡ stay_lasts m stay → lasts m t.item ≡ b
told-lasts m names items eid stay t b within is = sym (stay-lasts m stay.name t.item within) ∙ ap (stay_lasts m) t.is ∙ sym is

-- an EID that is below that of a mapping, which is below those of others, isn't theirs
none_above : (eid : Eid) (x : Mapping) (items : List Mapping) → eid_order eid x.eid ≡ Less → IsBelow x.eid items → exact items eid ≡ None
none_above eid x [] less below = refl
none_above eid x (y ∷ items) less below =
    ap (λ b. cond b (Some y) (exact items eid)) (sym (is_eq-eid y.eid eid) ∙ ap is_eq (eid_order-total.antisymm y.eid eid ∙ ap ordering_reverse (eid_order-total.trans eid x.eid y.eid less below.0)))
    ∙ none_above eid x items less below.1

-- where it tells nothing, there is none
pub value-none : (names : List ℕ) (items : List Mapping) (eid : Eid) → IsAscending items → length names ≡ length items → value_in eid (all_stays names items) ≡ None → exact items eid ≡ None
value-none names [] eid ascending len is = refl
value-none [] (x ∷ items) eid ascending len is = absurd (omega (arith, len))
value-none (name ∷ names) (x ∷ items) eid ascending len is =
    by (eid_order x.eid eid) refl (sym (value-step eid x.eid (stay_of name x).1 (all_stays names items)) ∙ is) (value-none names items eid ascending.1 (omega (arith, len)))
  where
    apart : (o : Ordering) → eid_order x.eid eid ≡ o → is_eq o ≡ false → exact (x ∷ items) eid ≡ exact items eid
    apart o order differs = ap (λ b. cond b (Some x) (exact items eid)) (sym (is_eq-eid x.eid eid) ∙ ap is_eq order ∙ differs)

    by : (o : Ordering) → eid_order x.eid eid ≡ o → value_by o (stay_of name x).1 (value_in eid (all_stays names items)) ≡ None → (value_in eid (all_stays names items) ≡ None → exact items eid ≡ None) → exact (x ∷ items) eid ≡ None
    by Less order is rest = apart Less order refl ∙ rest is
    by Equal order is rest = absurd (cc is)
    by Greater order is rest = apart Greater order refl ∙ none_above eid x items (eid_order-total.antisymm eid x.eid ∙ ap ordering_reverse order) ascending.0
