-- Mappings in ascending order of EID.
use Rattle.std.proofs.Common.{◌≡◌, ℕ, Bool, true, false, cond, not, List, [], ◌∷◌, filter, map, Ordering, Less, Equal, Greater, is_lt, is_eq, refl, sym, ap, subst, ◌∙◌}
use Rattle.std.specs.Ordering.{ordering_reverse}
use Rattle.std.proofs.lemmas.Cmp.{tied_back}
use Rattle.mapping_records.proofs.OrderLemmas.{eid_order-total}
use Rattle.mapping_records.specs.Eids.{same_eid}
use Rattle.mapping_records.specs.Orders.{eid_order, put_in_order}
use Rattle.mapping_records.specs.declared.eid.Eid.{Eid}
use Rattle.map_cache.specs.Lists.{IsAscending, IsBelow}
use Rattle.map_cache.specs.Cache.{told_mapping, with_bits, without_eid}
use Rattle.map_cache.specs.declared.mapping.Mapping.{Mapping}
use Rattle.map_cache.proofs.EidLemmas.{is_eq-eid}

-- what is below an EID that is below all is below all
pub IsBelow-lower : (a b : Eid) (items : List Mapping) → eid_order a b ≡ Less → IsBelow b items → IsBelow a items
IsBelow-lower a b [] less below = tt
IsBelow-lower a b (x ∷ items) less below = (eid_order-total.trans a b x.eid less below.0, IsBelow-lower a b items less below.1)

IsBelow-filter : (test : Mapping → Bool) (eid : Eid) (items : List Mapping) → IsBelow eid items → IsBelow eid (filter test items)
IsBelow-filter test eid [] below = tt
IsBelow-filter test eid (x ∷ items) below = by (test x) (IsBelow-filter test eid items below.1)
  where
    by : (b : Bool) → IsBelow eid (filter test items) → IsBelow eid (cond b (x ∷ filter test items) (filter test items))
    by true h = (below.0, h)
    by false h = h

-- what is left is in order
pub IsAscending-filter : (test : Mapping → Bool) (items : List Mapping) → IsAscending items → IsAscending (filter test items)
IsAscending-filter test [] ascending = tt
IsAscending-filter test (x ∷ items) ascending = by (test x) (IsAscending-filter test items ascending.1)
  where
    by : (b : Bool) → IsAscending (filter test items) → IsAscending (cond b (x ∷ filter test items) (filter test items))
    by true h = (IsBelow-filter test x.eid items ascending.0, h)
    by false h = h

told-eid : (eid : Eid) (bits width : ℕ) (x : Mapping) → (told_mapping eid bits width x).eid ≡ x.eid
told-eid eid bits width x = by (same_eid x.eid eid)
  where
    by : (b : Bool) → (cond b (with_bits bits width x) x).eid ≡ x.eid
    by true = refl
    by false = refl

IsBelow-told : (eid : Eid) (bits width : ℕ) (below : Eid) (items : List Mapping) → IsBelow below items → IsBelow below (map (told_mapping eid bits width) items)
IsBelow-told eid bits width below [] is = tt
IsBelow-told eid bits width below (x ∷ items) is = (ap (eid_order below) (told-eid eid bits width x) ∙ is.0, IsBelow-told eid bits width below items is.1)

-- bits that are told leave the order
pub IsAscending-told : (eid : Eid) (bits width : ℕ) (items : List Mapping) → IsAscending items → IsAscending (map (told_mapping eid bits width) items)
IsAscending-told eid bits width [] ascending = tt
IsAscending-told eid bits width (x ∷ items) ascending = (subst (λ e. IsBelow e (map (told_mapping eid bits width) items)) (sym (told-eid eid bits width x)) (IsBelow-told eid bits width x.eid items ascending.0), IsAscending-told eid bits width items ascending.1)

IsBelow-put : (eid : Eid) (x : Mapping) (items : List Mapping) → eid_order eid x.eid ≡ Less → IsBelow eid items → IsBelow eid (put_in_order (λ i. i.eid) eid_order x items)
IsBelow-put eid x [] less below = (less, tt)
IsBelow-put eid x (i ∷ items) less below = by (is_lt (eid_order x.eid i.eid)) (IsBelow-put eid x items less below.1)
  where
    by : (b : Bool) → IsBelow eid (put_in_order (λ i. i.eid) eid_order x items) → IsBelow eid (cond b (x ∷ i ∷ items) (i ∷ put_in_order (λ i. i.eid) eid_order x items))
    by true h = (less, below)
    by false h = (below.0, h)

-- a mapping that is put among those of other EIDs leaves the order
pub IsAscending-put : (x : Mapping) (items : List Mapping) → IsAscending items → IsAscending (put_in_order (λ i. i.eid) eid_order x (without_eid x.eid items))
IsAscending-put x [] ascending = (tt, tt)
IsAscending-put x (i ∷ items) ascending = by (same_eid i.eid x.eid) refl (IsAscending-put x items ascending.1)
  where
    others : List Mapping
    others = without_eid x.eid items

    below : IsBelow i.eid others
    below = IsBelow-filter (λ item. not (same_eid item.eid x.eid)) i.eid items ascending.0

    left : IsAscending others
    left = IsAscending-filter (λ item. not (same_eid item.eid x.eid)) items ascending.1

    placed : (r : Ordering) → eid_order x.eid i.eid ≡ r → same_eid i.eid x.eid ≡ false → IsAscending (put_in_order (λ i. i.eid) eid_order x others) → IsAscending (cond (is_lt r) (x ∷ i ∷ others) (i ∷ put_in_order (λ i. i.eid) eid_order x others))
    placed Less is apart h = ((is, IsBelow-lower x.eid i.eid others is below), (below, left))
    placed Equal is apart h = cc (apart, is_eq-eid i.eid x.eid, ap is_eq (tied_back eid_order-total x.eid i.eid is))
    placed Greater is apart h = (IsBelow-put i.eid x others (eid_order-total.antisymm i.eid x.eid ∙ ap ordering_reverse is) below, h)

    by : (b : Bool) → same_eid i.eid x.eid ≡ b → IsAscending (put_in_order (λ i. i.eid) eid_order x others) → IsAscending (put_in_order (λ i. i.eid) eid_order x (cond (not b) (i ∷ others) others))
    by true same h = h
    by false apart h = placed (eid_order x.eid i.eid) refl apart h

apart : (eid : Eid) (x : Mapping) → eid_order x.eid eid ≡ Less → same_eid x.eid eid ≡ false
apart eid x less = sym (is_eq-eid x.eid eid) ∙ ap is_eq less

pub Less-is_lt : (r : Ordering) → is_lt r ≡ true → r ≡ Less
Less-is_lt Less is = refl
Less-is_lt Equal is = cc
Less-is_lt Greater is = cc
