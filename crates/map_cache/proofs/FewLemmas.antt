-- Mappings that all have few locators.
use Rattle.std.proofs.Common.{Bool, true, false, cond, List, [], ◌∷◌, filter, fold, map, Option, Some, None, IfSome, is_lt, nat_le, ℕ}
use Rattle.mapping_records.specs.Eids.{covers_eid, longer, same_eid}
use Rattle.mapping_records.specs.Orders.{eid_order, put_in_order}
use Rattle.mapping_records.specs.declared.eid.Eid.{Eid}
use Rattle.map_cache.specs.Lists.{AllFew, IsFew}
use Rattle.map_cache.specs.Cache.{in_force, lasting, lasts, told_mapping, with_bits}
use Rattle.map_cache.specs.declared.mapping.Mapping.{Mapping}

pub AllFew-filter : (test : Mapping → Bool) (items : List Mapping) → AllFew items → AllFew (filter test items)
AllFew-filter test [] all = tt
AllFew-filter test (x ∷ items) all = by (test x) (AllFew-filter test items all.1)
  where
    by : (b : Bool) → AllFew (filter test items) → AllFew (cond b (x ∷ filter test items) (filter test items))
    by true h = (all.0, h)
    by false h = h

pub AllFew-put : (x : Mapping) (items : List Mapping) → IsFew x → AllFew items → AllFew (put_in_order (λ i. i.eid) eid_order x items)
AllFew-put x [] is all = (is, tt)
AllFew-put x (i ∷ items) is all = by (is_lt (eid_order x.eid i.eid)) (AllFew-put x items is all.1)
  where
    by : (b : Bool) → AllFew (put_in_order (λ y. y.eid) eid_order x items) → AllFew (cond b (x ∷ i ∷ items) (i ∷ put_in_order (λ y. y.eid) eid_order x items))
    by true h = (is, all)
    by false h = (all.0, h)

told-few : (eid : Eid) (bits width : ℕ) (x : Mapping) → IsFew x → IsFew (told_mapping eid bits width x)
told-few eid bits width x is = by (same_eid x.eid eid)
  where
    by : (b : Bool) → IsFew (cond b (with_bits bits width x) x)
    by true = is
    by false = is

pub AllFew-told : (eid : Eid) (bits width : ℕ) (items : List Mapping) → AllFew items → AllFew (map (told_mapping eid bits width) items)
AllFew-told eid bits width [] all = tt
AllFew-told eid bits width (x ∷ items) all = (told-few eid bits width x all.0, AllFew-told eid bits width items all.1)

-- the longer of two is one of them
longer-few : (best : Option Mapping) (x : Mapping) → IfSome best IsFew → IsFew x → IfSome (longer (λ i. i.eid) best x) IsFew
longer-few None x few is = is
longer-few (Some best) x few is = by (nat_le x.eid.prefix.len best.eid.prefix.len)
  where
    by : (b : Bool) → IfSome (cond b (Some best) (Some x)) IsFew
    by true = few
    by false = is

longest-few : (best : Option Mapping) (items : List Mapping) → IfSome best IsFew → AllFew items → IfSome (fold (longer (λ i. i.eid)) best items) IsFew
longest-few best [] few all = few
longest-few best (x ∷ items) few all = longest-few (longer (λ i. i.eid) best x) items (longer-few best x few all.0) all.1

-- the mapping in force among those that last has few locators
pub in_force-few : (m : ℕ) (eid : Eid) (items : List Mapping) → AllFew items → IfSome (in_force (lasting m items) eid) IsFew
in_force-few m eid items all =
    longest-few None (filter (λ item. covers_eid item.eid eid) (lasting m items)) tt
    (AllFew-filter (λ item. covers_eid item.eid eid) (lasting m items) (AllFew-filter (lasts m) items all))
