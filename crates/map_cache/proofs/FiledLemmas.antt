-- Mappings under names, once one is put in, taken away or told of.
use Rattle.std.proofs.Common.{◌≡◌, ℕ, suc, ◌+◌, ◌<◌, ◌≤◌, false, List, [], ◌∷◌, length, insert, remove, slice_get, get_or, All, Option, None, Some, is_some, refl, sym, ap, ap₂, subst, ◌∙◌, arith}
use Rattle.std.specs.Borrow.{Bor}
use Rattle.std.specs.Option.{option_copied}
use Rattle.std.proofs.lemmas.List.Edits.{length-insert, length-remove}
use Rattle.std.proofs.lemmas.List.{length-set}
use Rattle.std.proofs.lemmas.List.Elements.{All-nil, All-cons, All-head, All-tail}
use Rattle.std.proofs.lemmas.Option.{get_or_from_slice_get, slice_get_within}
use Rattle.mapping_records.specs.Orders.{eid_order, put_in_order}
use Rattle.mapping_records.specs.declared.eid.Eid.{Eid}
use Rattle.node_store.specs.Store.{Store, node_at, IsLive, Changes, SameNodes, with_node}
use Rattle.named_list.specs.Named.{items_at, IsNamedList}
use Rattle.named_list.proofs.ChangeLemmas.{items_insert, items_remove, named_edit, named_insert, named_of-with_node, named_remove, named_same}
use Rattle.named_list.proofs.ItemsLemmas.{items_at-same, length-items_at, place-items_at}
use Rattle.prefix_table.specs.Pairs.{value_in, with_pair, without_pair}
use Rattle.map_cache.specs.Cache.{bits_told, exact, with_bits, without_eid}
use Rattle.map_cache.specs.Filed.{mappings_at, names_in, IsFiled, IsNamed}
use Rattle.map_cache.specs.Indexed.{all_stays, stay_of}
use Rattle.map_cache.specs.Lists.{IsAscending}
use Rattle.map_cache.specs.declared.stay.Stay.{Stay}
use Rattle.map_cache.specs.declared.mapping.Mapping.{Mapping}
use Rattle.map_cache.proofs.AscendingLemmas.{IsAscending-filter, IsAscending-put, IsAscending-told}
use Rattle.map_cache.proofs.EndingLemmas.{insert-absent, remove-there}
use Rattle.map_cache.proofs.ExactLemmas.{equal-same, exact-among, value-none, value-some, IsTold}
use Rattle.map_cache.proofs.PlaceOfLemmas.{absent-if, is-place, place_in, there-itself, without-absent, IsAbsent, IsThere}
use Rattle.map_cache.proofs.StayLemmas.{stay-insert, stay-remove, value-absent, without-absent-pair}
use Rattle.map_cache.proofs.ToldLemmas.{all_stays-told, told-absent, told-there}

some-copied : {A : Type 0} (o : Option (Bor A)) → is_some (option_copied o) ≡ is_some o
some-copied None = refl
some-copied (Some x) = refl

-- ### names that are told

names_in-all_stays : (names : List ℕ) (items : List Mapping) → length names ≡ length items → names_in (all_stays names items) ≡ names
names_in-all_stays [] items same = refl
names_in-all_stays (name ∷ names) [] same = absurd (omega (arith, same))
names_in-all_stays (name ∷ names) (x ∷ items) same =
    ap (λ l. name ∷ l) (names_in-all_stays names items (omega (arith, same)))

pub length-names_in : (pairs : List (Eid × Stay)) → length (names_in pairs) ≡ length pairs
length-names_in [] = refl
length-names_in (pair ∷ pairs) = ap suc (length-names_in pairs)

-- each that is told of is there
pub all-named : (store : Store Mapping) (pairs : List (Eid × Stay)) → All (IsLive store) (names_in pairs) → All (IsNamed store) pairs
all-named store [] each = All-nil (IsNamed store)
all-named store (pair ∷ pairs) each =
    All-cons (IsNamed store) pair pairs (All-head (IsLive store) pair.1.name (names_in pairs) each) (all-named store pairs (All-tail (IsLive store) pair.1.name (names_in pairs) each))

-- ### mappings that are kept so

module _ (store : Store Mapping) (pairs : List (Eid × Stay)) (is : IsFiled store pairs) where
  pub filed-same : length (names_in pairs) ≡ length (mappings_at store pairs)
  filed-same = sym (length-items_at store (names_in pairs) is.named.each)

  pub filed-length : length pairs ≡ length (mappings_at store pairs)
  filed-length = sym (length-names_in pairs) ∙ filed-same

  -- what stands where a name does is the node of that name
  pub filed-at : (index name : ℕ) (x : Mapping) → slice_get (names_in pairs) index ≡ Some name → slice_get (mappings_at store pairs) index ≡ Some x → node_at store name ≡ Some x
  filed-at index name x named there =
      sym (place-items_at store (names_in pairs) index name is.named.each named) ∙ there

  pub filed-told : (eid : Eid) (stay : Stay) → value_in eid pairs ≡ Some stay → IsTold (names_in pairs) (mappings_at store pairs) eid stay
  filed-told eid stay told =
      value-some (names_in pairs) (mappings_at store pairs) eid stay (ap (value_in eid) (sym is.stay) ∙ told)

  pub filed-none : (eid : Eid) → value_in eid pairs ≡ None → exact (mappings_at store pairs) eid ≡ None
  filed-none eid none =
      value-none (names_in pairs) (mappings_at store pairs) eid is.ascending filed-same (ap (value_in eid) (sym is.stay) ∙ none)

  -- something is told of an EID exactly where a mapping of it is
  pub filed-some : (eid : Eid) (told : Option (Bor Stay)) → option_copied told ≡ value_in eid pairs → is_some told ≡ is_some (exact (mappings_at store pairs) eid)
  filed-some eid told is = sym (some-copied told) ∙ ap is_some is ∙ by (value_in eid pairs) refl
    where
      by : (o : Option Stay) → value_in eid pairs ≡ o → is_some o ≡ is_some (exact (mappings_at store pairs) eid)
      by None none = ap is_some (sym (filed-none eid none))
      by (Some stay) told = ap is_some (sym (filed-told eid stay told).found)

  -- where there is none of an EID
  pub filed-absent : (eid : Eid) → is_some (exact (mappings_at store pairs) eid) ≡ false → IsAbsent eid (mappings_at store pairs) (place_in eid (mappings_at store pairs))
  filed-absent eid none =
      absent-if eid (mappings_at store pairs) (place_in eid (mappings_at store pairs)) is.ascending (is-place eid (mappings_at store pairs) is.ascending) none

  pub value-new : (eid : Eid) → is_some (exact (mappings_at store pairs) eid) ≡ false → value_in eid pairs ≡ None
  value-new eid none =
      ap (value_in eid) is.stay ∙ value-absent eid (names_in pairs) (mappings_at store pairs) _ (filed-absent eid none)

  -- where one is
  pub filed-there : (eid : Eid) (index : ℕ) (x : Mapping) → slice_get (mappings_at store pairs) index ≡ Some x → exact (mappings_at store pairs) eid ≡ Some x → IsThere eid (mappings_at store pairs) index
  filed-there eid index x there found =
      subst (λ e. IsThere e (mappings_at store pairs) index) (equal-same x.eid eid (exact-among eid (mappings_at store pairs) x found).1) (there-itself (mappings_at store pairs) index x is.ascending there)

-- ### one is put in

module _ (old new : Store Mapping) (pairs now : List (Eid × Stay)) (is : IsFiled old pairs) (name : ℕ) (x : Mapping) (none : is_some (exact (mappings_at old pairs) x.eid) ≡ false) (fresh : node_at old name ≡ None) (change : Changes old new name (Some x)) (told : now ≡ with_pair x.eid (stay_of name x).1 pairs) where
  abbrev place : ℕ
  place = place_in x.eid (mappings_at old pairs)

  absent : IsAbsent x.eid (mappings_at old pairs) place
  absent = filed-absent old pairs is x.eid none

  fits : place ≤ length (mappings_at old pairs)
  fits = (is-place x.eid (mappings_at old pairs) is.ascending).within

  now-stays : now ≡ all_stays (insert (names_in pairs) place name) (insert (mappings_at old pairs) place x)
  now-stays =
      told
      ∙ ap (with_pair x.eid (stay_of name x).1) is.stay
      ∙ sym (stay-insert name x (names_in pairs) (mappings_at old pairs) place (filed-same old pairs is) absent)

  now-names : names_in now ≡ insert (names_in pairs) place name
  now-names =
      let within = fits in
      let same = filed-same old pairs is in
      ap names_in now-stays
      ∙ names_in-all_stays (insert (names_in pairs) place name) (insert (mappings_at old pairs) place x) (omega (arith, length-insert (names_in pairs) place name (omega (arith, within, same)), length-insert (mappings_at old pairs) place x within, same))

  now-items : mappings_at new now ≡ insert (mappings_at old pairs) place x
  now-items =
      ap (items_at new) now-names ∙ items_insert old new (names_in pairs) place name x (length old.slots) is.named fresh change

  pub put-mappings : mappings_at new now ≡ put_in_order (λ item. item.eid) eid_order x (mappings_at old pairs)
  put-mappings = now-items ∙ insert-absent x (mappings_at old pairs) place absent

  pub put-filed : new.rooms + 1 ≡ old.rooms → length new.slots ≡ length old.slots → IsFiled new now
  put-filed rooms slots =
      let within = fits in
      let same = filed-same old pairs is in
      let made : IsNamedList new (insert (names_in pairs) place name) (length new.slots) = named_insert old new (names_in pairs) place name x (length old.slots) (length new.slots) is.named (omega (arith, within, same)) fresh change rooms slots (omega (arith, slots)) in
      record {
        named = subst (λ l. IsNamedList new l (length new.slots)) (sym now-names) made;
        ascending =
            subst IsAscending (ap (put_in_order (λ i. i.eid) eid_order x) (without-absent x.eid (mappings_at old pairs) place absent) ∙ sym put-mappings) (IsAscending-put x (mappings_at old pairs) is.ascending);
        stay = now-stays ∙ sym (ap₂ all_stays now-names now-items);
      }

-- ### one is taken away

module _ (old new : Store Mapping) (pairs now : List (Eid × Stay)) (is : IsFiled old pairs) (eid : Eid) (stay : Stay) (there : value_in eid pairs ≡ Some stay) (change : Changes old new stay.name None) (told : now ≡ without_pair eid pairs) where
  abbrev from : IsTold (names_in pairs) (mappings_at old pairs) eid stay
  from = filed-told old pairs is eid stay there

  at : IsThere eid (mappings_at old pairs) from.index
  at = filed-there old pairs is eid from.index from.item from.there from.found

  within-names : from.index < length (names_in pairs)
  within-names = slice_get_within (names_in pairs) from.index stay.name from.named

  read : stay.name ≡ get_or (names_in pairs) from.index stay.name
  read = sym (get_or_from_slice_get (names_in pairs) from.index stay.name stay.name from.named)

  gone-stays : now ≡ all_stays (remove (names_in pairs) from.index) (remove (mappings_at old pairs) from.index)
  gone-stays =
      told
      ∙ ap (without_pair eid) is.stay
      ∙ sym (stay-remove eid (names_in pairs) (mappings_at old pairs) from.index (filed-same old pairs is) at)

  gone-names : names_in now ≡ remove (names_in pairs) from.index
  gone-names =
      let same = filed-same old pairs is in
      let within = within-names in
      ap names_in gone-stays
      ∙ names_in-all_stays (remove (names_in pairs) from.index) (remove (mappings_at old pairs) from.index) (omega (arith, length-remove (names_in pairs) from.index within, length-remove (mappings_at old pairs) from.index (omega (arith, within, same)), same))

  gone-items : mappings_at new now ≡ remove (mappings_at old pairs) from.index
  gone-items =
      ap (items_at new) gone-names ∙ items_remove old new (names_in pairs) from.index stay.name (length old.slots) is.named within-names read change

  pub taken-mappings : mappings_at new now ≡ without_eid eid (mappings_at old pairs)
  taken-mappings = gone-items ∙ remove-there eid (mappings_at old pairs) from.index at

  pub taken-length : length (mappings_at new now) + 1 ≡ length (mappings_at old pairs)
  taken-length =
      let within = within-names in
      let same = filed-same old pairs is in
      omega (arith, ap length gone-items, length-remove (mappings_at old pairs) from.index (omega (arith, within, same)))

  pub taken-filed : new.rooms ≡ old.rooms + 1 → length new.slots ≡ length old.slots → IsFiled new now
  taken-filed rooms slots = record {
    named = subst (λ l. IsNamedList new l (length new.slots)) (sym gone-names) (named_remove old new (names_in pairs) from.index stay.name (length old.slots) (length new.slots) is.named within-names read change rooms slots slots);
    ascending = subst IsAscending (sym taken-mappings) (IsAscending-filter _ (mappings_at old pairs) is.ascending);
    stay = gone-stays ∙ sym (ap₂ all_stays gone-names gone-items);
  }

-- and where none is, nothing goes
pub missed-same : (store : Store Mapping) (pairs now : List (Eid × Stay)) → IsFiled store pairs → (eid : Eid) → value_in eid pairs ≡ None → now ≡ without_pair eid pairs → now ≡ pairs
missed-same store pairs now is eid none told =
    let gone : is_some (exact (mappings_at store pairs) eid) ≡ false = ap is_some (filed-none store pairs is eid none) in
    told
    ∙ ap (without_pair eid) is.stay
    ∙ without-absent-pair eid (names_in pairs) (mappings_at store pairs) _ (filed-absent store pairs is eid gone)
    ∙ sym is.stay

-- ### one is told of

module _ (store : Store Mapping) (pairs : List (Eid × Stay)) (is : IsFiled store pairs) (eid : Eid) (stay : Stay) (there : value_in eid pairs ≡ Some stay) (bits width : ℕ) (x : Mapping) (found : node_at store stay.name ≡ Some x) where
  abbrev told_at : IsTold (names_in pairs) (mappings_at store pairs) eid stay
  told_at = filed-told store pairs is eid stay there

  told-is : slice_get (mappings_at store pairs) told_at.index ≡ Some x
  told-is = place-items_at store (names_in pairs) told_at.index stay.name is.named.each told_at.named ∙ found

  told-within : told_at.index < length (names_in pairs)
  told-within = slice_get_within (names_in pairs) told_at.index stay.name told_at.named

  told-read : stay.name ≡ get_or (names_in pairs) told_at.index stay.name
  told-read = sym (get_or_from_slice_get (names_in pairs) told_at.index stay.name stay.name told_at.named)

  pub told-mappings : mappings_at (with_node store stay.name (with_bits bits width x)) pairs ≡ bits_told eid bits width (mappings_at store pairs)
  told-mappings =
      ap (λ l. l.items) (named_of-with_node store (names_in pairs) told_at.index stay.name (with_bits bits width x) (length store.slots) is.named told-within told-read)
      ∙ told-there eid bits width (mappings_at store pairs) told_at.index x (filed-there store pairs is eid told_at.index told_at.item told_at.there told_at.found) told-is

  pub told-filed : IsFiled (with_node store stay.name (with_bits bits width x)) pairs
  told-filed =
      let slots = length-set store.slots stay.name (Some (with_bits bits width x)) in
      record {
        named = subst (λ n. IsNamedList (with_node store stay.name (with_bits bits width x)) (names_in pairs) n) (sym slots) (named_edit store (names_in pairs) told_at.index stay.name (with_bits bits width x) (length store.slots) is.named told-within told-read);
        ascending = subst IsAscending (sym told-mappings) (IsAscending-told eid bits width (mappings_at store pairs) is.ascending);
        stay =
            is.stay
            ∙ sym (all_stays-told eid bits width (names_in pairs) (mappings_at store pairs))
            ∙ ap (all_stays (names_in pairs)) (sym told-mappings);
      }

-- where there is none, nothing is told
pub told-none : (store : Store Mapping) (pairs : List (Eid × Stay)) → IsFiled store pairs → (eid : Eid) (bits width : ℕ) → value_in eid pairs ≡ None → mappings_at store pairs ≡ bits_told eid bits width (mappings_at store pairs)
told-none store pairs is eid bits width none =
    told-absent eid bits width (mappings_at store pairs) _ (filed-absent store pairs is eid (ap is_some (filed-none store pairs is eid none)))

-- ### room is made

pub reserved-mappings : (old new : Store Mapping) (pairs : List (Eid × Stay)) → IsFiled old pairs → SameNodes old new → mappings_at new pairs ≡ mappings_at old pairs
reserved-mappings old new pairs is same = items_at-same old new (names_in pairs) (λ k d less. same (get_or (names_in pairs) k d))

pub reserved-filed : (old new : Store Mapping) (pairs : List (Eid × Stay)) → IsFiled old pairs → SameNodes old new → length new.slots ≡ length (names_in pairs) + new.rooms → IsFiled new pairs
reserved-filed old new pairs is same all =
    let items = reserved-mappings old new pairs is same in
    record {
      named = named_same old new (names_in pairs) (length old.slots) (length new.slots) is.named same all (omega (arith, all));
      ascending = subst IsAscending (sym items) is.ascending;
      stay = is.stay ∙ ap (all_stays (names_in pairs)) (sym items);
    }
