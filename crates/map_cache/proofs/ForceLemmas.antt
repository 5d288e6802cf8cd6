-- The mapping in force is the longest that lasts and covers.
use Rattle.std.proofs.Common.{◌≡◌, ℕ, ◌<◌, ◌≤◌, ◌^◌, nat_lt, Bool, true, false, List, length, All, IsFalse, Option, None, Some, IfSome, Equal, inl, inr, refl, sym, ap, subst, ◌∙◌, arith, ltb-true, ltb-false}
use Rattle.std.proofs.lemmas.Bool.{cases_Bool, false≢true}
use Rattle.std.proofs.lemmas.Cmp.{tied_itself}
use Rattle.mapping_records.proofs.LongestLemmas.{longest-none, longest_is}
use Rattle.mapping_records.proofs.OrderLemmas.{eid_order-total}
use Rattle.mapping_records.specs.Eids.{covers_eid, IsLongest, IsNoLonger}
use Rattle.mapping_records.specs.Orders.{eid_order}
use Rattle.mapping_records.specs.declared.eid.Eid.{Eid}
use Rattle.prefix_table.proofs.Bits.{Covers, covers_parts}
use Rattle.prefix_table.proofs.PutLemmas.{same_key}
use Rattle.prefix_table.specs.Keys.{key_bits, key_len}
use Rattle.prefix_table.specs.Longest.{IsLongestWhere, IsRefused}
use Rattle.map_cache.specs.Cache.{in_force, lasting, lasts}
use Rattle.map_cache.specs.Indexed.{all_stays, stay_lasts, stay_of}
use Rattle.map_cache.specs.Lists.{IsAscending}
use Rattle.map_cache.specs.declared.stay.Stay.{Stay}
use Rattle.map_cache.specs.declared.mapping.Mapping.{Mapping}
use Rattle.map_cache.proofs.AmongLemmas.{Among, all-among, among-all, among-contains, among-filter, among-place, filter-among, one-among}
use Rattle.map_cache.proofs.AscendingLemmas.{IsAscending-filter}
use Rattle.map_cache.proofs.FoundLemmas.{StayAt, stay-each}
use Rattle.map_cache.proofs.StayLemmas.{stay-lasts}

-- two EIDs of one length that cover a third are the same
same_covering : (a b eid : Eid) → covers_eid a eid ≡ true → covers_eid b eid ≡ true → a.prefix.len ≡ b.prefix.len → a ≡ b
same_covering a b eid first second len =
    let c = covers_parts a eid first in
    let d = covers_parts b eid second in
    let both : Covers a b = record {
      same_iid = c.same_iid ∙ sym d.same_iid;
      same_width = c.same_width ∙ sym d.same_width;
      shorter = omega (arith, len);
      front = c.front ∙ ap (key_bits eid) len ∙ sym d.front ∙ ap (key_bits b) (sym len);
    } in
    same_key a b both len

-- where one of mappings in order covers, and none that does is longer, it is in force
force-longest : (eid : Eid) (items : List Mapping) (x : Mapping) → IsAscending items → Among x items → covers_eid x.eid eid ≡ true → ((y : Mapping) → Among y items → covers_eid y.eid eid ≡ true → y.eid.prefix.len ≤ x.eid.prefix.len) → in_force items eid ≡ Some x
force-longest eid items x ascending among covers longest = by (in_force items eid) refl
  where
    key : Mapping → Eid
    key mapping = mapping.eid

    by : (o : Option Mapping) → in_force items eid ≡ o → o ≡ Some x
    by None is =
        let none = (longest-none key items eid.iid eid.prefix.addr eid.prefix.len).0 is in
        absurd (false≢true (sym (among-all (λ item. IsFalse (covers_eid item.eid eid)) items x none among) ∙ covers))
    by (Some best) is =
        let best_is : IsLongest key items eid.iid eid.prefix.addr eid.prefix.len best = subst (λ (o : Option Mapping). IfSome o (IsLongest key items eid.iid eid.prefix.addr eid.prefix.len)) is (longest_is key items eid.iid eid.prefix.addr eid.prefix.len) in
        let best_among = among-contains items best best_is.one in
        let from : x.eid.prefix.len ≤ best.eid.prefix.len = among-all (IsNoLonger key eid.iid eid.prefix.addr eid.prefix.len best) items x best_is.none_longer among covers in
        let upto = longest best best_among best_is.covering in
        let same = same_covering best.eid x.eid eid best_is.covering covers (omega (arith, from, upto)) in
        let ties : eid_order best.eid x.eid ≡ Equal = ap (λ e. eid_order e x.eid) same ∙ tied_itself eid_order-total x.eid in
        ap (λ b. Some b) (one-among items best x ascending best_among among ties)

-- what a refused pair tells of its mapping
refused : (answers : Stay → Bool → Type 0) (m : ℕ) (eid : Eid) (x : Mapping) (name : ℕ) → m < 2 ^ 64 → ((stay : Stay) → answers stay false → stay_lasts m stay ≡ false) → IsRefused answers eid (stay_of name x) → lasts m x ≡ true → covers_eid x.eid eid ≡ true → ⊥
refused answers m eid x name within says is last covers = false≢true (sym (says (stay_of name x).1 (is covers)) ∙ stay-lasts m name x within ∙ last)

-- where all pairs that cover have ended, nothing is in force
pub force-none : (m : ℕ) (eid : Eid) (names : List ℕ) (items : List Mapping) → m < 2 ^ 64 → length names ≡ length items → All (IsRefused (λ stay b. stay_lasts m stay ≡ b) eid) (all_stays names items) → None ≡ in_force (lasting m items) eid
force-none m eid names items within len all =
    sym ((longest-none (λ (mapping : Mapping). mapping.eid) (lasting m items) eid.iid eid.prefix.addr eid.prefix.len).1 (all-among (λ item. IsFalse (covers_eid item.eid eid)) (lasting m items) each))
  where
    each : (x : Mapping) → Among x (lasting m items) → covers_eid x.eid eid ≡ false
    each x among =
        let left = filter-among (lasts m) items x among in
        let told = stay-each (IsRefused (λ stay b. stay_lasts m stay ≡ b) eid) names items x len all left.0 in
        elim (cases_Bool (covers_eid x.eid eid)) [
          | inl covers ↦ absurd (refused (λ stay b. stay_lasts m stay ≡ b) m eid x told.0 within (λ stay is. is) told.1 left.1 covers)
          | inr apart ↦ apart
        ]

-- the mapping of the longest pair that passes is in force
pub force-some : (answers : Stay → Bool → Type 0) (m : ℕ) (eid : Eid) (names : List ℕ) (items : List Mapping) (pair : Eid × Stay) → m < 2 ^ 64 → IsLongestWhere answers eid (all_stays names items) pair → (at : StayAt names items pair) → IsAscending items → length names ≡ length items → ((stay : Stay) (b : Bool) → answers stay b → stay_lasts m stay ≡ b) → in_force (lasting m items) eid ≡ Some at.item
force-some answers m eid names items pair within found at ascending len says =
    force-longest eid (lasting m items) x (IsAscending-filter (lasts m) items ascending) among covers longest
  where
    x : Mapping
    x = at.item

    key_is : x.eid ≡ pair.0
    key_is = ap (λ (p : Eid × Stay). p.0) at.is

    last : lasts m x ≡ true
    last = sym (stay-lasts m pair.1.name x within) ∙ ap (λ (p : Eid × Stay). stay_lasts m p.1) at.is ∙ says pair.1 true found.passes

    covers : covers_eid x.eid eid ≡ true
    covers = ap (λ e. covers_eid e eid) key_is ∙ found.covers

    among : Among x (lasting m items)
    among = among-filter (lasts m) items x last (among-place items at.index x at.there)

    longest : (y : Mapping) → Among y (lasting m items) → covers_eid y.eid eid ≡ true → y.eid.prefix.len ≤ x.eid.prefix.len
    longest y in_list y_covers =
        let left = filter-among (lasts m) items y in_list in
        let told = stay-each (λ other. key_len pair.0 < key_len other.0 → IsRefused answers eid other) names items y len found.longest left.0 in
        elim (cases_Bool (nat_lt (key_len pair.0) (key_len y.eid))) [
          | inl longer ↦ absurd (refused answers m eid y told.0 within (λ stay. says stay false) (told.1 (ltb-true _ _ longer)) left.1 y_covers)
          | inr short ↦ omega (arith, ltb-false (key_len pair.0) (key_len y.eid) short, ap key_len key_is)
        ]
