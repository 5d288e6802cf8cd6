-- What a store has under any name is one of its mappings in order.
use Rattle.std.proofs.Common.{◌≡◌, ◌≢◌, ℕ, zero, suc, ◌+◌, ◌<◌, ◌≤◌, ◌==◌, true, List, [], ◌∷◌, length, count_by, get_or, set, All, Option, None, Some, is_some, inl, inr, refl, sym, ap, subst, ◌∙◌, arith}
use Rattle.std.proofs.lemmas.Bool.{cases_Bool, eq-eqb, eqb-true}
use Rattle.std.proofs.lemmas.List.{get_or-set_other}
use Rattle.std.proofs.lemmas.List.Elements.{All-cons, All-head, All-tail}
use Rattle.std.proofs.lemmas.List.Sums.{sum_by-set}
use Rattle.std.proofs.lemmas.Option.{same_Some}
use Rattle.node_store.specs.Store.{Store, live, node_at, IsLive}
use Rattle.node_store.proofs.SlotLemmas.{live_within}
use Rattle.named_list.specs.Named.{items_at, times, IsNamedList}
use Rattle.named_list.proofs.ItemsLemmas.{items_at-more, live_some}
use Rattle.named_list.proofs.NamesLemmas.{one_if, times-more, times_none}
use Rattle.mapping_records.specs.Eids.{same_eid}
use Rattle.mapping_records.specs.declared.eid.Eid.{Eid}
use Rattle.map_cache.specs.Cache.{exact, lasting, lasts}
use Rattle.map_cache.specs.Filed.{mappings_at, names_in, IsFiled}
use Rattle.map_cache.specs.declared.mapping.Mapping.{Mapping}
use Rattle.map_cache.specs.declared.stay.Stay.{Stay}
use Rattle.map_cache.proofs.AmongLemmas.{Among}
use Rattle.map_cache.proofs.ExactLemmas.{exact-one, lasting-some}

-- where none of the names stands twice, none does once there is a new one
once-more : (name : ℕ) (names : List ℕ) → times name names ≡ 0 → ((n : ℕ) → times n names ≤ 1) → (n : ℕ) → times n (name ∷ names) ≤ 1
once-more name names none once n = elim (cases_Bool (name == n)) [
  | inl same ↦ omega (arith, times-more n name names, ap one_if same, none, ap (λ other. times other names) (eqb-true name n same))
  | inr differ ↦ omega (arith, times-more n name names, ap one_if differ, once n)
]

module _ {T : Type 0} where
  -- names that have nodes, none of them twice, are no more than the nodes
  few-live : (slots : List (Option T)) (names : List ℕ) → All (λ name. is_some (get_or slots name None) ≡ true) names → ((name : ℕ) → times name names ≤ 1) → length names ≤ count_by is_some slots
  few-live slots [] each once = omega arith
  few-live slots (name ∷ names) each once =
      let here : is_some (get_or slots name None) ≡ true = All-head (λ n. is_some (get_or slots n None) ≡ true) name names each in
      let rest : All (λ n. is_some (get_or slots n None) ≡ true) names = All-tail (λ n. is_some (get_or slots n None) ≡ true) name names each in
      let one : one_if (name == name) ≡ 1 = ap one_if (eq-eqb name name refl) in
      let others : All (λ n. n ≢ name) names = times_none name names (omega (arith, once name, times-more name name names, one)) in
      let fewer = few-live (set slots name None) names (λ k d less. ap (λ (o : Option T). is_some o) (get_or-set_other slots name (get_or names k d) None None (others k d less)) ∙ rest k d less) (λ n. omega (arith, once n, times-more n name names)) in
      let less = sum_by-set (λ (o : Option T). one_if (is_some o)) slots name None None (live_within slots name here) in
      let one_less = ap one_if here in
      omega (arith, fewer, less, one_less)

  -- the node of a name in the list is one of the items
  named-among : (store : Store T) (names : List ℕ) (name : ℕ) (x : T) → All (IsLive store) names → node_at store name ≡ Some x → 0 < times name names → Among x (items_at store names)
  named-among store [] name x each is there = absurd (omega (arith, there))
  named-among store (first ∷ names) name x each is there =
      let node = live_some (node_at store first) (All-head (IsLive store) first names each) in
      subst (Among x) (sym (items_at-more store first names node.0 node.1)) (elim (cases_Bool (first == name)) [
        | inl same ↦ inl (same_Some node.0 x (sym node.1 ∙ ap (node_at store) (eqb-true first name same) ∙ is))
        | inr differ ↦ inr (named-among store names name x (All-tail (IsLive store) first names each) is (omega (arith, there, times-more name first names, ap one_if differ)))
      ])

  -- where there are as many nodes as names, the node of any name is one of the items
  live-among : (store : Store T) (names : List ℕ) (capacity name : ℕ) (x : T) → IsNamedList store names capacity → length store.slots ≡ live store + store.rooms → node_at store name ≡ Some x → Among x (items_at store names)
  live-among store names capacity name x named all is = by (times name names) refl
    where
      by : (n : ℕ) → times name names ≡ n → Among x (items_at store names)
      by zero none =
          let each : All (IsLive store) (name ∷ names) = All-cons (IsLive store) name names (ap (λ (o : Option T). is_some o) is) named.each in
          let few = few-live store.slots (name ∷ names) each (once-more name names none named.once) in
          absurd (omega (arith, few, all, named.all))
      by (suc n) some = named-among store names name x named.each is (omega (arith, some))

-- a mapping under any name, if it is of that EID and lasts, is the one of its EID that lasts
pub live-lasting : (m : ℕ) (eid : Eid) (store : Store Mapping) (pairs : List (Eid × Stay)) → IsFiled store pairs → length store.slots ≡ live store + store.rooms → (name : ℕ) (x : Mapping) → node_at store name ≡ Some x → same_eid x.eid eid ≡ true → lasts m x ≡ true → exact (lasting m (mappings_at store pairs)) eid ≡ Some x
live-lasting m eid store pairs filed all name x is same last =
    let among : Among x (mappings_at store pairs) = live-among store (names_in pairs) (length store.slots) name x filed.named all is in
    lasting-some m eid (mappings_at store pairs) x filed.ascending (exact-one eid (mappings_at store pairs) x filed.ascending among same) last
