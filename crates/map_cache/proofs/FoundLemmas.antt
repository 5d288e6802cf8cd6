-- What a trie tells of mappings in a list.
use Rattle.std.proofs.Common.{◌≡◌, ℕ, zero, suc, ◌<◌, List, [], ◌∷◌, length, get_or, slice_get, All, Contains, Some, inl, inr, refl, sym, ap, ◌∙◌, arith}
use Rattle.std.proofs.lemmas.List.Elements.{All-head, All-tail}
use Rattle.mapping_records.specs.declared.eid.Eid.{Eid}
use Rattle.map_cache.specs.Indexed.{all_stays, stay_of}
use Rattle.map_cache.specs.declared.stay.Stay.{Stay}
use Rattle.map_cache.specs.declared.mapping.Mapping.{Mapping}
use Rattle.map_cache.proofs.AmongLemmas.{Among}

-- a pair that is told, and the mapping of which it is
pub record StayAt (names : List ℕ) (items : List Mapping) (pair : Eid × Stay) : Type 0 where
  pub index : ℕ
  pub item : Mapping
  pub named : slice_get names index ≡ Some pair.1.name
  pub there : slice_get items index ≡ Some item
  pub is : stay_of pair.1.name item ≡ pair

stay-index : (names : List ℕ) (items : List Mapping) (k : ℕ) (pair : Eid × Stay) → k < length (all_stays names items) → get_or (all_stays names items) k pair ≡ pair → StayAt names items pair
stay-index [] items k pair within is = absurd (omega (arith, within))
stay-index (name ∷ names) [] k pair within is = absurd (omega (arith, within))
stay-index (name ∷ names) (x ∷ items) zero pair within is =
    let same : name ≡ pair.1.name = ap (λ (p : Eid × Stay). p.1.name) is in
    record { index = 0; item = x; named = ap (λ n. Some n) same; there = refl; is = ap (λ n. stay_of n x) (sym same) ∙ is }
stay-index (name ∷ names) (x ∷ items) (suc k) pair within is =
    let rest = stay-index names items k pair (omega (arith, within)) is in
    record { index = suc rest.index; item = rest.item; named = rest.named; there = rest.there; is = rest.is }

-- a pair that is among them is told of a mapping
pub stay-at : (names : List ℕ) (items : List Mapping) (pair : Eid × Stay) → Contains (all_stays names items) pair → StayAt names items pair
stay-at names items pair there = stay-index names items there.0 pair there.1 there.2

-- what holds of all that is told holds of what is told of each mapping
pub stay-each : (P : Eid × Stay → Type 0) (names : List ℕ) (items : List Mapping) (x : Mapping) → length names ≡ length items → All P (all_stays names items) → Among x items → (name : ℕ) × P (stay_of name x)
stay-each P names [] x len all among = absurd among
stay-each P [] (y ∷ items) x len all among = absurd (omega (arith, len))
stay-each P (name ∷ names) (y ∷ items) x len all among = elim among [
  | inl same ↦ (name, rw (← same) (All-head P (stay_of name y) (all_stays names items) all))
  | inr later ↦ stay-each P names items x (omega (arith, len)) (All-tail P (stay_of name y) (all_stays names items) all) later
]
