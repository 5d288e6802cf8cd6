-- What is known of turns by mappings is known of the names at a moment, and back.
use Rattle.std.proofs.Common.{◌≡◌, ◌≤◌, ◌&&◌, ◌||◌, ◌++◌, ℕ, Bool, true, false, cond, nat_lt, not, List, [], ◌∷◌, filter, map, All, None, refl, sym, ap, ◌∙◌, arith}
use Rattle.std.proofs.lemmas.Bool.{and_from, and_parts, lt-ltb, ltb-true}
use Rattle.std.proofs.lemmas.List.Elements.{All-append, All-cons, All-head, All-nil, All-tail}
use Rattle.std.specs.List.{list_all}
use Rattle.ip_headers.specs.declared.addr.Addr.{Addr}
use Rattle.lisp_settings.specs.declared.settings.OwnLocator.{OwnLocator}
use Rattle.map_cache.specs.Cache.{lasting, lasts}
use Rattle.map_cache.specs.Named.{is_named, named_above, named_by}
use Rattle.map_cache.specs.declared.mapping.Mapping.{Mapping}
use Rattle.mapping_records.specs.declared.eid.Eid.{Eid}
use Rattle.mapping_records.specs.declared.record.Locator.{Locator}
use Rattle.router_log.specs.declared.kept.Probe.{Probe}
use Rattle.router_model.specs.Tick.{may_take}
use Rattle.router_core.specs.Turning.{AreTurned, SuitNames, names_at, suits_address, suits_all, suits_locator, suits_mapping}
use Rattle.router_core.specs.declared.turns.Turns.{Turns}

-- a locator's address, with an EID
abbrev pub name_in : Eid → Locator → Addr × Eid
name_in eid locator = (locator.addr, eid)

-- a mapping that lasts at a moment does so at an earlier one
lasts-before : (n m : ℕ) (mapping : Mapping) → n ≤ m → lasts m mapping ≡ true → lasts n mapping ≡ true
lasts-before n m mapping before last = by mapping.fixed last
  where
    by : (b : Bool) → (b || nat_lt m mapping.end) ≡ true → (b || nat_lt n mapping.end) ≡ true
    by true is = refl
    by false is = let less = ltb-true m mapping.end is in lt-ltb n mapping.end (omega (arith, before, less))

module _ (own : List OwnLocator) (turns : Turns) (probes : List Probe) where
  -- what is known holds of a name
  abbrev SuitsName : Addr × Eid → Type 0
  SuitsName name = suits_address own turns probes name.0 ≡ true

  locators-suit : (eid : Eid) (locators : List Locator) → suits_all own turns probes locators ≡ true → All SuitsName (map (name_in eid) (filter (is_named None) locators))
  locators-suit eid [] known = All-nil SuitsName
  locators-suit eid (locator ∷ others) known =
      by (may_take locator) (and_parts (suits_locator own turns probes locator) (suits_all own turns probes others) known).0
      (locators-suit eid others (and_parts (suits_locator own turns probes locator) (suits_all own turns probes others) known).1)
    where
      by : (b : Bool) → (not b || suits_address own turns probes locator.addr) ≡ true → All SuitsName (map (name_in eid) (filter (is_named None) others))
          → All SuitsName (map (name_in eid) (cond (b && true) (locator ∷ filter (is_named None) others) (filter (is_named None) others)))
      by true is rest = All-cons SuitsName (name_in eid locator) (map (name_in eid) (filter (is_named None) others)) is rest
      by false is rest = rest

  -- what is known of mappings holds of the names at a moment that isn't earlier
  pub names-suit : (mappings : List Mapping) (m : ℕ) → turns.walked ≤ m → AreTurned own turns probes mappings → SuitNames own turns probes (names_at m mappings)
  names-suit [] m after known = All-nil SuitsName
  names-suit (mapping ∷ others) m after known =
      by (lasts m mapping) refl (and_parts (suits_mapping own turns probes mapping) (list_all (suits_mapping own turns probes) others) known).0
      (names-suit others m after (and_parts (suits_mapping own turns probes mapping) (list_all (suits_mapping own turns probes) others) known).1)
    where
      by : (b : Bool) → lasts m mapping ≡ b → suits_mapping own turns probes mapping ≡ true → All SuitsName (names_at m others) → All SuitsName (named_above None (cond b (mapping ∷ lasting m others) (lasting m others)))
      by true last is rest =
          All-append SuitsName (named_by None mapping) (names_at m others)
          (locators-suit mapping.eid mapping.details.locators
          (sym (ap (λ (b : Bool). not b || suits_all own turns probes mapping.details.locators) (lasts-before turns.walked m mapping after last)) ∙ is))
          rest
      by false last is rest = rest

  suit-locators : (eid : Eid) (locators : List Locator) (more : List (Addr × Eid)) → All SuitsName (map (name_in eid) (filter (is_named None) locators) ++ more) → (suits_all own turns probes locators ≡ true) × All SuitsName more
  suit-locators eid [] more known = (refl, known)
  suit-locators eid (locator ∷ others) more known = by (may_take locator) known (suit-locators eid others more)
    where
      left : List (Addr × Eid)
      left = map (name_in eid) (filter (is_named None) others)

      by : (b : Bool) → All SuitsName (map (name_in eid) (cond (b && true) (locator ∷ filter (is_named None) others) (filter (is_named None) others)) ++ more)
          → (All SuitsName (left ++ more) → (suits_all own turns probes others ≡ true) × All SuitsName more)
          → (((not b || suits_address own turns probes locator.addr) && suits_all own turns probes others) ≡ true) × All SuitsName more
      by true all rest =
          let others_suit = rest (All-tail SuitsName (name_in eid locator) (left ++ more) all) in
          (and_from (suits_address own turns probes locator.addr) (suits_all own turns probes others) (All-head SuitsName (name_in eid locator) (left ++ more) all) others_suit.0, others_suit.1)
      by false all rest = rest all

  -- what is known of the names at its moment is known of mappings
  pub suit-names : (mappings : List Mapping) → SuitNames own turns probes (names_at turns.walked mappings) → AreTurned own turns probes mappings
  suit-names [] known = refl
  suit-names (mapping ∷ others) known = by (lasts turns.walked mapping) known (suit-names others)
    where
      by : (b : Bool) → All SuitsName (named_above None (cond b (mapping ∷ lasting turns.walked others) (lasting turns.walked others)))
          → (All SuitsName (names_at turns.walked others) → list_all (suits_mapping own turns probes) others ≡ true)
          → ((not b || suits_all own turns probes mapping.details.locators) && list_all (suits_mapping own turns probes) others) ≡ true
      by true all rest =
          let parts = suit-locators mapping.eid mapping.details.locators (names_at turns.walked others) all in
          and_from (suits_all own turns probes mapping.details.locators) (list_all (suits_mapping own turns probes) others) parts.0 (rest parts.1)
      by false all rest = rest all
