-- The locators that may be probed at a moment, by the names of the mappings that last then.
use Rattle.std.proofs.Common.{◌≡◌, ◌≤◌, ◌&&◌, ℕ, Bool, true, false, cond, List, [], ◌∷◌, ◌++◌, filter, find, flat_map, get_or, map, Some, None, refl, sym, ap, ap₂, ◌∙◌}
use Rattle.std.proofs.lemmas.Bool.{false≢true}
use Rattle.std.proofs.lemmas.List.{map-append}
use Rattle.std.proofs.lemmas.List.Elements.{All-filter, All-map, All-same, All-weaker, filter_passes}
use Rattle.std.proofs.lemmas.List.Folds.{list_any_at}
use Rattle.std.proofs.lemmas.Option.{same_Some}
use Rattle.std.specs.List.{All, list_any}
use Rattle.std.specs.Prelude.{is_some, not}
use Rattle.ip_headers.specs.declared.addr.Addr.{Addr}
use Rattle.lisp_settings.specs.declared.settings.Settings.{Settings}
use Rattle.locator_state.specs.Probes.{last_probe}
use Rattle.locator_state.specs.Turns.{has_rested}
use Rattle.locator_state.specs.declared.target.Target.{Target}
use Rattle.map_cache.specs.Cache.{lasting}
use Rattle.map_cache.specs.Named.{is_named, named_above, named_by}
use Rattle.map_cache.specs.declared.mapping.Mapping.{Mapping}
use Rattle.mapping_records.specs.Eids.{same_address}
use Rattle.mapping_records.specs.declared.eid.Eid.{Eid}
use Rattle.mapping_records.specs.declared.record.Locator.{Locator}
use Rattle.router_log.specs.declared.kept.Probe.{Probe}
use Rattle.router_model.proofs.StandingLemmas.{same-address}
use Rattle.router_model.specs.Cache.{held_of}
use Rattle.router_model.specs.Parts.{Parts, view_at, view_in}
use Rattle.router_model.specs.Site.{is_own, ours}
use Rattle.router_model.specs.Tick.{is_probed, is_told, may_take, target_of, targets, targets_of}
use Rattle.router_core.specs.Turning.{eligible, has_address, names_at}
use Rattle.router_core.proofs.ChangeLemmas.{later}

-- a name as a target of probes, with the last probe of its address
abbrev target_at : ℕ → List Probe → Addr × Eid → Target
target_at m probes name = record { rloc = name.0; eid = name.1; last = last_probe m probes name.0 }

-- ### targets are names

locators-named : (p : Parts) (m : ℕ) (eid : Eid) (locators : List Locator) → map (target_of (view_at p m) eid) (filter may_take locators) ≡ map (target_at m p.observed.probes) (map (λ (locator : Locator). (locator.addr, eid)) (filter (is_named None) locators))
locators-named p m eid [] = refl
locators-named p m eid (locator ∷ others) = by (may_take locator) (locators-named p m eid others)
  where
    name_in : Locator → Addr × Eid
    name_in locator = (locator.addr, eid)

    by : (b : Bool) → map (target_of (view_at p m) eid) (filter may_take others) ≡ map (target_at m p.observed.probes) (map name_in (filter (is_named None) others))
        → map (target_of (view_at p m) eid) (cond b (locator ∷ filter may_take others) (filter may_take others))
        ≡ map (target_at m p.observed.probes) (map name_in (cond (b && true) (locator ∷ filter (is_named None) others) (filter (is_named None) others)))
    by true rest = ap (λ (l : List Target). target_at m p.observed.probes (name_in locator) ∷ l) rest
    by false rest = rest

mappings-named : (p : Parts) (m : ℕ) (mappings : List Mapping) → flat_map (targets_of (view_at p m)) (map held_of mappings) ≡ map (target_at m p.observed.probes) (named_above None mappings)
mappings-named p m [] = refl
mappings-named p m (mapping ∷ others) =
    ap₂ (λ (a b : List Target). a ++ b) (locators-named p m mapping.eid mapping.details.locators) (mappings-named p m others)
    ∙ sym (map-append (target_at m p.observed.probes) (named_by None mapping) (named_above None others))

eligible-names : (settings : Settings) (p : Parts) (m : ℕ) → p.now ≤ m → eligible settings p m ≡ filter (is_probed settings m) (map (target_at m p.observed.probes) (names_at m p.mappings))
unfolding view_in
eligible-names settings p m after =
    ap (λ (t : ℕ). filter (is_probed settings t) (targets (view_at p t))) (later m p.now after)
    ∙ ap (filter (is_probed settings m)) (mappings-named p m (lasting m p.mappings))

-- ### whether a target may be probed

module _ (settings : Settings) (m : ℕ) (x : Target) where
  told-rested : is_probed settings m x ≡ true → (is_told settings x.rloc ≡ true) × (has_rested m x.last ≡ true)
  told-rested is = by (not (is_own settings.locators x.rloc)) (is_some (ours settings.locators x.rloc)) (has_rested m x.last) is
    where
      by : (a b c : Bool) → (a && (b && c)) ≡ true → ((a && b) ≡ true) × (c ≡ true)
      by true true c so = (refl, so)
      by true false c so = absurd (false≢true so)
      by false b c so = absurd (false≢true so)

  probed-told : is_told settings x.rloc ≡ true → has_rested m x.last ≡ true → is_probed settings m x ≡ true
  probed-told told rested = by (not (is_own settings.locators x.rloc)) (is_some (ours settings.locators x.rloc)) (has_rested m x.last) told rested
    where
      by : (a b c : Bool) → (a && b) ≡ true → c ≡ true → (a && (b && c)) ≡ true
      by true true c so last = last
      by true false c so last = absurd (false≢true so)
      by false b c so last = absurd (false≢true so)

-- ### the first name of an address

module _ (settings : Settings) (m : ℕ) (probes : List Probe) (rloc : Addr) (eid : Eid) (probed : is_probed settings m (target_at m probes (rloc, eid)) ≡ true) where
  abbrev left : List (Addr × Eid) → List Target
  left names = filter (is_probed settings m) (map (target_at m probes) names)

  found-left : (names : List (Addr × Eid)) → find (λ name. same_address rloc name.0) names ≡ Some (rloc, eid) → find (has_address rloc) (left names) ≡ Some (target_at m probes (rloc, eid))
  found-left [] is = absurd (cc is)
  found-left (name ∷ others) is = by (same_address rloc name.0) refl is (found-left others)
    where
      target : Target
      target = target_at m probes name

      by : (b : Bool) → same_address rloc name.0 ≡ b → cond b (Some name) (find (λ name. same_address rloc name.0) others) ≡ Some (rloc, eid)
          → (find (λ name. same_address rloc name.0) others ≡ Some (rloc, eid) → find (has_address rloc) (left others) ≡ Some (target_at m probes (rloc, eid)))
          → find (has_address rloc) (left (name ∷ others)) ≡ Some (target_at m probes (rloc, eid))
      by true same is rest =
          let here : name ≡ (rloc, eid) = same_Some name (rloc, eid) is in
          ap (λ (b : Bool). find (has_address rloc) (cond b (target ∷ left others) (left others))) (ap (λ (n : Addr × Eid). is_probed settings m (target_at m probes n)) here ∙ probed)
          ∙ ap (λ (b : Bool). cond b (Some target) (find (has_address rloc) (left others))) same
          ∙ ap (λ (n : Addr × Eid). Some (target_at m probes n)) here
      by false apart is rest = behind (is_probed settings m target)
        where
          behind : (c : Bool) → find (has_address rloc) (cond c (target ∷ left others) (left others)) ≡ Some (target_at m probes (rloc, eid))
          behind true = ap (λ (b : Bool). cond b (Some target) (find (has_address rloc) (left others))) apart ∙ rest is
          behind false = rest is

-- ### all that may be probed

module _ (settings : Settings) (p : Parts) (m : ℕ) (after : p.now ≤ m) where
  -- what holds of names as targets, where they may be probed, holds of all that may be probed
  all-eligible : (P : Target → Type 0) → All P (filter (is_probed settings m) (map (target_at m p.observed.probes) (names_at m p.mappings))) → All P (eligible settings p m)
  all-eligible P = All-same P (eligible settings p m) _ (eligible-names settings p m after)

  all-probed : (P : Target → Type 0) → ((x : Target) → is_probed settings m x ≡ true → P x) → All P (eligible settings p m)
  all-probed P gives =
      all-eligible P
      (All-weaker (λ x. is_probed settings m x ≡ true) P gives (filter (is_probed settings m) (map (target_at m p.observed.probes) (names_at m p.mappings)))
      (filter_passes (is_probed settings m) (map (target_at m p.observed.probes) (names_at m p.mappings))))

  all-names : (P : Target → Type 0) → All (λ name. P (target_at m p.observed.probes name)) (names_at m p.mappings) → All P (eligible settings p m)
  all-names P all =
      all-eligible P
      (All-filter (is_probed settings m) P (map (target_at m p.observed.probes) (names_at m p.mappings))
      (All-map P (target_at m p.observed.probes) (names_at m p.mappings) all))

  -- a mapping names its address
  pub eligible-named : All (λ x. list_any (λ name. same_address x.rloc name.0) (names_at m p.mappings) ≡ true) (eligible settings p m)
  eligible-named =
      all-names (λ x. list_any (λ name. same_address x.rloc name.0) (names_at m p.mappings) ≡ true)
      (λ k d within. list_any_at (λ (name : Addr × Eid). same_address (get_or (names_at m p.mappings) k d).0 name.0) (names_at m p.mappings) k d within (same-address (get_or (names_at m p.mappings) k d).0))

  -- it may get an SMR
  pub eligible-told : All (λ x. is_told settings x.rloc ≡ true) (eligible settings p m)
  eligible-told = all-probed (λ x. is_told settings x.rloc ≡ true) (λ x is. (told-rested settings m x is).0)

  -- it has rested
  pub eligible-rested : All (λ x. has_rested m x.last ≡ true) (eligible settings p m)
  eligible-rested = all-probed (λ x. has_rested m x.last ≡ true) (λ x is. (told-rested settings m x is).1)

  -- its last probe is that of its address
  pub eligible-last : All (λ x. x.last ≡ last_probe m p.observed.probes x.rloc) (eligible settings p m)
  eligible-last = all-names (λ x. x.last ≡ last_probe m p.observed.probes x.rloc) (λ k d within. refl)

  -- the first name of an address is the first target of it, if it may be probed
  pub name-eligible : (rloc : Addr) (eid : Eid) → find (λ name. same_address rloc name.0) (names_at m p.mappings) ≡ Some (rloc, eid) → is_told settings rloc ≡ true → has_rested m (last_probe m p.observed.probes rloc) ≡ true
      → find (has_address rloc) (eligible settings p m) ≡ Some (record { rloc = rloc; eid = eid; last = last_probe m p.observed.probes rloc })
  name-eligible rloc eid first told rested =
      ap (find (has_address rloc)) (eligible-names settings p m after)
      ∙ found-left settings m p.observed.probes rloc eid
      (probed-told settings m (target_at m p.observed.probes (rloc, eid)) told rested) (names_at m p.mappings) first
