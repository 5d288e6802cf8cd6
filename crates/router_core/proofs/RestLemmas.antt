-- Locators that rest by what is known of turns, and that none of them is probed.
use Rattle.std.proofs.Common.{◌≡◌, ◌≤◌, ◌-◌, ◌||◌, ◌&&◌, max, not, nat_le, nat_lt, ℕ, Bool, true, false, cond, List, [], ◌∷◌, ◌++◌, filter, flat_map, fold, map, take, Option, Some, None, is_none, is_some, option_map, refl, sym, subst, ap, ◌∙◌, arith}
use Rattle.std.proofs.lemmas.Bool.{and_parts, true≢false}
use Rattle.std.proofs.lemmas.Bool.Decides.{nat_tests}
use Rattle.std.proofs.lemmas.List.Elements.{filter-append}
use Rattle.std.specs.List.{list_all}
use Rattle.ip_headers.specs.declared.addr.Addr.{Addr}
use Rattle.lisp_settings.specs.declared.settings.Settings.{Settings}
use Rattle.locator_state.specs.Lists.{last_where, only_if}
use Rattle.locator_state.specs.Probes.{last_probe}
use Rattle.locator_state.specs.Turns.{has_rested, with_target}
use Rattle.locator_state.specs.declared.target.Target.{Target}
use Rattle.map_cache.specs.Cache.{lasts}
use Rattle.map_cache.specs.declared.mapping.Mapping.{Mapping}
use Rattle.mapping_records.specs.Eids.{same_address}
use Rattle.mapping_records.specs.declared.eid.Eid.{Eid}
use Rattle.mapping_records.specs.declared.record.Locator.{Locator}
use Rattle.router_log.specs.Moments.{seconds, younger}
use Rattle.router_log.specs.declared.kept.Probe.{Probe}
use Rattle.router_model.specs.Cache.{held_of}
use Rattle.router_model.specs.Parts.{Parts, view_at, view_in}
use Rattle.router_model.specs.Site.{is_own, ours}
use Rattle.router_model.specs.Tick.{is_probed, may_take, next_targets, target_of, targets_of}
use Rattle.router_core.specs.Turning.{AreTurned, is_covered, suits, suits_all, suits_locator, suits_mapping}
use Rattle.router_core.specs.declared.turns.Covered.{Covered}
use Rattle.router_core.specs.declared.turns.Covered.TheVariants.{Everything}
use Rattle.router_core.specs.declared.turns.Turns.{Turns}
use Rattle.router_core.proofs.ChangeLemmas.{later}

module _ (settings : Settings) (turns : Turns) (t : ℕ) (p : Parts) (all : turns.covered ≡ Everything) (walked : turns.walked ≤ t) (rest : nat_lt (t - turns.since) (seconds 60) ≡ true) where
  -- an address that suits hasn't rested since its last probe
  suits-rests : (addr : Addr) → suits turns addr (last_probe turns.walked p.observed.probes addr) ≡ true → has_rested t (last_probe t p.observed.probes addr) ≡ false
  suits-rests addr is = by (last_where (λ probe. same_address probe.rloc addr) p.observed.probes) is
    where
      at : ℕ → Option Probe → Option ℕ
      at now found = option_map (λ (probe : Probe). probe.moment) (only_if (λ probe. younger now 600 probe.moment) found)

      bare : suits turns addr None ≡ true → has_rested t None ≡ false
      bare is = absurd (true≢false (sym is ∙ ap (λ (c : Covered). not (is_covered c addr)) all))

      sent : (moment : ℕ) → nat_le turns.since moment ≡ true → (nat_lt (t - moment) (seconds 600) ≡ true) × (nat_lt (t - moment) (seconds 60) ≡ true)
      sent moment since = (grind (arith, nat_tests, since, rest), grind (arith, nat_tests, since, rest))

      by : (o : Option Probe) → suits turns addr (at turns.walked o) ≡ true → has_rested t (at t o) ≡ false
      by None is = bare is
      by (Some probe) is = here (younger turns.walked 600 probe.moment) is
        where
          here : (b : Bool) → suits turns addr (option_map (λ (q : Probe). q.moment) (cond b (Some probe) None)) ≡ true → has_rested t (at t (Some probe)) ≡ false
          here false is = absurd (true≢false (sym is ∙ ap (λ (c : Covered). not (is_covered c addr)) all))
          here true is =
              let young = sent probe.moment is in
              ap (λ b. has_rested t (option_map (λ (q : Probe). q.moment) (cond b (Some probe) None))) young.0 ∙ ap not young.1

  -- a locator that may be taken and suits isn't probed
  suits-unprobed : (eid : Eid) (locator : Locator) → may_take locator ≡ true → suits_locator settings.locators turns p.observed.probes locator ≡ true → is_probed settings t (target_of (view_at p t) eid locator) ≡ false
  suits-unprobed eid locator takes is =
      by (may_take locator) (is_own settings.locators locator.addr) (ours settings.locators locator.addr) takes is
    where
      by : (may own : Bool) (sender : Option Addr) → may ≡ true → (not may || (own || (is_none sender || suits turns locator.addr (last_probe turns.walked p.observed.probes locator.addr)))) ≡ true
          → (not own && (is_some sender && has_rested t (last_probe t p.observed.probes locator.addr))) ≡ false
      by false own sender takes is = cc
      by true true sender takes is = refl
      by true false None takes is = refl
      by true false (Some sender) takes is = suits-rests locator.addr is

  locators-unprobed : (eid : Eid) (locators : List Locator) → suits_all settings.locators turns p.observed.probes locators ≡ true → filter (is_probed settings t) (map (target_of (view_at p t) eid) (filter may_take locators)) ≡ []
  locators-unprobed eid [] is = refl
  locators-unprobed eid (locator ∷ others) is = by (may_take locator) refl (and_parts _ _ is) (locators-unprobed eid others)
    where
      left : List Locator
      left = filter may_take others

      targets : List Locator → List Target
      targets locators = map (target_of (view_at p t) eid) locators

      by : (b : Bool) → may_take locator ≡ b → (suits_locator settings.locators turns p.observed.probes locator ≡ true) × (suits_all settings.locators turns p.observed.probes others ≡ true)
          → (suits_all settings.locators turns p.observed.probes others ≡ true → filter (is_probed settings t) (targets left) ≡ [])
          → filter (is_probed settings t) (targets (cond b (locator ∷ left) left)) ≡ []
      by true takes both none =
          ap (λ b. cond b (target_of (view_at p t) eid locator ∷ filter (is_probed settings t) (targets left)) (filter (is_probed settings t) (targets left))) (suits-unprobed eid locator takes both.0)
          ∙ none both.1
      by false takes both none = none both.1

  -- what lasts at t lasts at the moment of which all is known
  lasts-before : (mapping : Mapping) → lasts t mapping ≡ true → lasts turns.walked mapping ≡ true
  lasts-before mapping is = by mapping.fixed mapping.end is
    where
      by : (fixed : Bool) (end : ℕ) → (fixed || nat_lt t end) ≡ true → (fixed || nat_lt turns.walked end) ≡ true
      by true end is = refl
      by false end is = grind (arith, nat_tests, is, walked)

  mappings-unprobed : (mappings : List Mapping) → list_all (suits_mapping settings.locators turns p.observed.probes) mappings ≡ true → filter (is_probed settings t) (flat_map (targets_of (view_at p t)) (map held_of (filter (lasts t) mappings))) ≡ []
  mappings-unprobed [] is = refl
  mappings-unprobed (mapping ∷ others) is = by (lasts t mapping) refl (and_parts _ _ is) (mappings-unprobed others)
    where
      left : List Mapping
      left = filter (lasts t) others

      known : lasts t mapping ≡ true → suits_mapping settings.locators turns p.observed.probes mapping ≡ true → suits_all settings.locators turns p.observed.probes mapping.details.locators ≡ true
      known lasting is = so (lasts turns.walked mapping) (lasts-before mapping lasting) is
        where
          so : (b : Bool) → b ≡ true → (not b || suits_all settings.locators turns p.observed.probes mapping.details.locators) ≡ true → suits_all settings.locators turns p.observed.probes mapping.details.locators ≡ true
          so true last is = is
          so false last is = cc

      by : (b : Bool) → lasts t mapping ≡ b → (suits_mapping settings.locators turns p.observed.probes mapping ≡ true) × (list_all (suits_mapping settings.locators turns p.observed.probes) others ≡ true)
          → (list_all (suits_mapping settings.locators turns p.observed.probes) others ≡ true → filter (is_probed settings t) (flat_map (targets_of (view_at p t)) (map held_of left)) ≡ [])
          → filter (is_probed settings t) (flat_map (targets_of (view_at p t)) (map held_of (cond b (mapping ∷ left) left))) ≡ []
      by true lasting both none =
          filter-append (is_probed settings t) (targets_of (view_at p t) (held_of mapping)) (flat_map (targets_of (view_at p t)) (map held_of left))
          ∙ ap (λ ts. ts ++ filter (is_probed settings t) (flat_map (targets_of (view_at p t)) (map held_of left))) (locators-unprobed mapping.eid mapping.details.locators (known lasting both.0))
          ∙ none both.1
      by false lasting both none = none both.1

-- at rest, no locator is to be probed
pub none-next : (p : Parts) (m : ℕ) (settings : Settings) (turns : Turns) → p.now ≤ m → turns.covered ≡ Everything → turns.walked ≤ m → nat_lt (m - turns.since) (seconds 60) ≡ true → AreTurned settings.locators turns p.observed.probes p.mappings → next_targets settings (view_in p m) ≡ []
unfolding view_in
none-next p m settings turns after all walked rest known =
    let same : max m p.now ≡ m = later m p.now after in
    ap (λ targets. take 16 (fold (λ so_far target. with_target target so_far) [] targets))
    (mappings-unprobed settings turns (max m p.now) p all (subst (λ (t : ℕ). turns.walked ≤ t) (sym same) walked) (subst (λ (t : ℕ). nat_lt (t - turns.since) (seconds 60) ≡ true) (sym same) rest) p.mappings known)
