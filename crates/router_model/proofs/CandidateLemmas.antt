-- Among the locators that may be probed, one address has one last probe, and the first of them in order are known by that.
use Rattle.std.proofs.Common.{◌≡◌, ◌⊎◌, ◌≤◌, true, false, List, [], ◌∷◌, filter, find, flat_map, length, Some, refl}
use Rattle.std.proofs.lemmas.List.Elements.{All-append, All-filter, All-map, All-nil}
use Rattle.std.specs.List.{All, list_any}
use Rattle.lisp_settings.specs.declared.settings.Settings.{Settings}
use Rattle.locator_state.proofs.TurnsLemmas.{Ascends, HaveOneProbe, at_address, first-candidates, one-probe}
use Rattle.locator_state.specs.Turns.{goes_before}
use Rattle.locator_state.specs.declared.target.Target.{Target}
use Rattle.router_model.specs.Mappings.{Held}
use Rattle.router_model.specs.Tick.{is_probed, may_take, next_targets, target_of, targets, targets_of}
use Rattle.router_model.specs.View.{View}

module _ (settings : Settings) (v : View) where
  -- the target's last probe is that of its address
  abbrev HasLast : Target → Type 0
  HasLast target = target.last ≡ v.last_probe target.rloc

  all-last : (mappings : List Held) → All HasLast (flat_map (targets_of v) mappings)
  all-last [] = All-nil HasLast
  all-last (held ∷ others) =
      All-append HasLast (targets_of v held) (flat_map (targets_of v) others)
      (All-map HasLast (target_of v held.eid) (filter may_take held.mapping.locators) (λ k d within. refl)) (all-last others)

  -- those that may be probed
  abbrev pub eligible : List Target
  eligible = filter (is_probed settings v.now) (targets v)

  pub eligible-probes : HaveOneProbe eligible
  eligible-probes = one-probe v.last_probe eligible (All-filter (is_probed settings v.now) HasLast (targets v) (all-last v.mappings))

  -- the first ones in order are the next targets
  pub first-targets : (first : List Target) → Ascends first → length first ≤ 16
      → All (λ r. find (at_address r.rloc) eligible ≡ Some r) first
      → All (λ x. list_any (at_address x.rloc) first ≡ false → All (λ r. goes_before r x ≡ true) first) eligible
      → (length first ≡ 16) ⊎ All (λ x. list_any (at_address x.rloc) first ≡ true) eligible → first ≡ next_targets settings v
  first-targets first = first-candidates 16 eligible first eligible-probes
