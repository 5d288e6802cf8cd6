-- The locators that have rested, as they are offered a place among the first targets in the order of their probes.
use Rattle.std.proofs.Common.{◌≡◌, ◌≤◌, ◌||◌, ℕ, Bool, true, false, cond, List, [], ◌∷◌, find, Option, None, Some, option_map, refl, sym, ap, ap₂, ◌∙◌}
use Rattle.std.proofs.lemmas.Option.{same_Some}
use Rattle.std.specs.List.{list_any}
use Rattle.ip_headers.specs.declared.addr.Addr.{Addr}
use Rattle.lisp_settings.specs.declared.settings.Settings.{Settings}
use Rattle.locator_state.proofs.TurnsLemmas.{equal-address}
use Rattle.locator_state.specs.Probes.{last_probe}
use Rattle.locator_state.specs.Turns.{has_rested}
use Rattle.locator_state.specs.declared.target.Target.{Target}
use Rattle.mapping_records.specs.Eids.{same_address}
use Rattle.mapping_records.specs.declared.eid.Eid.{Eid}
use Rattle.router_model.specs.Parts.{Parts}
use Rattle.router_model.specs.Tick.{is_told}
use Rattle.router_core.specs.Turning.{eligible, has_address, names_at}
use Rattle.router_core.proofs.EligibleLemmas.{name-eligible}

-- ### by their names

abbrev pub target_with : Addr → Eid → Option ℕ → Target
target_with rloc eid last = record { rloc = rloc; eid = eid; last = last }

-- an address that a name has is found
pub named-found : (rloc : Addr) (names : List (Addr × Eid)) → list_any (λ name. same_address rloc name.0) names ≡ true → None ≡ option_map (λ (name : Addr × Eid). name.1) (find (λ name. same_address rloc name.0) names) → ⊥
named-found rloc [] named none = cc named
named-found rloc (name ∷ others) named none = by (same_address rloc name.0) named none (named-found rloc others)
  where
    by : (b : Bool) → (b || list_any (λ name. same_address rloc name.0) others) ≡ true → None ≡ option_map (λ (name : Addr × Eid). name.1) (cond b (Some name) (find (λ name. same_address rloc name.0) others))
        → (list_any (λ name. same_address rloc name.0) others ≡ true → None ≡ option_map (λ (name : Addr × Eid). name.1) (find (λ name. same_address rloc name.0) others) → ⊥) → ⊥
    by true named none rest = cc none
    by false named none rest = rest named none

-- the first name of an address, by its EID
first-named : (rloc : Addr) (eid : Eid) (names : List (Addr × Eid)) → Some eid ≡ option_map (λ (name : Addr × Eid). name.1) (find (λ name. same_address rloc name.0) names) → find (λ name. same_address rloc name.0) names ≡ Some (rloc, eid)
first-named rloc eid [] is = absurd (cc is)
first-named rloc eid (name ∷ others) is = by (same_address rloc name.0) refl is (first-named rloc eid others)
  where
    by : (b : Bool) → same_address rloc name.0 ≡ b → Some eid ≡ option_map (λ (name : Addr × Eid). name.1) (cond b (Some name) (find (λ name. same_address rloc name.0) others))
        → (Some eid ≡ option_map (λ (name : Addr × Eid). name.1) (find (λ name. same_address rloc name.0) others) → find (λ name. same_address rloc name.0) others ≡ Some (rloc, eid))
        → cond b (Some name) (find (λ name. same_address rloc name.0) others) ≡ Some (rloc, eid)
    by true same is rest = ap₂ (λ (a : Addr) (e : Eid). Some (a, e)) (sym (equal-address rloc name.0 same)) (sym (same_Some eid name.1 is))
    by false apart is rest = rest is

-- where an address is named and has rested, it is the first target of that address
pub rested-target : (settings : Settings) (p : Parts) (m : ℕ) → p.now ≤ m → (rloc : Addr) (eid : Eid) (moment : ℕ)
    → Some eid ≡ option_map (λ (name : Addr × Eid). name.1) (find (λ name. same_address rloc name.0) (names_at m p.mappings))
    → is_told settings rloc ≡ true → last_probe m p.observed.probes rloc ≡ Some moment → has_rested m (Some moment) ≡ true
    → find (has_address rloc) (eligible settings p m) ≡ Some (target_with rloc eid (Some moment))
rested-target settings p m after rloc eid moment named told last rested =
    name-eligible settings p m after rloc eid (first-named rloc eid (names_at m p.mappings) named) told (ap (has_rested m) last ∙ rested)
    ∙ ap (λ (o : Option ℕ). Some (target_with rloc eid o)) last
