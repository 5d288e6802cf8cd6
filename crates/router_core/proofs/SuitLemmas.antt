-- What is known of turns, of an address that a mapping names and that may get an SMR.
use Rattle.std.proofs.Common.{◌≡◌, ◌&&◌, ◌||◌, not, Bool, true, false, List, [], ◌∷◌, find, Option, None, Some, is_none, is_some, refl, sym, ap, ◌∙◌, cond}
use Rattle.std.proofs.lemmas.List.Elements.{All-head, All-tail}
use Rattle.std.specs.List.{list_any}
use Rattle.ip_headers.specs.declared.addr.Addr.{Addr}
use Rattle.lisp_settings.specs.declared.settings.OwnLocator.{OwnLocator}
use Rattle.lisp_settings.specs.declared.settings.Settings.{Settings}
use Rattle.locator_state.proofs.TurnsLemmas.{equal-address}
use Rattle.locator_state.specs.Probes.{last_probe}
use Rattle.mapping_records.specs.Eids.{same_address}
use Rattle.mapping_records.specs.declared.eid.Eid.{Eid}
use Rattle.router_log.specs.declared.kept.Probe.{Probe}
use Rattle.router_model.specs.Site.{is_own, ours}
use Rattle.router_model.specs.Tick.{is_told}
use Rattle.router_core.specs.Turning.{SuitNames, suits, suits_address}
use Rattle.router_core.specs.declared.turns.Turns.{Turns}

-- what holds of all names holds of an address that one of them has
pub named-suits : (own : List OwnLocator) (turns : Turns) (probes : List Probe) (names : List (Addr × Eid)) (rloc : Addr) → SuitNames own turns probes names → list_any (λ name. same_address rloc name.0) names ≡ true → suits_address own turns probes rloc ≡ true
named-suits own turns probes [] rloc known named = absurd (cc named)
named-suits own turns probes (name ∷ others) rloc known named =
    by (same_address rloc name.0) refl named (named-suits own turns probes others rloc (All-tail Suits name others known))
  where
    Suits : Addr × Eid → Type 0
    Suits name = suits_address own turns probes name.0 ≡ true

    by : (b : Bool) → same_address rloc name.0 ≡ b → (b || list_any (λ name. same_address rloc name.0) others) ≡ true
        → (list_any (λ name. same_address rloc name.0) others ≡ true → suits_address own turns probes rloc ≡ true) → suits_address own turns probes rloc ≡ true
    by true same named rest = ap (suits_address own turns probes) (equal-address rloc name.0 same) ∙ All-head Suits name others known
    by false apart named rest = rest named

-- of an address that may get an SMR it is known by its last probe
pub told-suits : (settings : Settings) (own : List OwnLocator) (turns : Turns) (probes : List Probe) (rloc : Addr) → settings.locators ≡ own → is_told settings rloc ≡ true → suits_address own turns probes rloc ≡ true → suits turns rloc (last_probe turns.walked probes rloc) ≡ true
told-suits settings own turns probes rloc is told known =
    by (is_own own rloc) (ours own rloc) (suits turns rloc (last_probe turns.walked probes rloc))
    (ap (λ (l : List OwnLocator). not (is_own l rloc) && is_some (ours l rloc)) (sym is) ∙ told) known
  where
    by : (b : Bool) (o : Option Addr) (s : Bool) → (not b && is_some o) ≡ true → (b || (is_none o || s)) ≡ true → s ≡ true
    by true o s told known = absurd (cc told)
    by false None s told known = absurd (cc told)
    by false (Some own) s told known = known

-- an address that a name has is found
pub named-some : (rloc : Addr) (names : List (Addr × Eid)) → list_any (λ name. same_address rloc name.0) names ≡ true → is_some (find (λ name. same_address rloc name.0) names) ≡ true
named-some rloc [] named = absurd (cc named)
named-some rloc (name ∷ others) named = by (same_address rloc name.0) named (named-some rloc others)
  where
    by : (b : Bool) → (b || list_any (λ name. same_address rloc name.0) others) ≡ true → (list_any (λ name. same_address rloc name.0) others ≡ true → is_some (find (λ name. same_address rloc name.0) others) ≡ true)
        → is_some (cond b (Some name) (find (λ name. same_address rloc name.0) others)) ≡ true
    by true named rest = refl
    by false named rest = rest named
