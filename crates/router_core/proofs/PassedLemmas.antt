-- What is known of turns stays known as names are passed that have a probe, or aren't probed at all.
use Rattle.std.proofs.Common.{◌≡◌, ◌&&◌, ◌||◌, ℕ, Bool, true, false, not, List, get_or, Option, None, Some, is_none, is_some, is_lt, refl, sym, ap, ◌∙◌}
use Rattle.std.proofs.lemmas.Bool.{not-true, true≢false}
use Rattle.ip_headers.specs.declared.addr.Addr.{Addr}
use Rattle.lisp_settings.specs.declared.settings.OwnLocator.{OwnLocator}
use Rattle.lisp_settings.specs.declared.settings.Settings.{Settings}
use Rattle.locator_state.proofs.TurnsLemmas.{equal-address}
use Rattle.locator_state.specs.Probes.{last_probe}
use Rattle.mapping_records.specs.Orders.{addr_order}
use Rattle.mapping_records.specs.declared.eid.Eid.{Eid}
use Rattle.router_log.specs.declared.kept.Probe.{Probe}
use Rattle.router_model.specs.Site.{is_own, ours}
use Rattle.router_model.specs.Tick.{is_told}
use Rattle.router_core.specs.Turning.{IsNext, SuitNames, is_covered, suits, suits_address}
use Rattle.router_core.specs.declared.turns.Covered.{Covered}
use Rattle.router_core.specs.declared.turns.Covered.TheVariants.{UpTo}
use Rattle.router_core.specs.declared.turns.Turns.{Turns}
use Rattle.router_core.proofs.NextNameLemmas.{level}

-- turns of which those addresses are covered
abbrev pub covering : Covered → Turns → Turns
covering covered turns = record turns { covered = covered }

-- whether an address isn't to be probed: it is an own one, or no own locator of its family is up
abbrev is_past : List OwnLocator → Addr → Bool
is_past own addr = is_own own addr || is_none (ours own addr)

-- an address that may not get an SMR isn't to be probed
untold-past : (settings : Settings) (addr : Addr) → is_told settings addr ≡ false → is_past settings.locators addr ≡ true
untold-past settings addr un = by (is_own settings.locators addr) (ours settings.locators addr) un
  where
    by : (b : Bool) (o : Option Addr) → (not b && is_some o) ≡ false → (b || is_none o) ≡ true
    by true o is = refl
    by false None is = refl
    by false (Some own) is = absurd (true≢false is)

module _ (own : List OwnLocator) (turns : Turns) (probes : List Probe) (covered more : Covered) where
  -- what is known of an address with more covered, if it isn't to be probed where it is newly covered and has no probe
  suits-more : (addr : Addr) → suits_address own (covering covered turns) probes addr ≡ true → (is_covered covered addr ≡ false → is_covered more addr ≡ true → last_probe turns.walked probes addr ≡ None → is_past own addr ≡ true) → suits_address own (covering more turns) probes addr ≡ true
  suits-more addr known gives = by (last_probe turns.walked probes addr) refl known
    where
      bits : (a b c d : Bool) → (a || (b || not c)) ≡ true → (c ≡ false → d ≡ true → (a || b) ≡ true) → (a || (b || not d)) ≡ true
      bits true b c d is so = refl
      bits false true c d is so = refl
      bits false false c false is so = refl
      bits false false true true is so = is
      bits false false false true is so = so refl refl

      by : (o : Option ℕ) → last_probe turns.walked probes addr ≡ o → (is_own own addr || (is_none (ours own addr) || suits (covering covered turns) addr o)) ≡ true → (is_own own addr || (is_none (ours own addr) || suits (covering more turns) addr o)) ≡ true
      by None none is =
          bits (is_own own addr) (is_none (ours own addr)) (is_covered covered addr) (is_covered more addr) is (λ un so. gives un so none)
      by (Some moment) some is = is

module _ (own : List OwnLocator) (turns : Turns) (probes : List Probe) (names : List (Addr × Eid)) (covered : Covered) (known : SuitNames own (covering covered turns) probes names) where
  -- what is known stays known up to the next name, if that one isn't to be probed or has a probe
  pub known-next : (settings : Settings) (m : ℕ) (next : Addr × Eid) → settings.locators ≡ own → turns.walked ≡ m → IsNext covered names next → (is_told settings next.0 && is_none (last_probe m probes next.0)) ≡ false → SuitNames own (covering (UpTo next.0) turns) probes names
  known-next settings m next same walked is stale k d within =
      suits-more own turns probes covered (UpTo next.0) name.0 (known k d within) (λ un so none. past (is.least k d within un) so none)
    where
      name : Addr × Eid
      name = get_or names k d

      untold : last_probe m probes next.0 ≡ None → is_told settings next.0 ≡ false
      untold none = by (is_told settings next.0) (ap (λ (o : Option ℕ). is_told settings next.0 && is_none o) (sym none) ∙ stale)
        where
          by : (b : Bool) → (b && true) ≡ false → b ≡ false
          by true so = so
          by false so = refl

      past : is_lt (addr_order name.0 next.0) ≡ false → is_covered (UpTo next.0) name.0 ≡ true → last_probe turns.walked probes name.0 ≡ None → is_past own name.0 ≡ true
      past low so none =
          let one : name.0 ≡ next.0 = equal-address name.0 next.0 (level name.0 next.0 low (not-true (is_lt (addr_order next.0 name.0)) so)) in
          ap (is_past own) one
          ∙ ap (λ (l : List OwnLocator). is_past l next.0) (sym same)
          ∙ untold-past settings next.0 (untold (ap (λ (t : ℕ). last_probe t probes next.0) (sym walked) ∙ ap (last_probe turns.walked probes) (sym one) ∙ none))
