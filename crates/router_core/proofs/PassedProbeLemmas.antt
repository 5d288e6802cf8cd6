-- What is known of turns, once all probes before a place were passed.
use Rattle.std.proofs.Common.{◌≡◌, ◌⊎◌, ◌≤◌, ◌<◌, ◌+◌, ◌-◌, ◌&&◌, ◌||◌, ℕ, not, Bool, true, false, cond, List, count_by, find, get_or, nat_le, nat_lt, slice_get, Option, None, Some, is_none, is_some, option_map, inl, inr, refl, sym, ap, subst, ◌∙◌, arith, true≢false}
use Rattle.std.proofs.lemmas.Bool.{and_from}
use Rattle.std.proofs.lemmas.Bool.Decides.{nat_tests}
use Rattle.std.proofs.lemmas.List.Folds.{list_any_at}
use Rattle.std.proofs.lemmas.Option.{same_Some, slice_get_within}
use Rattle.ip_headers.specs.declared.addr.Addr.{Addr}
use Rattle.lisp_settings.specs.declared.settings.OwnLocator.{OwnLocator}
use Rattle.lisp_settings.specs.declared.settings.Settings.{Settings}
use Rattle.locator_state.proofs.TurnsLemmas.{equal-address}
use Rattle.locator_state.specs.Limits.{probe_seconds}
use Rattle.locator_state.specs.Lists.{last_where}
use Rattle.locator_state.specs.Probes.{last_probe}
use Rattle.mapping_records.specs.Eids.{same_address}
use Rattle.mapping_records.specs.declared.eid.Eid.{Eid}
use Rattle.router_log.specs.Moments.{seconds, younger}
use Rattle.router_log.specs.declared.kept.Probe.{Probe}
use Rattle.router_model.proofs.StandingLemmas.{same-address}
use Rattle.router_model.specs.Site.{is_own, ours}
use Rattle.router_model.specs.Tick.{is_told}
use Rattle.router_core.specs.Turning.{AreInOrder, SuitNames, is_covered, suits}
use Rattle.router_core.specs.declared.turns.Covered.{Covered}
use Rattle.router_core.specs.declared.turns.Turns.{Turns}
use Rattle.router_core.proofs.LastProbeLemmas.{count-before, if_young, is_older, last-found, later-moment, moment_and_rloc, none-read, probe-read}
use Rattle.router_core.proofs.SuitLemmas.{named-some}

-- ### tests

uncovers : (b c : Bool) → (b ≡ true → c ≡ true) → c ≡ false → b ≡ false
uncovers true c gives is = absurd (true≢false (sym (gives refl) ∙ is))
uncovers false c gives is = refl

not-covers : (b c : Bool) → (b ≡ true → c ≡ true) → not c ≡ true → not b ≡ true
not-covers true true gives is = is
not-covers true false gives is = absurd (true≢false (sym (gives refl)))
not-covers false c gives is = refl

-- what is young later is young before
young-before : (walked m moment : ℕ) → walked ≤ m → younger m probe_seconds moment ≡ true → younger walked probe_seconds moment ≡ true
young-before walked m moment after young = lesser walked m moment (seconds probe_seconds) after young
  where
    lesser : (walked m moment life : ℕ) → walked ≤ m → nat_lt (m - moment) life ≡ true → nat_lt (walked - moment) life ≡ true
    lesser walked m moment life after young = grind (arith, nat_tests, after, young)

-- what is no older than what is young is young
young-behind : (m moment bound : ℕ) → bound ≤ moment → younger m probe_seconds bound ≡ true → younger m probe_seconds moment ≡ true
young-behind m moment bound behind young = greater m moment bound (seconds probe_seconds) behind young
  where
    greater : (m moment bound life : ℕ) → bound ≤ moment → nat_lt (m - bound) life ≡ true → nat_lt (m - moment) life ≡ true
    greater m moment bound life behind young = grind (arith, nat_tests, behind, young)

-- now is young
pub young-now : (m : ℕ) → younger m probe_seconds m ≡ true
young-now m = grind (arith, nat_tests)

from_le : (a b : ℕ) → nat_le a b ≡ true → a ≤ b
from_le a b is = grind (arith, nat_tests, is)

to_le : (a b : ℕ) → a ≤ b → nat_le a b ≡ true
to_le a b le = grind (arith, nat_tests, le)

either : (a b : ℕ) → (a < b) ⊎ (b ≤ a)
either a b = grind arith

-- ### probes that were passed

-- whether a locator is to be probed at all
abbrev pub is_live : Settings → List (Addr × Eid) → Addr → Bool
is_live settings names rloc = is_told settings rloc && is_some (find (λ name. same_address rloc name.0) names)

-- a probe isn't the last one of a locator that is to be probed; where none counts, its locator isn't covered
pub record IsPassed (settings : Settings) (names : List (Addr × Eid)) (m : ℕ) (probes : List Probe) (covered : Covered) (probe : Probe) : Type 0 where
  pub uncovered : last_probe m probes probe.rloc ≡ None → is_covered covered probe.rloc ≡ false
  pub other : last_probe m probes probe.rloc ≡ Some probe.moment → is_live settings names probe.rloc ≡ false

-- so are all before a place that aren't older than a moment
abbrev pub ArePassed : Settings → List (Addr × Eid) → ℕ → List Probe → ℕ → Covered → ℕ → Type 0
ArePassed settings names m probes since covered place =
    (k : ℕ) (probe : Probe) → k < place → slice_get probes k ≡ Some probe → since ≤ probe.moment → IsPassed settings names m probes covered probe

-- and no more is covered than is known
abbrev pub ArePast : Settings → List (Addr × Eid) → ℕ → List Probe → Turns → ℕ → Covered → Type 0
ArePast settings names m probes turns place covered =
    ((addr : Addr) → is_covered covered addr ≡ true → is_covered turns.covered addr ≡ true)
    × ArePassed settings names m probes turns.since covered place

module _ (settings : Settings) (names : List (Addr × Eid)) (m : ℕ) (probes : List Probe) (since : ℕ) where
  -- before the first that isn't older there is none
  pub none-passed : (now : ℕ) → AreInOrder now probes → (covered : Covered) (place : ℕ) → place ≡ count_by (is_older since) probes → ArePassed settings names m probes since covered place
  none-passed now order covered place is = λ k probe before at young.
      let few = count-before since probes k probe order.ascend at young in
      absurd (omega (arith, is, before, few))

  module _ (place moment : ℕ) (rloc : Addr) (here : Some (moment, rloc) ≡ option_map moment_and_rloc (slice_get probes place)) where
    at_place : (k : ℕ) (probe : Probe) → k ≡ place → slice_get probes k ≡ Some probe → (probe.moment ≡ moment) × (probe.rloc ≡ rloc)
    at_place k probe is at =
        let read = probe-read (slice_get probes place) moment rloc here in
        let one : read.0 ≡ probe = same_Some read.0 probe (sym read.1 ∙ ap (slice_get probes) (sym is) ∙ at) in
        (ap (λ (p : Probe). p.moment) (sym one) ∙ sym read.2, ap (λ (p : Probe). p.rloc) (sym one) ∙ sym read.3)

    further : (k : ℕ) → k < place + 1 → (k < place) ⊎ (k ≡ place)
    further k within = grind (arith, within)

    -- one more, of a locator of which none counts
    pub passed-fresh : (covered less : Covered) → ((addr : Addr) → is_covered less addr ≡ true → is_covered covered addr ≡ true) → is_covered less rloc ≡ false → last_probe m probes rloc ≡ None
        → ArePassed settings names m probes since covered place → ArePassed settings names m probes since less (place + 1)
    passed-fresh covered less gives without none passed = λ k probe within at young. by k probe at young (further k within)
      where
        by : (k : ℕ) (probe : Probe) → slice_get probes k ≡ Some probe → since ≤ probe.moment → (k < place) ⊎ (k ≡ place) → IsPassed settings names m probes less probe
        by k probe at young (inl before) = record {
          uncovered = λ fresh. uncovers (is_covered less probe.rloc) (is_covered covered probe.rloc) (gives probe.rloc) ((passed k probe before at young).uncovered fresh);
          other = (passed k probe before at young).other;
        }
        by k probe at young (inr same) =
            let there = at_place k probe same at in
            record {
              uncovered = λ fresh. ap (is_covered less) there.1 ∙ without;
              other = λ last. absurd (let never : Some probe.moment ≡ None = sym last ∙ ap (last_probe m probes) there.1 ∙ none in cc never);
            }

    -- one more, of a locator that has a later one, or isn't to be probed
    pub passed-other : (covered : Covered) (last : ℕ) → last_probe m probes rloc ≡ Some last → (last ≡ moment → is_live settings names rloc ≡ false)
        → ArePassed settings names m probes since covered place → ArePassed settings names m probes since covered (place + 1)
    passed-other covered last is unless passed = λ k probe within at young. by k probe at young (further k within)
      where
        by : (k : ℕ) (probe : Probe) → slice_get probes k ≡ Some probe → since ≤ probe.moment → (k < place) ⊎ (k ≡ place) → IsPassed settings names m probes covered probe
        by k probe at young (inl before) = passed k probe before at young
        by k probe at young (inr same) =
            let there = at_place k probe same at in
            record {
              uncovered = λ fresh. absurd (let never : Some last ≡ None = sym is ∙ ap (last_probe m probes) (sym there.1) ∙ fresh in cc never);
              other = λ of.
                  let one : last ≡ moment = same_Some last moment (sym is ∙ ap (last_probe m probes) (sym there.1) ∙ of ∙ ap (λ (t : ℕ). Some t) there.0) in
                  ap (is_live settings names) there.1 ∙ unless one;
            }

-- ### what is known behind them

module _ (settings : Settings) (names : List (Addr × Eid)) (m : ℕ) (probes : List Probe) (turns : Turns) (covered : Covered) (place bound : ℕ)
    (after : turns.walked ≤ m)
    (less : (addr : Addr) → is_covered covered addr ≡ true → is_covered turns.covered addr ≡ true)
    (passed : ArePassed settings names m probes turns.since covered place)
    (stop : (k : ℕ) (probe : Probe) → place ≤ k → slice_get probes k ≡ Some probe → bound ≤ probe.moment)
    (young : younger m probe_seconds bound ≡ true) where
  abbrev known_behind : Turns
  known_behind = record { covered = covered; since = bound; walked = m }

  suits-behind : (rloc : Addr) → is_live settings names rloc ≡ true → suits turns rloc (last_probe turns.walked probes rloc) ≡ true → suits known_behind rloc (last_probe m probes rloc) ≡ true
  suits-behind rloc live known = by (last_where (λ probe. same_address probe.rloc rloc) probes) refl known
    where
      by : (last : Option Probe) → last_where (λ probe. same_address probe.rloc rloc) probes ≡ last → suits turns rloc (if_young turns.walked last) ≡ true → suits known_behind rloc (if_young m last) ≡ true
      by None is known = not-covers (is_covered covered rloc) (is_covered turns.covered rloc) (less rloc) known
      by (Some probe) is known =
          split (younger m probe_seconds probe.moment) (younger turns.walked probe_seconds probe.moment) refl refl known
        where
          moment_if : Bool → Option ℕ
          moment_if b = option_map (λ (probe : Probe). probe.moment) (cond b (Some probe) None)

          there : (k : ℕ) × (slice_get probes k ≡ Some probe) × (same_address probe.rloc rloc ≡ true)
          there = last-found (λ probe. same_address probe.rloc rloc) probes probe is

          same : probe.rloc ≡ rloc
          same = equal-address probe.rloc rloc there.2

          its_last : (b : Bool) → younger m probe_seconds probe.moment ≡ b → last_probe m probes probe.rloc ≡ moment_if b
          its_last b counts = ap (last_probe m probes) same ∙ ap (if_young m) is ∙ ap moment_if counts

          counting : turns.since ≤ probe.moment → younger m probe_seconds probe.moment ≡ true → bound ≤ probe.moment
          counting since counts = elim (either there.0 place) [
            | inl before ↦
                absurd (true≢false (sym live ∙ ap (is_live settings names) (sym same) ∙ (passed there.0 probe before there.1 since).other (its_last true counts)))
            | inr behind ↦ stop there.0 probe behind there.1
          ]

          over : turns.since ≤ probe.moment → younger m probe_seconds probe.moment ≡ false → is_covered covered rloc ≡ false
          over since counts = elim (either there.0 place) [
            | inl before ↦ ap (is_covered covered) (sym same) ∙ (passed there.0 probe before there.1 since).uncovered (its_last false counts)
            | inr behind ↦ absurd (true≢false (sym (young-behind m probe.moment bound (stop there.0 probe behind there.1) young) ∙ counts))
          ]

          split : (b c : Bool) → younger m probe_seconds probe.moment ≡ b → younger turns.walked probe_seconds probe.moment ≡ c → suits turns rloc (moment_if c) ≡ true → suits known_behind rloc (moment_if b) ≡ true
          split true true counts counted known = to_le bound probe.moment (counting (from_le turns.since probe.moment known) counts)
          split true false counts counted known = absurd (true≢false (sym (young-before turns.walked m probe.moment after counts) ∙ counted))
          split false true counts counted known = ap not (over (from_le turns.since probe.moment known) counts)
          split false false counts counted known = not-covers (is_covered covered rloc) (is_covered turns.covered rloc) (less rloc) known

  -- of each name
  pub names-behind : (own : List OwnLocator) → settings.locators ≡ own → SuitNames own turns probes names → SuitNames own known_behind probes names
  names-behind own is known k d within = by (is_own own rloc) (ours own rloc) refl refl (known k d within)
    where
      rloc : Addr
      rloc = (get_or names k d).0

      old : Bool
      old = suits turns rloc (last_probe turns.walked probes rloc)

      new : Bool
      new = suits known_behind rloc (last_probe m probes rloc)

      named : is_some (find (λ name. same_address rloc name.0) names) ≡ true
      named = named-some rloc names (list_any_at (λ (name : Addr × Eid). same_address rloc name.0) names k d within (same-address rloc))

      live : (o : Option Addr) → is_own own rloc ≡ false → ours own rloc ≡ o → is_some o ≡ true → is_live settings names rloc ≡ true
      live o other found some =
          let told : is_told settings rloc ≡ true =
          ap (λ (l : List OwnLocator). not (is_own l rloc) && is_some (ours l rloc)) is
          ∙ and_from _ _ (ap not other) (ap is_some found ∙ some) in
          and_from _ _ told named

      by : (b : Bool) (o : Option Addr) → is_own own rloc ≡ b → ours own rloc ≡ o → (b || (is_none o || old)) ≡ true → (b || (is_none o || new)) ≡ true
      by true o other found known = refl
      by false None other found known = refl
      by false (Some x) other found known = suits-behind rloc (live (Some x) other found refl) known

-- the two ends: at a probe that counts, and behind all of them
pub stop-at : (now : ℕ) (probes : List Probe) (place moment : ℕ) (rloc : Addr) → AreInOrder now probes → Some (moment, rloc) ≡ option_map moment_and_rloc (slice_get probes place)
    → (k : ℕ) (probe : Probe) → place ≤ k → slice_get probes k ≡ Some probe → moment ≤ probe.moment
stop-at now probes place moment rloc order here k probe behind at =
    let read = probe-read (slice_get probes place) moment rloc here in
    subst (λ (t : ℕ). t ≤ probe.moment) (sym read.2) (later-moment now probes order place k read.0 probe read.1 at behind)

pub stop-end : (probes : List Probe) (place bound : ℕ) → None ≡ option_map moment_and_rloc (slice_get probes place)
    → (k : ℕ) (probe : Probe) → place ≤ k → slice_get probes k ≡ Some probe → bound ≤ probe.moment
stop-end probes place bound none k probe behind at =
    let past = none-read probes place none in
    let within = slice_get_within probes k probe at in
    absurd (omega (arith, past, within, behind))
