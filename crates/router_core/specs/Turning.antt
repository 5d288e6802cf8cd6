-- Whose turn it is to be probed, as far as it is known without a look at all locators.
use Rattle.std.specs.Prelude.{◌≡◌, ◌⊎◌, ◌≤◌, ◌-◌, ℕ, ◌&&◌, ◌||◌, nat_le, nat_lt, not, Bool, false, true, List, Option, None, Some, All, AllPairs, filter, find, length, is_none, if◌then◌else◌}
use Rattle.std.specs.List.{list_all, list_any}
use Rattle.std.specs.Ordering.{is_lt}
use Rattle.ip_headers.specs.declared.addr.Addr.{Addr}
use Rattle.mapping_records.specs.Eids.{same_address}
use Rattle.mapping_records.specs.Orders.{addr_order}
use Rattle.mapping_records.specs.declared.eid.Eid.{Eid}
use Rattle.mapping_records.specs.declared.record.Locator.{Locator}
use Rattle.lisp_settings.specs.declared.settings.OwnLocator.{OwnLocator}
use Rattle.lisp_settings.specs.declared.settings.Settings.{Settings}
use Rattle.locator_state.specs.Limits.{most_targets, probe_seconds}
use Rattle.locator_state.specs.Probes.{last_probe}
use Rattle.locator_state.specs.Turns.{goes_before}
use Rattle.locator_state.specs.declared.target.Target.{Target}
use Rattle.map_cache.specs.Cache.{lasting, lasts}
use Rattle.map_cache.specs.Named.{named_above}
use Rattle.map_cache.specs.declared.mapping.Mapping.{Mapping}
use Rattle.router_log.specs.Moments.{seconds}
use Rattle.router_log.specs.declared.kept.Probe.{Probe}
use Rattle.router_model.specs.Parts.{Parts, view_in}
use Rattle.router_model.specs.Site.{is_own, ours}
use Rattle.router_model.specs.Tick.{is_probed, may_take, targets}
use Rattle.router_core.specs.declared.turns.Covered.{Covered}
use Rattle.router_core.specs.declared.turns.Covered.TheVariants.{Nothing, UpTo, Everything}
use Rattle.router_core.specs.declared.turns.Turns.{Turns}

-- ### what is known

-- whether an address is covered
abbrev pub is_covered : Covered → Addr → Bool
is_covered Nothing addr = false
is_covered (UpTo last) addr = not (is_lt (addr_order last addr))
is_covered Everything addr = true

-- whether what is known holds of an address whose last probe that counts was sent at that moment: without one it isn't
-- covered, and no such probe is older than `since`
abbrev pub suits : Turns → Addr → Option ℕ → Bool
suits turns addr None = not (is_covered turns.covered addr)
suits turns addr (Some moment) = nat_le turns.since moment

-- the same of an address, by the probes, unless it isn't to be probed at all: it is an own one, or no own locator of its
-- family is up
abbrev pub suits_address : List OwnLocator → Turns → List Probe → Addr → Bool
suits_address own turns probes addr =
    is_own own addr || (is_none (ours own addr) || suits turns addr (last_probe turns.walked probes addr))

abbrev pub suits_locator : List OwnLocator → Turns → List Probe → Locator → Bool
suits_locator own turns probes locator = not (may_take locator) || suits_address own turns probes locator.addr

abbrev pub suits_all : List OwnLocator → Turns → List Probe → List Locator → Bool
suits_all own turns probes locators = list_all (suits_locator own turns probes) locators

-- the same of the locators of a mapping, if it lasts at the moment of which it is known
abbrev pub suits_mapping : List OwnLocator → Turns → List Probe → Mapping → Bool
suits_mapping own turns probes mapping =
    not (lasts turns.walked mapping) || suits_all own turns probes mapping.details.locators

-- what is known holds of all locators that mappings name
abbrev pub AreTurned : List OwnLocator → Turns → List Probe → List Mapping → Type 0
AreTurned own turns probes mappings = list_all (suits_mapping own turns probes) mappings ≡ true

-- probes stand in the order of their moments, and none came later than now
pub record AreInOrder (now : ℕ) (probes : List Probe) : Type 0 where
  pub ascend : AllPairs (λ a b. a.moment ≤ b.moment) probes
  pub past : All (λ probe. probe.moment ≤ now) probes

-- what a table knows holds of its parts
pub record IsTurned (own : List OwnLocator) (turns : Turns) (now : ℕ) (probes : List Probe) (mappings : List Mapping) : Type 0 where
  pub order : AreInOrder now probes
  pub known : AreTurned own turns probes mappings

-- nothing is known
abbrev pub no_turns : Turns
no_turns = record { covered = Nothing; since = 0; walked = 0 }

-- what is known behind an entry of moment m: nothing where a last probe may count no longer
abbrev pub turns_behind : Turns → ℕ → Turns
turns_behind turns m =
    if nat_le turns.since m && (nat_le turns.walked m && nat_lt (m - turns.since) (seconds probe_seconds)) then turns
    else no_turns

-- no more is known than before, of the same moment
pub record KnowsLess (less turns : Turns) : Type 0 where
  pub walked : less.walked ≡ turns.walked
  pub since : less.since ≤ turns.since
  pub covered : (addr : Addr) → is_covered less.covered addr ≡ true → is_covered turns.covered addr ≡ true

-- ### names

-- the addresses that mappings name which last at m, each with its EID, in the order of the mappings
abbrev pub names_at : ℕ → List Mapping → List (Addr × Eid)
names_at m mappings = named_above None (lasting m mappings)

-- what is known holds of each of these names
abbrev pub SuitNames : List OwnLocator → Turns → List Probe → List (Addr × Eid) → Type 0
SuitNames own turns probes names = All (λ name. suits_address own turns probes name.0 ≡ true) names

-- the first name of least address that isn't covered
pub record IsNext (covered : Covered) (names : List (Addr × Eid)) (next : Addr × Eid) : Type 0 where
  pub beyond : is_covered covered next.0 ≡ false
  pub least : All (λ name. is_covered covered name.0 ≡ false → is_lt (addr_order name.0 next.0) ≡ false) names
  pub first : find (λ name. same_address next.0 name.0) names ≡ Some next

-- ### targets

-- the locators that may be probed, as often as mappings name them
abbrev pub eligible : Settings → Parts → ℕ → List Target
eligible settings parts m =
    filter (is_probed settings (view_in parts m).now) (targets (view_in parts m))

-- whether a target has that address
abbrev pub has_address : Addr → Target → Bool
has_address rloc target = same_address rloc target.rloc

-- one of these targets has the address of the other, or they are as many as are probed and all go before it
abbrev pub IsPlaced : List Target → Target → Type 0
IsPlaced first target =
    (list_any (has_address target.rloc) first ≡ true)
    ⊎ ((length first ≡ most_targets) × All (λ other. goes_before other target ≡ true) first)

-- targets in order, each the first one of its address among those that may be probed
pub record AreChosen (all first : List Target) : Type 0 where
  pub ascend : AllPairs (λ a b. goes_before a b ≡ true) first
  pub few : length first ≤ most_targets
  pub found : All (λ target. find (has_address target.rloc) all ≡ Some target) first

-- the locators without a probe whose turn it is are chosen
pub record AreFresh (all first : List Target) : Type 0 where
  pub chosen : AreChosen all first
  pub fresh : All (λ target. target.last ≡ None) first
  pub placed : All (λ target. target.last ≡ None → IsPlaced first target) all

-- all whose turn it is are chosen
pub record ArePlaced (all first : List Target) : Type 0 where
  pub chosen : AreChosen all first
  pub placed : All (IsPlaced first) all
