-- Everything that is kept of locators.
use Rattle.std.specs.Prelude.{◌≡◌, ℕ, ◌≤◌, ◌+◌, ◌*◌, ◌&&◌, Bool, List, length, max}
use Rattle.ip_headers.specs.declared.addr.Addr.{Addr}
use Rattle.router_log.specs.declared.kept.EchoStart.{EchoStart}
use Rattle.router_log.specs.declared.kept.EchoWish.{EchoWish}
use Rattle.router_log.specs.declared.kept.Probe.{Probe}
use Rattle.router_log.specs.declared.kept.Solicitation.{Solicitation}
use Rattle.locator_state.specs.Echoes.{counting_starts, counting_wishes, echo_up}
use Rattle.locator_state.specs.Probes.{counting_probes, probe_up}
use Rattle.locator_state.specs.Solicits.{counting_solicits}

-- four lists, in each the oldest first: probes, requested echoes, wanted echoes, solicitations
pub record Observed : Type 0 where
  pub probes : List Probe
  pub starts : List EchoStart
  pub wishes : List EchoWish
  pub solicits : List Solicitation

-- whether a locator may be used, as far as probes and echoes show
abbrev pub is_up : ℕ → Observed → Addr → Bool
is_up now o rloc = probe_up now o.probes rloc && echo_up now o.starts rloc

-- the items of all four lists that still count
abbrev pub recent : ℕ → Observed → Observed
recent now o = record {
  probes = counting_probes now o.probes;
  starts = counting_starts now o.starts;
  wishes = counting_wishes now o.wishes;
  solicits = counting_solicits now o.solicits;
}

-- the items that still count, with this list of probes
abbrev pub with_probes : ℕ → List Probe → Observed → Observed
with_probes now probes o = record (recent now o) { probes = probes }

abbrev pub with_starts : ℕ → List EchoStart → Observed → Observed
with_starts now starts o = record (recent now o) { starts = starts }

abbrev pub with_wishes : ℕ → List EchoWish → Observed → Observed
with_wishes now wishes o = record (recent now o) { wishes = wishes }

abbrev pub with_solicits : ℕ → List Solicitation → Observed → Observed
with_solicits now solicits o = record (recent now o) { solicits = solicits }

-- the number of items of the longest list
abbrev pub longest : Observed → ℕ
longest o = max (length o.probes) (max (length o.starts) (max (length o.wishes) (length o.solicits)))

-- what callers see of the state: the items, room for further ones of each kind, the places for keys of the kind with
-- the most, and how many items all lists behind have
pub record Located : Type 0 where
  pub observed : Observed
  pub probe_room : ℕ
  pub start_room : ℕ
  pub wish_room : ℕ
  pub solicit_room : ℕ
  pub places : ℕ
  pub kept : ℕ

-- each kind has room for so many more
pub record HasRoom (more others : ℕ) (now : Located) : Type 0 where
  pub probes : more ≤ now.probe_room
  pub starts : others ≤ now.start_room
  pub wishes : others ≤ now.wish_room
  pub solicits : others ≤ now.solicit_room

-- no kind has room for more than before, or than for so many
pub record HasAtMost (more others : ℕ) (old new : Located) : Type 0 where
  pub probes : new.probe_room ≤ max old.probe_room more
  pub starts : new.start_room ≤ max old.start_room others
  pub wishes : new.wish_room ≤ max old.wish_room others
  pub solicits : new.solicit_room ≤ max old.solicit_room others

-- no kind has room
pub record HasNoRoom (now : Located) : Type 0 where
  pub probes : now.probe_room ≡ 0
  pub starts : now.start_room ≡ 0
  pub wishes : now.wish_room ≡ 0
  pub solicits : now.solicit_room ≡ 0

-- each kind has places for two keys of everything that is there or has room
pub record HasPlaces (now : Located) : Type 0 where
  pub probes : 2 * (length now.observed.probes + now.probe_room) ≤ now.places
  pub starts : 2 * (length now.observed.starts + now.start_room) ≤ now.places
  pub wishes : 2 * (length now.observed.wishes + now.wish_room) ≤ now.places
  pub solicits : 2 * (length now.observed.solicits + now.solicit_room) ≤ now.places

-- each kind used at most so much room
pub record UsesRoom (a b c d : ℕ) (old new : Located) : Type 0 where
  pub probes : old.probe_room ≤ new.probe_room + a
  pub starts : old.start_room ≤ new.start_room + b
  pub wishes : old.wish_room ≤ new.wish_room + c
  pub solicits : old.solicit_room ≤ new.solicit_room + d

-- items and room of each kind together don't exceed those before, or the items before and so many more
pub record AddsNoRoom (a b c d : ℕ) (old new : Located) : Type 0 where
  pub probes : length new.observed.probes + new.probe_room ≤ length old.observed.probes + max old.probe_room a
  pub starts : length new.observed.starts + new.start_room ≤ length old.observed.starts + max old.start_room b
  pub wishes : length new.observed.wishes + new.wish_room ≤ length old.observed.wishes + max old.wish_room c
  pub solicits : length new.observed.solicits + new.solicit_room ≤ length old.observed.solicits + max old.solicit_room d
