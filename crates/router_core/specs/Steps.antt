-- The demands of a table's step, and its results.
use Rattle.std.specs.Prelude.{◌≡◌, ◌≤◌, ◌<◌, ◌+◌, ◌^◌, ℕ, List, [], Result, All, OnErr, OnOk, Vec, length, vec_len, vec_capacity}
use Rattle.std.specs.Global.{Global}
use Rattle.lisp_settings.specs.declared.settings.Settings.{Settings}
use Rattle.router_log.specs.declared.emit.Emit.{Emit}
use Rattle.router_log.specs.declared.entry.Entry.{Entry}
use Rattle.router_model.specs.Changes.{Change}
use Rattle.router_model.specs.Parts.{Parts, with_entry}
use Rattle.router_core.specs.Sendable.{IsSendable}
use Rattle.router_core.specs.Table.{change_of}
use Rattle.router_core.specs.declared.step.Step.{Step}

-- ### what goes in

-- a step may be taken at m: the last entry isn't later, and the journal has fewer than 2^61 entries, far fewer than 64
-- bits can count
pub record MayStep (m : ℕ) (parts : Parts) : Type 0 where
  pub later : parts.now ≤ m
  pub count : parts.count < 2 ^ 61

-- a step may apply `most` entries one after another at m: the last entry isn't later, and with them the journal has at
-- most 2^62 entries
pub record MayEnter (most m : ℕ) (parts : Parts) : Type 0 where
  pub later : parts.now ≤ m
  pub count : parts.count + most ≤ 2 ^ 62

-- ### what comes out

-- at most so many entries were applied, none of them a change of an own locator, and the last entry isn't later than m
pub record HasEntered (most m : ℕ) (old new : Parts) : Type 0 where
  pub now : new.now ≤ m
  pub count : new.count ≤ old.count + most
  pub own : new.own ≡ old.own
  pub steps : new.steps ≡ old.steps

-- at most so many entries were applied in a second, at which own locators may change, and the last entry isn't later
-- than m
pub record HasTicked (most m : ℕ) (old new : Parts) : Type 0 where
  pub now : new.now ≤ m
  pub count : new.count ≤ old.count + most

-- a step applied at most so many entries, none of them a change of an own locator; where it is refused, the parts are
-- as they were
pub record IsStep {T E : Type 0} (most m : ℕ) (old new : Parts) (result : Result T E) : Type 0 where
  pub entered : OnOk result (HasEntered most m old new)
  pub err : OnErr result (new ≡ old)

-- a second applied at most so many entries; where it is refused, the parts are as they were
pub record IsSecond {T E : Type 0} (most m : ℕ) (old new : Parts) (result : Result T E) : Type 0 where
  pub entered : OnOk result (HasTicked most m old new)
  pub err : OnErr result (new ≡ old)

-- exactly this entry was applied; where it is refused, the parts are as they were
pub record IsTaken {T E : Type 0} (entry : Entry) (old new : Parts) (result : Result T E) : Type 0 where
  pub ok : OnOk result (new ≡ with_entry entry old)
  pub err : OnErr result (new ≡ old)

-- there are at most so many emits, and the packet of each can be made
pub record AreSent (settings : Settings) (most : ℕ) (emits : List Emit) : Type 0 where
  pub sendable : All (IsSendable settings) emits
  pub few : length emits ≤ most

-- at most so many items were added to a list, within the room that it had
pub record AreAdded {T : Type 0} (most : ℕ) (old new : Vec T Global) : Type 0 where
  pub more : vec_len old ≤ vec_len new
  pub most_more : vec_len new ≤ vec_len old + most
  pub capacity : vec_capacity new ≡ vec_capacity old

-- ### a step under way

-- the change that a step has come to, with the parts that it has left
abbrev pub so_far : Parts → Step → Change Parts
so_far parts step = change_of parts step.entries.items step.emits.items

-- a step begins for a site at a moment: it has no entries and no emits, and room for so many of each
pub record IsBegun (most : ℕ) (site : Settings) (m : ℕ) (step : Step) : Type 0 where
  pub stands : step.site.now ≡ site
  pub moment : step.m ≡ m
  pub no_entries : step.entries.items ≡ []
  pub no_emits : step.emits.items ≡ []
  pub entries : vec_len step.entries + most ≤ vec_capacity step.entries
  pub emits : vec_len step.emits + most ≤ vec_capacity step.emits

-- a step may apply so many more entries: it has room for them and their emits, and the packet of each emit that it has
-- can be made
pub record MayTake (most : ℕ) (parts : Parts) (step : Step) : Type 0 where
  pub enter : MayEnter most step.m parts
  pub entries : vec_len step.entries + most ≤ vec_capacity step.entries
  pub emits : vec_len step.emits + most ≤ vec_capacity step.emits
  pub sendable : All (IsSendable step.site.now) step.emits.items

-- a step applied at most so many more entries, and the packet of each emit that it has can be made
pub record HasTaken (most : ℕ) (before : Parts) (old : Step) (after : Parts) (new : Step) : Type 0 where
  pub site : new.site.now ≡ old.site.now
  pub moment : new.m ≡ old.m
  pub entered : HasEntered most old.m before after
  pub entries : AreAdded most old.entries new.entries
  pub emits : AreAdded most old.emits new.emits
  pub sendable : All (IsSendable new.site.now) new.emits.items
