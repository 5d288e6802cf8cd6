-- Tables as contracts see them, and the changes that their calls leave.
use Rattle.std.specs.Prelude.{ℕ, List}
use Rattle.lisp_settings.specs.declared.settings.Settings.{Settings}
use Rattle.router_log.specs.declared.emit.Emit.{Emit}
use Rattle.router_log.specs.declared.entry.Entry.{Entry}
use Rattle.router_model.specs.Changes.{Change}
use Rattle.router_model.specs.Hear as model
use Rattle.router_model.specs.Parts.{Parts, view_in}
use Rattle.router_model.specs.View.{View}
use Rattle.router_core.specs.declared.changed.Changed.{Changed}
use Rattle.router_core.specs.declared.changed.Heard.{Heard}

-- a table as contracts see it: its parts, the room for further items of each kind, and the number of items in all its
-- lists
pub record TableSeen : Type 0 where
  pub parts : Parts
  pub mapping_room : ℕ
  pub request_room : ℕ
  pub probe_room : ℕ
  pub start_room : ℕ
  pub wish_room : ℕ
  pub solicit_room : ℕ
  pub kept : ℕ

-- a table viewed at a moment, with the site as it stands
pub record Viewed : Type 0 where
  pub site : Settings
  pub parts : Parts
  pub m : ℕ

-- the view of a table at its moment, as decisions have it
abbrev pub seen : Viewed → View
seen viewed = view_in viewed.parts viewed.m

-- a change, by its entries, its emits and the parts that it left
abbrev pub change_of : Parts → List Entry → List Emit → Change Parts
change_of parts entries emits = record { after = parts; entries = entries; emits = emits }

-- the change that a call of a table gave, and the parts that it left
abbrev pub changed_seen : Parts → Changed → Change Parts
changed_seen parts changed = change_of parts changed.entries changed.emits

-- the outcome of a message that was heard: its verdict, and its change
abbrev pub heard_seen : Parts → Heard → model.Heard Parts
heard_seen parts heard =
    record { verdict = heard.verdict; change = change_of parts heard.entries heard.emits }
