-- The change and the packets of an event in a replay, for contracts inside the crate.
use Rattle.std.specs.Prelude.{◌≡◌, ◌≤◌, ◌+◌, ◌*◌, ℕ, List, ◌++◌, length, unwrap_or}
use Rattle.lisp_settings.specs.declared.settings.Settings.{Settings}
use Rattle.capture_events.specs.Events.{Outcome, Packet, records_of, second_of}
use Rattle.playback.specs.Playing.{Gathers}
use Rattle.playback.specs.declared.progress.Progress.{Progress}
use Rattle.playback.specs.declared.output.Output.{Output}
use Rattle.router_log.specs.declared.notice.Notice.{Notice}
use Rattle.router_model.specs.Changes.{Change, each, unchanged}
use Rattle.router_model.specs.Limits.{most_event_packets}
use Rattle.router_model.specs.Note.{noted}
use Rattle.router_model.specs.Parts.{Parts, standing_in, table}
use Rattle.router_model.specs.Plain.{Router}

-- a router by its settings and the parts of its table
abbrev pub router_of : Settings → Parts → Router Parts
router_of settings parts = record { settings = settings; memory = parts }

-- the change by notices, noted one after another at a moment, by the settings as they stand
abbrev pub all_noted : Settings → Parts → ℕ → List Notice → Change Parts
all_noted settings parts moment notices =
    each (noted table (standing_in settings parts) moment) notices (unchanged parts)

-- the most packets of the frames and of the seconds so far
abbrev pub most_packets : Progress → ℕ
most_packets progress = most_event_packets * (progress.frames + second_of (unwrap_or progress.moment 0))

-- an outcome was gathered, of no more packets than an event sends at most
pub record GathersFew {S : Type 0} (outcome : Outcome S) (old new : Output) : Type 0 where
  pub gathers : Gathers outcome old new
  pub few : length outcome.packets ≤ most_event_packets

-- packets were gathered, and no line
pub record Sends (packets : List Packet) (old new : Output) : Type 0 where
  pub lines : new.lines ≡ old.lines
  pub records : new.records ≡ old.records ++ records_of packets
  pub written : new.written ≡ old.written + length packets
