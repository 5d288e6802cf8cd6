-- A round with forwarders: its lines and packets, and what it leaves.
use Rattle.std.specs.Prelude.{◌≡◌, ℕ, ◌*◌, ◌^◌, ◌<◌, ◌≤◌, List, [], ◌∷◌, length, map, All, Option, Some, None, IfNone, IfSome, false, true}
use Rattle.std.specs.List.{AllZip}
use Rattle.command_words.specs.Limits.{most_round_frames}
use Rattle.capture_io.specs.Frame.{Frame}
use Rattle.lisp_settings.specs.declared.settings.Settings.{Settings}
use Rattle.capture_events.specs.Events as events
use Rattle.capture_events.specs.Events.{events_after}
use Rattle.router_log.specs.declared.entry.Entry.{Entry}
use Rattle.router_core.specs.Steps.{HasTicked}
use Rattle.router_model.specs.Course.{control}
use Rattle.router_model.specs.Lifting.{FramesInOrder}
use Rattle.router_model.specs.Limits.{most_entries, most_event_packets}
use Rattle.router_model.specs.Parts.{Parts, Stands}
use Rattle.router_model.specs.Proper.{IsProper}
use Rattle.router_model.specs.Rounds as rounds
use Rattle.router_model.specs.Rounds.{AreLawful, all_advanced, closing_moment, round}
use Rattle.forwarders.specs.declared.round_done.Line.{Line}
use Rattle.forwarders.specs.declared.round_done.Packet.{Packet}
use Rattle.forwarders.specs.declared.round_done.RoundDone.{RoundDone}
use Rattle.forwarders.specs.Batches.{Begins, journal_of}
use Rattle.forwarders.specs.Gathering.{IsWritable}
use Rattle.forwarders.specs.Publication.{Publication}

-- ### what goes in

-- the moment from which a round is in order: that of the frame before it, or of its own first frame
abbrev pub begun_at : Option ℕ → List Frame → ℕ
begun_at (Some moment) frames = moment
begun_at None [] = 0
begun_at None (frame ∷ frames) = frame.moment

-- a round may be worked: the table stands for the published batches, there are frames, at most as many as a round may
-- have, and they come in order behind the last entry
pub record MayRun (settings : Settings) (previous : Option ℕ) (frames : List Frame) (parts : Parts) (before : List (List Entry)) : Type 0 where
  pub stands : Stands settings parts (journal_of before)
  pub some : 1 ≤ length frames
  pub number : length frames ≤ most_round_frames
  pub order : FramesInOrder (begun_at previous frames) frames
  pub moments : All (λ frame. frame.moment < 2 ^ 32 * 1000000000) frames
  pub later : parts.now ≤ begun_at previous frames
  pub room : parts.count < 2 ^ 60

-- a publication at rest: it is by these settings, all that is planned is published, no entry is pending, and the
-- published batches make a proper journal
pub record IsAtRest (settings : Settings) (p : Publication) : Type 0 where
  pub settings_are : p.settings ≡ settings
  pub none : p.pending ≡ []
  pub plan : p.plan ≡ p.batches
  pub proper : IsProper settings (journal_of p.batches)

-- ### what comes out

-- a line of a round, without its look
abbrev pub line_seen : Line → rounds.Line
line_seen line =
    record { number = line.number; moment = line.moment; n = line.n; verdict = line.verdict }

-- a packet of a round, as one of an outcome
abbrev pub packet_seen : Packet → events.Packet
packet_seen packet = record { moment = packet.moment; octets = packet.octets }

-- a round was worked, with some numbers that it may have: lines and packets are those of the round, the published
-- batches are its journal, and the table stands for that journal
pub record IsRound (settings : Settings) (previous : Option ℕ) (frames : List Frame) (before after : Publication) (parts : Parts) (done : RoundDone) : Type 0 where
  pub ns : List ℕ
  pub lawful : AreLawful settings previous frames (journal_of before.batches) ns
  pub lines : map line_seen done.lines ≡ (round settings previous frames (journal_of before.batches) ns).lines
  pub packets : map packet_seen done.written ≡ (round settings previous frames (journal_of before.batches) ns).packets
  pub journal : journal_of after.batches ≡ (round settings previous frames (journal_of before.batches) ns).after
  pub stands : Stands settings parts (journal_of after.batches)

-- the published batches go on from those of before and are all that is planned, with no entry pending
pub record GrewBy (before after : Publication) : Type 0 where
  pub settings : after.settings ≡ before.settings
  pub more : Begins before.batches after.batches
  pub plan : after.plan ≡ after.batches
  pub none : after.pending ≡ []

-- the length of a round's journal once all of its seconds and control messages are written
abbrev pub last_length : Settings → Option ℕ → List Frame → Publication → ℕ
last_length settings previous frames before =
    length (all_advanced settings (journal_of before.batches) (events_after previous frames))

-- the line of a frame in a round: a look is of as many entries as decided the frame, a control message has no look, and
-- a data packet without a look has the round's last length
pub record HasCome (settings : Settings) (last : ℕ) (frame : Frame) (line : Line) : Type 0 where
  pub look : IfSome line.look (λ look. look ≡ line.n)
  pub message : control settings frame ≡ true → line.look ≡ None
  pub alone : control settings frame ≡ false → IfNone line.look (line.n ≡ last)

-- packets that fit records, at most so many of each event as an event may send
pub record AreWritable (events : ℕ) (packets : List Packet) : Type 0 where
  pub each : All IsWritable packets
  pub few : length packets ≤ most_event_packets * events

-- a round was worked: its lines, packets and journal, what is published, its looks, and the limits of its entries and
-- packets
pub record RunsRound (settings : Settings) (previous : Option ℕ) (frames : List Frame) (before after : Publication) (old new : Parts) (done : RoundDone) : Type 0 where
  pub round : IsRound settings previous frames before after new done
  pub published : GrewBy before after
  pub looks : AllZip (HasCome settings (last_length settings previous frames before)) frames done.lines
  pub entered : HasTicked (most_entries * length (events_after previous frames)) (closing_moment frames) old new
  pub packets : AreWritable (length (events_after previous frames)) done.written
