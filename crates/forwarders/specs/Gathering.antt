-- The items that the writer's side of a round gathers, and the lines and packets that are put together of them.
use Rattle.std.specs.Prelude.{◌≡◌, ℕ, ◌+◌, ◌*◌, ◌^◌, ◌<◌, ◌≤◌, List, [], ◌∷◌, ◌++◌, drop, flat_map, length, map, slice_index_or, take, All, Option, None}
use Rattle.capture_io.specs.Frame.{Frame}
use Rattle.capture_io.specs.Limits.{most_frame_octets}
use Rattle.lisp_settings.specs.declared.settings.Settings.{Settings}
use Rattle.capture_events.specs.Events as events
use Rattle.capture_events.specs.Events.{Event, events_after}
use Rattle.router_log.specs.declared.entry.Entry.{Entry}
use Rattle.router_log.specs.declared.notice.Notice.{Notice}
use Rattle.router_log.specs.declared.verdict.Verdict.{Verdict}
use Rattle.router_model.specs.Changes.{each, unchanged}
use Rattle.router_model.specs.Limits.{most_ticked}
use Rattle.router_model.specs.Note.{noted}
use Rattle.router_model.specs.Parts.{Parts, table}
use Rattle.router_model.specs.Plain.{emit_packets, packet_of, packets_of}
use Rattle.router_model.specs.Rounds as rounds
use Rattle.router_model.specs.Rounds.{data_frames}
use Rattle.router_model.specs.Sharing.{filled, opening}
use Rattle.router_model.specs.Sides.{Item, Second, Message, Data, Writing, data_in, writing}
use Rattle.router_core.specs.Steps.{HasEntered}
use Rattle.forwarders.specs.declared.gathering.Gathered.{Gathered}
use Rattle.forwarders.specs.declared.gathering.Gathered.TheVariants as mark
use Rattle.forwarders.specs.declared.gathering.Written.{Written}
use Rattle.forwarders.specs.declared.round_done.Line.{Line}
use Rattle.forwarders.specs.declared.round_done.Packet.{Packet}
use Rattle.forwarders.specs.declared.round_done.RoundDone.{RoundDone}
use Rattle.forwarders.specs.declared.ruling.Ruled.{Ruled}
use Rattle.forwarders.specs.Deciding.{AreWithin}

-- ### what is gathered

-- a packet of an outcome, as a round has it
abbrev pub packet_made : events.Packet → Packet
packet_made packet = record { moment = packet.moment; octets = packet.octets }

-- the line of a control message, as a round has it: without a look, since no forwarder decides it
abbrev pub line_made : rounds.Line → Line
line_made line = record {
  number = line.number;
  moment = line.moment;
  n = line.n;
  verdict = line.verdict;
  look = None;
}

-- a packet of an outcome, as an item that is gathered
abbrev pub packet_gathered : events.Packet → Gathered
packet_gathered packet = mark.Packet (packet_made packet)

-- the items gathered of an item of the definition: of a second its packets, of a message its line and packets, of a
-- data packet its place
abbrev pub gathered_of : Item → List Gathered
gathered_of (Second packets) = map packet_gathered packets
gathered_of (Message line packets) =
    mark.Message (line_made line) ∷ map packet_gathered packets
gathered_of (Data frame) = mark.Left frame.number frame.moment ∷ []

-- the items gathered of items of the definition, in order
abbrev pub all_gathered : List Item → List Gathered
all_gathered items = flat_map gathered_of items

-- how many data packets a gathered item is: 1 or 0
abbrev pub left_of : Gathered → ℕ
left_of (mark.Packet packet) = 0
left_of (mark.Message line) = 0
left_of (mark.Left number moment) = 1

-- how many data packets are among gathered items
abbrev pub left_in : List Gathered → ℕ
left_in [] = 0
left_in (item ∷ items) = left_of item + left_in items

-- the frames at these places
abbrev pub frames_at : List Frame → List ℕ → Frame → List Frame
frames_at frames places d = map (λ place. slice_index_or frames place d) places

-- a packet that fits a record of a capture, by its length and its moment
pub record IsWritable (packet : Packet) : Type 0 where
  pub size : length packet.octets ≤ most_frame_octets
  pub moment : packet.moment < 2 ^ 32 * 1000000000

-- a gathered item that fits: a packet that fits a record, or a data packet at a moment that fits one
abbrev pub IsFit : Gathered → Type 0
IsFit (mark.Packet packet) = IsWritable packet
IsFit (mark.Message line) = Unit {0}
IsFit (mark.Left number moment) = moment < 2 ^ 32 * 1000000000

-- ### what the writer's side did

-- events were written: their items, batches and data packets are gathered behind those of before, with at most so many
-- items and entries for each event as a second has entries
pub record Adds (frames : List Frame) (number : ℕ) (by : Writing Parts) (before : Parts) (old : Written) (after : Parts) (new : Written) : Type 0 where
  pub parts : after ≡ by.after
  pub items : new.items.items ≡ old.items.items ++ all_gathered by.items
  pub batches : new.batches ≡ old.batches ++ filled by.batches
  pub places : (d : Frame) → frames_at frames new.places d ≡ frames_at frames old.places d ++ data_in by.items
  pub within : AreWithin frames old.places → AreWithin frames new.places
  pub fits : All IsFit old.items.items → All IsFit new.items.items
  pub few : length new.items.items ≤ length old.items.items + most_ticked * number
  pub count : after.count ≤ before.count + most_ticked * number

-- events were written on the parts of a table, and gathered behind what was gathered before
abbrev pub Writes : Settings → List Frame → List Event → Parts → Written → Parts → Written → Type 0
Writes settings frames events before old after new = Adds frames (length events) (writing table settings before events) before old after new

-- the writing of a round, from the parts of a table on
abbrev pub round_writing : Settings → Option ℕ → List Frame → Parts → Writing Parts
round_writing settings previous frames before = writing table settings before (events_after previous frames)

-- a round was written from the parts of a table on; `from` of its batches are those of the seconds before its first
-- frame
pub record IsWritten (settings : Settings) (previous : Option ℕ) (frames : List Frame) (before : Parts) (from : ℕ) (written : Written) : Type 0 where
  pub items : written.items.items ≡ all_gathered (round_writing settings previous frames before).items
  pub batches : written.batches ≡ filled (round_writing settings previous frames before).batches
  pub cut : from ≤ length written.batches
  pub first : take from written.batches ≡ filled (take (opening (events_after previous frames)) (round_writing settings previous frames before).batches)
  pub rest : drop from written.batches ≡ filled (drop (opening (events_after previous frames)) (round_writing settings previous frames before).batches)
  pub places : (d : Frame) → frames_at frames written.places d ≡ data_frames settings frames
  pub within : AreWithin frames written.places
  pub fits : All IsFit written.items.items
  pub few : length written.items.items ≤ most_ticked * length (events_after previous frames)

-- ### what notices made

-- notices were noted at a moment, by these settings: their entries and packets came behind those of before
pub record Notes (settings : Settings) (moment : ℕ) (notices : List Notice) (before : Parts) (older : List Entry) (old : List Gathered) (after : Parts) (newer : List Entry) (new : List Gathered) : Type 0 where
  pub parts : after ≡ (each (noted table settings moment) notices (unchanged before)).after
  pub entries : newer ≡ older ++ (each (noted table settings moment) notices (unchanged before)).entries
  pub items : new ≡ old ++ map packet_gathered (emit_packets settings moment (each (noted table settings moment) notices (unchanged before)).emits)
  pub fits : All IsFit old → All IsFit new
  pub few : length new ≤ length old + length notices
  pub entered : HasEntered (length notices) moment before after

-- ### what is put together

-- the line of a data packet, by its ruling
abbrev pub line_ruled : ℕ → ℕ → Ruled → Line
line_ruled number moment one = record {
  number = number;
  moment = moment;
  n = one.n;
  verdict = one.decision.verdict;
  look = one.look;
}

-- the lines of gathered items in order, with the rulings of the data packets
abbrev pub lines_in : List Gathered → List Ruled → List Line
lines_in [] ruled = []
lines_in (mark.Packet packet ∷ items) ruled = lines_in items ruled
lines_in (mark.Message line ∷ items) ruled = line ∷ lines_in items ruled
lines_in (mark.Left number moment ∷ items) [] = lines_in items []
lines_in (mark.Left number moment ∷ items) (one ∷ ruled) =
    line_ruled number moment one ∷ lines_in items ruled

-- the packet that a verdict sends at a moment, if it sends one
abbrev pub sent_of : ℕ → Verdict → List Packet
sent_of moment verdict = map packet_made (packets_of moment (packet_of verdict))

-- the packets of gathered items in order, with the rulings of the data packets
abbrev pub packets_in : List Gathered → List Ruled → List Packet
packets_in [] ruled = []
packets_in (mark.Packet packet ∷ items) ruled = packet ∷ packets_in items ruled
packets_in (mark.Message line ∷ items) ruled = packets_in items ruled
packets_in (mark.Left number moment ∷ items) [] = packets_in items []
packets_in (mark.Left number moment ∷ items) (one ∷ ruled) =
    sent_of moment one.decision.verdict ++ packets_in items ruled

-- a gathered item was put: with any items behind it, lines and packets come out as before it was put
pub record Puts (item : Gathered) (before : List Ruled) (old : RoundDone) (after : List Ruled) (new : RoundDone) : Type 0 where
  pub lines : (rest : List Gathered) → new.lines ++ lines_in rest after ≡ old.lines ++ lines_in (item ∷ rest) before
  pub packets : (rest : List Gathered) → new.written ++ packets_in rest after ≡ old.written ++ packets_in (item ∷ rest) before
