-- A round in the order in which it is worked: the writer's side, the data packets beside it, and then the notices.
use Rattle.std.specs.Prelude.{ℕ, List, [], ◌∷◌, ◌++◌, drop, flat_map, fold, get_or, if◌then◌else◌}
use Rattle.capture_io.specs.Frame.{Frame}
use Rattle.lisp_settings.specs.declared.settings.Settings.{Settings}
use Rattle.capture_events.specs.Events.{Event, Packet, Tick, Arrival}
use Rattle.router_log.specs.Moments.{seconds}
use Rattle.router_log.specs.declared.decision.Decision.{Decision}
use Rattle.router_log.specs.declared.entry.Entry.{Entry}
use Rattle.router_log.specs.declared.notice.Notice.{Notice}
use Rattle.router_model.specs.Changes.{Change, Ledger, each, unchanged}
use Rattle.router_model.specs.Course.{control}
use Rattle.router_model.specs.Decide.{decide_by}
use Rattle.router_model.specs.Hear.{Heard, hear_by}
use Rattle.router_model.specs.Journal.{Journal}
use Rattle.router_model.specs.Note.{noted}
use Rattle.router_model.specs.Parts.{Parts, standing_in, view_in}
use Rattle.router_model.specs.Plain.{emit_packets, packet_of, packets_of}
use Rattle.router_model.specs.Rounds.{Line, Told, decided, line_of}
use Rattle.router_model.specs.Tick.{ticked}

-- ### the writer's side

-- the item that an event leaves before any data packet is decided
pub data Item : Type 0 where
  -- the packets of a second
  Second : List Packet → Item
  -- the line and the packets of a control message
  Message : Line → List Packet → Item
  -- a data packet, which is still to be decided
  Data : Frame → Item

-- written events: their items, the entries of each second and control message as one batch, and the state after them
pub record Writing (S : Type 0) : Type 0 where
  pub items : List Item
  pub batches : List (List Entry)
  pub after : S

-- no event is written
abbrev pub unwritten : {S : Type 0} → S → Writing S
unwritten state = record { items = []; batches = []; after = state }

-- one list of written events, and then another
abbrev pub then_written : {S : Type 0} → Writing S → Writing S → Writing S
then_written one next = record {
  items = one.items ++ next.items;
  batches = one.batches ++ next.batches;
  after = next.after;
}

-- a data packet is left for later
abbrev pub left_for_later : {S : Type 0} → S → Frame → Writing S
left_for_later state frame = record { items = Data frame ∷ []; batches = []; after = state }

-- the entries of all batches, joined
abbrev pub joined : List (List Entry) → List Entry
joined batches = flat_map (λ batch. batch) batches

module _ {S : Type 0} (ledger : Ledger S) where
  -- a ledger's state with further entries, the oldest of them at the head of the list
  abbrev pub with_entries : S → List Entry → S
  with_entries state entries = fold ledger.add state entries

module _ {S : Type 0} (ledger : Ledger S) (settings : Settings) where
  -- a second is written: its packets, and its entries as one batch
  abbrev pub second_written : ℕ → Change S → Writing S
  second_written s change = record {
    items = Second (emit_packets (ledger.stands settings change.after) (seconds s) change.emits) ∷ [];
    batches = change.entries ∷ [];
    after = change.after;
  }

  -- a control message is written: its line and packets, and its entries as one batch
  abbrev pub message_written : ℕ → Frame → Heard S → Writing S
  message_written n frame heard = record {
    items =
        Message (line_of frame n heard.verdict)
        (emit_packets (ledger.stands settings heard.change.after) frame.moment heard.change.emits) ∷ [];
    batches = heard.change.entries ∷ [];
    after = heard.change.after;
  }

  -- an event is written
  abbrev pub event_written : S → Event → Writing S
  event_written state (Tick s) = second_written s (ticked ledger settings (seconds s) (unchanged state))
  event_written state (Arrival frame) =
      if control settings frame
      then message_written (ledger.count state) frame
      (hear_by ledger (ledger.stands settings state) frame.moment frame (unchanged state))
      else left_for_later state frame

  -- events are written in order
  abbrev pub writing : S → List Event → Writing S
  writing state [] = unwritten state
  writing state (event ∷ events) =
      then_written (event_written state event) (writing (event_written state event).after events)

-- ### the data packets

-- the ruling on a data packet: the number of entries by which it was decided, and the decision
pub record Ruling : Type 0 where
  pub n : ℕ
  pub decision : Decision

-- the ruling on a data packet by the first n entries of a journal
abbrev pub ruling : Settings → Journal → ℕ → Frame → Ruling
ruling settings last n frame = record { n = n; decision = decided settings last n frame }

-- the ruling on a data packet by the parts that a table keeps
abbrev pub ruling_by : Settings → Parts → Frame → Ruling
ruling_by settings parts frame =
    record { n = parts.count; decision = decide_by (standing_in settings parts) (view_in parts frame.moment) frame }

-- the rulings on data packets in order, each by its number of entries
abbrev pub rulings : Settings → Journal → List ℕ → List Frame → List Ruling
rulings settings last ns [] = []
rulings settings last ns (frame ∷ frames) =
    ruling settings last (get_or ns 0 0) frame ∷ rulings settings last (drop 1 ns) frames

-- the data packets among items
abbrev pub data_in : List Item → List Frame
data_in [] = []
data_in (Second packets ∷ items) = data_in items
data_in (Message line packets ∷ items) = data_in items
data_in (Data frame ∷ items) = frame ∷ data_in items

-- the lines of items in order, with the rulings on their data packets
abbrev pub lines_by : List Item → List Ruling → List Line
lines_by [] ruled = []
lines_by (Second packets ∷ items) ruled = lines_by items ruled
lines_by (Message line packets ∷ items) ruled = line ∷ lines_by items ruled
lines_by (Data frame ∷ items) [] = lines_by items []
lines_by (Data frame ∷ items) (one ∷ ruled) = line_of frame one.n one.decision.verdict ∷ lines_by items ruled

-- the packets of items in order, with the rulings on their data packets
abbrev pub packets_by : List Item → List Ruling → List Packet
packets_by [] ruled = []
packets_by (Second packets ∷ items) ruled = packets ++ packets_by items ruled
packets_by (Message line packets ∷ items) ruled = packets ++ packets_by items ruled
packets_by (Data frame ∷ items) [] = packets_by items []
packets_by (Data frame ∷ items) (one ∷ ruled) =
    packets_of frame.moment (packet_of one.decision.verdict) ++ packets_by items ruled

-- ### the notices

-- the notices of data packets, in frame order
abbrev pub notices_of : List Ruling → List Notice
notices_of ruled = flat_map (λ one. one.decision.notices) ruled

-- the lines, packets and notices of items, with the rulings on their data packets
abbrev pub told_by : List Item → List Ruling → Told
told_by items ruled =
    record { lines = lines_by items ruled; packets = packets_by items ruled; notices = notices_of ruled }

-- ### all together

-- a worked round: its lines and packets, its batches, and the state after it
pub record Worked (S : Type 0) : Type 0 where
  pub lines : List Line
  pub packets : List Packet
  pub batches : List (List Entry)
  pub after : S

module _ {S : Type 0} (ledger : Ledger S) (settings : Settings) where
  -- the notices of a round are noted together at a moment, as one batch
  abbrev pub noting : ℕ → S → List Ruling → Change S
  noting moment state ruled =
      each (noted ledger (ledger.stands settings state) moment) (notices_of ruled) (unchanged state)

  -- a round put together of written events, the rulings on its data packets, and the change by their notices
  abbrev pub put_together : ℕ → Writing S → List Ruling → Change S → Worked S
  put_together moment written ruled change = record {
    lines = lines_by written.items ruled;
    packets =
        packets_by written.items ruled ++ emit_packets (ledger.stands settings change.after) moment change.emits;
    batches = written.batches ++ change.entries ∷ [];
    after = change.after;
  }

  -- a worked round of events, whose last frame has that moment, by the rulings on its data packets
  abbrev pub worked : ℕ → S → List Event → List Ruling → Worked S
  worked moment state events ruled =
      put_together moment (writing ledger settings state events) ruled
      (noting moment (writing ledger settings state events).after ruled)
