-- The plain router: it decides each packet of a capture by all of its journal.
use Rattle.std.specs.Prelude.{ℕ, ◌≤◌, List, [], ◌∷◌, ◌++◌, length, map, Option, Some, None, IfSome, if◌then◌else◌}
use Rattle.capture_io.specs.Frame.{Frame}
use Rattle.capture_io.specs.Limits.{most_frame_octets}
use Rattle.lisp_settings.specs.declared.settings.Settings.{Settings}
use Rattle.capture_events.specs.Events.{Event, Outcome, Packet, Tick, Arrival}
use Rattle.router_log.specs.Lines.{frame_line}
use Rattle.router_log.specs.Moments.{seconds}
use Rattle.router_log.specs.declared.decision.Decision.{Decision}
use Rattle.router_log.specs.declared.emit.Emit.{Emit}
use Rattle.router_log.specs.declared.verdict.Verdict.{Verdict}
use Rattle.router_log.specs.declared.verdict.Verdict.TheVariants.{Encapsulated, Delivered, Native}
use Rattle.router_model.specs.Changes.{Change, Ledger, each, unchanged}
use Rattle.router_model.specs.Changes as ledgers
use Rattle.router_model.specs.Course.{control}
use Rattle.router_model.specs.Decide.{decide_by}
use Rattle.router_model.specs.Emits.{emit_packet}
use Rattle.router_model.specs.Hear.{Heard, hear_by}
use Rattle.router_model.specs.Journal.{Journal, statics}
use Rattle.router_model.specs.Note.{noted}
use Rattle.router_model.specs.Tick.{ticked}

-- a router between two events: its settings, and its memory, a journal or the parts of one
pub record Router (S : Type 0) : Type 0 where
  pub settings : Settings
  pub memory : S

-- the packet that a verdict sends, if it sends one
abbrev pub packet_of : Verdict → Option (List ℕ)
packet_of (Encapsulated from to port packet) = Some packet
packet_of (Delivered iid packet) = Some packet
packet_of (Native packet) = Some packet
packet_of _ = None

-- the packet of a verdict, if it sends one, at a moment
abbrev pub packets_of : ℕ → Option (List ℕ) → List Packet
packets_of moment None = []
packets_of moment (Some packet) = record { moment = moment; octets = packet } ∷ []

-- the packets of emits, at a moment, by the settings that stand right behind them
abbrev pub emit_packets : Settings → ℕ → List Emit → List Packet
emit_packets settings moment emits =
    map (λ emit. record { moment = moment; octets = emit_packet settings emit }) emits

module _ {S : Type 0} (ledger : Ledger S) where
  -- the outcome of a frame: its line with the number of entries that decided it, its packets, and the memory after it
  abbrev pub after_frame : Router S → Frame → Verdict → List Packet → S → Outcome (Router S)
  after_frame router frame verdict packets memory = record {
    lines = frame_line frame.number frame.moment (ledger.count router.memory) verdict;
    packets = packets;
    after = record router { memory = memory };
  }

  -- the outcome of a control message, which was heard
  abbrev pub after_message : Router S → Frame → Heard S → Outcome (Router S)
  after_message router frame heard =
      after_frame router frame heard.verdict
      (emit_packets (ledger.stands router.settings heard.change.after) frame.moment heard.change.emits) heard.change.after

  -- the outcome of a data packet, which was decided, with the change by its notices
  abbrev pub after_data : Router S → Frame → Verdict → Change S → Outcome (Router S)
  after_data router frame verdict change =
      after_frame router frame verdict
      (packets_of frame.moment (packet_of verdict)
      ++ emit_packets (ledger.stands router.settings change.after) frame.moment change.emits)
      change.after

  -- the outcome of a data packet by its decision, whose notices are noted in order
  abbrev pub after_decision : Router S → Frame → Decision → Outcome (Router S)
  after_decision router frame decision =
      after_data router frame decision.verdict
      (each (noted ledger (ledger.stands router.settings router.memory) frame.moment) decision.notices
      (unchanged router.memory))

  -- the outcome of a second: no line, and packets at its moment
  abbrev pub after_tick : Router S → ℕ → Change S → Outcome (Router S)
  after_tick router moment change = record {
    lines = [];
    packets = emit_packets (ledger.stands router.settings change.after) moment change.emits;
    after = record router { memory = change.after };
  }

  -- the outcome of an event at a router
  abbrev pub after_event : Router S → Event → Outcome (Router S)
  after_event router (Tick second) =
      after_tick router (seconds second) (ticked ledger router.settings (seconds second) (unchanged router.memory))
  after_event router (Arrival frame) =
      if control router.settings frame
      then after_message router frame
      (hear_by ledger (ledger.stands router.settings router.memory) frame.moment frame (unchanged router.memory))
      else after_decision router frame
      (decide_by (ledger.stands router.settings router.memory) (ledger.see router.memory frame.moment) frame)

-- a router that begins, with its static mappings
abbrev pub started : Settings → Router Journal
started settings = record { settings = settings; memory = statics settings }

-- the outcome of an event at the plain router, which decides a frame by all of its journal and the settings that stand
abbrev pub plain : Router Journal → Event → Outcome (Router Journal)
plain router event = after_event ledgers.journal router event

-- the packet that a verdict sends, if it sends one, fits a record
abbrev pub FitsRecord : Verdict → Type 0
FitsRecord verdict = IfSome (packet_of verdict) (λ packet. length packet ≤ most_frame_octets)
