-- The router with forwarders: each data packet of a round is decided by the first entries of the round's journal.
use Rattle.std.specs.Prelude.{◌≡◌, ℕ, ◌<◌, not, Bool, true, List, [], ◌∷◌, ◌++◌, drop, filter, flat_map, get_or, length, Option, Some, None, if◌then◌else◌}
use Rattle.std.specs.List.{All, Contains}
use Rattle.capture_io.specs.Frame.{Frame}
use Rattle.lisp_settings.specs.declared.settings.Settings.{Settings}
use Rattle.capture_events.specs.Events.{Event, Outcome, Packet, Tick, Arrival, events_after, followed, idle}
use Rattle.router_log.specs.Lines.{frame_line}
use Rattle.router_log.specs.Moments.{seconds}
use Rattle.router_log.specs.declared.decision.Decision.{Decision}
use Rattle.router_log.specs.declared.notice.Notice.{Notice}
use Rattle.router_log.specs.declared.verdict.Verdict.{Verdict}
use Rattle.router_model.specs.Changes.{Change, each, unchanged}
use Rattle.router_model.specs.Changes as ledgers
use Rattle.router_model.specs.Course.{control}
use Rattle.router_model.specs.Cut.{cut}
use Rattle.router_model.specs.Decide.{decide}
use Rattle.router_model.specs.Hear.{Heard, hear}
use Rattle.router_model.specs.Journal.{Journal, first}
use Rattle.router_model.specs.Note.{noted}
use Rattle.router_model.specs.Plain.{Router, emit_packets, packet_of, packets_of, started}
use Rattle.router_model.specs.Standing.{standing}
use Rattle.router_model.specs.Tick.{tick}

-- ### lines

-- the line of a frame: its number and moment, the number of entries by which it was decided, and the verdict
pub record Line : Type 0 where
  pub number : ℕ
  pub moment : ℕ
  pub n : ℕ
  pub verdict : Verdict

abbrev pub line_of : Frame → ℕ → Verdict → Line
line_of frame n verdict =
    record { number = frame.number; moment = frame.moment; n = n; verdict = verdict }

abbrev pub line_text : Line → List ℕ
line_text line = frame_line line.number line.moment line.n line.verdict

abbrev pub lines_text : List Line → List ℕ
lines_text lines = flat_map line_text lines

-- ### the journal in a round

-- the moment of the last of some frames, 0 without one
abbrev pub closing_moment : List Frame → ℕ
closing_moment [] = 0
closing_moment (frame ∷ []) = frame.moment
closing_moment (frame ∷ next ∷ frames) = closing_moment (next ∷ frames)

-- a list with an item more at its front, where a test holds
abbrev pub with_if : {A : Type 0} → Bool → A → List A → List A
with_if test item items = if test then item ∷ items else items

module _ (settings : Settings) where
  -- whether an event extends the journal: a second or a control message
  abbrev pub extends : Event → Bool
  extends (Tick s) = true
  extends (Arrival frame) = control settings frame

  -- the journal after an event; a data packet leaves it as it is, because its notices come later
  abbrev pub advanced : Journal → Event → Journal
  advanced journal (Tick s) = (tick settings journal s).after
  advanced journal (Arrival frame) =
      if control settings frame then (hear settings journal frame.moment frame).change.after else journal

  -- the journal after events in order
  abbrev pub all_advanced : Journal → List Event → Journal
  all_advanced journal [] = journal
  all_advanced journal (event ∷ events) = all_advanced (advanced journal event) events

  -- the lengths of the journal after each event that extends it
  abbrev pub lengths : Journal → List Event → List ℕ
  lengths journal [] = []
  lengths journal (event ∷ events) =
      with_if (extends event) (length (advanced journal event)) (lengths (advanced journal event) events)

  -- the ends of a round: the lengths of its journal after the seconds before the first frame, and after each further
  -- event that extends it
  abbrev pub ends : Journal → List Event → List ℕ
  ends journal [] = length journal ∷ []
  ends journal (Tick s ∷ events) = ends (advanced journal (Tick s)) events
  ends journal (Arrival frame ∷ events) = length journal ∷ lengths journal (Arrival frame ∷ events)

-- ### what a round says and sends

-- the lines and packets of events in order, and the notices of their data packets
pub record Told : Type 0 where
  pub lines : List Line
  pub packets : List Packet
  pub notices : List Notice

abbrev pub nothing : Told
nothing = record { lines = []; packets = []; notices = [] }

-- the lines, packets and notices of two lists of events, one after the other
abbrev pub and_then : Told → Told → Told
and_then one next = record {
  lines = one.lines ++ next.lines;
  packets = one.packets ++ next.packets;
  notices = one.notices ++ next.notices;
}

module _ (settings : Settings) where
  -- the packets of a second, at its moment
  abbrev pub of_second : ℕ → Change Journal → Told
  of_second s change =
      record { lines = []; packets = emit_packets (standing settings change.after) (seconds s) change.emits; notices = [] }

  -- the line and packets of a control message, which was heard with the journal before it
  abbrev pub of_message : Journal → Frame → Heard Journal → Told
  of_message journal frame heard = record {
    lines = line_of frame (length journal) heard.verdict ∷ [];
    packets = emit_packets (standing settings heard.change.after) frame.moment heard.change.emits;
    notices = [];
  }

  -- the line, packet and notices of a data packet, which was decided by n entries
  abbrev pub of_data : Frame → ℕ → Decision → Told
  of_data frame n decision = record {
    lines = line_of frame n decision.verdict ∷ [];
    packets = packets_of frame.moment (packet_of decision.verdict);
    notices = decision.notices;
  }

  -- the decision on a data packet at its own moment by the first n entries of the round's journal
  abbrev pub decided : Journal → ℕ → Frame → Decision
  decided last n frame = decide settings (first n last) frame.moment frame

  -- the lines, packets and notices of an event, by the round's journal (`last`), the journal before the event, and the
  -- number of a data packet
  abbrev pub of_event : Journal → Journal → ℕ → Event → Told
  of_event last journal n (Tick s) = of_second s (tick settings journal s)
  of_event last journal n (Arrival frame) =
      if control settings frame then of_message journal frame (hear settings journal frame.moment frame)
      else of_data frame n (decided last n frame)

  -- the lines, packets and notices of events in order, with a number for each data packet among them
  abbrev pub of_events : Journal → Journal → List ℕ → List Event → Told
  of_events last journal ns [] = nothing
  of_events last journal ns (event ∷ events) =
      and_then (of_event last journal (get_or ns 0 0) event)
      (of_events last (advanced settings journal event) (if extends settings event then ns else drop 1 ns) events)

-- ### rounds

-- the lines and packets of a round, and the journal that it leaves
pub record Round : Type 0 where
  pub lines : List Line
  pub packets : List Packet
  pub after : Journal

module _ (settings : Settings) where
  -- a round whose notices are noted together at a moment, after all else
  abbrev pub with_notices : ℕ → Journal → Told → Round
  with_notices moment last told =
      let change = each (noted ledgers.journal (standing settings last) moment) told.notices (unchanged last) in
      record {
        lines = told.lines;
        packets = told.packets ++ emit_packets (standing settings change.after) moment change.emits;
        after = change.after;
      }

  -- a round of events, whose last frame has that moment, with a number for each data packet
  abbrev pub round_of_events : ℕ → Journal → List Event → List ℕ → Round
  round_of_events moment journal events ns =
      with_notices moment (all_advanced settings journal events)
      (of_events settings (all_advanced settings journal events) journal ns events)

  -- a round of frames, by the moment of the frame before it, with a number for each data packet
  abbrev pub round : Option ℕ → List Frame → Journal → List ℕ → Round
  round previous frames journal ns =
      round_of_events (closing_moment frames) journal (events_after previous frames) ns

  -- the data packets among frames
  abbrev pub data_frames : List Frame → List Frame
  data_frames frames = filter (λ frame. not (control settings frame)) frames

  -- numbers that a round may have: one for each data packet, each of them one of the round's ends
  pub record AreLawful (previous : Option ℕ) (frames : List Frame) (journal : Journal) (ns : List ℕ) : Type 0 where
    pub ends : All (Contains (ends settings journal (events_after previous frames))) ns
    pub each : length ns ≡ length (data_frames frames)

-- ### whole captures

-- the outcome of a round: its lines and packets, and the router after it
abbrev pub after_round : Router Journal → Round → Outcome (Router Journal)
after_round router result = record {
  lines = lines_text result.lines;
  packets = result.packets;
  after = record router { memory = result.after };
}

-- the outcome of rounds in order, with the numbers of each
abbrev pub rounds_from : Router Journal → Option ℕ → List (List Frame) → List (List ℕ) → Outcome (Router Journal)
rounds_from router previous [] ns = idle router
rounds_from router previous (frames ∷ others) ns =
    let result = after_round router (round router.settings previous frames router.memory (get_or ns 0 [])) in
    followed result (rounds_from result.after (Some (closing_moment frames)) others (drop 1 ns))

-- numbers that rounds in order may have, in one list for each round
abbrev pub AllLawful : Router Journal → Option ℕ → List (List Frame) → List (List ℕ) → Type 0
AllLawful router previous [] ns = ns ≡ []
AllLawful router previous (frames ∷ others) ns =
    (0 < length ns)
    × (AreLawful router.settings previous frames router.memory (get_or ns 0 [])
    × AllLawful (after_round router (round router.settings previous frames router.memory (get_or ns 0 []))).after
    (Some (closing_moment frames)) others (drop 1 ns))

-- the outcome of a capture's frames in rounds of a size, with the numbers of each
abbrev pub rounds : Settings → List Frame → ℕ → List (List ℕ) → Outcome (Router Journal)
rounds settings frames size ns = rounds_from (started settings) None (cut size frames) ns

-- numbers that the rounds of a capture may have
abbrev pub Lawful : Settings → List Frame → ℕ → List (List ℕ) → Type 0
Lawful settings frames size ns = AllLawful (started settings) None (cut size frames) ns
