-- Laws of rounds.
use Rattle.std.specs.Prelude.{◌≡◌, ℕ, suc, ◌+◌, ◌*◌, ◌^◌, ◌≤◌, false, not, true, List, [], ◌∷◌, ◌++◌, drop, flat_map, get_or, length, map, take, Option, max, Some, unwrap_or}
use Rattle.std.specs.List.{Contains, AllZip}
use Rattle.capture_io.specs.Frame.{Frame}
use Rattle.lisp_settings.specs.declared.settings.Settings.{Settings}
use Rattle.capture_events.specs.Events.{Event, Tick, Arrival, events, events_after, played, followed}
use Rattle.router_log.specs.declared.entry.Entry.{Entry}
use Rattle.router_model.specs.Changes.{Ledger, journal as of_journal}
use Rattle.router_model.specs.Course.{control}
use Rattle.router_model.specs.Cut.{AreShort, AreWithin, Filling, StaysOpen, cut, cut_on, is_full, with_frame, with_frames}
use Rattle.router_model.specs.Journal.{Journal, extended, first, last_moment, statics}
use Rattle.router_model.specs.Lifting.{AreInOrder, FramesInOrder}
use Rattle.router_model.specs.Limits.{most_entries, most_round_octets}
use Rattle.router_model.specs.Parts.{Parts, Stands, parts_in, table}
use Rattle.router_model.specs.Plain.{Router, plain, started}
use Rattle.router_model.specs.Proper.{IsProper}
use Rattle.router_model.specs.Rounds.{AllLawful, AreLawful, Lawful, Line, Round, all_advanced, closing_moment, data_frames, ends, round, round_of_events, rounds, with_if, rounds_from, and_then}
use Rattle.router_model.specs.Sides.{Ruling, Worked, Writing, data_in, joined, ruling, ruling_by, rulings, with_entries, worked, writing, Item, then_written, told_by}

-- ### how frames are cut

-- cutting frames into rounds loses no frame and keeps their order
abbrev pub CutKeeps : Type 0
CutKeeps = (size : ℕ) (frames : List Frame) → flat_map (λ frames. frames) (cut size frames) ≡ frames

-- a round has at most its size in frames, and at most 16 MiB and one frame in octets
abbrev pub CutWithin : Type 0
CutWithin = (size most : ℕ) (frames : List Frame) → 1 ≤ size → AreShort most frames → AreWithin size (most_round_octets + most) (cut size frames)

-- rounds of size 1 have one frame each
abbrev pub CutSingly : Type 0
CutSingly = (frames : List Frame) → cut 1 frames ≡ map (λ frame. frame ∷ []) frames

-- an open round is closed by the frame that makes it full
abbrev pub RoundCloses : Type 0
RoundCloses = (size : ℕ) (filling : Filling) (before : List Frame) (frame : Frame) (others : List Frame) → StaysOpen size filling before → is_full size (with_frame (with_frames filling before) frame) ≡ true → cut_on size filling (before ++ frame ∷ others) ≡ (before ++ frame ∷ []) ∷ cut size others

-- an open round stays open behind a frame that doesn't make it full
abbrev pub RoundStaysOpen : Type 0
RoundStaysOpen = (size : ℕ) (filling : Filling) (before : List Frame) (frame : Frame) → StaysOpen size filling before → is_full size (with_frame (with_frames filling before) frame) ≡ false → StaysOpen size filling (before ++ frame ∷ [])

-- an open round is the last one, where no frame is left
abbrev pub LastRoundCloses : Type 0
LastRoundCloses = (size : ℕ) (filling : Filling) (frame : Frame) (frames : List Frame) → StaysOpen size filling (frame ∷ frames) → cut_on size filling (frame ∷ frames) ≡ (frame ∷ frames) ∷ []

-- ### with rounds of one frame

-- with rounds of one frame the router with forwarders gives the outcome of the plain router
abbrev pub SinglesArePlain : Type 0
SinglesArePlain = (settings : Settings) (frames : List Frame) (ns : List (List ℕ)) → Lawful settings frames 1 ns → rounds settings frames 1 ns ≡ played plain (started settings) (events frames)

-- with rounds of one frame there is no choice of numbers
abbrev pub SinglesAreForced : Type 0
SinglesAreForced = (settings : Settings) (frames : List Frame) (ms ns : List (List ℕ)) → Lawful settings frames 1 ms → Lawful settings frames 1 ns → ms ≡ ns

-- rounds of frames, however they are cut, have lawful numbers
abbrev pub NumbersExist : Type 0
NumbersExist = (router : Router Journal) (previous : Option ℕ) (frames : List (List Frame)) → (ns : List (List ℕ)) × AllLawful router previous frames ns

-- ### rounds one after another

-- the moment of the frame before the next round, behind some rounds
abbrev pub previous_after : Option ℕ → List (List Frame) → Option ℕ
previous_after previous [] = previous
previous_after previous (frames ∷ others) = previous_after (Some (closing_moment frames)) others

-- rounds begin where the rounds before them ended
abbrev pub RoundsFollow : Type 0
RoundsFollow = (router : Router Journal) (previous : Option ℕ) (one next : List (List Frame)) (ms ns : List (List ℕ)) → length ms ≡ length one → let before = rounds_from router previous one ms in rounds_from router previous (one ++ next) (ms ++ ns) ≡ followed before (rounds_from before.after (previous_after previous one) next ns)

-- the numbers of rounds are lawful where those of the first rounds are, and those of the rounds behind them
abbrev pub LawfulFollow : Type 0
LawfulFollow = (router : Router Journal) (previous : Option ℕ) (one next : List (List Frame)) (ms ns : List (List ℕ)) → AllLawful router previous one ms → AllLawful (rounds_from router previous one ms).after (previous_after previous one) next ns → AllLawful router previous (one ++ next) (ms ++ ns)

-- ### the parts of a round

-- a worked round of a journal as a round, without its batches
abbrev pub told_of : Worked Journal → Round
told_of result = record { lines = result.lines; packets = result.packets; after = result.after }

-- the writer's side, the decisions by numbers, and the notices, put together, are the round
abbrev pub SidesMeet : Type 0
SidesMeet = (settings : Settings) (moment : ℕ) (journal : Journal) (events : List Event) (ns : List ℕ) → let written = writing of_journal settings journal events in round_of_events settings moment journal events ns ≡ told_of (worked of_journal settings moment journal events (rulings settings written.after ns (data_in written.items)))

-- writing events leaves a ledger's state with the entries of its batches added
abbrev pub WritingAdds : {S : Type 0} → Ledger S → Type 0
WritingAdds {S} ledger = (settings : Settings) (state : S) (events : List Event) → (writing ledger settings state events).after ≡ with_entries ledger state (joined (writing ledger settings state events).batches)

-- working a round leaves a ledger's state with the entries of its batches added, whatever became of its data packets
abbrev pub WorkedAdds : {S : Type 0} → Ledger S → Type 0
WorkedAdds {S} ledger = (settings : Settings) (moment : ℕ) (state : S) (events : List Event) (ruled : List Ruling) → let result = worked ledger settings moment state events ruled in result.after ≡ with_entries ledger state (joined result.batches)

-- entries added to a journal as a ledger extend the journal
abbrev pub JournalAdds : Type 0
JournalAdds = (journal : Journal) (entries : List Entry) → with_entries of_journal journal entries ≡ extended journal entries

-- writing events is writing the first ones, and then the others in the state behind them; entries are added likewise
abbrev pub WritingFollows : {S : Type 0} → Ledger S → Type 0
WritingFollows {S} ledger = (settings : Settings) (state : S) (one next : List Event) → let first = writing ledger settings state one in writing ledger settings state (one ++ next) ≡ then_written first (writing ledger settings first.after next)

abbrev pub EntriesFollow : {S : Type 0} → Ledger S → Type 0
EntriesFollow {S} ledger = (state : S) (one next : List Entry) → with_entries ledger state (one ++ next) ≡ with_entries ledger (with_entries ledger state one) next

-- the moment of the frame before the next one, behind some frames
abbrev pub moment_after : Option ℕ → List Frame → Option ℕ
moment_after previous [] = previous
moment_after previous (frame ∷ frames) = moment_after (Some frame.moment) frames

-- the events of frames are those of the first frames, and then those of the others behind them
abbrev pub EventsFollow : Type 0
EventsFollow = (previous : Option ℕ) (one next : List Frame) → events_after previous (one ++ next) ≡ events_after previous one ++ events_after (moment_after previous one) next

-- behind the frames of a round the moment before the next frame is the round's closing moment
abbrev pub LastCloses : Type 0
LastCloses = (previous : Option ℕ) (frame : Frame) (frames : List Frame) → moment_after previous (frame ∷ frames) ≡ Some (closing_moment (frame ∷ frames))

-- the lines, packets and notices of items are those of the first items, and then those of the others
abbrev pub ToldFollows : Type 0
ToldFollows = (one next : List Item) (first others : List Ruling) → length first ≡ length (data_in one) → told_by (one ++ next) (first ++ others) ≡ and_then (told_by one first) (told_by next others)

-- writing events leaves the journal of the round before its notices
abbrev pub WritingAdvances : Type 0
WritingAdvances = (settings : Settings) (journal : Journal) (events : List Event) → (writing of_journal settings journal events).after ≡ all_advanced settings journal events

-- the data packets left for later are those among the round's frames
abbrev pub DataAreLeft : Type 0
DataAreLeft = (settings : Settings) (previous : Option ℕ) (frames : List Frame) (journal : Journal) → data_in (writing of_journal settings journal (events_after previous frames)).items ≡ data_frames settings frames

-- the journal of a round after so many of its batches
abbrev pub after_batches : Settings → Journal → List Event → ℕ → Journal
after_batches settings journal events k =
    extended journal (joined (take k (writing of_journal settings journal events).batches))

-- each end of a round is the length of its journal after some of the batches, and that many first entries are the
-- journal after these
abbrev pub EndsAreBatches : Type 0
EndsAreBatches = (settings : Settings) (journal : Journal) (events : List Event) (n : ℕ) → Contains (ends settings journal events) n → (k : ℕ) × ((n ≡ length (after_batches settings journal events k)) × (first n (all_advanced settings journal events) ≡ after_batches settings journal events k))

-- no end of a round is below the first one or above the length of the round's journal
abbrev pub EndsWithin : Type 0
EndsWithin = (settings : Settings) (journal : Journal) (events : List Event) (n : ℕ) → let all = ends settings journal events in Contains all n → (get_or all 0 0 ≤ n) × (n ≤ length (all_advanced settings journal events))

-- the number of seconds before the first frame
abbrev pub opening : List Event → ℕ
opening [] = 0
opening (Tick s ∷ events) = suc (opening events)
opening (Arrival frame ∷ events) = 0

-- the length of a round's journal after some of the batches is an end, if the batches of the seconds before the first
-- frame are among them
abbrev pub BatchesAreEnds : Type 0
BatchesAreEnds = (settings : Settings) (journal : Journal) (events : List Event) (k : ℕ) → opening events ≤ k → Contains (ends settings journal events) (length (after_batches settings journal events k))

-- the batches of the seconds before the first frame are among all batches
abbrev pub OpeningWithin : {S : Type 0} → Ledger S → Type 0
OpeningWithin {S} ledger = (settings : Settings) (state : S) (events : List Event) → opening events ≤ length (writing ledger settings state events).batches

-- the batches that have entries, as they are published
abbrev pub filled : List (List Entry) → List (List Entry)
filled [] = []
filled ([] ∷ batches) = filled batches
filled ((entry ∷ entries) ∷ batches) = (entry ∷ entries) ∷ filled batches

-- for any first ones of the batches that have entries, some first ones of all batches have the same entries
abbrev pub FilledAreBatches : Type 0
FilledAreBatches = (batches : List (List Entry)) (j : ℕ) → (k : ℕ) × (joined (take j (filled batches)) ≡ joined (take k batches))

-- behind some first batches: for any first ones of the further batches that have entries, some first ones of all
-- batches, at least as many as those, have the same entries
abbrev pub FilledBehind : Type 0
FilledBehind = (batches : List (List Entry)) (first j : ℕ) → first ≤ length batches → (k : ℕ) × ((first ≤ k) × (joined (take first batches) ++ joined (take j (filled (drop first batches))) ≡ joined (take k batches)))

-- ### the report

-- the numbers of data packets, as the lines of frames show them
abbrev pub shown : Settings → List Frame → List Line → List ℕ
shown settings [] lines = []
shown settings (frame ∷ frames) [] = []
shown settings (frame ∷ frames) (line ∷ lines) =
    with_if (not (control settings frame)) line.n (shown settings frames lines)

-- a round has a line for each frame, and the lines show its numbers
abbrev pub LinesShow : Type 0
LinesShow = (settings : Settings) (previous : Option ℕ) (frames : List Frame) (journal : Journal) (ns : List ℕ) → length ns ≡ length (data_frames settings frames) → let lines = (round settings previous frames journal ns).lines in (length lines ≡ length frames) × (shown settings frames lines ≡ ns)

-- ### tables

-- the first entries of an extended journal, as many as before, are the journal before the further ones
abbrev pub FirstOfMore : Type 0
FirstOfMore = (journal : Journal) (entries : List Entry) → first (length journal) (extended journal entries) ≡ journal

-- the first entries of a journal that a router can have are such a journal, if the static mappings are among them
abbrev pub FirstIsProper : Type 0
FirstIsProper = (settings : Settings) (journal : Journal) (n : ℕ) → IsProper settings journal → length (statics settings) ≤ n → IsProper settings (first n journal)

-- a table that stands for the first n entries decides by them, at whatever moment
abbrev pub FirstRules : Type 0
FirstRules = (settings : Settings) (parts : Parts) (last : Journal) (n : ℕ) (frame : Frame) → Stands settings parts (first n last) → n ≤ length last → ruling_by settings parts frame ≡ ruling settings last n frame

-- a journal that a round of events may begin with, from moment m on: a router can have it, the events are in order, and
-- there is room
pub record MayBegin (settings : Settings) (m : ℕ) (journal : Journal) (events : List Event) : Type 0 where
  pub proper : IsProper settings journal
  pub last : last_moment journal ≤ m
  pub order : AreInOrder m events
  pub room : length journal + most_entries * length events ≤ 2 ^ 62

-- the events of frames in order are in order, from the moment of the frame before them on
abbrev pub RoundInOrder : Type 0
RoundInOrder = (previous : Option ℕ) (frames : List Frame) → FramesInOrder (unwrap_or previous 0) frames → AreInOrder (unwrap_or previous 0) (events_after previous frames)

-- the journal after a round is one that a router can have; its last entry isn't later than m or the round's last frame,
-- whichever is later, and at most `most_entries` (32,768) entries came for each event
abbrev pub RoundStays : Type 0
RoundStays = (settings : Settings) (previous : Option ℕ) (frames : List Frame) (journal : Journal) (ns : List ℕ) (m : ℕ) → MayBegin settings m journal (events_after previous frames) → let after = (round settings previous frames journal ns).after in IsProper settings after × ((last_moment after ≤ max m (closing_moment frames)) × (length after ≤ length journal + most_entries * length (events_after previous frames)))

-- written events with the parts of the journal in place of the journal
abbrev pub writing_tabled : Settings → Writing Journal → Writing Parts
writing_tabled settings written =
    record { items = written.items; batches = written.batches; after = parts_in settings written.after }

-- a worked round with the parts of the journal in place of the journal
abbrev pub worked_tabled : Settings → Worked Journal → Worked Parts
worked_tabled settings result = record {
  lines = result.lines;
  packets = result.packets;
  batches = result.batches;
  after = parts_in settings result.after;
}

-- a table writes events as the journal does, and then stands for it
abbrev pub TableWrites : Type 0
TableWrites = (settings : Settings) (parts : Parts) (journal : Journal) (m : ℕ) (events : List Event) → Stands settings parts journal → MayBegin settings m journal events → let by_table = writing table settings parts events in let by_journal = writing of_journal settings journal events in (by_table ≡ writing_tabled settings by_journal) × Stands settings by_table.after by_journal.after

-- a table that absorbed some of a round's batches stands for the journal after these
abbrev pub BatchesStand : Type 0
BatchesStand = (settings : Settings) (parts : Parts) (journal : Journal) (m : ℕ) (events : List Event) (k : ℕ) → Stands settings parts journal → MayBegin settings m journal events → Stands settings (with_entries table parts (joined (take k (writing table settings parts events).batches))) (after_batches settings journal events k)

-- a table that absorbed some of a round's batches decides data packets as the round does by that number of entries
abbrev pub BatchesRule : Type 0
BatchesRule = (settings : Settings) (parts : Parts) (journal : Journal) (m : ℕ) (events : List Event) (k : ℕ) (frame : Frame) → Stands settings parts journal → MayBegin settings m journal events → let after = with_entries table parts (joined (take k (writing table settings parts events).batches)) in ruling_by settings after frame ≡ ruling settings (all_advanced settings journal events) after.count frame

-- a round that a table works by the rulings of the journal has the journal's lines and packets; the table then stands
-- for the journal after the round, which is the one before with the round's batches
abbrev pub TableRounds : Type 0
TableRounds = (settings : Settings) (parts : Parts) (journal : Journal) (previous : Option ℕ) (m : ℕ) (frames : List Frame) (ns : List ℕ) → Stands settings parts journal → MayBegin settings m journal (events_after previous frames) → let by_table = worked table settings (closing_moment frames) parts (events_after previous frames) (rulings settings (all_advanced settings journal (events_after previous frames)) ns (data_frames settings frames)) in let by_journal = round settings previous frames journal ns in (by_table.lines ≡ by_journal.lines) × ((by_table.packets ≡ by_journal.packets) × (Stands settings by_table.after by_journal.after × (by_journal.after ≡ extended journal (joined by_table.batches))))

-- the parts of a table after so many batches
abbrev pub parts_after : Parts → List (List Entry) → ℕ → Parts
parts_after parts batches k = with_entries table parts (joined (take k batches))

-- a ruling on a data packet by a table that absorbed some batches, at least the first ones, as many as `first`
pub record IsRuled (settings : Settings) (parts : Parts) (batches : List (List Entry)) (first : ℕ) (frame : Frame) (one : Ruling) : Type 0 where
  pub k : ℕ
  pub late : first ≤ k
  pub is : one ≡ ruling_by settings (parts_after parts batches k) frame

-- a worked round is a round of the journal by lawful numbers; the table then stands for the journal after that round,
-- which is the journal before with the round's batches
pub record Shares (settings : Settings) (previous : Option ℕ) (frames : List Frame) (journal : Journal) (result : Worked Parts) : Type 0 where
  pub ns : List ℕ
  pub lawful : AreLawful settings previous frames journal ns
  pub lines : result.lines ≡ (round settings previous frames journal ns).lines
  pub packets : result.packets ≡ (round settings previous frames journal ns).packets
  pub stands : Stands settings result.after (round settings previous frames journal ns).after
  pub added : (round settings previous frames journal ns).after ≡ extended journal (joined result.batches)

-- a table works a round of the journal by lawful numbers, where tables beside it that absorbed at least the seconds
-- before the first frame decided its data packets
abbrev pub TablesShare : Type 0
TablesShare = (settings : Settings) (parts : Parts) (journal : Journal) (previous : Option ℕ) (m : ℕ) (frames : List Frame) (ruled : List Ruling) → let events = events_after previous frames in Stands settings parts journal → MayBegin settings m journal events → AllZip (IsRuled settings parts (writing table settings parts events).batches (opening events)) (data_frames settings frames) ruled → Shares settings previous frames journal (worked table settings (closing_moment frames) parts events ruled)

-- the parts after all batches of written events are the parts that writing left
abbrev pub AllBatches : Type 0
AllBatches = (settings : Settings) (parts : Parts) (events : List Event) → let written = writing table settings parts events in parts_after parts written.batches (length written.batches) ≡ written.after
