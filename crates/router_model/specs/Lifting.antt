-- Laws of parts and tables: they stand for the journal.
use Rattle.std.specs.Prelude.{◌≡◌, ℕ, suc, ◌+◌, ◌-◌, ◌*◌, ◌%◌, ◌^◌, ◌<◌, ◌≤◌, ◌==◌, ◌||◌, ◌&&◌, nat_le, Bool, true, List, [], ◌∷◌, ◌++◌, length, map, take, Option, Some, None, option_map, if◌then◌else◌}
use Rattle.std.specs.List.{All, list_all}
use Rattle.ip_headers.specs.Udp.{payload_in}
use Rattle.ip_headers.specs.declared.addr.Addr.{Addr}
use Rattle.capture_io.specs.Frame.{Frame}
use Rattle.mapping_records.specs.declared.eid.Eid.{Eid}
use Rattle.mapping_records.specs.declared.record.Record.{Record}
use Rattle.map_messages.specs.declared.message.MapRequest.{MapRequest}
use Rattle.map_messages.specs.declared.message.Message.{Message}
use Rattle.map_messages.specs.declared.message.Message.TheVariants as message
use Rattle.lisp_settings.specs.Instances.{limits_in}
use Rattle.lisp_settings.specs.Lawful.{IsLawful}
use Rattle.lisp_settings.specs.declared.settings.Change.{Change as OwnChange}
use Rattle.lisp_settings.specs.declared.settings.OwnLocator.{OwnLocator}
use Rattle.lisp_settings.specs.declared.settings.Settings.{Settings}
use Rattle.capture_events.specs.Came.{Came}
use Rattle.capture_events.specs.Events.{Event, Outcome, Tick, Arrival, events, played}
use Rattle.router_log.specs.Moments.{seconds}
use Rattle.router_log.specs.declared.entry.Entry.{Entry}
use Rattle.router_log.specs.declared.entry.Entry.TheVariants.{Changed}
use Rattle.router_log.specs.declared.notice.Notice.{Notice}
use Rattle.router_log.specs.declared.notice.Notice.TheVariants as notice
use Rattle.router_model.specs.Cache.{known_since, told_since}
use Rattle.router_model.specs.Changes.{Change, journal as of_journal, unchanged}
use Rattle.router_model.specs.Course.{Control, Datagram, course_of}
use Rattle.router_model.specs.Decide.{decide, decide_by}
use Rattle.router_model.specs.Hear.{Heard, Route, hear, hear_by, message_heard, ranges_of}
use Rattle.router_model.specs.Journal.{Journal, IsRising, changed, last_moment, moment_of, statics}
use Rattle.router_model.specs.Limits.{most_entries, most_notices, most_open, most_targets, most_told, most_version}
use Rattle.router_model.specs.Mappings.{bit, bit_told, exact, held, live, live_mappings}
use Rattle.router_model.specs.Note.{note, noted}
use Rattle.router_model.specs.Parts.{Parts, Stands, absorbed, admits, parts_in, parts_of, standing_in, table, view_in}
use Rattle.router_model.specs.Plain.{Router, after_event, plain, started}
use Rattle.router_model.specs.Proper.{EachFits, IsProper, MayChange, fits, is_admitted, is_short}
use Rattle.router_model.specs.Received.{message_in}
use Rattle.router_model.specs.Standing.{may_change, own_after, own_in, standing, standing_by, standing_with, stood_version}
use Rattle.router_model.specs.Tick.{tick, ticked}
use Rattle.router_model.specs.View.{View, view}

-- the parts of a journal whose moments don't fall have the journal's view at each moment
abbrev pub PartsAnswer : Type 0
PartsAnswer = (settings : Settings) (journal : Journal) (m : ℕ) → IsRising journal → view_in (parts_in settings journal) m ≡ view journal m

-- an entry that fits a journal is admitted by its parts, and turns them into the parts of the journal with that entry
abbrev pub EntryAbsorbed : Type 0
EntryAbsorbed = (settings : Settings) (journal : Journal) (entry : Entry) → MayChange settings → IsRising journal → fits settings journal entry ≡ true → (admits (parts_in settings journal) entry ≡ true) × (absorbed (parts_in settings journal) entry ≡ parts_in settings (entry ∷ journal))

-- entries that fit one by one from the static mappings on turn the parts of these into the parts of the whole journal
abbrev pub AllAbsorbed : Type 0
AllAbsorbed = (settings : Settings) (entries : List Entry) → MayChange settings → EachFits settings (statics settings) entries → parts_of settings entries ≡ parts_in settings (entries ++ statics settings)

-- moments don't fall in a journal that a router can have
abbrev pub ProperRises : Type 0
ProperRises = (settings : Settings) (journal : Journal) → IsProper settings journal → IsRising journal

-- a table that stands for a journal has the journal's view at each moment
abbrev pub StandingSees : Type 0
StandingSees = (settings : Settings) (parts : Parts) (journal : Journal) (m : ℕ) → Stands settings parts journal → view_in parts m ≡ view journal m

-- a table that stands for a journal admits just the entries that may follow it, apart from nonces and the next change
abbrev pub StandingAdmits : Type 0
StandingAdmits = (settings : Settings) (parts : Parts) (journal : Journal) (entry : Entry) → Stands settings parts journal → admits parts entry ≡ (is_admitted (limits_in settings) (length journal) (last_moment journal) (view journal (moment_of entry)) entry && may_change (own_after settings journal) (changed journal) entry)

-- a table that stands for a journal admits an entry that fits, and then stands for the journal with it
abbrev pub StandingAbsorbs : Type 0
StandingAbsorbs = (settings : Settings) (parts : Parts) (journal : Journal) (entry : Entry) → Stands settings parts journal → fits settings journal entry ≡ true → (admits parts entry ≡ true) × Stands settings (absorbed parts entry) (entry ∷ journal)

-- the status bits that are kept of a mapping are those in the journal
abbrev pub BitsKept : Type 0
BitsKept = (eid : Eid) (i : ℕ) (journal : Journal) → (if bit i (known_since eid journal) then Some (bit i (told_since eid journal)) else None) ≡ bit_told eid i journal

-- the parts of the static mappings stand for the journal that begins
abbrev pub StaticsStand : Type 0
StaticsStand = (settings : Settings) → MayChange settings → Stands settings (parts_of settings []) (statics settings)

-- ### what a table does, it does as the journal

-- a journal that a router can have, with no entry later than m, and room for so many entries more, up to 2^62 in all
pub record Ready (settings : Settings) (m more : ℕ) (journal : Journal) : Type 0 where
  pub proper : IsProper settings journal
  pub last : last_moment journal ≤ m
  pub room : length journal + more ≤ 2 ^ 62

-- a change of a journal with the journal's parts in its place; entries and emits stay
abbrev pub tabled : Settings → Change Journal → Change Parts
tabled settings change =
    record { after = parts_in settings change.after; entries = change.entries; emits = change.emits }

-- a message heard by a journal, with the journal's parts in its place
abbrev pub heard_tabled : Settings → Heard Journal → Heard Parts
heard_tabled settings heard =
    record { verdict = heard.verdict; change = tabled settings heard.change }

-- a table changed as the journal, which a router can have and which stays ready for so many entries more
pub record Goes (settings : Settings) (m more : ℕ) (by_table : Change Parts) (by_journal : Change Journal) : Type 0 where
  pub same : by_table ≡ tabled settings by_journal
  pub ready : Ready settings m more by_journal.after

-- whether a notice is as decisions give it: there are 8 or 32 status bits, and a wanted nonce has 24
abbrev pub is_sound : Notice → Bool
is_sound (notice.Bits eid rloc bits width) = (width == 8) || (width == 32)
is_sound (notice.EchoWanted rloc nonce) = is_short nonce
is_sound _ = true

-- notices as a decision gives them: all are sound, and at most five
abbrev pub AreSound : List Notice → Type 0
AreSound notices = (list_all is_sound notices ≡ true) × (length notices ≤ most_notices)

-- a table notes a sound notice as the journal does, whichever own locators stand: the same entries, which fit, and the
-- same emits
abbrev pub NotesLift : Type 0
NotesLift = (settings : Settings) (locators : List OwnLocator) (steps m more : ℕ) (notice : Notice) (before : Change Journal) → let stands = standing_with settings locators steps in is_sound notice ≡ true → Ready settings m (suc more) before.after → Goes settings m more (noted table stands m notice (tabled settings before)) (noted of_journal stands m notice before)

-- a table plays a second as the journal does: the same entries, which fit, and the same emits; at most one for each
-- change, for each prefix of each locator that gets an SMR, for each request that may be open, and 16 for probes
abbrev pub TicksLift : Type 0
TicksLift = (settings : Settings) (m more : ℕ) (before : Change Journal) → Ready settings m (more + (length settings.changes + (most_told * length settings.databases + (most_open + most_targets)))) before.after → Goes settings m more (ticked table settings m (tabled settings before)) (ticked of_journal settings m before)

-- a table heard a message as the journal, which a router can have and which stays ready for so many entries more
pub record Hears (settings : Settings) (m more : ℕ) (by_table : Heard Parts) (by_journal : Heard Journal) : Type 0 where
  pub same : by_table ≡ heard_tabled settings by_journal
  pub ready : Ready settings m more by_journal.change.after

-- whether action and version of a record fit their bits, as in each record that is read
abbrev pub is_bounded : Record → Bool
is_bounded mapping = nat_le mapping.action 7 && nat_le mapping.version most_version

-- whether the records of a message that may be learned fit their bits
abbrev pub is_sound_message : Message → Bool
is_sound_message (message.Reply reply) = list_all is_bounded reply.mappings
is_sound_message _ = true

-- the entries that hearing a Map-Request may make, 0 without one
abbrev pub requests_in : Option MapRequest → ℕ
requests_in None = 0
requests_in (Some request) = length (ranges_of request)

-- the entries that hearing a message may make
abbrev pub entries_in : Message → ℕ
entries_in (message.Request request) = requests_in (Some request)
entries_in (message.Reply reply) = suc (length reply.mappings)
entries_in (message.Control ecm) = requests_in ecm.request

-- a table hears a message as the journal does: the same verdict, the same entries, which fit, and the same emits
abbrev pub MessagesLift : Type 0
MessagesLift = (settings : Settings) (locators : List OwnLocator) (steps m more : ℕ) (route : Route) (read : Message) (before : Change Journal) → let stands = standing_with settings locators steps in is_sound_message read ≡ true → Ready settings m (more + entries_in read) before.after → Hears settings m more (message_heard table stands m route read (tabled settings before)) (message_heard of_journal stands m route read before)

-- all numbers of a list are octets: below 256
abbrev pub AreOctets : List ℕ → Type 0
AreOctets octets = All (λ octet. octet < 256) octets

-- the control message of a frame, if it has one, makes at most so many entries, and its records fit their bits
abbrev pub IsSoundFrame : Settings → Frame → ℕ → Type 0
IsSoundFrame settings frame most = (d : Datagram) (read : Message) → course_of settings frame ≡ Control d → message_in (payload_in d.packet.octets d.udp) ≡ Some read → (is_sound_message read ≡ true) × (entries_in read ≤ most)

-- a table hears a frame as the journal does
abbrev pub FramesLift : Type 0
FramesLift = (settings : Settings) (locators : List OwnLocator) (steps m more most : ℕ) (frame : Frame) (before : Change Journal) → let stands = standing_with settings locators steps in IsSoundFrame stands frame most → Ready settings m (more + most) before.after → Hears settings m more (hear_by table stands m frame (tabled settings before)) (hear_by of_journal stands m frame before)

-- ### the promises of a table

-- a table's change has the entries and emits of the journal's change, and the table then stands for the journal
pub record Follows (settings : Settings) (by_table : Change Parts) (by_journal : Change Journal) : Type 0 where
  pub entries : by_table.entries ≡ by_journal.entries
  pub emits : by_table.emits ≡ by_journal.emits
  pub stands : Stands settings by_table.after by_journal.after

-- a journal may go on at a moment: its last entry isn't later, and it has fewer than 2^61 entries
abbrev pub MayGo : Journal → ℕ → Type 0
MayGo journal m = (last_moment journal ≤ m) × (length journal < 2 ^ 61)

abbrev pub TableDecides : Type 0
TableDecides = (settings : Settings) (parts : Parts) (journal : Journal) (m : ℕ) (frame : Frame) → Stands settings parts journal → decide_by (standing_in settings parts) (view_in parts m) frame ≡ decide settings journal m frame

abbrev pub TableNotes : Type 0
TableNotes = (settings : Settings) (parts : Parts) (journal : Journal) (m : ℕ) (notice : Notice) → Stands settings parts journal → MayGo journal m → is_sound notice ≡ true → Follows settings (noted table (standing_in settings parts) m notice (unchanged parts)) (note settings journal m notice)

abbrev pub TableTicks : Type 0
TableTicks = (settings : Settings) (parts : Parts) (journal : Journal) (second : ℕ) → Stands settings parts journal → MayGo journal (seconds second) → Follows settings (ticked table settings (seconds second) (unchanged parts)) (tick settings journal second)

abbrev pub TableHears : Type 0
TableHears = (settings : Settings) (parts : Parts) (journal : Journal) (m : ℕ) (frame : Frame) → Stands settings parts journal → MayGo journal m → AreOctets frame.octets → let by_table = hear_by table (standing_in settings parts) m frame (unchanged parts) in let by_journal = hear settings journal m frame in (by_table.verdict ≡ by_journal.verdict) × Follows settings by_table.change by_journal.change

-- a decision on a frame of octets gives at most five notices, all of them sound
abbrev pub NoticesSound : Type 0
NoticesSound = (settings : Settings) (v : View) (frame : Frame) → AreOctets frame.octets → AreSound (decide_by settings v frame).notices

-- ### whole replays

-- the moment of an event
abbrev pub event_moment : Event → ℕ
event_moment (Tick s) = seconds s
event_moment (Arrival frame) = frame.moment

-- the frame of an event has octets alone
abbrev pub HasOctets : Event → Type 0
HasOctets (Tick s) = Unit {0}
HasOctets (Arrival frame) = AreOctets frame.octets

-- events in order, from a moment on, with frames of octets
abbrev pub AreInOrder : ℕ → List Event → Type 0
AreInOrder m [] = Unit {0}
AreInOrder m (event ∷ events) = (m ≤ event_moment event) × (HasOctets event × AreInOrder (event_moment event) events)

-- a router with the parts of its journal in place of the journal
abbrev pub router_tabled : Router Journal → Router Parts
router_tabled router = record { settings = router.settings; memory = parts_in router.settings router.memory }

-- the outcome of a router with the parts of its journal in place of the journal; lines and packets stay
abbrev pub outcome_tabled : Outcome (Router Journal) → Outcome (Router Parts)
outcome_tabled outcome =
    record { lines = outcome.lines; packets = outcome.packets; after = router_tabled outcome.after }

-- a table that replays events in order from the static mappings on gives the lines and packets of the plain router, and
-- its parts are those of that router's journal, which a router can have
abbrev pub TableReplays : Type 0
TableReplays = (settings : Settings) (events : List Event) → MayChange settings → AreInOrder 0 events → length (statics settings) + most_entries * length events ≤ 2 ^ 62 → (played (after_event table) (router_tabled (started settings)) events ≡ outcome_tabled (played plain (started settings) events)) × IsProper settings (played plain (started settings) events).after.memory

-- frames in order, from a moment on, with octets alone
abbrev pub FramesInOrder : ℕ → List Frame → Type 0
FramesInOrder m [] = Unit {0}
FramesInOrder m (frame ∷ frames) = (m ≤ frame.moment) × (AreOctets frame.octets × FramesInOrder frame.moment frames)

-- the events of frames in order are in order
abbrev pub EventsInOrder : Type 0
EventsInOrder = (frames : List Frame) → FramesInOrder 0 frames → AreInOrder 0 (events frames)

-- frames read from a capture are in order
abbrev pub CameInOrder : Type 0
CameInOrder = (frames : List Frame) → Came frames → FramesInOrder 0 frames

-- a journal has room for all entries of the frames read from a capture and of the seconds between them
abbrev pub CameFits : Type 0
CameFits = (settings : Settings) (frames : List Frame) → IsLawful settings → Came frames → length (statics settings) + most_entries * length (events frames) ≤ 2 ^ 62

-- a table with lawful settings that replays the frames read from a capture gives the lines and packets of the plain
-- router, and its parts are those of that router's journal, which a router can have
abbrev pub CaptureReplays : Type 0
CaptureReplays = (settings : Settings) (frames : List Frame) → IsLawful settings → Came frames → (played (after_event table) (router_tabled (started settings)) (events frames) ≡ outcome_tabled (played plain (started settings) (events frames))) × IsProper settings (played plain (started settings) (events frames)).after.memory

-- ### own locators that go up and down

-- lawful settings fulfil the demands of journals on settings (`MayChange`)
abbrev pub LawfulMayChange : Type 0
LawfulMayChange = (settings : Settings) → IsLawful settings → MayChange settings

-- a change of the settings as an own locator's address, and whether it goes up
abbrev pub told_change : OwnChange → Addr × Bool
told_change change = (change.address, change.up)

-- the changes of own locators in a journal, the oldest first
abbrev pub changes_in : Journal → List (Addr × Bool)
changes_in [] = []
changes_in (Changed moment address up ∷ before) = changes_in before ++ (address, up) ∷ []
changes_in (_ ∷ before) = changes_in before

-- the changes in a journal that a router can have are the first ones of its settings, in order, each once
abbrev pub ChangesComeOnce : Type 0
ChangesComeOnce = (settings : Settings) (journal : Journal) → IsProper settings journal → (changed journal ≤ length settings.changes) × (changes_in journal ≡ map told_change (take (changed journal) settings.changes))

-- the course of a frame doesn't depend on the changes of own locators
abbrev pub CourseStands : Type 0
CourseStands = (settings : Settings) (journal : Journal) (frame : Frame) → course_of (standing settings journal) frame ≡ course_of settings frame

-- hearing a message or noting a notice changes no own locator, so its packets are those of the settings by which it was
-- judged
abbrev pub HearsStill : Type 0
HearsStill = (settings : Settings) (journal : Journal) (m : ℕ) (frame : Frame) → standing settings (hear settings journal m frame).change.after ≡ standing settings journal

abbrev pub NotesStill : Type 0
NotesStill = (settings : Settings) (journal : Journal) (m : ℕ) (notice : Notice) → standing settings (note settings journal m notice).after ≡ standing settings journal

-- a Map-Version goes round among 1 to 4,095, and 0 stays
abbrev pub VersionsStep : Type 0
VersionsStep = (steps : ℕ) → (stood_version steps 0 ≡ 0) × ((version : ℕ) → 1 ≤ version → version ≤ most_version → stood_version steps version ≡ suc ((version - 1 + steps) % most_version))

-- the two numbers of `Own` determine the settings that stand
abbrev pub OwnTells : Type 0
OwnTells = (settings : Settings) (journal : Journal) → standing_by settings (own_in (own_after settings journal) (changed journal)) ≡ standing settings journal

-- ### what the mappings of a view are

-- the live mapping of exactly an EID is the one that was learned last for it, if it is live
abbrev pub LiveIsExact : Type 0
LiveIsExact = (t : ℕ) (journal : Journal) (eid : Eid) → exact (live_mappings t journal) eid ≡ option_map (held journal) (live t eid journal)
