-- A table replays events as the plain router.
use Rattle.std.proofs.Common.{◌≡◌, ℕ, zero, suc, ◌+◌, ◌*◌, ◌≤◌, Bool, true, false, cond, List, [], ◌∷◌, ◌++◌, length, map, Some, refl, sym, ap, subst, ◌∙◌, arith, ◌-◌, ◌/◌, ◌<◌, div-mul-le_self, div-add-mod', mod-lt, append_assoc}
use Rattle.std.specs.List.{range_with_len}
use Rattle.mapping_records.specs.declared.record.Record.{Record}
use Rattle.capture_io.specs.Frame.{Frame}
use Rattle.lisp_settings.specs.declared.settings.Settings.{Settings}
use Rattle.capture_events.specs.Events.{Event, Outcome, Packet, Tick, Arrival, events, events_after, followed, played, ticks}
use Rattle.router_log.specs.Lines.{frame_line}
use Rattle.router_log.specs.Moments.{seconds}
use Rattle.router_log.specs.declared.decision.Decision.{Decision}
use Rattle.router_log.specs.declared.entry.Entry.TheVariants.{Learned}
use Rattle.router_model.specs.Changes.{Change, each, journal as of_journal, unchanged}
use Rattle.router_model.specs.Course.{control}
use Rattle.router_model.specs.Decide.{decide_by}
use Rattle.router_model.specs.Hear.{Heard, hear_by}
use Rattle.router_model.specs.Journal.{Journal, changed, extended, last_moment, statics}
use Rattle.router_model.specs.Lifting.{AreInOrder, AreOctets, EventsInOrder, FramesInOrder, HasOctets, Ready, TableReplays, event_moment, is_sound, outcome_tabled, router_tabled}
use Rattle.router_model.specs.Note.{noted}
use Rattle.router_model.specs.Parts.{Parts, parts_in, table}
use Rattle.router_model.specs.Plain.{Router, after_data, after_decision, after_event, after_message, after_tick, emit_packets, packet_of, packets_of, plain, started}
use Rattle.router_model.specs.Proper.{IsProper}
use Rattle.router_model.specs.Standing.{own_after, standing}
use Rattle.router_model.specs.Tick.{ticked}
use Rattle.router_model.specs.View.{view}
use Rattle.router_model.proofs.HearLemmas.{fewer-ready, frames-lift, goes-each}
use Rattle.router_model.proofs.NoteLemmas.{notes-lift}
use Rattle.router_model.proofs.NoticeLemmas.{notices-sound}
use Rattle.router_model.proofs.PartsLemmas.{answers}
use Rattle.router_model.proofs.SoundLemmas.{frame-sound}
use Rattle.router_model.proofs.StandsLemmas.{proper-rises, statics-proper}
use Rattle.router_model.proofs.TickLemmas.{ticks-lift}
use Rattle.router_model.proofs.UpsLemmas.{stands-in}

-- a table replayed as the journal
record Replays (settings : Settings) (m more : ℕ) (t : Outcome (Router Parts)) (j : Outcome (Router Journal)) : Type 0 where
  same : t ≡ outcome_tabled j
  settings_stay : j.after.settings ≡ settings
  ready : Ready settings m more j.after.memory

-- a router by its journal
abbrev router_of : Settings → Journal → Router Journal
router_of settings journal = record { settings = settings; memory = journal }

-- lines and packets, and a table that stands for a journal
abbrev told : Settings → Journal → List ℕ → List Packet → Outcome (Router Parts)
told settings journal lines packets = record {
  lines = lines;
  packets = packets;
  after = record { settings = settings; memory = parts_in settings journal };
}

module _ (settings : Settings) (more : ℕ) (journal : Journal) where
  tick-replays : (s : ℕ) → Ready settings (seconds s) (more + 32768) journal → Replays settings (seconds s) more (after_event table (router_tabled (router_of settings journal)) (Tick s)) (plain (router_of settings journal) (Tick s))
  tick-replays s ready =
      let changes = ready.proper.may.few_changes in
      let databases = ready.proper.may.few_databases in
      let goes = ticks-lift settings (seconds s) more (unchanged journal) (fewer-ready settings (seconds s) (more + 32768) _ journal (omega (arith, changes, databases)) ready) in
      let j : Change Journal = ticked of_journal settings (seconds s) (unchanged journal) in
      record {
        same =
            ap (after_tick table (router_tabled (router_of settings journal)) (seconds s)) goes.same
            ∙ ap (λ (stand : Settings). told settings j.after [] (emit_packets stand (seconds s) j.emits)) (stands-in settings j.after);
        settings_stay = refl;
        ready = goes.ready;
      }

  message-replays : (frame : Frame) → AreOctets frame.octets → Ready settings frame.moment (more + 32768) journal → Replays settings frame.moment more (after_message table (router_tabled (router_of settings journal)) frame (hear_by table (standing settings journal) frame.moment frame (unchanged (parts_in settings journal)))) (after_message of_journal (router_of settings journal) frame (hear_by of_journal (standing settings journal) frame.moment frame (unchanged journal)))
  message-replays frame are ready =
      let hears = frames-lift settings (own_after settings journal) (changed journal) frame.moment more 256 frame (unchanged journal) (frame-sound (standing settings journal) frame are) (fewer-ready settings frame.moment (more + 32768) (more + 256) journal (omega arith) ready) in
      let j : Heard Journal = hear_by of_journal (standing settings journal) frame.moment frame (unchanged journal) in
      record {
        same =
            ap (after_message table (router_tabled (router_of settings journal)) frame) hears.same
            ∙ ap (λ (stand : Settings). told settings j.change.after (frame_line frame.number frame.moment (length journal) j.verdict) (emit_packets stand frame.moment j.change.emits)) (stands-in settings j.change.after);
        settings_stay = refl;
        ready = hears.ready;
      }

  decision-replays : (frame : Frame) → AreOctets frame.octets → Ready settings frame.moment (more + 32768) journal → Replays settings frame.moment more (after_decision table (router_tabled (router_of settings journal)) frame (decide_by (standing settings journal) (table.see (parts_in settings journal) frame.moment) frame)) (after_decision of_journal (router_of settings journal) frame (decide_by (standing settings journal) (view journal frame.moment) frame))
  decision-replays frame are ready =
      let decision : Decision = decide_by (standing settings journal) (view journal frame.moment) frame in
      let sound = notices-sound (standing settings journal) (view journal frame.moment) frame are in
      let few = sound.1 in
      let goes =
      goes-each settings frame.moment (noted table (standing settings journal) frame.moment) (noted of_journal (standing settings journal) frame.moment) is_sound (λ more n change pass ready. notes-lift settings (own_after settings journal) (changed journal) frame.moment more n change pass ready) decision.notices sound.0 more (unchanged (parts_in settings journal)) (unchanged journal)
      (record { same = refl; ready = fewer-ready settings frame.moment (more + 32768) (more + length decision.notices) journal (omega (arith, few)) ready }) in
      let j : Change Journal = each (noted of_journal (standing settings journal) frame.moment) decision.notices (unchanged journal) in
      subst (λ v. Replays settings frame.moment more (after_decision table (router_tabled (router_of settings journal)) frame (decide_by (standing settings journal) v frame)) (after_decision of_journal (router_of settings journal) frame decision))
      (sym (answers settings journal frame.moment (proper-rises settings journal ready.proper)))
      (record {
        same =
            ap (λ (stand : Settings). after_data table (router_tabled (router_of settings journal)) frame decision.verdict (each (noted table stand frame.moment) decision.notices (unchanged (parts_in settings journal)))) (stands-in settings journal)
            ∙ ap (after_data table (router_tabled (router_of settings journal)) frame decision.verdict) goes.same
            ∙ ap (λ (stand : Settings). told settings j.after (frame_line frame.number frame.moment (length journal) decision.verdict) (packets_of frame.moment (packet_of decision.verdict) ++ emit_packets stand frame.moment j.emits)) (stands-in settings j.after);
        settings_stay = refl;
        ready = goes.ready;
      })

  frame-replays : (frame : Frame) → AreOctets frame.octets → Ready settings frame.moment (more + 32768) journal → Replays settings frame.moment more (after_event table (router_tabled (router_of settings journal)) (Arrival frame)) (plain (router_of settings journal) (Arrival frame))
  frame-replays frame are ready =
      subst (λ (stand : Settings). Replays settings frame.moment more (cond (control settings frame) (after_message table (router_tabled (router_of settings journal)) frame (hear_by table stand frame.moment frame (unchanged (parts_in settings journal)))) (after_decision table (router_tabled (router_of settings journal)) frame (decide_by stand (table.see (parts_in settings journal) frame.moment) frame))) (plain (router_of settings journal) (Arrival frame)))
      (sym (stands-in settings journal)) (by (control settings frame))
    where
      by : (b : Bool) → Replays settings frame.moment more (cond b (after_message table (router_tabled (router_of settings journal)) frame (hear_by table (standing settings journal) frame.moment frame (unchanged (parts_in settings journal)))) (after_decision table (router_tabled (router_of settings journal)) frame (decide_by (standing settings journal) (table.see (parts_in settings journal) frame.moment) frame))) (cond b (after_message of_journal (router_of settings journal) frame (hear_by of_journal (standing settings journal) frame.moment frame (unchanged journal))) (after_decision of_journal (router_of settings journal) frame (decide_by (standing settings journal) (view journal frame.moment) frame)))
      by true = message-replays frame are ready
      by false = decision-replays frame are ready

  event-replays : (event : Event) → HasOctets event → Ready settings (event_moment event) (more + 32768) journal → Replays settings (event_moment event) more (after_event table (router_tabled (router_of settings journal)) event) (plain (router_of settings journal) event)
  event-replays (Tick s) are ready = tick-replays s ready
  event-replays (Arrival frame) are ready = frame-replays frame are ready

-- what is promised of events in order
abbrev AllReplay : Settings → Router Journal → List Event → Type 0
AllReplay settings router events = (played (after_event table) (router_tabled router) events ≡ outcome_tabled (played plain router events)) × IsProper settings (played plain router events).after.memory

all-replay : (settings : Settings) (m : ℕ) (events : List Event) (router : Router Journal) → settings ≡ router.settings → AreInOrder m events → Ready settings m (32768 * length events) router.memory → AllReplay settings router events
all-replay settings m [] router same order ready = (refl, ready.proper)
all-replay settings m (event ∷ events) router same order ready =
    let start : Replays settings (event_moment event) (32768 * length events) (after_event table (router_tabled router) event) (plain router event) = subst (λ s. Replays settings (event_moment event) (32768 * length events) (after_event table (router_tabled (router_of s router.memory)) event) (plain (router_of s router.memory) event)) same
    (event-replays settings (32768 * length events) router.memory event order.1.0 (record { proper = ready.proper; last = (let last = ready.last in let later = order.0 in omega (arith, last, later)); room = (let room = ready.room in omega (arith, room)) })) in
    let rest = all-replay settings (event_moment event) events (plain router event).after (sym start.settings_stay) order.1.1 start.ready in (
      ap (λ (t : Outcome (Router Parts)). followed t (played (after_event table) t.after events)) start.same
          ∙ ap (followed (outcome_tabled (plain router event))) rest.0,
      rest.1,
    )

statics-now : (journal : Journal) (mappings : List Record) → last_moment journal ≤ 0 → last_moment (extended journal (map (λ mapping. Learned 0 mapping true) mappings)) ≤ 0
statics-now journal [] first = first
statics-now journal (mapping ∷ mappings) first = statics-now (Learned 0 mapping true ∷ journal) mappings (omega arith)

-- the static mappings are learned at moment 0
pub statics-first : (settings : Settings) → last_moment (statics settings) ≤ 0
statics-first settings = statics-now [] settings.mappings (omega arith)

pub table-replays : TableReplays
table-replays settings events may order room =
    all-replay settings 0 events (started settings) refl order
    (record { proper = statics-proper settings may; last = statics-first settings; room = room })

-- ### the events of a capture are in order

-- seconds up to a moment, and what follows from that moment on
ticks-order : (n a m to : ℕ) (rest : List Event) → m ≤ seconds a → m ≤ to → a + n ≤ suc (to / 1000000000) → ((k : ℕ) → k ≤ to → AreInOrder k rest) → AreInOrder m (map Tick (range_with_len a n) ++ rest)
ticks-order zero a m to rest first last few follows = follows m last
ticks-order (suc n) a m to rest first last few follows =
    (first, (tt, ticks-order n (a + 1) (seconds a) to rest (omega arith) (within a n to few) (omega (arith, few)) follows))
  where
    within : (a n to : ℕ) → a + suc n ≤ suc (to / 1000000000) → a * 1000000000 ≤ to
    within a n to few = let whole = div-mul-le_self to 1000000000 in omega (arith, few, whole)

later-seconds : (from to : ℕ) → from ≤ to → (from ≤ seconds (suc (from / 1000000000))) × (suc (from / 1000000000) + (to / 1000000000 - from / 1000000000) ≤ suc (to / 1000000000))
later-seconds from to later =
    let a = div-add-mod' from 1000000000 in
    let b = div-add-mod' to 1000000000 in
    let c = mod-lt from (let some : 0 < 1000000000 = omega arith in some) in
    let d = mod-lt to (let some : 0 < 1000000000 = omega arith in some) in
    (omega (arith, a, c), omega (arith, a, b, c, d, later))

pub after-order : (m : ℕ) (frames : List Frame) → FramesInOrder m frames → AreInOrder m (events_after (Some m) frames)
after-order m [] order = tt
after-order m (frame ∷ frames) order =
    let bounds = later-seconds m frame.moment order.0 in
    subst (AreInOrder m) (sym (append_assoc (ticks (Some m) frame.moment) (Arrival frame ∷ []) (events_after (Some frame.moment) frames)))
    (ticks-order (frame.moment / 1000000000 - m / 1000000000) (suc (m / 1000000000)) m frame.moment (Arrival frame ∷ events_after (Some frame.moment) frames) bounds.0 order.0 bounds.1
    (λ k less. (less, (order.1.0, after-order frame.moment frames order.1.1))))

pub events-order : EventsInOrder
events-order [] order = tt
events-order (frame ∷ frames) order = (order.0, (order.1.0, after-order frame.moment frames order.1.1))
