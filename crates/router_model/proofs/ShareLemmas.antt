-- Tables in rounds: they write as the journal, and what absorbed some batches decides by the first entries.
use Rattle.std.proofs.Common.{◌≡◌, ℕ, zero, suc, ◌+◌, ◌-◌, ◌*◌, ◌≤◌, Bool, true, false, cond, List, [], ◌∷◌, ◌++◌, drop, get_or, length, take, Option, Some, refl, sym, ap, subst, ◌∙◌, arith, map, max, ◌^◌, None}
use Rattle.std.specs.List.{All, Contains, list_all, AllZip}
use Rattle.std.proofs.lemmas.List.{drop-append-le, length-append, length-drop, length-map, take_all}
use Rattle.std.proofs.lemmas.List.Elements.{All-map, All-weaker, All-cons, All-nil}
use Rattle.capture_io.specs.Frame.{Frame}
use Rattle.lisp_settings.specs.declared.settings.Settings.{Settings}
use Rattle.capture_events.specs.Events.{Event, Packet, Tick, Arrival, events_after, events_of, ticks}
use Rattle.router_log.specs.Moments.{seconds}
use Rattle.router_log.specs.declared.entry.Entry.{Entry}
use Rattle.router_log.specs.declared.notice.Notice.{Notice}
use Rattle.router_model.specs.Changes.{Change, each, journal as of_journal, unchanged}
use Rattle.router_model.specs.Course.{control}
use Rattle.router_model.specs.Decide.{decide_by}
use Rattle.router_model.specs.Hear.{Heard, hear_by}
use Rattle.router_model.specs.Journal.{Journal, changed, extended, first, last_moment, statics}
use Rattle.router_model.specs.Lifting.{AreInOrder, AreOctets, HasOctets, Ready, event_moment, is_sound, tabled}
use Rattle.router_model.specs.Note.{noted}
use Rattle.router_model.specs.Parts.{Parts, Stands, parts_in, standing_in, table, view_in}
use Rattle.router_model.specs.Plain.{emit_packets}
use Rattle.router_model.specs.Proper.{EachFits, IsProper}
use Rattle.router_model.specs.Rounds.{Line, Round, all_advanced, closing_moment, data_frames, decided, ends, line_of, round}
use Rattle.router_model.specs.Sharing.{BatchesRule, BatchesStand, FirstIsProper, FirstRules, MayBegin, TableRounds, TableWrites, TablesShare, after_batches, opening, parts_after, worked_tabled, writing_tabled, RoundStays, IsRuled, AllBatches, RoundInOrder}
use Rattle.router_model.specs.Sides.{Item, Message, Ruling, Second, Worked, Writing, data_in, lines_by, packets_by, event_written, joined, left_for_later, message_written, noting, notices_of, put_together, rulings, second_written, then_written, with_entries, worked, writing, ruling, ruling_by}
use Rattle.router_model.specs.Standing.{own_after, standing}
use Rattle.router_model.specs.Tick.{ticked}
use Rattle.router_model.specs.View.{view}
use Rattle.router_model.proofs.FollowLemmas.{table-decides}
use Rattle.router_model.proofs.GrowLemmas.{grown-heard, grown-ticked, with-more}
use Rattle.router_model.proofs.HearLemmas.{fewer-ready, frames-lift, goes-each}
use Rattle.router_model.proofs.NoteLemmas.{notes-lift}
use Rattle.router_model.proofs.NoticeLemmas.{notices-sound}
use Rattle.router_model.proofs.PartsLemmas.{and_both}
use Rattle.router_model.proofs.ReplayLemmas.{after-order}
use Rattle.router_model.proofs.SideLemmas.{batches-are-ends, data-append, data-left, extended-more, first-batches, journal-adds, message-grows, on-batches, sides-meet, tick-grows, worked-adds, writing-advances, writing-adds}
use Rattle.router_model.proofs.SoundLemmas.{frame-sound}
use Rattle.router_model.proofs.StaticsLemmas.{length-extended}
use Rattle.router_model.proofs.TickLemmas.{ticks-lift}
use Rattle.router_model.proofs.UpsLemmas.{stands-in}

-- ### the first entries

fits-drop : (settings : Settings) (before : Journal) (k : ℕ) (entries : List Entry) → EachFits settings before entries → EachFits settings before (drop k entries)
fits-drop settings before zero entries fit = fit
fits-drop settings before (suc k) [] fit = tt
fits-drop settings before (suc k) (e ∷ entries) fit = fits-drop settings before k entries fit.1

pub first-is-proper : FirstIsProper
first-is-proper settings journal n proper all =
    let k : ℕ = length journal - n in
    let long = ap (λ (j : Journal). length j) proper.whole in
    let both = length-append proper.entries (statics settings) in
    record {
      may = proper.may;
      entries = drop k proper.entries;
      whole = ap (λ (j : Journal). drop k j) proper.whole ∙ drop-append-le k proper.entries (statics settings) (omega (arith, long, both, all));
      fit = fits-drop settings (statics settings) k proper.entries proper.fit;
    }

pub first-rules : FirstRules
first-rules settings parts last n frame stands few =
    ap (λ k. record { n = k; decision = decide_by (standing_in settings parts) (view_in parts frame.moment) frame })
    (ap (λ (p : Parts). p.count) stands.whole ∙ length-drop (length last - n) last ∙ (let same : length last - (length last - n) ≡ n = omega (arith, few) in same))
    ∙ ap (λ d. record { n = n; decision = d }) (table-decides settings parts (first n last) frame.moment frame stands)

-- ### a table writes as the journal

-- frames of octets
abbrev AllOctets : List Frame → Type 0
AllOctets [] = Unit {0}
AllOctets (frame ∷ frames) = AreOctets frame.octets × AllOctets frames

octets-append : (one next : List Frame) → AllOctets one → AllOctets next → AllOctets (one ++ next)
octets-append [] next first others = others
octets-append (frame ∷ one) next first others = (first.0, octets-append one next first.1 others)

-- a table wrote as the journal; there is room for the notices of what was left for later
record Writes (settings : Settings) (m more : ℕ) (t : Writing Parts) (j : Writing Journal) : Type 0 where
  same : t ≡ writing_tabled settings j
  ready : Ready settings m (more + 5 * length (data_in j.items)) j.after
  octets : AllOctets (data_in j.items)

-- one item with its entries, and a table that stands for a journal
abbrev one_written : Settings → Journal → Item → List Entry → Writing Parts
one_written settings journal item entries = record {
  items = item ∷ [];
  batches = entries ∷ [];
  after = parts_in settings journal;
}

module _ (settings : Settings) (more : ℕ) (journal : Journal) where
  second-writes : (s : ℕ) → Ready settings (seconds s) (more + 32768) journal → Writes settings (seconds s) more (event_written table settings (parts_in settings journal) (Tick s)) (event_written of_journal settings journal (Tick s))
  second-writes s ready =
      let changes = ready.proper.may.few_changes in
      let databases = ready.proper.may.few_databases in
      let goes = ticks-lift settings (seconds s) more (unchanged journal) (fewer-ready settings (seconds s) (more + 32768) _ journal (omega (arith, changes, databases)) ready) in
      let j : Change Journal = ticked of_journal settings (seconds s) (unchanged journal) in
      record {
        same =
            ap (second_written table settings s) goes.same
            ∙ ap (λ (stand : Settings). one_written settings j.after (Second (emit_packets stand (seconds s) j.emits)) j.entries) (stands-in settings j.after);
        ready = fewer-ready settings (seconds s) more (more + 5 * 0) _ (omega arith) goes.ready;
        octets = tt;
      }

  frame-writes : (frame : Frame) → AreOctets frame.octets → Ready settings frame.moment (more + 32768) journal → Writes settings frame.moment more (event_written table settings (parts_in settings journal) (Arrival frame)) (event_written of_journal settings journal (Arrival frame))
  frame-writes frame are ready =
      subst (λ (stand : Settings). Writes settings frame.moment more (cond (control settings frame) (message_written table settings (length journal) frame (hear_by table stand frame.moment frame (unchanged (parts_in settings journal)))) (left_for_later (parts_in settings journal) frame)) (event_written of_journal settings journal (Arrival frame)))
      (sym (stands-in settings journal)) (by (control settings frame))
    where
      by : (b : Bool) → Writes settings frame.moment more (cond b (message_written table settings (length journal) frame (hear_by table (standing settings journal) frame.moment frame (unchanged (parts_in settings journal)))) (left_for_later (parts_in settings journal) frame)) (cond b (message_written of_journal settings (length journal) frame (hear_by of_journal (standing settings journal) frame.moment frame (unchanged journal))) (left_for_later journal frame))
      by true =
          let hears = frames-lift settings (own_after settings journal) (changed journal) frame.moment more 256 frame (unchanged journal) (frame-sound (standing settings journal) frame are) (fewer-ready settings frame.moment (more + 32768) (more + 256) journal (omega arith) ready) in
          let j : Heard Journal = hear_by of_journal (standing settings journal) frame.moment frame (unchanged journal) in
          record {
            same =
                ap (message_written table settings (length journal) frame) hears.same
                ∙ ap (λ (stand : Settings). one_written settings j.change.after (Message (line_of frame (length journal) j.verdict) (emit_packets stand frame.moment j.change.emits)) j.change.entries) (stands-in settings j.change.after);
            ready = fewer-ready settings frame.moment more (more + 5 * 0) _ (omega arith) hears.ready;
            octets = tt;
          }
      by false = record { same = refl; ready = fewer-ready settings frame.moment (more + 32768) (more + 5 * 1) journal (omega arith) ready; octets = (are, tt) }

  event-writes : (event : Event) → HasOctets event → Ready settings (event_moment event) (more + 32768) journal → Writes settings (event_moment event) more (event_written table settings (parts_in settings journal) event) (event_written of_journal settings journal event)
  event-writes (Tick s) are ready = second-writes s ready
  event-writes (Arrival frame) are ready = frame-writes frame are ready

-- the moment of the last of events, from a moment on
abbrev latest : ℕ → List Event → ℕ
latest m [] = m
latest m (event ∷ events) = latest (event_moment event) events

-- at a later moment
later-ready : (settings : Settings) (m later more fewer : ℕ) (journal : Journal) → m ≤ later → fewer ≤ more → Ready settings m more journal → Ready settings later fewer journal
later-ready settings m later more fewer journal less few ready = record {
  proper = ready.proper;
  last = (let last = ready.last in omega (arith, last, less));
  room = (let room = ready.room in omega (arith, room, few));
}

all-writes : (settings : Settings) (more m : ℕ) (events : List Event) (journal : Journal) → AreInOrder m events → Ready settings m (more + 32768 * length events) journal → Writes settings (latest m events) more (writing table settings (parts_in settings journal) events) (writing of_journal settings journal events)
all-writes settings more m [] journal order ready = record { same = refl; ready = ready; octets = tt }
all-writes settings more m (event ∷ events) journal order ready =
    let one = event-writes settings (more + 32768 * length events) journal event order.1.0 (later-ready settings m (event_moment event) (more + 32768 * suc (length events)) ((more + 32768 * length events) + 32768) journal order.0 (omega arith) ready) in
    let j : Writing Journal = event_written of_journal settings journal event in
    let next : Writing Journal = writing of_journal settings j.after events in
    let left : ℕ = length (data_in j.items) in
    let rest = all-writes settings (more + 5 * left) (event_moment event) events j.after order.1.1 (fewer-ready settings (event_moment event) ((more + 32768 * length events) + 5 * left) ((more + 5 * left) + 32768 * length events) j.after (omega arith) one.ready) in
    let long = ap (λ (l : List Frame). length l) (data-append j.items next.items) ∙ length-append (data_in j.items) (data_in next.items) in
    record {
      same =
          ap (λ (t : Writing Parts). then_written t (writing table settings t.after events)) one.same
          ∙ ap (then_written (writing_tabled settings j)) rest.same;
      ready = fewer-ready settings (latest (event_moment event) events) ((more + 5 * left) + 5 * length (data_in next.items)) (more + 5 * length (data_in (j.items ++ next.items))) next.after (omega (arith, long)) rest.ready;
      octets = subst AllOctets (sym (data-append j.items next.items)) (octets-append (data_in j.items) (data_in next.items) one.octets rest.octets);
    }

may-write : (settings : Settings) (m : ℕ) (journal : Journal) (events : List Event) → MayBegin settings m journal events → Ready settings m (0 + 32768 * length events) journal
may-write settings m journal events may = record { proper = may.proper; last = may.last; room = (let room = may.room in omega (arith, room)) }

pub table-writes : TableWrites
table-writes settings parts journal m events stands may =
    subst (λ p. (writing table settings p events ≡ writing_tabled settings (writing of_journal settings journal events)) × Stands settings (writing table settings p events).after (writing of_journal settings journal events).after) (sym stands.whole)
    (let writes = all-writes settings 0 m events journal may.order (may-write settings m journal events may) in
    (writes.same, record { proper = writes.ready.proper; whole = ap (λ (t : Writing Parts). t.after) writes.same }))

-- ### a table with some of the batches

-- a table that absorbed batches stands for the journal with them
record Stood (settings : Settings) (journal : Journal) (batches : List (List Entry)) : Type 0 where
  same : with_entries table (parts_in settings journal) (joined batches) ≡ parts_in settings (extended journal (joined batches))
  proper : IsProper settings (extended journal (joined batches))

stood-on : (settings : Settings) (journal after : Journal) (entries : List Entry) (batches : List (List Entry)) → with_entries table (parts_in settings journal) entries ≡ parts_in settings after → after ≡ extended journal entries → Stood settings after batches → Stood settings journal (entries ∷ batches)
stood-on settings journal after entries batches absorbed grown stood =
    let on : extended journal (entries ++ joined batches) ≡ extended after (joined batches) = extended-more journal entries (joined batches) ∙ ap (λ j. extended j (joined batches)) (sym grown) in
    record {
      same =
          with-more table (parts_in settings journal) entries (joined batches)
          ∙ ap (λ p. with_entries table p (joined batches)) absorbed
          ∙ stood.same
          ∙ ap (parts_in settings) (sym on);
      proper = subst (IsProper settings) (sym on) stood.proper;
    }

module _ (settings : Settings) where
  -- the entries of a change that a table makes are absorbed
  absorbed-by : (journal : Journal) (t : Change Parts) (j : Change Journal) → t ≡ tabled settings j → t.after ≡ with_entries table (parts_in settings journal) t.entries → with_entries table (parts_in settings journal) j.entries ≡ parts_in settings j.after
  absorbed-by journal t j same grown =
      ap (λ (c : Change Parts). with_entries table (parts_in settings journal) c.entries) (sym same) ∙ sym grown ∙ ap (λ (c : Change Parts). c.after) same

  batches-stood : (m k : ℕ) (events : List Event) (journal : Journal) → AreInOrder m events → Ready settings m (0 + 32768 * length events) journal → Stood settings journal (take k (writing of_journal settings journal events).batches)
  batches-stood m zero events journal order ready = record { same = refl; proper = ready.proper }
  batches-stood m (suc k) [] journal order ready = record { same = refl; proper = ready.proper }
  batches-stood m (suc k) (Tick s ∷ events) journal order ready =
      let now = later-ready settings m (seconds s) (0 + 32768 * suc (length events)) ((0 + 32768 * length events) + 32768) journal order.0 (omega arith) ready in
      let changes = now.proper.may.few_changes in
      let databases = now.proper.may.few_databases in
      let goes = ticks-lift settings (seconds s) (0 + 32768 * length events) (unchanged journal) (fewer-ready settings (seconds s) ((0 + 32768 * length events) + 32768) _ journal (omega (arith, changes, databases)) now) in
      let change : Change Journal = ticked of_journal settings (seconds s) (unchanged journal) in
      stood-on settings journal change.after change.entries (take k (writing of_journal settings change.after events).batches)
      (absorbed-by journal (ticked table settings (seconds s) (unchanged (parts_in settings journal))) change goes.same (grown-ticked table settings (seconds s) (parts_in settings journal) (unchanged (parts_in settings journal)) refl))
      (tick-grows settings journal s)
      (batches-stood (seconds s) k events change.after order.1.1 goes.ready)
  batches-stood m (suc k) (Arrival frame ∷ events) journal order ready =
      let now = later-ready settings m frame.moment (0 + 32768 * suc (length events)) ((0 + 32768 * length events) + 256) journal order.0 (omega arith) ready in
      let change : Change Journal = (hear_by of_journal (standing settings journal) frame.moment frame (unchanged journal)).change in
      let hears = frames-lift settings (own_after settings journal) (changed journal) frame.moment (0 + 32768 * length events) 256 frame (unchanged journal) (frame-sound (standing settings journal) frame order.1.0) now in
      by (control settings frame)
      (stood-on settings journal change.after change.entries (take k (writing of_journal settings change.after events).batches)
      (absorbed-by journal (hear_by table (standing settings journal) frame.moment frame (unchanged (parts_in settings journal))).change change (ap (λ (h : Heard Parts). h.change) hears.same) (grown-heard table (standing settings journal) frame.moment (parts_in settings journal) frame (unchanged (parts_in settings journal)) refl))
      (message-grows settings journal frame)
      (batches-stood frame.moment k events change.after order.1.1 hears.ready))
      (batches-stood frame.moment (suc k) events journal order.1.1 (fewer-ready settings frame.moment ((0 + 32768 * length events) + 256) (0 + 32768 * length events) journal (omega arith) now))
    where
      by : (b : Bool) → Stood settings journal ((hear_by of_journal (standing settings journal) frame.moment frame (unchanged journal)).change.entries ∷ take k (writing of_journal settings (hear_by of_journal (standing settings journal) frame.moment frame (unchanged journal)).change.after events).batches) → Stood settings journal (take (suc k) (writing of_journal settings journal events).batches) → let written = cond b (message_written of_journal settings (length journal) frame (hear_by of_journal (standing settings journal) frame.moment frame (unchanged journal))) (left_for_later journal frame) in Stood settings journal (take (suc k) (written.batches ++ (writing of_journal settings written.after events).batches))
      by true heard left = heard
      by false heard left = left

pub batches-stand : BatchesStand
batches-stand settings parts journal m events k stands may =
    let writes = table-writes settings parts journal m events stands may in
    let stood = batches-stood settings m k events journal may.order (may-write settings m journal events may) in
    subst (λ batches. Stands settings (with_entries table parts (joined (take k batches))) (after_batches settings journal events k)) (sym (ap (λ (t : Writing Parts). t.batches) writes.0))
    (subst (λ p. Stands settings (with_entries table p (joined (take k (writing of_journal settings journal events).batches))) (after_batches settings journal events k)) (sym stands.whole)
    (record { proper = stood.proper; whole = stood.same }))

pub batches-rule : BatchesRule
batches-rule settings parts journal m events k frame stands may =
    let after : Parts = with_entries table parts (joined (take k (writing table settings parts events).batches)) in
    let now : Journal = after_batches settings journal events k in
    let last : Journal = all_advanced settings journal events in
    let stood : Stands settings after now = batches-stand settings parts journal m events k stands may in
    let count : after.count ≡ length now = ap (λ (p : Parts). p.count) stood.whole in
    let long = ap (λ (j : Journal). length j) (on-batches settings journal events k) ∙ length-extended now (joined (drop k (writing of_journal settings journal events).batches)) in
    first-rules settings after last after.count frame
    (subst (Stands settings after) (sym (ap (λ n. first n last) count ∙ first-batches settings journal events k)) stood)
    (omega (arith, count, long))

-- ### a whole round

all-pass : {A : Type 0} (test : A → Bool) (one next : List A) → list_all test one ≡ true → list_all test next ≡ true → list_all test (one ++ next) ≡ true
all-pass test [] next first others = others
all-pass test (a ∷ one) next first others =
    let parts = and_both (test a) (list_all test one) first in
    rw (parts.0, all-pass test one next parts.1 others) refl

-- the notices of decisions on frames of octets are sound, and at most five of each
abbrev FewSound : ℕ → List Notice → Type 0
FewSound frames notices = (list_all is_sound notices ≡ true) × (length notices ≤ 5 * frames)

rulings-sound : (settings : Settings) (last : Journal) (ns : List ℕ) (frames : List Frame) → AllOctets frames → FewSound (length frames) (notices_of (rulings settings last ns frames))
rulings-sound settings last ns [] are = (refl, omega arith)
rulings-sound settings last ns (frame ∷ frames) are =
    let one = notices-sound (standing settings (first (get_or ns 0 0) last)) (view (first (get_or ns 0 0) last) frame.moment) frame are.0 in
    let rest = rulings-sound settings last (drop 1 ns) frames are.1 in
    let decision = decided settings last (get_or ns 0 0) frame in
    let others = notices_of (rulings settings last (drop 1 ns) frames) in
    let long = length-append decision.notices others in
    let few = one.1 in
    let rest_few = rest.1 in
    (all-pass is_sound decision.notices others one.0 rest.0, omega (arith, long, few, rest_few))

latest-append : (m : ℕ) (one next : List Event) → latest m (one ++ next) ≡ latest (latest m one) next
latest-append m [] next = refl
latest-append m (event ∷ one) next = latest-append (event_moment event) one next

latest-closing : (m : ℕ) (previous : Option ℕ) (frame : Frame) (frames : List Frame) → latest m (events_after previous (frame ∷ frames)) ≡ closing_moment (frame ∷ frames)
latest-closing m previous frame [] =
    latest-append m (events_of previous frame) [] ∙ latest-append m (ticks previous frame.moment) (Arrival frame ∷ [])
latest-closing m previous frame (next ∷ frames) =
    latest-append m (events_of previous frame) (events_after (Some frame.moment) (next ∷ frames))
    ∙ latest-closing (latest m (events_of previous frame)) (Some frame.moment) next frames

-- what a round gives, and a table that stands for a journal
abbrev all_worked : Settings → Journal → List Line → List Packet → List (List Entry) → Worked Parts
all_worked settings journal lines packets batches = record {
  lines = lines;
  packets = packets;
  batches = batches;
  after = parts_in settings journal;
}

-- a round by tables that decide as the journal
module _ (settings : Settings) (journal : Journal) (events : List Event) (ns : List ℕ) where
  abbrev by_journal : ℕ → Worked Journal
  by_journal moment = let written = writing of_journal settings journal events in worked of_journal settings moment journal events (rulings settings written.after ns (data_in written.items))

  abbrev by_table : ℕ → Worked Parts
  by_table moment = let written = writing of_journal settings journal events in worked table settings moment (parts_in settings journal) events (rulings settings written.after ns (data_in written.items))

  -- all that is known of the round
  record EventsShare (m : ℕ) : Type 0 where
    same : by_table (latest m events) ≡ worked_tabled settings (by_journal (latest m events))
    proper : IsProper settings (by_journal (latest m events)).after
    last : last_moment (by_journal (latest m events)).after ≤ latest m events
    few : length (by_journal (latest m events)).after ≤ length journal + 32768 * length events

  events-share : (m : ℕ) → MayBegin settings m journal events → EventsShare m
  events-share m may =
      let room = may.room in
      let more : ℕ = 2 ^ 62 - (length journal + 32768 * length events) in
      let begins : Ready settings m (more + 32768 * length events) journal = record { proper = may.proper; last = may.last; room = omega (arith, room) } in
      let writes = all-writes settings more m events journal may.order begins in
      let written : Writing Journal = writing of_journal settings journal events in
      let ruled : List Ruling = rulings settings written.after ns (data_in written.items) in
      let sound = rulings-sound settings written.after ns (data_in written.items) writes.octets in
      let moment : ℕ = latest m events in
      let few = sound.1 in
      let goes =
      goes-each settings moment (noted table (standing settings written.after) moment) (noted of_journal (standing settings written.after) moment) is_sound (λ more n change pass ready. notes-lift settings (own_after settings written.after) (changed written.after) moment more n change pass ready) (notices_of ruled) sound.0 more (unchanged (parts_in settings written.after)) (unchanged written.after)
      (record { same = refl; ready = fewer-ready settings moment (more + 5 * length (data_in written.items)) (more + length (notices_of ruled)) written.after (omega (arith, few)) writes.ready }) in
      let j : Change Journal = each (noted of_journal (standing settings written.after) moment) (notices_of ruled) (unchanged written.after) in
      record {
        same =
            ap (λ (t : Writing Parts). put_together table settings moment t ruled (noting table settings moment t.after ruled)) writes.same
            ∙ ap (λ (stand : Settings). put_together table settings moment (writing_tabled settings written) ruled (each (noted table stand moment) (notices_of ruled) (unchanged (parts_in settings written.after)))) (stands-in settings written.after)
            ∙ ap (put_together table settings moment (writing_tabled settings written) ruled) goes.same
            ∙ ap (λ (stand : Settings). all_worked settings j.after (lines_by written.items ruled) (packets_by written.items ruled ++ emit_packets stand moment j.emits) (written.batches ++ j.entries ∷ [])) (stands-in settings j.after);
        proper = goes.ready.proper;
        last = goes.ready.last;
        few = (let left = goes.ready.room in omega (arith, left, room));
      }

-- the journal after a round is the one before with its batches
worked-grows : (settings : Settings) (moment : ℕ) (journal : Journal) (events : List Event) (ruled : List Ruling) → let result = worked of_journal settings moment journal events ruled in result.after ≡ extended journal (joined result.batches)
worked-grows settings moment journal events ruled =
    worked-adds of_journal settings moment journal events ruled
    ∙ journal-adds journal (joined (worked of_journal settings moment journal events ruled).batches)

pub table-rounds : TableRounds
table-rounds settings parts journal previous m [] ns stands may = (refl, (refl, (stands, refl)))
table-rounds settings parts journal previous m (frame ∷ frames) ns stands may =
    let events : List Event = events_after previous (frame ∷ frames) in
    let closing : ℕ = closing_moment (frame ∷ frames) in
    let written : Writing Journal = writing of_journal settings journal events in
    let ruled : List Ruling = rulings settings (all_advanced settings journal events) ns (data_frames settings (frame ∷ frames)) in
    let same_ruled : rulings settings written.after ns (data_in written.items) ≡ ruled = ap (λ j. rulings settings j ns (data_in written.items)) (writing-advances settings journal events) ∙ ap (rulings settings (all_advanced settings journal events) ns) (data-left of_journal settings previous (frame ∷ frames) journal) in
    let share = events-share settings journal events ns m may in
    let shares = subst (λ t. (by_table settings journal events ns t ≡ worked_tabled settings (by_journal settings journal events ns t)) × IsProper settings (by_journal settings journal events ns t).after) (latest-closing m previous frame frames) (share.same, share.proper) in
    let whole : worked table settings closing parts events ruled ≡ worked_tabled settings (by_journal settings journal events ns closing) = ap (λ p. worked table settings closing p events ruled) stands.whole ∙ ap (worked table settings closing (parts_in settings journal) events) (sym same_ruled) ∙ shares.0 in
    let meet = sides-meet settings closing journal events ns in (
      ap (λ (w : Worked Parts). w.lines) whole ∙ sym (ap (λ (r : Round). r.lines) meet),
      (
        ap (λ (w : Worked Parts). w.packets) whole ∙ sym (ap (λ (r : Round). r.packets) meet),
        (
          subst (Stands settings (worked table settings closing parts events ruled).after) (sym (ap (λ (r : Round). r.after) meet))
              (record { proper = shares.1; whole = ap (λ (w : Worked Parts). w.after) whole }),
          ap (λ (r : Round). r.after) meet
              ∙ (worked-grows settings closing journal events (rulings settings written.after ns (data_in written.items))
              ∙ sym (ap (λ (w : Worked Parts). extended journal (joined w.batches)) whole)),
        ),
      ),
    )

pub round-in-order : RoundInOrder
round-in-order previous [] order = tt
round-in-order None (frame ∷ frames) order = (order.0, (order.1.0, after-order frame.moment frames order.1.1))
round-in-order (Some m) (frame ∷ frames) order = after-order m (frame ∷ frames) order

pub round-stays : RoundStays
round-stays settings previous [] journal ns m may = (may.proper, (let last = may.last in omega (arith, last), omega arith))
round-stays settings previous (frame ∷ frames) journal ns m may =
    let events : List Event = events_after previous (frame ∷ frames) in
    let closing : ℕ = closing_moment (frame ∷ frames) in
    let share = events-share settings journal events ns m may in
    let same = latest-closing m previous frame frames in
    let after : (by_journal settings journal events ns (latest m events)).after ≡ (round settings previous (frame ∷ frames) journal ns).after = ap (λ t. (by_journal settings journal events ns t).after) same ∙ sym (ap (λ (r : Round). r.after) (sides-meet settings closing journal events ns)) in
    let last = share.last in (
      subst (IsProper settings) after share.proper,
      (
        subst (λ (j : Journal). last_moment j ≤ max m closing) after (omega (arith, last, same)),
        subst (λ (j : Journal). length j ≤ length journal + 32768 * length events) after share.few,
      ),
    )

-- ### tables that decide beside the writer

-- data packets in order, each by a table that absorbed so many batches
abbrev rulings_by : Settings → Parts → List (List Entry) → List ℕ → List Frame → List Ruling
rulings_by settings parts batches [] frames = []
rulings_by settings parts batches (k ∷ ks) [] = []
rulings_by settings parts batches (k ∷ ks) (frame ∷ frames) =
    ruling_by settings (parts_after parts batches k) frame ∷ rulings_by settings parts batches ks frames

-- how many batches each of these tables absorbed
record Counts (settings : Settings) (parts : Parts) (batches : List (List Entry)) (first : ℕ) (frames : List Frame) (ruled : List Ruling) : Type 0 where
  ks : List ℕ
  late : All (λ k. first ≤ k) ks
  each : length ks ≡ length frames
  are : rulings_by settings parts batches ks frames ≡ ruled

counts-of : (settings : Settings) (parts : Parts) (batches : List (List Entry)) (from : ℕ) (frames : List Frame) (ruled : List Ruling) → AllZip (IsRuled settings parts batches from) frames ruled → Counts settings parts batches from frames ruled
counts-of settings parts batches from [] [] all = record { ks = []; late = All-nil (λ k. from ≤ k); each = refl; are = refl }
counts-of settings parts batches from [] (one ∷ ruled) all = absurd all
counts-of settings parts batches from (frame ∷ frames) [] all = absurd all
counts-of settings parts batches from (frame ∷ frames) (one ∷ ruled) all =
    let is = all.0 in
    let rest = counts-of settings parts batches from frames ruled all.1 in
    record {
      ks = is.k ∷ rest.ks;
      late = All-cons (λ k. from ≤ k) is.k rest.ks is.late rest.late;
      each = ap (λ n. suc n) rest.each;
      are = ap (λ r. r ∷ rulings_by settings parts batches rest.ks frames) (sym is.is) ∙ ap (λ l. one ∷ l) rest.are;
    }

module _ (settings : Settings) (parts : Parts) (journal : Journal) (m : ℕ) (events : List Event) where
  abbrev count_after : ℕ → ℕ
  count_after k = (parts_after parts (writing table settings parts events).batches k).count

  rulings-same : Stands settings parts journal → MayBegin settings m journal events → (ks : List ℕ) (frames : List Frame) → length ks ≡ length frames → rulings_by settings parts (writing table settings parts events).batches ks frames ≡ rulings settings (all_advanced settings journal events) (map count_after ks) frames
  rulings-same stands may [] [] same = refl
  rulings-same stands may [] (frame ∷ frames) same = absurd (let bad : ⊥ = omega (arith, same) in bad)
  rulings-same stands may (k ∷ ks) [] same = absurd (let bad : ⊥ = omega (arith, same) in bad)
  rulings-same stands may (k ∷ ks) (frame ∷ frames) same =
      ap (λ r. r ∷ rulings_by settings parts (writing table settings parts events).batches ks frames) (batches-rule settings parts journal m events k frame stands may)
      ∙ ap (λ l. ruling settings (all_advanced settings journal events) (count_after k) frame ∷ l) (rulings-same stands may ks frames (omega (arith, same)))

  counts-end : Stands settings parts journal → MayBegin settings m journal events → (ks : List ℕ) → All (λ k. opening events ≤ k) ks → All (Contains (ends settings journal events)) (map count_after ks)
  counts-end stands may ks all =
      All-map (Contains (ends settings journal events)) count_after ks (All-weaker (λ k. opening events ≤ k) (λ k. Contains (ends settings journal events) (count_after k)) one ks all)
    where
      one : (k : ℕ) → opening events ≤ k → Contains (ends settings journal events) (count_after k)
      one k less =
          subst (Contains (ends settings journal events)) (sym (ap (λ (p : Parts). p.count) (batches-stand settings parts journal m events k stands may).whole))
          (batches-are-ends settings journal events k less)

pub tables-share : TablesShare
tables-share settings parts journal previous m frames ruled stands may all =
    let events : List Event = events_after previous frames in
    let batches : List (List Entry) = (writing table settings parts events).batches in
    let counts = counts-of settings parts batches (opening events) (data_frames settings frames) ruled all in
    let ns : List ℕ = map (count_after settings parts journal m events) counts.ks in
    let same = sym counts.are ∙ rulings-same settings parts journal m events stands may counts.ks (data_frames settings frames) counts.each in
    let whole : worked table settings (closing_moment frames) parts events ruled ≡ worked table settings (closing_moment frames) parts events (rulings settings (all_advanced settings journal events) ns (data_frames settings frames)) = ap (worked table settings (closing_moment frames) parts events) same in
    let does = table-rounds settings parts journal previous m frames ns stands may in
    record {
      ns = ns;
      lawful = record {
        ends = counts-end settings parts journal m events stands may counts.ks counts.late;
        each = length-map counts.ks (count_after settings parts journal m events) ∙ counts.each;
      };
      lines = ap (λ (w : Worked Parts). w.lines) whole ∙ does.0;
      packets = ap (λ (w : Worked Parts). w.packets) whole ∙ does.1.0;
      stands = subst (λ (p : Parts). Stands settings p (round settings previous frames journal ns).after) (sym (ap (λ (w : Worked Parts). w.after) whole)) does.1.1.0;
      added = does.1.1.1 ∙ sym (ap (λ (w : Worked Parts). extended journal (joined w.batches)) whole);
    }

pub all-batches : AllBatches
all-batches settings parts events =
    let written : Writing Parts = writing table settings parts events in
    ap (λ l. with_entries table parts (joined l)) (take_all (length written.batches) written.batches (omega arith))
    ∙ sym (writing-adds table settings parts events)
