-- What a frame adds to a replay.
use Rattle.std.proofs.Common.{get_or, drop, take, ◌≡◌, ◌+◌, ◌*◌, ◌/◌, ◌-◌, ◌^◌, ◌≤◌, ◌<◌, ◌∙◌, ℕ, List, [], ◌∷◌, ◌++◌, length, Option, Some, None, Result, Ok, Err, false, true, append_assoc, arith, ap, ap₂, refl, subst, sym}
use Rattle.std.specs.Result.{OnOk}
use Rattle.std.proofs.lemmas.Grind.{flat_map-append}
use Rattle.std.proofs.lemmas.List.{append-nil, length-append, length-map, map-append, take_all}
use Rattle.capture_io.specs.Frame.{Frame}
use Rattle.capture_io.specs.Output.{packet_record}
use Rattle.lisp_settings.specs.Lawful.{IsLawful}
use Rattle.lisp_settings.specs.declared.settings.Settings.{Settings}
use Rattle.capture_events.specs.Events.{Arrival, Determined, Event, Happens, Outcome, Packet, records_of, second_of}
use Rattle.playback.specs.Playing.{Gathers, GathersOne}
use Rattle.playback.specs.declared.output.Output.{Output}
use Rattle.router_log.specs.Lines.{frame_line}
use Rattle.router_log.specs.declared.emit.Emit.{Emit}
use Rattle.router_log.specs.declared.verdict.Verdict.{Verdict}
use Rattle.router_model.specs.Changes.{Change, unchanged}
use Rattle.router_model.specs.Emits.{emit_packet}
use Rattle.router_model.specs.Hear.{Heard, course_heard}
use Rattle.router_model.specs.Journal.{statics}
use Rattle.router_model.specs.Parts.{Parts, own_of, parts_in, standing_in, table, view_in}
use Rattle.router_model.specs.Standing.{own_in, standing_by, without_ups}
use Rattle.router_model.proofs.OwnLemmas.{own-after}
use Rattle.router_model.proofs.ReplayLemmas.{statics-first}
use Rattle.router_model.proofs.StaticsLemmas.{length-statics}
use Rattle.router_model.proofs.UpsLemmas.{own_after-site, ups-tell}
use Rattle.router_core.proofs.StandLemmas.{course-by}
use Rattle.router_model.specs.Course.{Course, control, course_of}
use Rattle.router_model.specs.Decide.{decide_by, decide_course}
use Rattle.router_model.specs.Plain.{Router, after_data, after_decision, after_event, after_message, after_tick, emit_packets, packet_of, packets_of}
use Rattle.router_model.specs.Limits.{most_event_packets}
use Rattle.replay.specs.Taking.{router_of, GathersFew, Sends}

-- a verdict sends at most one packet
pub packets_few : (moment : ℕ) (packet : Option (List ℕ)) → length (packets_of moment packet) ≤ 1
packets_few moment None = omega arith
packets_few moment (Some packet) = omega arith

-- two facts make a third, where there is a value
pub on_ok_two : {T E A B C : Type 0} (r : Result T E) → OnOk r A → OnOk r B → (A → B → C) → OnOk r C
on_ok_two (Ok x) a b both = both a b
on_ok_two (Err e) a b both = tt

-- three facts make a fourth, where there is a value
pub on_ok_three : {T E A B C D : Type 0} (r : Result T E) → OnOk r A → OnOk r B → OnOk r C → (A → B → C → D) → OnOk r D
on_ok_three (Ok x) a b c all = all a b c
on_ok_three (Err e) a b c all = tt

-- one packet was gathered
pub sends-one : (moment : ℕ) (octets : List ℕ) (old new : Output) → new.lines ≡ old.lines → new.records ≡ old.records ++ packet_record moment octets → new.written ≡ old.written + 1
    → Sends (record { moment = moment; octets = octets } ∷ []) old new
sends-one moment octets old new lines records written = record {
  lines = lines;
  records = records ∙ ap (λ (r : List ℕ). old.records ++ r) (sym (append-nil (packet_record moment octets)));
  written = written;
}

-- packets, then others
sends-both : (first others : List Packet) (old mid new : Output) → Sends first old mid → Sends others mid new → Sends (first ++ others) old new
sends-both first others old mid new a b =
    let m = a.written in
    let n = b.written in
    let both = length-append first others in
    record {
      lines = b.lines ∙ a.lines;
      records = b.records ∙ ap (λ (r : List ℕ). r ++ records_of others) a.records
          ∙ append_assoc old.records (records_of first) (records_of others)
          ∙ ap (λ (r : List ℕ). old.records ++ r) (sym (flat_map-append (λ (p : Packet). packet_record p.moment p.octets) first others));
      written = omega (arith, m, n, both);
    }

-- the packets of emits, then those of others
pub emits-more : (settings : Settings) (moment : ℕ) (first others : List Emit) (old mid new : Output) → Sends (emit_packets settings moment first) old mid → Sends (emit_packets settings moment others) mid new → Sends (emit_packets settings moment (first ++ others)) old new
emits-more settings moment first others old mid new a b =
    subst (λ (packets : List Packet). Sends packets old new) (sym (map-append (λ (emit : Emit). record { moment = moment; octets = emit_packet settings emit }) first others))
    (sends-both (emit_packets settings moment first) (emit_packets settings moment others) old mid new a b)

-- a line and the packets of emits are what a message gives
pub message-gathers : (router : Router Parts) (frame : Frame) (heard : Heard Parts) (old first new : Output)
    → first.lines ≡ old.lines ++ frame_line frame.number frame.moment router.memory.count heard.verdict → first.records ≡ old.records → first.written ≡ old.written
    → Sends (emit_packets (standing_in router.settings heard.change.after) frame.moment heard.change.emits) first new → length heard.change.emits ≤ 256
    → GathersFew (after_message table router frame heard) old new
message-gathers router frame heard old first new lines records written sent few =
    let packets = emit_packets (standing_in router.settings heard.change.after) frame.moment heard.change.emits in
    let count : length packets ≡ length heard.change.emits = length-map heard.change.emits _ in
    let a = sent.written in
    record {
      gathers = record {
        lines = sent.lines ∙ lines;
        records = sent.records ∙ ap (λ (r : List ℕ). r ++ records_of packets) records;
        written = omega (arith, a, written);
      };
      few = omega (arith, count, few);
    }

-- a line, the packet of a verdict and those of emits are what a frame gives
pub data-gathers : (router : Router Parts) (frame : Frame) (verdict : Verdict) (change : Change Parts) (after : Parts) (old first mid new : Output)
    → first.lines ≡ old.lines ++ frame_line frame.number frame.moment router.memory.count verdict → first.records ≡ old.records → first.written ≡ old.written
    → Sends (packets_of frame.moment (packet_of verdict)) first mid → Sends (emit_packets (standing_in router.settings after) frame.moment change.emits) mid new → after ≡ change.after → length change.emits ≤ 5
    → GathersFew (after_data table router frame verdict change) old new
data-gathers router frame verdict change after old first mid new lines records written sent emits left few =
    let packets = packets_of frame.moment (packet_of verdict) in
    let more = emit_packets (standing_in router.settings change.after) frame.moment change.emits in
    let emitted : Sends more mid new =
    subst (λ (p : Parts). Sends (emit_packets (standing_in router.settings p) frame.moment change.emits) mid new) left emits in
    let one = packets_few frame.moment (packet_of verdict) in
    let both = length-append packets more in
    let count : length more ≡ length change.emits = length-map change.emits _ in
    let a = sent.written in
    let b = emitted.written in
    record {
      gathers = record {
        lines = emitted.lines ∙ sent.lines ∙ lines;
        records = emitted.records ∙ ap (λ (r : List ℕ). r ++ records_of more) (sent.records ∙ ap (λ (r : List ℕ). r ++ records_of packets) records)
            ∙ append_assoc old.records (records_of packets) (records_of more)
            ∙ ap (λ (r : List ℕ). old.records ++ r) (sym (flat_map-append (λ (packet : Packet). packet_record packet.moment packet.octets) packets more));
        written = b ∙ (let w : mid.written ≡ old.written + length packets = a ∙ ap (λ (n : ℕ). n + length packets) written in omega (arith, w, both));
      };
      few = omega (arith, one, both, count, few);
    }

-- a frame that is no message is decided by what it is to the router
pub decided : (settings : Settings) (parts : Parts) (frame : Frame) (course : Course) → course ≡ course_of settings frame → control settings frame ≡ false
    → after_decision table (router_of settings parts) frame (decide_course (standing_in settings parts) (view_in parts frame.moment) course) ≡ after_event table (router_of settings parts) (Arrival frame)
unfolding decide_by
decided settings parts frame course is apart = rw (apart, is, sym (course-by settings (own_of parts) frame)) refl

-- and a message is heard
pub heard-event : (settings : Settings) (parts : Parts) (frame : Frame) (course : Course) → course ≡ course_of settings frame → control settings frame ≡ true
    → after_message table (router_of settings parts) frame (course_heard table (standing_in settings parts) frame.moment course (unchanged parts)) ≡ after_event table (router_of settings parts) (Arrival frame)
heard-event settings parts frame course is comes = rw (comes, is, sym (course-by settings (own_of parts) frame)) refl

-- the settings that stand, behind what changes no own locator
pub stands-kept : (settings : Settings) (old new : Parts) → new.own ≡ old.own → new.steps ≡ old.steps → standing_in settings new ≡ standing_in settings old
stands-kept settings old new own steps = ap₂ (λ locators n. standing_by settings (own_in locators n)) own steps

-- the packets of emits are what a second gives
pub second-gathers : (router : Router Parts) (moment : ℕ) (change : Change Parts) (old new : Output)
    → Sends (emit_packets (standing_in router.settings change.after) moment change.emits) old new → length change.emits ≤ 20752 → GathersFew (after_tick table router moment change) old new
second-gathers router moment change old new sent few =
    let count : length (emit_packets (standing_in router.settings change.after) moment change.emits) ≡ length change.emits = length-map change.emits _ in
    record {
      gathers = record { lines = sent.lines ∙ sym (append-nil old.lines); records = sent.records; written = sent.written };
      few = omega (arith, count, few);
    }

not-earlier : (m n : ℕ) → m ≤ n → second_of m ≤ second_of n
not-earlier m n later = grind (arith, later)

second-later : (m second : ℕ) → m < second * 1000000000 → second_of m + 1 ≤ second
second-later m second later = grind (arith, later)

-- what a frame more may add to a journal
pub ready-more : (frames number before after earlier moment : ℕ) → number ≡ frames + 1 → earlier ≤ moment → before ≤ 65536 + 256 * frames + 20752 * second_of earlier → after ≤ before + 256 → after ≤ 65536 + 256 * number + 20752 * second_of moment
ready-more frames number before after earlier moment next later few more =
    let past = not-earlier earlier moment later in
    omega (arith, next, past, few, more)

-- and a second
pub ready-later : (frames before after earlier second : ℕ) → earlier < second * 1000000000 → before ≤ 65536 + 256 * frames + 20752 * second_of earlier → after ≤ before + 20752 → after ≤ 65536 + 256 * frames + 20752 * second_of (second * 1000000000)
ready-later frames before after earlier second later few more =
    let past = second-later earlier second later in
    let same : second * 1000000000 / 1000000000 ≡ second = grind arith in
    rw same (omega (arith, past, few, more))

-- the packets of a frame more
pub packets-more : (frames number before after sent earlier moment : ℕ) → number ≡ frames + 1 → earlier ≤ moment → before ≤ most_event_packets * (frames + second_of earlier) → sent ≤ most_event_packets → after ≡ before + sent → after ≤ most_event_packets * (number + second_of moment)
packets-more frames number before after sent earlier moment next later few some is =
    let past = not-earlier earlier moment later in
    omega (arith, next, past, few, some, is)

-- and of a second
pub packets-later : (frames before after sent earlier second : ℕ) → earlier < second * 1000000000 → before ≤ most_event_packets * (frames + second_of earlier) → sent ≤ most_event_packets → after ≡ before + sent → after ≤ most_event_packets * (frames + second_of (second * 1000000000))
packets-later frames before after sent earlier second later few some is =
    let past = second-later earlier second later in
    let same : second * 1000000000 / 1000000000 ≡ second = grind arith in
    rw same (omega (arith, past, few, some, is))

-- they are counted in 64 bits
pub packets-left : (frames written moment : ℕ) → frames ≤ 2000000000 → moment < 2 ^ 32 * 1000000000 → written ≤ most_event_packets * (frames + second_of moment) → written < 2 ^ 48
packets-left frames written moment most early few =
    let past = second-later moment (2 ^ 32) early in
    omega (arith, past, most, few)

-- there is room for more
pub room-left : (frames count moment : ℕ) → frames ≤ 2000000000 → moment < 2 ^ 32 * 1000000000 → count ≤ 65536 + 256 * frames + 20752 * second_of moment → count < 2 ^ 60
room-left frames count moment most early few =
    let past = second-later moment (2 ^ 32) early in
    omega (arith, past, most, few)

-- a router begins ready, with an entry for each static mapping
pub ready-first : (settings : Settings) (parts : Parts) → IsLawful settings → parts ≡ parts_in settings (statics settings)
    → IsLawful settings × ((without_ups parts.own ≡ without_ups settings.locators) × ((parts.now ≤ 0) × ((parts.count ≤ 65536 + 256 * 0 + 20752 * second_of 0) × (0 ≤ most_event_packets * (0 + second_of 0)))))
ready-first settings parts lawful is =
    let count = length-statics settings in
    let few = lawful.few_mappings in
    let first = statics-first settings in
    (lawful, (ap (λ (p : Parts). without_ups p.own) is ∙ own_after-site settings (statics settings), (rw is first, (rw is (let few_entries : length (statics settings) ≤ 65536 + 256 * 0 + 20752 * second_of 0 = omega (arith, count, few) in few_entries), omega arith))))

-- what is determined at an event was gathered
pub gathers-determined : {S : Type 0} (step : S → Event → Outcome S) (before after : S) (event : Event) (old new : Output)
    → Gathers (step before event) old new → after ≡ (step before event).after → GathersOne (Determined step before (Happens event)) old new after
gathers-determined step before after event old new gathers is = record { outcome = step before event; is = refl; gathers = gathers; left = is }

-- behind an event a table is for the settings that it was for
pub own-kept : (settings : Settings) (old new : Parts) (event : Event) → without_ups old.own ≡ without_ups settings.locators → router_of settings new ≡ (after_event table (router_of settings old) event).after → without_ups new.own ≡ without_ups settings.locators
own-kept settings old new event own is =
    ap (λ (r : Router Parts). without_ups r.memory.own) is ∙ own-after (router_of settings old) event ∙ own

-- the own locators that stand are those of the table
pub own-stands : (settings : Settings) (parts : Parts) → without_ups parts.own ≡ without_ups settings.locators → (standing_in settings parts).locators ≡ parts.own
own-stands settings parts own = ups-tell parts.own settings.locators own

-- a list is its first item and those left
pub first-left : {A : Type 0} (items : List A) (item : A) → 1 ≤ length items → item ≡ get_or items 0 item → items ≡ item ∷ take (length items - 1) (drop 1 items)
first-left [] item some is = absurd (omega (arith, some))
first-left (first ∷ others) item some is = ap₂ (λ (x : _) (l : List _). x ∷ l) (sym is) (sym (take_all (length (first ∷ others) - 1) others (omega arith)))
