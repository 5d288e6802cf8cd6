-- What the writer's side gathers, event by event.
use Rattle.std.proofs.Common.{◌≡◌, ◌∙◌, ℕ, suc, ◌+◌, ◌-◌, ◌*◌, ◌^◌, ◌≤◌, ◌<◌, Bool, true, false, cond, List, [], ◌∷◌, ◌++◌, length, map, slice_index_or, Option, Some, None, Result, Ok, Err, All, append_assoc, refl, sym, ap, subst, arith}
use Rattle.std.specs.List.{range_with_len}
use Rattle.std.specs.Result.{OnOk}
use Rattle.std.proofs.lemmas.List.{append-nil, length-append, length-map, map-append}
use Rattle.std.proofs.lemmas.List.Concat.{flat_map-append}
use Rattle.std.proofs.lemmas.List.Elements.{All-push}
use Rattle.std.proofs.lemmas.List.FromFn.{length-map-range_with_len, length-range_with_len}
use Rattle.capture_io.specs.Frame.{Frame}
use Rattle.lisp_settings.specs.declared.settings.Settings.{Settings}
use Rattle.capture_events.specs.Events.{Event, Tick, Arrival, second_of, ticks}
use Rattle.router_log.specs.Moments.{seconds}
use Rattle.router_log.specs.declared.entry.Entry.{Entry}
use Rattle.router_model.specs.Changes.{Change, unchanged}
use Rattle.router_model.specs.Course.{control}
use Rattle.router_model.specs.Hear.{Heard, hear_by}
use Rattle.router_model.specs.Limits.{most_ticked}
use Rattle.router_model.specs.Parts.{Parts, standing_in, table}
use Rattle.router_model.specs.Plain.{emit_packets}
use Rattle.router_model.specs.Rounds as rounds
use Rattle.router_model.specs.Sharing.{filled}
use Rattle.router_model.specs.Sides.{Item, Writing, data_in, joined, left_for_later, message_written, second_written, then_written, unwritten, writing}
use Rattle.router_model.specs.Standing.{without_ups}
use Rattle.router_model.specs.Tick.{ticked}
use Rattle.router_model.proofs.OwnLemmas.{own-entries}
use Rattle.router_model.proofs.SideLemmas.{data-append, writing-adds, writing-follows}
use Rattle.forwarders.specs.declared.gathering.Gathered.{Gathered}
use Rattle.forwarders.specs.declared.gathering.Gathered.TheVariants as mark
use Rattle.forwarders.specs.declared.gathering.Written.{Written}
use Rattle.forwarders.specs.Deciding.{AreWithin}
use Rattle.forwarders.specs.Gathering.{Adds, IsFit, Writes, all_gathered, frames_at, gathered_of, line_made, packet_gathered}

-- ### one after another

pub filled-append : (one next : List (List Entry)) → filled (one ++ next) ≡ filled one ++ filled next
filled-append [] next = refl
filled-append ([] ∷ one) next = filled-append one next
filled-append ((entry ∷ entries) ∷ one) next = ap (λ (l : List (List Entry)). (entry ∷ entries) ∷ l) (filled-append one next)

pub gathered-append : (one next : List Item) → all_gathered (one ++ next) ≡ all_gathered one ++ all_gathered next
gathered-append one next = flat_map-append gathered_of one next

module _ {X Y : Type 0} (f : List X → List Y) where
  -- what came behind something, and then more
  behind-both : (one next : List X) (old mid new : List Y) → f (one ++ next) ≡ f one ++ f next → mid ≡ old ++ f one → new ≡ mid ++ f next → new ≡ old ++ f (one ++ next)
  behind-both one next old mid new both first others =
      others ∙ (ap (λ (l : List Y). l ++ f next) first ∙ (append_assoc old (f one) (f next) ∙ ap (λ (l : List Y). old ++ l) (sym both)))

pub adds-both : (frames : List Frame) (m n : ℕ) (one next : Writing Parts) (before middle after : Parts) (old mid new : Written) → Adds frames m one before old middle mid → Adds frames n next middle mid after new → Adds frames (m + n) (then_written one next) before old after new
adds-both frames m n one next before middle after old mid new first others =
    let a = first.few in
    let b = others.few in
    let c = first.count in
    let d = others.count in
    record {
      parts = others.parts;
      items = behind-both all_gathered one.items next.items old.items.items mid.items.items new.items.items (gathered-append one.items next.items) first.items others.items;
      batches = behind-both filled one.batches next.batches old.batches mid.batches new.batches (filled-append one.batches next.batches) first.batches others.batches;
      places = λ d. behind-both data_in one.items next.items (frames_at frames old.places d) (frames_at frames mid.places d) (frames_at frames new.places d) (data-append one.items next.items) (first.places d) (others.places d);
      within = λ all. others.within (first.within all);
      fits = λ all. others.fits (first.fits all);
      few = omega (arith, a, b);
      count = omega (arith, c, d);
    }

pub adds-none : (frames : List Frame) (parts : Parts) (written : Written) → Adds frames 0 (unwritten parts) parts written parts written
adds-none frames parts written = record {
  parts = refl;
  items = sym (append-nil written.items.items);
  batches = sym (append-nil written.batches);
  places = λ d. sym (append-nil (frames_at frames written.places d));
  within = λ all. all;
  fits = λ all. all;
  few = omega arith;
  count = omega arith;
}

-- events, and then others
pub writes-both : (settings : Settings) (frames : List Frame) (one next : List Event) (before middle after : Parts) (old mid new : Written) → Writes settings frames one before old middle mid → Writes settings frames next middle mid after new → Writes settings frames (one ++ next) before old after new
writes-both settings frames one next before middle after old mid new first others =
    let w : Writing Parts = writing table settings before one in
    let v : Writing Parts = writing table settings middle next in
    let whole : then_written w v ≡ writing table settings before (one ++ next) =
    ap (λ (p : Parts). then_written w (writing table settings p next)) first.parts ∙ sym (writing-follows table settings before one next) in
    subst (λ (t : Writing Parts × ℕ). Adds frames t.1 t.0 before old after new) (λ i. (whole i, sym (length-append one next) i))
    (adds-both frames (length one) (length next) w v before middle after old mid new first others)

-- ### one event

pub writes-second : (settings : Settings) (frames : List Frame) (s : ℕ) (before after : Parts) (change : Change Parts) (old new : Written)
    → change ≡ ticked table settings (seconds s) (unchanged before) → change.after ≡ after
    → new.items.items ≡ old.items.items ++ map packet_gathered (emit_packets (standing_in settings change.after) (seconds s) change.emits)
    → new.batches ≡ old.batches ++ filled (change.entries ∷ []) → new.places ≡ old.places
    → (All IsFit old.items.items → All IsFit new.items.items) → length change.emits ≤ most_ticked → after.count ≤ before.count + most_ticked
    → Writes settings frames (Tick s ∷ []) before old after new
writes-second settings frames s before after change old new is moved items batches places fits few count =
    let packets = map packet_gathered (emit_packets (standing_in settings change.after) (seconds s) change.emits) in
    let long = ap (λ (l : List Gathered). length l) items ∙ length-append old.items.items packets in
    let same = length-map (emit_packets (standing_in settings change.after) (seconds s) change.emits) packet_gathered in
    let number : length (emit_packets (standing_in settings change.after) (seconds s) change.emits) ≡ length change.emits = length-map change.emits _ in
    subst (λ (c : Change Parts). Adds frames 1 (then_written (second_written table settings s c) (unwritten c.after)) before old after new) is (record {
      parts = sym moved;
      items = items ∙ ap (λ (l : List Gathered). old.items.items ++ l) (sym (append-nil packets));
      batches = batches;
      places = λ d. ap (λ (l : List ℕ). frames_at frames l d) places ∙ sym (append-nil (frames_at frames old.places d));
      within = λ all. subst (AreWithin frames) (sym places) all;
      fits = fits;
      few = omega (arith, long, same, number, few);
      count = omega (arith, count);
    })

pub writes-message : (settings : Settings) (frames : List Frame) (frame : Frame) (before after : Parts) (heard : Heard Parts) (old new : Written)
    → control settings frame ≡ true → heard ≡ hear_by table (standing_in settings before) frame.moment frame (unchanged before) → heard.change.after ≡ after
    → new.items.items ≡ (old.items.items ++ mark.Message (line_made (rounds.line_of frame before.count heard.verdict)) ∷ []) ++ map packet_gathered (emit_packets (standing_in settings heard.change.after) frame.moment heard.change.emits)
    → new.batches ≡ old.batches ++ filled (heard.change.entries ∷ []) → new.places ≡ old.places
    → (All IsFit old.items.items → All IsFit new.items.items) → length heard.change.emits + 1 ≤ most_ticked → after.count ≤ before.count + most_ticked
    → Writes settings frames (Arrival frame ∷ []) before old after new
writes-message settings frames frame before after heard old new message is moved items batches places fits few count =
    let packets = map packet_gathered (emit_packets (standing_in settings heard.change.after) frame.moment heard.change.emits) in
    let line : List Gathered = mark.Message (line_made (rounds.line_of frame before.count heard.verdict)) ∷ [] in
    let all = items ∙ append_assoc old.items.items line packets in
    let long = ap (λ (l : List Gathered). length l) all ∙ length-append old.items.items (line ++ packets) in
    let same = length-map (emit_packets (standing_in settings heard.change.after) frame.moment heard.change.emits) packet_gathered in
    let number : length (emit_packets (standing_in settings heard.change.after) frame.moment heard.change.emits) ≡ length heard.change.emits = length-map heard.change.emits _ in
    subst (λ (w : Writing Parts). Adds frames 1 (then_written w (unwritten w.after)) before old after new)
    (ap (λ (h : Heard Parts). message_written table settings before.count frame h) is ∙ sym (ap (λ (b : Bool). cond b (message_written table settings before.count frame (hear_by table (standing_in settings before) frame.moment frame (unchanged before))) (left_for_later before frame)) message))
    (record {
      parts = sym moved;
      items = all ∙ ap (λ (l : List Gathered). old.items.items ++ l) (sym (append-nil (line ++ packets)));
      batches = batches;
      places = λ d. ap (λ (l : List ℕ). frames_at frames l d) places ∙ sym (append-nil (frames_at frames old.places d));
      within = λ all. subst (AreWithin frames) (sym places) all;
      fits = fits;
      few = omega (arith, long, same, number, few);
      count = omega (arith, count);
    })

-- a data packet is left for later
pub writes-left : (settings : Settings) (frames : List Frame) (frame : Frame) (place : ℕ) (before after : Parts) (old new : Written)
    → control settings frame ≡ false → before ≡ after → frame.moment < 2 ^ 32 * 1000000000
    → new.items.items ≡ old.items.items ++ mark.Left frame.number frame.moment ∷ [] → new.batches ≡ old.batches → new.places ≡ old.places ++ place ∷ []
    → place < length frames → ((d : Frame) → slice_index_or frames place d ≡ frame)
    → Writes settings frames (Arrival frame ∷ []) before old after new
writes-left settings frames frame place before after old new apart moved early items batches places within at =
    let long = ap (λ (l : List Gathered). length l) items ∙ length-append old.items.items (mark.Left frame.number frame.moment ∷ []) in
    let same = ap (λ (p : Parts). p.count) moved in
    subst (λ (w : Writing Parts). Adds frames 1 (then_written w (unwritten w.after)) before old after new)
    (sym (ap (λ (b : Bool). cond b (message_written table settings before.count frame (hear_by table (standing_in settings before) frame.moment frame (unchanged before))) (left_for_later before frame)) apart))
    (record {
      parts = sym moved;
      items = items;
      batches = batches ∙ sym (append-nil old.batches);
      places = λ d. ap (λ (l : List ℕ). frames_at frames l d) places ∙ (map-append (λ (p : ℕ). slice_index_or frames p d) old.places (place ∷ []) ∙ ap (λ (f : Frame). frames_at frames old.places d ++ f ∷ []) (at d));
      within = λ all. subst (AreWithin frames) (sym places) (All-push (λ (p : ℕ). p < length frames) old.places place all within);
      fits = λ all. subst (All IsFit) (sym items) (All-push IsFit old.items.items (mark.Left frame.number frame.moment) all early);
      few = omega (arith, long);
      count = omega (arith, same);
    })

-- a data packet that a call left for later
pub left-writes : {T E : Type 0} (r : Result T E) (settings : Settings) (frame : Frame) (place : ℕ) (parts : Parts) (old new : Written)
    → control settings frame ≡ false → frame.moment < 2 ^ 32 * 1000000000
    → OnOk r (new.items.items ≡ old.items.items ++ mark.Left frame.number frame.moment ∷ []) → OnOk r (new.batches ≡ old.batches) → OnOk r (new.places ≡ old.places ++ place ∷ [])
    → OnOk r ((frames : List Frame) → place < length frames → ((d : Frame) → slice_index_or frames place d ≡ frame) → Writes settings frames (Arrival frame ∷ []) parts old parts new)
left-writes (Ok x) settings frame place parts old new apart early items batches places =
    λ frames within at. writes-left settings frames frame place parts parts old new apart refl early items batches places within at
left-writes (Err e) settings frame place parts old new apart early items batches places = tt

-- ### seconds

-- no more seconds begin up to a moment than its second tells
pub ticks-few : (previous : Option ℕ) (to : ℕ) → length (ticks previous to) ≤ second_of to
ticks-few None to = omega arith
ticks-few (Some from) to =
    let number = length-map-range_with_len Tick (suc (second_of from)) (second_of to - second_of from) in
    omega (arith, number)

-- how many entries seconds in a row may add
pub seconds-count : (settings : Settings) (frames : List Frame) (first n : ℕ) (before after : Parts) (old new : Written) → Writes settings frames (map Tick (range_with_len first n)) before old after new → after.count ≤ before.count + most_ticked * n
seconds-count settings frames first n before after old new writes =
    let number : length (map Tick (range_with_len first n)) ≡ n = length-map (range_with_len first n) Tick ∙ length-range_with_len first n in
    let few = writes.count in
    omega (arith, number, few)

-- at most so many entries come of the seconds between two moments
pub between-count : (settings : Settings) (frames : List Frame) (from to : ℕ) (before after : Parts) (old new : Written) → Writes settings frames (ticks (Some from) to) before old after new → after.count ≤ before.count + most_ticked * (second_of to - second_of from)
between-count settings frames from to before after old new writes =
    seconds-count settings frames (suc (second_of from)) (second_of to - second_of from) before after old new writes

-- and of those before a round
pub opened-count : (settings : Settings) (frames : List Frame) (previous : Option ℕ) (to : ℕ) (before after : Parts) (old new : Written) → Writes settings frames (ticks previous to) before old after new → after.count ≤ before.count + most_ticked * second_of to
opened-count settings frames None to before after old new writes = let few = writes.count in omega (arith, few)
opened-count settings frames (Some from) to before after old new writes = let few = between-count settings frames from to before after old new writes in omega (arith, few)

-- moments, and the seconds in which they lie
pub seconds-rise : (m n : ℕ) → m ≤ n → second_of m ≤ second_of n
seconds-rise m n later = grind (arith, later)

pub seconds-end : (m : ℕ) → m < 2 ^ 32 * 1000000000 → second_of m < 2 ^ 32
seconds-end m early = grind (arith, early)

-- ### settings

-- the own locators that a table is for stay, whichever of them are up
pub own-written : (settings : Settings) (before : Parts) (events : List Event) → without_ups (writing table settings before events).after.own ≡ without_ups before.own
own-written settings before events =
    ap (λ (p : Parts). without_ups p.own) (writing-adds table settings before events) ∙ own-entries before (joined (writing table settings before events).batches)

pub writes-own : (settings : Settings) (frames : List Frame) (events : List Event) (before after : Parts) (old new : Written) → Writes settings frames events before old after new → without_ups after.own ≡ without_ups before.own
writes-own settings frames events before after old new writes =
    ap (λ (p : Parts). without_ups p.own) writes.parts ∙ own-written settings before events
