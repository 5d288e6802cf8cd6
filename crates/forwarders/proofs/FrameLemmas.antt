-- Frames that the writer's side takes one after another, and a round of them.
use Rattle.std.proofs.Common.{◌≡◌, ◌∙◌, ℕ, zero, suc, ◌+◌, ◌-◌, ◌*◌, ◌≤◌, ◌<◌, List, [], ◌∷◌, ◌++◌, drop, get_or, length, map, take, Option, Some, None, All, append_assoc, refl, sym, ap, subst, arith}
use Rattle.std.specs.List.{range_with_len}
use Rattle.std.proofs.Math.Seq.{take-append_seam, drop-append_seam}
use Rattle.std.proofs.lemmas.List.{append-nil, length-append}
use Rattle.capture_io.specs.Frame.{Frame}
use Rattle.lisp_settings.specs.declared.settings.Settings.{Settings}
use Rattle.capture_events.specs.Events.{Event, Tick, Arrival, events_after, second_of, ticks}
use Rattle.router_log.specs.Moments.{seconds}
use Rattle.router_log.specs.declared.entry.Entry.{Entry}
use Rattle.router_model.specs.Lifting.{FramesInOrder}
use Rattle.router_model.specs.Limits.{most_ticked}
use Rattle.router_model.specs.Parts.{Parts, table}
use Rattle.router_model.specs.Rounds.{closing_moment}
use Rattle.router_model.specs.Sharing.{filled, moment_after, opening}
use Rattle.router_model.specs.Sides.{Writing, data_in, event_written, writing}
use Rattle.router_model.specs.Tick.{ticked}
use Rattle.router_model.proofs.SideLemmas.{data-left, events-follow, writing-follows}
use Rattle.forwarders.specs.declared.gathering.Gathered.{Gathered}
use Rattle.forwarders.specs.declared.gathering.Written.{Written}
use Rattle.forwarders.specs.Deciding.{AreWithin}
use Rattle.forwarders.specs.Gathering.{IsFit, IsWritten, Writes, all_gathered, frames_at}
use Rattle.forwarders.proofs.WriteLemmas.{filled-append, writes-both}

-- ### frames

-- the moment of the last of frames, from a moment on
abbrev pub latest : ℕ → List Frame → ℕ
latest m [] = m
latest m (frame ∷ frames) = latest frame.moment frames

pub latest-after : (m : ℕ) (frames : List Frame) → moment_after (Some m) frames ≡ Some (latest m frames)
latest-after m [] = refl
latest-after m (frame ∷ frames) = latest-after frame.moment frames

pub latest-append : (m : ℕ) (one next : List Frame) → latest m (one ++ next) ≡ latest (latest m one) next
latest-append m [] next = refl
latest-append m (frame ∷ one) next = latest-append frame.moment one next

-- a frame isn't earlier than those before it
pub latest-order : (m : ℕ) (frames : List Frame) (i : ℕ) (d : Frame) → FramesInOrder m frames → i < length frames → latest m (take i frames) ≤ (get_or frames i d).moment
latest-order m [] i d order within = absurd (let bad : ⊥ = omega (arith, within) in bad)
latest-order m (frame ∷ frames) zero d order within = order.0
latest-order m (frame ∷ frames) (suc i) d order within = latest-order frame.moment frames i d order.1.1 (omega (arith, within))

-- a frame more, behind the seconds before it
pub writes-frame : (settings : Settings) (frames : List Frame) (m : ℕ) (some : List Frame) (frame : Frame) (before middle ticked after : Parts) (old mid new last : Written)
    → Writes settings frames (events_after (Some m) some) before old middle mid
    → Writes settings frames (ticks (Some (latest m some)) frame.moment) middle mid ticked new
    → Writes settings frames (Arrival frame ∷ []) ticked new after last
    → Writes settings frames (events_after (Some m) (some ++ frame ∷ [])) before old after last
writes-frame settings frames m some frame before middle ticked after old mid new last first seconds one =
    let more : List Event = ticks (Some (latest m some)) frame.moment ++ Arrival frame ∷ [] in
    let whole : events_after (Some m) some ++ more ≡ events_after (Some m) (some ++ frame ∷ []) =
    sym (events-follow (Some m) some (frame ∷ []) ∙ ap (λ (l : List Event). events_after (Some m) some ++ l)
    (ap (λ (o : Option ℕ). events_after o (frame ∷ [])) (latest-after m some) ∙ append-nil more)) in
    subst (λ (l : List Event). Writes settings frames l before old after last) whole
    (writes-both settings frames (events_after (Some m) some) more before middle after old mid last first
    (writes-both settings frames (ticks (Some (latest m some)) frame.moment) (Arrival frame ∷ []) middle ticked after mid new last seconds one))

-- the moment of the last frame stands at the last place
pub closing-last : (frames : List Frame) (d : Frame) → 1 ≤ length frames → closing_moment frames ≡ (get_or frames (length frames - 1) d).moment
closing-last [] d some = absurd (let bad : ⊥ = omega (arith, some) in bad)
closing-last (frame ∷ []) d some = refl
closing-last (frame ∷ next ∷ frames) d some =
    let same : suc (length (next ∷ frames) - 1) ≡ length (frame ∷ next ∷ frames) - 1 = omega arith in
    closing-last (next ∷ frames) d (omega arith) ∙ ap (λ (k : ℕ). (get_or (frame ∷ next ∷ frames) k d).moment) same

-- the last moment closes the round
pub latest-closes : (m : ℕ) (frames : List Frame) → 1 ≤ length frames → latest m frames ≡ closing_moment frames
latest-closes m [] some = absurd (let bad : ⊥ = omega (arith, some) in bad)
latest-closes m (frame ∷ []) some = refl
latest-closes m (frame ∷ next ∷ frames) some = latest-closes frame.moment (next ∷ frames) (omega arith)

-- ### a round

-- no seconds lie between a moment and itself
none-between : (m : ℕ) → ticks (Some m) m ≡ []
none-between m = let none : second_of m - second_of m ≡ 0 = omega arith in ap (λ (k : ℕ). map Tick (range_with_len (suc (second_of m)) k)) none

-- the seconds before a round's first frame, and then its frames
pub events-opened : (previous : Option ℕ) (frame : Frame) (frames : List Frame) → ticks previous frame.moment ++ events_after (Some frame.moment) (frame ∷ frames) ≡ events_after previous (frame ∷ frames)
events-opened previous frame frames =
    let rest : List Event = events_after (Some frame.moment) frames in
    ap (λ (l : List Event). ticks previous frame.moment ++ ((l ++ Arrival frame ∷ []) ++ rest)) (none-between frame.moment)
    ∙ sym (append_assoc (ticks previous frame.moment) (Arrival frame ∷ []) rest)

-- how many these are
abbrev pub opened : Option ℕ → ℕ → List ℕ
opened None to = []
opened (Some from) to = range_with_len (suc (second_of from)) (second_of to - second_of from)

ticks-opened : (previous : Option ℕ) (to : ℕ) → ticks previous to ≡ map Tick (opened previous to)
ticks-opened None to = refl
ticks-opened (Some from) to = refl

opening-seconds : (ss : List ℕ) (frame : Frame) (events : List Event) → opening (map Tick ss ++ Arrival frame ∷ events) ≡ length ss
opening-seconds [] frame events = refl
opening-seconds (s ∷ ss) frame events = ap (λ (k : ℕ). suc k) (opening-seconds ss frame events)

batches-seconds : (settings : Settings) (parts : Parts) (ss : List ℕ) → length (writing table settings parts (map Tick ss)).batches ≡ length ss
batches-seconds settings parts [] = refl
batches-seconds settings parts (s ∷ ss) =
    ap (λ (k : ℕ). suc k) (batches-seconds settings (event_written table settings parts (Tick s)).after ss)

-- the seconds before the first frame have a batch each
opening-batches : (settings : Settings) (previous : Option ℕ) (frame : Frame) (frames : List Frame) (parts : Parts) → length (writing table settings parts (ticks previous frame.moment)).batches ≡ opening (events_after previous (frame ∷ frames))
opening-batches settings previous frame frames parts =
    let ss : List ℕ = opened previous frame.moment in
    let rest : List Event = events_after (Some frame.moment) frames in
    let t : ticks previous frame.moment ≡ map Tick ss = ticks-opened previous frame.moment in
    ap (λ (l : List Event). length (writing table settings parts l).batches) t
    ∙ (batches-seconds settings parts ss
    ∙ (sym (opening-seconds ss frame rest)
    ∙ (ap (λ (l : List Event). opening (l ++ Arrival frame ∷ rest)) (sym t)
    ∙ ap opening (sym (append_assoc (ticks previous frame.moment) (Arrival frame ∷ []) rest)))))

-- a list that was cut in front of its second part
front-of : {A : Type 0} (one next whole : List A) (n : ℕ) → whole ≡ one ++ next → n ≡ length one → take n whole ≡ one
front-of one next whole n is long = rw (is, long) (take-append_seam one next)

rest-of : {A : Type 0} (one next whole : List A) (n : ℕ) → whole ≡ one ++ next → n ≡ length one → drop n whole ≡ next
rest-of one next whole n is long = rw (is, long) (drop-append_seam one next)

-- nothing was gathered yet
abbrev pub IsEmpty : Written → Type 0
IsEmpty written = (written.items.items ≡ []) × (written.batches ≡ []) × (written.places ≡ [])

-- what is known once a round was written
pub record HasWritten (settings : Settings) (previous : Option ℕ) (frames : List Frame) (before : Parts) (from : ℕ) (all : Written) (after : Parts) : Type 0 where
  pub written : IsWritten settings previous frames before from all
  pub parts : after ≡ (writing table settings before (events_after previous frames)).after
  pub count : after.count ≤ before.count + most_ticked * length (events_after previous frames)

pub round-written : (settings : Settings) (previous : Option ℕ) (frame : Frame) (frames : List Frame) (before middle after : Parts) (old mid new : Written) (from : ℕ)
    → IsEmpty old → from ≡ length mid.batches
    → Writes settings (frame ∷ frames) (ticks previous frame.moment) before old middle mid
    → Writes settings (frame ∷ frames) (events_after (Some frame.moment) (frame ∷ frames)) middle mid after new
    → HasWritten settings previous (frame ∷ frames) before from new after
round-written settings previous frame frames before middle after old mid new from empty long first others =
    let all : List Frame = frame ∷ frames in
    let seconds : List Event = ticks previous frame.moment in
    let rest : List Event = events_after (Some frame.moment) all in
    let events : List Event = events_after previous all in
    let w : Writing Parts = writing table settings before seconds in
    let v : Writing Parts = writing table settings w.after rest in
    let whole : Writes settings all events before old after new =
    subst (λ (l : List Event). Writes settings all l before old after new) (events-opened previous frame frames)
    (writes-both settings all seconds rest before middle after old mid new first others) in
    let batches : List (List Entry) = (writing table settings before events).batches in
    let split : batches ≡ w.batches ++ v.batches =
    ap (λ (l : List Event). (writing table settings before l).batches) (sym (events-opened previous frame frames)) ∙ ap (λ (t : Writing Parts). t.batches) (writing-follows table settings before seconds rest) in
    let number : opening events ≡ length w.batches = sym (opening-batches settings previous frame frames before) in
    let front : mid.batches ≡ filled w.batches = first.batches ∙ ap (λ (l : List (List Entry)). l ++ filled w.batches) empty.1 in
    let made : new.batches ≡ filled batches = whole.batches ∙ ap (λ (l : List (List Entry)). l ++ filled batches) empty.1 in
    let cut : new.batches ≡ filled w.batches ++ filled v.batches = made ∙ (ap filled split ∙ filled-append w.batches v.batches) in
    let count : from ≡ length (filled w.batches) = long ∙ ap (λ (l : List (List Entry)). length l) front in
    let few = whole.few in
    let nothing = ap (λ (l : List Gathered). length l) empty.0 in
    record {
      written = record {
        items = whole.items ∙ ap (λ (l : List Gathered). l ++ all_gathered (writing table settings before events).items) empty.0;
        batches = made;
        cut = (let both = ap (λ (l : List (List Entry)). length l) cut ∙ length-append (filled w.batches) (filled v.batches) in omega (arith, both, count));
        first = front-of (filled w.batches) (filled v.batches) new.batches from cut count
            ∙ ap filled (sym (front-of w.batches v.batches batches (opening events) split number));
        rest = rest-of (filled w.batches) (filled v.batches) new.batches from cut count
            ∙ ap filled (sym (rest-of w.batches v.batches batches (opening events) split number));
        places = λ d. whole.places d
            ∙ (ap (λ (l : List ℕ). frames_at all l d ++ data_in (writing table settings before events).items) empty.2
            ∙ data-left table settings previous all before);
        within = whole.within (subst (AreWithin all) (sym empty.2) (λ k d below. absurd (let bad : ⊥ = omega (arith, below) in bad)));
        fits = whole.fits (subst (All IsFit) (sym empty.0) (λ k d below. absurd (let bad : ⊥ = omega (arith, below) in bad)));
        few = omega (arith, few, nothing);
      };
      parts = whole.parts;
      count = whole.count;
    }

-- the same of any frames
pub frames-written : (settings : Settings) (previous : Option ℕ) (frames : List Frame) (first : Frame) (before middle after : Parts) (old mid new : Written) (from : ℕ)
    → 1 ≤ length frames → first ≡ get_or frames 0 first → IsEmpty old → from ≡ length mid.batches
    → Writes settings frames (ticks previous first.moment) before old middle mid
    → Writes settings frames (events_after (Some first.moment) frames) middle mid after new
    → HasWritten settings previous frames before from new after
frames-written settings previous [] first before middle after old mid new from some is empty long seconds others = absurd (let bad : ⊥ = omega (arith, some) in bad)
frames-written settings previous (frame ∷ frames) first before middle after old mid new from some is empty long seconds others =
    round-written settings previous frame frames before middle after old mid new from empty long
    (subst (λ (f : Frame). Writes settings (frame ∷ frames) (ticks previous f.moment) before old middle mid) is seconds)
    (subst (λ (f : Frame). Writes settings (frame ∷ frames) (events_after (Some f.moment) (frame ∷ frames)) middle mid after new) is others)
