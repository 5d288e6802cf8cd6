-- What is known of the frames of a round that is gathered.
use Rattle.std.proofs.Common.{◌≡◌, ◌∙◌, ◌+◌, ◌-◌, ◌*◌, ◌^◌, ◌≤◌, ◌<◌, ◌||◌, nat_le, nat_lt, ℕ, suc, Bool, true, false, List, [], ◌∷◌, ◌++◌, length, map, take, get_or, Option, Some, None, Result, Ok, Err, unwrap_or, arith, refl, sym, ap, subst}
use Rattle.std.specs.List.{All}
use Rattle.std.specs.Result.{OnOk}
use Rattle.std.proofs.lemmas.Bool.Decides.{nat_tests}
use Rattle.std.proofs.lemmas.List.{append-nil, length-append, length-map, map-append, take_more}
use Rattle.std.proofs.lemmas.List.Elements.{All-append, All-cons, All-head, All-nil, All-tail}
use Rattle.std.proofs.lemmas.List.Sums.{fold-append}
use Rattle.capture_io.specs.Frame.{Frame}
use Rattle.capture_io.specs.Output.{packet_record}
use Rattle.command_words.specs.Limits.{most_round_frames}
use Rattle.lisp_settings.specs.declared.settings.Settings.{Settings}
use Rattle.capture_events.specs.Events.{Outcome, Packet, events_after, idle, records_of, second_of}
use Rattle.playback.specs.Limits.{most_arrival_octets, most_frames}
use Rattle.playback.specs.Playing.{GathersOne}
use Rattle.playback.specs.declared.progress.Progress.{Progress}
use Rattle.playback.specs.declared.output.Output.{Output}
use Rattle.router_model.specs.Cut.{Filling, empty, is_full, with_frame, with_frames}
use Rattle.router_model.specs.Lifting.{AreOctets, FramesInOrder}
use Rattle.router_model.specs.Limits.{most_entries, most_event_packets, most_mappings, most_round_octets}
use Rattle.router_model.specs.Journal.{Journal, statics}
use Rattle.lisp_settings.specs.Lawful.{IsLawful}
use Rattle.router_core.specs.Steps.{HasTicked}
use Rattle.router_model.proofs.ReplayLemmas.{statics-first}
use Rattle.router_model.proofs.StaticsLemmas.{length-statics}
use Rattle.router_model.specs.Parts.{Parts, Stands, parts_in}
use Rattle.router_model.specs.Rounds as rounds
use Rattle.router_model.specs.Rounds.{closing_moment, lines_text}
use Rattle.router_model.specs.Sharing.{moment_after}
use Rattle.router_model.proofs.RunLemmas.{length-events_of, second_later}
use Rattle.forwarders.specs.Publication.{Publication}
use Rattle.forwarders.specs.Batches.{batches_from, journal_of}
use Rattle.forwarders.specs.Rounding.{line_seen, packet_seen, GrewBy, IsRound}
use Rattle.forwarders.proofs.StandLemmas.{journal-first}
use Rattle.forwarders.specs.declared.round_done.Packet.{Packet as Sent}
use Rattle.forwarders.specs.declared.round_done.RoundDone.{RoundDone}
use Rattle.playback.proofs.OutputLemmas.{records_of-append}
use Rattle.sharing.specs.Gathering.{AreGathered, ClosesRound, Gathering, MayGather, WorksRound, gathering_of, is_due, none_gathered, round_worked}

-- ### frames in order

-- a moment before a second
second-later : (m second : ℕ) → m < second * 1000000000 → second_of m + 1 ≤ second
second-later m second early = grind (arith, early)

-- the moment after frames, from the one before them
abbrev last_of : ℕ → List Frame → ℕ
last_of m frames = unwrap_or (moment_after (Some m) frames) 0

-- it is that of the frames, if there are some
last-from : (previous : Option ℕ) (frames : List Frame) → unwrap_or (moment_after previous frames) 0 ≡ last_of (unwrap_or previous 0) frames
last-from None [] = refl
last-from (Some m) [] = refl
last-from None (frame ∷ frames) = refl
last-from (Some m) (frame ∷ frames) = refl

-- moments don't fall
last-later : (m : ℕ) (frames : List Frame) → FramesInOrder m frames → m ≤ last_of m frames
last-later m [] order = omega arith
last-later m (frame ∷ frames) order =
    let rest = last-later frame.moment frames order.1.1 in
    let first = order.0 in
    omega (arith, rest, first)

-- one frame more
order-more : (m : ℕ) (frames : List Frame) (frame : Frame) → FramesInOrder m frames → last_of m frames ≤ frame.moment → AreOctets frame.octets → FramesInOrder m (frames ++ frame ∷ [])
order-more m [] frame order later octets = (later, (octets, tt))
order-more m (one ∷ frames) frame order later octets = (order.0, (order.1.0, order-more one.moment frames frame order.1.1 later octets))

moment-more : (previous : Option ℕ) (frames : List Frame) (frame : Frame) → moment_after previous (frames ++ frame ∷ []) ≡ Some frame.moment
moment-more previous [] frame = refl
moment-more previous (one ∷ frames) frame = moment-more (Some one.moment) frames frame

closing-more : (frames : List Frame) (frame : Frame) → closing_moment (frames ++ frame ∷ []) ≡ frame.moment
closing-more [] frame = refl
closing-more (one ∷ []) frame = refl
closing-more (one ∷ (next ∷ frames)) frame = closing-more (next ∷ frames) frame

closing-last : (m : ℕ) (frame : Frame) (frames : List Frame) → closing_moment (frame ∷ frames) ≡ last_of m (frame ∷ frames)
closing-last m frame [] = refl
closing-last m frame (next ∷ frames) = closing-last frame.moment next frames

-- each second up to the last frame's is counted once
count-after : (m : ℕ) (frames : List Frame) → FramesInOrder m frames → second_of m + length (events_after (Some m) frames) ≤ second_of (last_of m frames) + length frames
count-after m [] order = omega arith
count-after m (frame ∷ frames) order =
    let rest = count-after frame.moment frames order.1.1 in
    let one = length-events_of m frame (events_after (Some frame.moment) frames) in
    let rises = second_later m frame.moment order.0 in
    omega (arith, rest, one, rises)

-- the events of a round, from the frame before it
pub round-events : (previous : Option ℕ) (frames : List Frame) → 1 ≤ length frames → FramesInOrder (unwrap_or previous 0) frames
    → second_of (unwrap_or previous 0) + length (events_after previous frames) ≤ second_of (closing_moment frames) + length frames
round-events previous [] some order = omega (arith, some)
round-events (Some m) (frame ∷ frames) some order =
    subst (λ (n : ℕ). second_of m + length (events_after (Some m) (frame ∷ frames)) ≤ second_of n + length (frame ∷ frames)) (sym (closing-last m frame frames)) (count-after m (frame ∷ frames) order)
round-events None (frame ∷ frames) some order =
    let rest = count-after frame.moment frames order.1.1 in
    let last : closing_moment (frame ∷ frames) ≡ last_of frame.moment frames = closing-last 0 frame frames in
    subst (λ (n : ℕ). 0 + length (events_after None (frame ∷ frames)) ≤ second_of n + length (frame ∷ frames)) (sym last) (omega (arith, rest))

-- ### frames that are gathered

-- a frame more, which may fill the round
pub record AreMore (g : Gathering) (octets : ℕ) (frame : Frame) : Type 0 where
  pub filling : with_frame (with_frames empty g.frames) frame ≡ record { frames = length (g.frames ++ frame ∷ []); octets = octets + length frame.octets }
  pub number : length (g.frames ++ frame ∷ []) ≡ length g.frames + 1
  pub order : FramesInOrder (unwrap_or g.previous 0) (g.frames ++ frame ∷ [])
  pub early : All (λ one. one.moment < 2 ^ 32 * 1000000000) (g.frames ++ frame ∷ [])
  pub begins : unwrap_or g.previous 0 ≤ frame.moment
  pub moment : moment_after g.previous (g.frames ++ frame ∷ []) ≡ Some frame.moment
  pub closing : closing_moment (g.frames ++ frame ∷ []) ≡ frame.moment

pub are-more : (g : Gathering) (octets : ℕ) (frame : Frame) → AreGathered g octets → unwrap_or (moment_after g.previous g.frames) 0 ≤ frame.moment → frame.moment < 2 ^ 32 * 1000000000 → AreOctets frame.octets → AreMore g octets frame
are-more g octets frame are later early is =
    let number : length (g.frames ++ frame ∷ []) ≡ length g.frames + 1 = length-append g.frames (frame ∷ []) in
    let last : last_of (unwrap_or g.previous 0) g.frames ≤ frame.moment = subst (λ (n : ℕ). n ≤ frame.moment) (last-from g.previous g.frames) later in
    let first = last-later (unwrap_or g.previous 0) g.frames are.order in
    let suced : suc (length g.frames) ≡ length (g.frames ++ frame ∷ []) = omega (arith, number) in
    record {
      filling = ap (λ (f : Filling). with_frame f frame) are.filling ∙ ap (λ (n : ℕ). record { frames = n; octets = octets + length frame.octets }) suced;
      number = number;
      order = order-more (unwrap_or g.previous 0) g.frames frame are.order last is;
      early = All-append (λ (one : Frame). one.moment < 2 ^ 32 * 1000000000) g.frames (frame ∷ []) are.early (All-cons (λ (one : Frame). one.moment < 2 ^ 32 * 1000000000) frame [] early (All-nil (λ (one : Frame). one.moment < 2 ^ 32 * 1000000000)));
      begins = omega (arith, first, last);
      moment = moment-more g.previous g.frames frame;
      closing = closing-more g.frames frame;
    }

-- where no round is due there is room in it
pub room-left : (g : Gathering) (octets : ℕ) → AreGathered g octets → is_due g ≡ false → (length g.frames < g.size) × (octets ≤ most_round_octets)
room-left g octets are due = by (length g.frames) octets (nat_le g.size (length g.frames)) (nat_lt most_round_octets octets) refl refl (ap (is_full g.size) (sym are.filling) ∙ due)
  where
    by : (f o : ℕ) (a b : Bool) → nat_le g.size f ≡ a → nat_lt most_round_octets o ≡ b → (a || b) ≡ false → (f < g.size) × (o ≤ most_round_octets)
    by f o true b some many is = cc
    by f o false true some many is = cc
    by f o false false some many is = (grind (arith, nat_tests, some), grind (arith, nat_tests, many))

-- a frame that was kept
pub are-kept : (g : Gathering) (octets : ℕ) (frame : Frame) → AreGathered g octets → AreMore g octets frame → is_due g ≡ false → length frame.octets ≤ most_arrival_octets
    → AreGathered (record g { frames = g.frames ++ frame ∷ [] }) (octets + length frame.octets)
are-kept g octets frame are more due short =
    let room = room-left g octets are due in
    record {
      filling = fold-append with_frame empty g.frames (frame ∷ []) ∙ more.filling;
      few = omega (arith, room.0, more.number);
      small = omega (arith, room.1, short);
      order = more.order;
      early = more.early;
    }

-- none are, before the first and after a round
pub none-gathered : (g : Gathering) → g.frames ≡ [] → AreGathered g 0
none-gathered g none = by g.frames none
  where
    by : (frames : List Frame) → frames ≡ [] → AreGathered (record g { frames = frames }) 0
    by [] is = record { filling = refl; few = omega arith; small = omega arith; order = tt; early = All-nil (λ (frame : Frame). frame.moment < 2 ^ 32 * 1000000000) }
    by (frame ∷ frames) is = cc

-- no round is due before the first frame
pub none-due : (g : Gathering) → g.frames ≡ [] → 1 ≤ g.size → is_due g ≡ false
none-due g none some = by (nat_le g.size 0) refl
  where
    by : (b : Bool) → nat_le g.size 0 ≡ b → is_due g ≡ false
    by true is = absurd (grind (arith, nat_tests, is, some))
    by false is = ap (λ (frames : List Frame). is_full g.size (with_frames empty frames)) none ∙ ap (λ (b : Bool). b || nat_lt most_round_octets 0) is

-- ### what is done

-- the same of another relation
pub gathers-as : {S : Type 0} (P Q : Outcome S → Type 0) (old new : Output) (after : S) → ((outcome : Outcome S) → P outcome → Q outcome) → GathersOne P old new after → GathersOne Q old new after
gathers-as P Q old new after weaker one = record { outcome = one.outcome; is = weaker one.outcome one.is; gathers = one.gathers; left = one.left }

-- the end without frames, and with some
pub closes-none : (g : Gathering) → length g.frames ≡ 0 → ClosesRound g.frames g (idle g)
closes-none g none = by g.frames none
  where
    by : (frames : List Frame) → length frames ≡ 0 → ClosesRound frames g (idle g)
    by [] none = refl
    by (frame ∷ frames) none = let more : ⊥ = omega (arith, none) in absurd more

pub closes-some : (g : Gathering) (outcome : Outcome Gathering) → 1 ≤ length g.frames → WorksRound g g.frames outcome → ClosesRound g.frames g outcome
closes-some g outcome some works = by g.frames some works
  where
    by : (frames : List Frame) → 1 ≤ length frames → WorksRound g frames outcome → ClosesRound frames g outcome
    by [] some works = let none : ⊥ = omega (arith, some) in absurd none
    by (frame ∷ frames) some works = works

-- a round that was run is gathered
pub round-gathers : (settings : Settings) (before after : Publication) (size : ℕ) (previous : Option ℕ) (frames : List Frame) (parts : Parts) (done : RoundDone) (old new : Output)
    → IsRound settings previous frames before after parts done → new.lines ≡ old.lines ++ lines_text (map line_seen done.lines)
    → new.records ≡ old.records ++ records_of (map packet_seen done.written) → new.written ≡ old.written + length done.written
    → GathersOne (WorksRound (gathering_of settings before.batches size previous frames) frames) old new (gathering_of settings after.batches size (Some (closing_moment frames)) [])
round-gathers settings before after size previous frames parts done old new is lines records written =
    let g = gathering_of settings before.batches size previous frames in
    let outcome = round_worked g frames is.ns in
    let number : length done.written ≡ length outcome.packets = sym (length-map done.written packet_seen) ∙ ap (λ (p : List Packet). length p) is.packets in
    record {
      outcome = outcome;
      is = record { ns = is.ns; lawful = is.lawful; is = refl };
      gathers = record {
        lines = lines ∙ ap (λ (l : List rounds.Line). old.lines ++ lines_text l) is.lines;
        records = records ∙ ap (λ (p : List Packet). old.records ++ records_of p) is.packets;
        written = written ∙ ap (λ (n : ℕ). old.written + n) number;
      };
      left = ap (λ (journal : Journal). record { size = size; router = record { settings = settings; memory = journal }; previous = Some (closing_moment frames); frames = [] }) is.journal;
    }

-- a packet more
pub records-more : (packets : List Sent) (i : ℕ) (one : Sent) → i < length packets → one ≡ get_or packets i one
    → records_of (map packet_seen (take (i + 1) packets)) ≡ records_of (map packet_seen (take i packets)) ++ packet_record one.moment one.octets
records-more packets i one below is =
    let before = map packet_seen (take i packets) in
    ap (λ (l : List Sent). records_of (map packet_seen l)) (take_more packets i one below ∙ ap (λ (p : Sent). take i packets ++ p ∷ []) (sym is))
    ∙ ap records_of (map-append packet_seen (take i packets) (one ∷ []))
    ∙ records_of-append before (packet_seen one ∷ [])
    ∙ ap (λ (r : List ℕ). records_of before ++ r) (append-nil (packet_record one.moment one.octets))

-- three facts make a fourth, where there is a value
pub on_ok_three : {T E A B C D : Type 0} (r : Result T E) → OnOk r A → OnOk r B → OnOk r C → (A → B → C → D) → OnOk r D
on_ok_three (Ok x) a b c all = all a b c
on_ok_three (Err e) a b c all = tt

-- ### what a play asks of a router with forwarders

-- a second begins
pub ready-second : (settings : Settings) (parts : Parts) (p : Publication) (g : Gathering) (octets frames second written : ℕ) (moment : Option ℕ)
    → MayGather settings parts p g octets (record { frames = frames; moment = moment }) written → unwrap_or moment 0 < second * 1000000000
    → MayGather settings parts p g octets (record { frames = frames; moment = Some (second * 1000000000) }) written
ready-second settings parts p g octets frames second written moment may later =
    let reached = may.reached in
    record {
      shares = may.shares;
      gathered = may.gathered;
      size = may.size;
      frames = may.frames;
      most = may.most;
      reached = omega (arith, reached, later);
      count = may.count;
      packets = may.packets;
    }

-- a frame was kept
pub ready-frame : (settings : Settings) (parts : Parts) (p : Publication) (g : Gathering) (octets frames written : ℕ) (moment : Option ℕ) (frame : Frame)
    → MayGather settings parts p g octets (record { frames = frames; moment = moment }) written → is_due g ≡ false → frame.number ≡ frames + 1 → frame.number ≤ most_frames
    → unwrap_or moment 0 ≤ frame.moment → frame.moment < 2 ^ 32 * 1000000000 → length frame.octets ≤ most_arrival_octets → AreOctets frame.octets
    → MayGather settings parts p (record g { frames = g.frames ++ frame ∷ [] }) (octets + length frame.octets) (record { frames = frame.number; moment = Some frame.moment }) written
ready-frame settings parts p g octets frames written moment frame may due next most later early short are =
    let reached = may.reached in
    let more = are-more g octets frame may.gathered (omega (arith, reached, later)) early are in
    let number = more.number in
    let some = may.frames in
    let count = may.count in
    let packets = may.packets in
    let same : frame.number - length (g.frames ++ frame ∷ []) ≡ frames - length g.frames = omega (arith, number, next) in
    record {
      shares = record {
        lawful = may.shares.lawful;
        settings_are = may.shares.settings_are;
        none = may.shares.none;
        plan = may.shares.plan;
        stands = may.shares.stands;
        now = may.shares.now;
      };
      gathered = are-kept g octets frame may.gathered more due short;
      size = may.size;
      frames = omega (arith, number, next, some);
      most = most;
      reached = rw more.moment (omega arith);
      count = rw same count;
      packets = rw same packets;
    }

-- the last of the frames is the moment that was reached
closing-reached : (previous : Option ℕ) (frames : List Frame) → 1 ≤ length frames → closing_moment frames ≡ unwrap_or (moment_after previous frames) 0
closing-reached previous [] some = omega (arith, some)
closing-reached previous (frame ∷ frames) some = closing-last (unwrap_or previous 0) frame frames ∙ sym (last-from previous (frame ∷ frames))

-- the moment before a round that has frames
begins-early : (previous : Option ℕ) (frames : List Frame) → 1 ≤ length frames → FramesInOrder (unwrap_or previous 0) frames → All (λ frame. frame.moment < 2 ^ 32 * 1000000000) frames
    → unwrap_or previous 0 < 2 ^ 32 * 1000000000
begins-early previous [] some order early = omega (arith, some)
begins-early previous (frame ∷ frames) some order early =
    let first = order.0 in
    let one = All-head (λ (one : Frame). one.moment < 2 ^ 32 * 1000000000) frame frames early in
    omega (arith, first, one)

-- that of the last one
closes-early : (frames : List Frame) → 1 ≤ length frames → All (λ frame. frame.moment < 2 ^ 32 * 1000000000) frames → closing_moment frames < 2 ^ 32 * 1000000000
closes-early [] some early = omega (arith, some)
closes-early (frame ∷ []) some early = All-head (λ (one : Frame). one.moment < 2 ^ 32 * 1000000000) frame [] early
closes-early (frame ∷ (next ∷ frames)) some early = closes-early (next ∷ frames) (omega arith) (All-tail (λ (one : Frame). one.moment < 2 ^ 32 * 1000000000) frame (next ∷ frames) early)

-- there is room for a round in the journal, and for its packets
pub round-left : (settings : Settings) (parts : Parts) (p : Publication) (g : Gathering) (octets written : ℕ) (progress : Progress)
    → MayGather settings parts p g octets progress written → 1 ≤ length g.frames → (parts.count < 2 ^ 60) × (written + most_event_packets * length (events_after g.previous g.frames) < 2 ^ 50)
round-left settings parts p g octets written progress may some =
    let count = may.count in
    let packets = may.packets in
    let most = may.most in
    let few = may.gathered.few in
    let size = may.size.1 in
    let past = second-later (unwrap_or g.previous 0) (2 ^ 32) (begins-early g.previous g.frames some may.gathered.order may.gathered.early) in
    let last = second-later (closing_moment g.frames) (2 ^ 32) (closes-early g.frames some may.gathered.early) in
    let events = round-events g.previous g.frames some may.gathered.order in
    (omega (arith, count, most, past), omega (arith, packets, most, past, last, events, few, size))

-- a round was worked
pub ready-worked : (settings : Settings) (before after : Publication) (old new : Parts) (size : ℕ) (previous : Option ℕ) (frames : List Frame) (octets written sent : ℕ) (progress : Progress) (done : RoundDone)
    → MayGather settings old before (gathering_of settings before.batches size previous frames) octets progress written → 1 ≤ length frames
    → IsRound settings previous frames before after new done → GrewBy before after → HasTicked (most_entries * length (events_after previous frames)) (closing_moment frames) old new
    → sent ≤ written + most_event_packets * length (events_after previous frames)
    → MayGather settings new after (gathering_of settings after.batches size (Some (closing_moment frames)) []) 0 progress sent
ready-worked settings before after old new size previous frames octets written sent progress done may some is grew entered few =
    let count = may.count in
    let packets = may.packets in
    let came = may.frames in
    let more = entered.count in
    let events = round-events previous frames some may.gathered.order in
    record {
      shares = record {
        lawful = may.shares.lawful;
        settings_are = grew.settings ∙ may.shares.settings_are;
        none = grew.none;
        plan = grew.plan;
        stands = is.stands;
        now = entered.now;
      };
      gathered = none-gathered (gathering_of settings after.batches size (Some (closing_moment frames)) []) refl;
      size = may.size;
      frames = omega arith;
      most = may.most;
      reached = rw (closing-reached previous frames some) may.reached;
      count = omega (arith, count, more, events, came);
      packets = omega (arith, packets, few, events, came);
    }

-- a router begins ready
pub ready-begun : (settings : Settings) (parts : Parts) (p : Publication) (size : ℕ) → IsLawful settings → parts ≡ parts_in settings (statics settings) → Stands settings parts (statics settings)
    → p ≡ record { settings = settings; batches = batches_from settings []; plan = batches_from settings []; pending = [] } → (1 ≤ size) × (size ≤ most_round_frames)
    → MayGather settings parts p (gathering_of settings p.batches size None []) 0 (record { frames = 0; moment = None }) 0
ready-begun settings parts p size lawful is stands published sizes =
    let count = length-statics settings in
    let few = lawful.few_mappings in
    let first = statics-first settings in
    let few_entries : length (statics settings) ≤ most_mappings + most_entries * (0 + second_of 0) = omega (arith, count, few) in
    let batches = ap (λ (q : Publication). q.batches) published in
    record {
      shares = record {
        lawful = lawful;
        settings_are = ap (λ (q : Publication). q.settings) published;
        none = ap (λ (q : Publication). q.pending) published;
        plan = ap (λ (q : Publication). q.plan) published ∙ sym batches;
        stands = subst (Stands settings parts) (sym (ap journal_of batches ∙ journal-first settings)) stands;
        now = rw is first;
      };
      gathered = none-gathered (gathering_of settings p.batches size None []) refl;
      size = sizes;
      frames = omega arith;
      most = omega arith;
      reached = omega arith;
      count = rw is few_entries;
      packets = omega arith;
    }

-- with nothing gathered
pub begins-none : (settings : Settings) (p : Publication) (size : ℕ) → p ≡ record { settings = settings; batches = batches_from settings []; plan = batches_from settings []; pending = [] }
    → gathering_of settings p.batches size None [] ≡ none_gathered size settings
begins-none settings p size published =
    ap (λ (journal : Journal). record { size = size; router = record { settings = settings; memory = journal }; previous = None; frames = [] })
    (ap journal_of (ap (λ (q : Publication). q.batches) published) ∙ journal-first settings)
