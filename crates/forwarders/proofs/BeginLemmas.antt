-- How many events a round has, and that it may begin.
use Rattle.std.proofs.Common.{◌≡◌, ◌∙◌, ℕ, suc, ◌+◌, ◌-◌, ◌*◌, ◌^◌, ◌≤◌, ◌<◌, List, [], ◌∷◌, ◌++◌, length, Option, Some, None, All, sym, ap, subst, arith}
use Rattle.std.specs.List.{range_with_len}
use Rattle.std.proofs.lemmas.List.{length-append, length-map}
use Rattle.std.proofs.lemmas.List.FromFn.{length-range_with_len}
use Rattle.command_words.specs.Limits.{most_round_frames}
use Rattle.capture_io.specs.Frame.{Frame}
use Rattle.lisp_settings.specs.declared.settings.Settings.{Settings}
use Rattle.capture_events.specs.Events.{Event, Tick, Arrival, events_after, second_of, ticks}
use Rattle.router_model.specs.Journal.{Journal, last_moment}
use Rattle.router_model.specs.Lifting.{AreInOrder, FramesInOrder}
use Rattle.router_model.specs.Parts.{Parts, Stands}
use Rattle.router_model.specs.Rounds.{closing_moment}
use Rattle.router_model.specs.Sharing.{MayBegin}
use Rattle.router_model.proofs.ShareLemmas.{round-in-order}
use Rattle.forwarders.specs.Rounding.{begun_at}
use Rattle.forwarders.proofs.FrameLemmas.{latest, latest-closes}
use Rattle.forwarders.proofs.WriteLemmas.{seconds-end, seconds-rise}

-- ### moments

-- a round doesn't end before it begins
pub begun-latest : (m : ℕ) (frames : List Frame) → FramesInOrder m frames → m ≤ latest m frames
begun-latest m [] order = omega arith
begun-latest m (frame ∷ frames) order =
    let here = order.0 in
    let rest = begun-latest frame.moment frames order.1.1 in
    omega (arith, here, rest)

-- nor past the moments of its frames
pub closing-early : (frame : Frame) (frames : List Frame) → All (λ (f : Frame). f.moment < 2 ^ 32 * 1000000000) (frame ∷ frames) → closing_moment (frame ∷ frames) < 2 ^ 32 * 1000000000
closing-early frame [] all = all 0 frame (omega arith)
closing-early frame (next ∷ frames) all = closing-early next frames (λ k d below. all (suc k) d (omega (arith, below)))

-- ### how many events there are

-- a frame each, and the seconds between two moments
events-few : (from : ℕ) (frames : List Frame) → FramesInOrder from frames → length (events_after (Some from) frames) + second_of from ≤ length frames + second_of (latest from frames)
events-few from [] order = omega arith
events-few from (frame ∷ frames) order =
    let seconds : List Event = ticks (Some from) frame.moment in
    let rest : List Event = events_after (Some frame.moment) frames in
    let number : length seconds ≡ second_of frame.moment - second_of from =
    length-map (range_with_len (suc (second_of from)) (second_of frame.moment - second_of from)) Tick ∙ length-range_with_len (suc (second_of from)) (second_of frame.moment - second_of from) in
    let one = length-append seconds (Arrival frame ∷ []) in
    let both = length-append (seconds ++ Arrival frame ∷ []) rest in
    let later = seconds-rise from frame.moment order.0 in
    let few = events-few frame.moment frames order.1.1 in
    omega (arith, number, one, both, later, few)

pub round-few : (previous : Option ℕ) (frame : Frame) (frames : List Frame) → FramesInOrder (begun_at previous (frame ∷ frames)) (frame ∷ frames) → closing_moment (frame ∷ frames) < 2 ^ 32 * 1000000000 → length (events_after previous (frame ∷ frames)) ≤ length (frame ∷ frames) + 2 ^ 32
round-few None frame frames order early =
    let few = events-few frame.moment frames order.1.1 in
    let last = seconds-end (latest frame.moment (frame ∷ frames)) (subst (λ (m : ℕ). m < 2 ^ 32 * 1000000000) (sym (latest-closes frame.moment (frame ∷ frames) (omega arith))) early) in
    omega (arith, few, last)
round-few (Some from) frame frames order early =
    let few = events-few from (frame ∷ frames) order in
    let last = seconds-end (latest from (frame ∷ frames)) (subst (λ (m : ℕ). m < 2 ^ 32 * 1000000000) (sym (latest-closes from (frame ∷ frames) (omega arith))) early) in
    omega (arith, few, last)

-- they are in order, as the frames are
events-order : (previous : Option ℕ) (frame : Frame) (frames : List Frame) → FramesInOrder (begun_at previous (frame ∷ frames)) (frame ∷ frames) → AreInOrder (begun_at previous (frame ∷ frames)) (events_after previous (frame ∷ frames))
events-order None frame frames order =
    let rest = round-in-order None (frame ∷ frames) (omega arith, order.1) in (order.0, rest.1)
events-order (Some from) frame frames order = round-in-order (Some from) (frame ∷ frames) order

-- a round may begin
pub may-begin : (settings : Settings) (previous : Option ℕ) (frame : Frame) (frames : List Frame) (parts : Parts) (journal : Journal)
    → Stands settings parts journal → parts.now ≤ begun_at previous (frame ∷ frames) → parts.count < 2 ^ 60 → length (frame ∷ frames) ≤ most_round_frames
    → FramesInOrder (begun_at previous (frame ∷ frames)) (frame ∷ frames) → All (λ (f : Frame). f.moment < 2 ^ 32 * 1000000000) (frame ∷ frames)
    → MayBegin settings (begun_at previous (frame ∷ frames)) journal (events_after previous (frame ∷ frames))
may-begin settings previous frame frames parts journal stands later room number order moments =
    let now : parts.now ≡ last_moment journal = ap (λ (p : Parts). p.now) stands.whole in
    let count : parts.count ≡ length journal = ap (λ (p : Parts). p.count) stands.whole in
    let few = round-few previous frame frames order (closing-early frame frames moments) in
    record {
      proper = stands.proper;
      last = omega (arith, now, later);
      order = events-order previous frame frames order;
      room = omega (arith, count, room, few, number);
    }
