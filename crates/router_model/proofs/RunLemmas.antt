-- Frames that came of a capture: they are in order, and a journal has room for them.
use Rattle.std.proofs.Common.{◌≡◌, ℕ, ◌+◌, ◌*◌, ◌^◌, ◌-◌, ◌/◌, ◌≤◌, ◌<◌, suc, List, [], ◌∷◌, ◌++◌, length, Some, arith, div-mul-le_self, div-add-mod', mod-lt}
use Rattle.std.specs.List.{All, range_with_len}
use Rattle.std.proofs.lemmas.List.{length-append, length-map}
use Rattle.std.proofs.lemmas.List.Elements.{All-head, All-tail}
use Rattle.std.proofs.lemmas.List.FromFn.{length-range_with_len}
use Rattle.capture_io.specs.Frame.{Frame}
use Rattle.capture_io.specs.Run.{AreLater}
use Rattle.capture_events.specs.Came.{IsRead}
use Rattle.capture_events.specs.Events.{Event, Arrival, Tick, events, events_after, events_of, second_of, ticks}
use Rattle.router_model.specs.Lifting.{CameFits, CameInOrder, CaptureReplays, FramesInOrder}
use Rattle.router_model.proofs.ReplayLemmas.{events-order, table-replays}
use Rattle.router_model.proofs.StandingLemmas.{lawful-may}
use Rattle.router_model.proofs.StaticsLemmas.{length-statics}

-- frames that were read, and whose moments don't fall
pub in_order : (m : ℕ) (frames : List Frame) → All IsRead frames → AreLater m frames → FramesInOrder m frames
in_order m [] read later = tt
in_order m (frame ∷ frames) read later =
    (later.0, ((All-head IsRead frame frames read).octets, in_order frame.moment frames (All-tail IsRead frame frames read) later.1))

pub came-in-order : CameInOrder
came-in-order frames came = in_order 0 frames came.read came.later

-- the second of a moment that isn't too late
second_below : (m : ℕ) → m < 2 ^ 32 * 1000000000 → m / 1000000000 ≤ 2 ^ 32
second_below m less = let whole = div-mul-le_self m 1000000000 in omega (arith, less, whole)

-- it doesn't fall where the moments don't
pub second_later : (from to : ℕ) → from ≤ to → from / 1000000000 ≤ to / 1000000000
second_later from to later =
    let a = div-add-mod' from 1000000000 in
    let b = div-add-mod' to 1000000000 in
    let c = mod-lt from (let some : 0 < 1000000000 = omega arith in some) in
    let d = mod-lt to (let some : 0 < 1000000000 = omega arith in some) in
    omega (arith, a, b, c, d, later)

-- a frame, and the seconds before it
pub length-events_of : (m : ℕ) (frame : Frame) (rest : List Event) → length (events_of (Some m) frame ++ rest) ≡ second_of frame.moment - second_of m + 1 + length rest
length-events_of m frame rest =
    let seconds = range_with_len (suc (second_of m)) (second_of frame.moment - second_of m) in
    let a = length-append (events_of (Some m) frame) rest in
    let b = length-append (ticks (Some m) frame.moment) (Arrival frame ∷ []) in
    let c = length-map seconds Tick in
    let d = length-range_with_len (suc (second_of m)) (second_of frame.moment - second_of m) in
    omega (arith, a, b, c, d)

-- each second up to the last frame's is counted once
count_after : (m : ℕ) (frames : List Frame) → m < 2 ^ 32 * 1000000000 → All IsRead frames → AreLater m frames → second_of m + length (events_after (Some m) frames) ≤ 2 ^ 32 + length frames
count_after m [] early read later = let below = second_below m early in omega (arith, below)
count_after m (frame ∷ frames) early read later =
    let rest = count_after frame.moment frames (All-head IsRead frame frames read).moment (All-tail IsRead frame frames read) later.1 in
    let one = length-events_of m frame (events_after (Some frame.moment) frames) in
    let rises = second_later m frame.moment later.0 in
    omega (arith, rest, one, rises)

pub count : (frames : List Frame) → All IsRead frames → AreLater 0 frames → length (events frames) ≤ 2 ^ 32 + length frames
count [] read later = omega arith
count (frame ∷ frames) read later =
    let rest = count_after frame.moment frames (All-head IsRead frame frames read).moment (All-tail IsRead frame frames read) later.1 in
    omega (arith, rest)

pub came-fits : CameFits
came-fits settings frames lawful came =
    let all = count frames came.read came.later in
    let few = came.few in
    let fixed = length-statics settings in
    let mappings = lawful.few_mappings in
    omega (arith, all, few, fixed, mappings)

pub capture-replays : CaptureReplays
capture-replays settings frames lawful came =
    table-replays settings (events frames) (lawful-may settings lawful) (events-order frames (came-in-order frames came)) (came-fits settings frames lawful came)
