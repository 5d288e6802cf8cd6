-- The events of a capture come at moments that records can have: no second is later than the frame behind it.
use Rattle.std.proofs.Common.{◌<◌, ◌≤◌, ◌+◌, ◌*◌, ◌-◌, ◌/◌, ◌^◌, ℕ, zero, suc, List, [], ◌∷◌, ◌++◌, map, Some, sym, subst, arith, append_assoc, div-mul-le_self, div-add-mod', mod-lt}
use Rattle.std.specs.List.{All, range_with_len}
use Rattle.std.proofs.lemmas.List.Elements.{All-head, All-tail}
use Rattle.capture_io.specs.Frame.{Frame}
use Rattle.capture_io.specs.Run.{AreLater}
use Rattle.capture_events.specs.Came.{IsRead}
use Rattle.capture_events.specs.Events.{Arrival, Event, Tick, events, events_after, ticks}
use Rattle.router_model.specs.Lifting.{event_moment}

-- a moment that a record can have
abbrev pub IsEarly : ℕ → Type 0
IsEarly m = m < 2 ^ 32 * 1000000000

abbrev pub AreEarly : List Event → Type 0
AreEarly [] = Unit {0}
AreEarly (event ∷ events) = IsEarly (event_moment event) × AreEarly events

ticks-early : (n a to : ℕ) (rest : List Event) → a + n ≤ suc (to / 1000000000) → IsEarly to → AreEarly rest → AreEarly (map Tick (range_with_len a n) ++ rest)
ticks-early zero a to rest few early all = all
ticks-early (suc n) a to rest few early all =
    let whole = div-mul-le_self to 1000000000 in
    (omega (arith, few, whole, early), ticks-early n (a + 1) to rest (omega (arith, few)) early all)

after-early : (m : ℕ) (frames : List Frame) → All IsRead frames → AreLater m frames → AreEarly (events_after (Some m) frames)
after-early m [] read later = tt
after-early m (frame ∷ frames) read later =
    let early = (All-head IsRead frame frames read).moment in
    let a = div-add-mod' m 1000000000 in
    let b = div-add-mod' frame.moment 1000000000 in
    let c = mod-lt m (let some : 0 < 1000000000 = omega arith in some) in
    let d = mod-lt frame.moment (let some : 0 < 1000000000 = omega arith in some) in
    let rises = later.0 in
    subst AreEarly (sym (append_assoc (ticks (Some m) frame.moment) (Arrival frame ∷ []) (events_after (Some frame.moment) frames)))
    (ticks-early (frame.moment / 1000000000 - m / 1000000000) (suc (m / 1000000000)) frame.moment (Arrival frame ∷ events_after (Some frame.moment) frames) (omega (arith, a, b, c, d, rises)) early
    (early, after-early frame.moment frames (All-tail IsRead frame frames read) later.1))

pub events-early : (frames : List Frame) → All IsRead frames → AreLater 0 frames → AreEarly (events frames)
events-early [] read later = tt
events-early (frame ∷ frames) read later =
    ((All-head IsRead frame frames read).moment, after-early frame.moment frames (All-tail IsRead frame frames read) later.1)
