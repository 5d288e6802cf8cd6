-- Frames that came to be played: a table says and writes of them, and of the first of their events, what the plain router does.
use Rattle.std.proofs.Common.{◌≡◌, ℕ, ◌+◌, ◌*◌, ◌^◌, ◌≤◌, List, [], ◌∷◌, ◌++◌, length, ap, subst, sym, refl, arith}
use Rattle.std.proofs.lemmas.List.{length-append, append-nil}
use Rattle.capture_io.specs.Frame.{Frame}
use Rattle.capture_events.specs.Events.{Event, events, played}
use Rattle.lisp_settings.specs.Lawful.{IsLawful}
use Rattle.lisp_settings.specs.declared.settings.Settings.{Settings}
use Rattle.playback.specs.Arrivals.{Arrived}
use Rattle.playback.specs.Front.{IsFront}
use Rattle.router_model.specs.Journal.{statics}
use Rattle.router_model.specs.Lifting.{AreInOrder, event_moment, outcome_tabled}
use Rattle.router_model.specs.Parts.{Parts, parts_in, table}
use Rattle.router_model.specs.Plain.{after_event, plain, started}
use Rattle.router_model.proofs.ReplayLemmas.{events-order, table-replays}
use Rattle.router_model.proofs.RunLemmas.{count, in_order}
use Rattle.router_model.proofs.StandingLemmas.{lawful-may}
use Rattle.router_model.proofs.StaticsLemmas.{length-statics}
use Rattle.replay.specs.Taking.{router_of}

-- the first events are in order
order-front : (m : ℕ) (first more : List Event) → AreInOrder m (first ++ more) → AreInOrder m first
order-front m [] more order = tt
order-front m (event ∷ first) more order = (order.0, (order.1.0, order-front (event_moment event) first more order.1.1))

-- for the first events of frames that came, a table says and writes what the plain router does
pub tabled : (settings : Settings) (parts : Parts) (frames : List Frame) (first : List Event) → IsLawful settings → parts ≡ parts_in settings (statics settings)
    → Arrived frames → IsFront first (events frames)
    → played (after_event table) (router_of settings parts) first ≡ outcome_tabled (played plain (started settings) first)
tabled settings parts frames first lawful begins came front =
    let whole = events-order frames (in_order 0 frames came.read came.later) in
    let order = order-front 0 first front.0 (subst (λ (l : List Event). AreInOrder 0 l) (sym front.1) whole) in
    let most = count frames came.read came.later in
    let few = came.few in
    let places = ap length front.1 in
    let shares = length-append first front.0 in
    let fixed = length-statics settings in
    let mappings = lawful.few_mappings in
    let room : length (statics settings) + 32768 * length first ≤ 2 ^ 62 = omega (arith, most, few, places, shares, fixed, mappings) in
    rw begins (table-replays settings first (lawful-may settings lawful) order room).0

-- of all of them
pub arrived-replays : (settings : Settings) (frames : List Frame) → IsLawful settings → Arrived frames
    → played (after_event table) (router_of settings (parts_in settings (statics settings))) (events frames) ≡ outcome_tabled (played plain (started settings) (events frames))
arrived-replays settings frames lawful came = tabled settings (parts_in settings (statics settings)) frames (events frames) lawful refl came ([], append-nil (events frames))
