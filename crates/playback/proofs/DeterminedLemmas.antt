-- Plays whose outcome is determined at each event.
use Rattle.std.proofs.Common.{◌≡◌, ℕ, List, [], ◌∷◌, ◌++◌, Option, Some, refl, sym, ap, ap₂, ◌∙◌, ◌⊎◌, inl, inr, subst}
use Rattle.std.proofs.lemmas.List.{append-nil}
use Rattle.desk.specs.World.{World, Shown}
use Rattle.capture_io.specs.Frame.{Frame}
use Rattle.playback.specs.Arrivals.{Arrived}
use Rattle.playback.specs.Determined.{CutPlay, EndPlay}
use Rattle.capture_events.specs.Events.{Determined, End, Event, Happens, Outcome, Pause, Played, Step, events, followed, happened, played, records_of}
use Rattle.playback.specs.Front.{Cut, CutRun, IsFront}
use Rattle.playback.specs.Input.{InputRun}
use Rattle.playback.specs.Playing.{with_outcome, Ends, HasPlayed}
use Rattle.playback.specs.declared.plays.Ending.{Ending}
use Rattle.capture_events.proofs.EventLemmas.{happened-append, played-append}
use Rattle.playback.proofs.FrontLemmas.{front-front, front-lines}

-- with the end they are the same
happened-closed : (steps : List Step) → happened (steps ++ End ∷ []) ≡ happened steps
happened-closed steps = happened-append steps (End ∷ []) ∙ append-nil (happened steps)

front-happened : (first all : List Step) → IsFront first all → IsFront (happened first) (happened all)
front-happened first all is = (happened is.0, sym (happened-append first is.0) ∙ ap happened is.1)

module _ {S : Type 0} (step : S → Event → Outcome S) where
  -- what may be done for steps is what is done for their events
  pub determined-played : (start : S) (steps : List Step) (outcome : Outcome S) → Played (Determined step) start steps outcome → outcome ≡ played step start (happened steps)
  determined-played start [] outcome is = is
  determined-played start (Happens event ∷ steps) outcome (first, rest, is, others, whole) =
      let more = determined-played (step start event).after steps rest (subst (λ (o : Outcome S). Played (Determined step) o.after steps rest) is others) in
      whole ∙ ap₂ (λ (a b : Outcome S). followed a b) is more
  determined-played start (Pause ∷ steps) outcome (first, rest, is, others, whole) =
      let more = determined-played start steps rest (subst (λ (o : Outcome S). Played (Determined step) o.after steps rest) is others) in
      whole ∙ ap₂ (λ (a b : Outcome S). followed a b) is more
  determined-played start (End ∷ steps) outcome (first, rest, is, others, whole) =
      let more = determined-played start steps rest (subst (λ (o : Outcome S). Played (Determined step) o.after steps rest) is others) in
      whole ∙ ap₂ (λ (a b : Outcome S). followed a b) is more

  module _ (start : S) (file : Option ℕ) (old : Shown) where
    -- a play to the end
    pub end-play : (run : InputRun) (ending : Ending) (after : S) (now : Option World) → HasPlayed (Determined step) start file old run ending after now → EndPlay step start file old run ending after now
    end-play run ending after now has =
        let events = happened-closed has.steps ∙ has.steps_are.events in
        let same = determined-played start (has.steps ++ End ∷ []) has.outcome has.played ∙ ap (played step start) events in
        record {
          came = has.came;
          ends = subst (λ (o : Outcome S). Ends o run ending) same has.ends;
          shown = has.shown ∙ ap (λ (o : Outcome S). Some (with_outcome file o old)) same;
          left = has.left ∙ ap (λ (o : Outcome S). o.after) same;
        }

    -- a play of these frames that is cut short
    cut-frames : (run : InputRun) (frames : List Frame) (all : List Step) (now : Option World) → happened all ≡ events frames → IsFront frames run.frames → Arrived frames
        → Cut (Determined step) start file old all now → CutPlay step start file old run now
    cut-frames run frames all now same within came cut =
        let some = happened cut.first in
        let more = happened cut.others in
        let done : cut.done ≡ played step start some = determined-played start cut.first cut.done cut.is_done in
        let held : cut.held ≡ played step (played step start some).after more =
        determined-played cut.done.after cut.others cut.held cut.is_held ∙ ap (λ (o : Outcome S). played step o.after more) done in
        let both : IsFront (some ++ more) (events frames) =
        subst (λ (l : List Event). IsFront (some ++ more) l) same (subst (λ (l : List Event). IsFront l (happened all)) (happened-append cut.first cut.others) (front-happened (cut.first ++ cut.others) all cut.within)) in
        let lines : cut.done.lines ++ cut.held.lines ≡ (played step start (some ++ more)).lines =
        ap₂ (λ (a b : Outcome S). a.lines ++ b.lines) done held ∙ sym (ap (λ (o : Outcome S). o.lines) (played-append step start some more)) in
        record {
          frames = frames;
          within = within;
          came = came;
          first = some;
          front = front-front some (some ++ more) (events frames) (more, refl) both;
          lines = cut.lines;
          octets = cut.octets;
          shown = cut.shown;
          said = front-front cut.lines (played step start (some ++ more)).lines (played step start (events frames)).lines (subst (λ (l : List ℕ). IsFront cut.lines l) lines cut.said) (front-lines step start (some ++ more) (events frames) both);
          reported = subst (λ (o : Outcome S). IsFront o.lines cut.lines) done cut.reported;
          written = subst (λ (o : Outcome S). IsFront cut.octets (records_of o.packets)) done cut.written;
        }

    -- the same of a run
    pub cut-play : (run : InputRun) (now : Option World) → CutRun (Determined step) start file old run now → CutPlay step start file old run now
    cut-play run now cut = cases cut.cut
      where
        cases : Cut (Determined step) start file old cut.steps now ⊎ ((cut.frames ≡ run.frames) × Cut (Determined step) start file old (cut.steps ++ End ∷ []) now) → CutPlay step start file old run now
        cases (inl some) = cut-frames run cut.frames cut.steps now cut.steps_are.events cut.within cut.came some
        cases (inr (whole, all)) = cut-frames run cut.frames (cut.steps ++ End ∷ []) now (happened-closed cut.steps ∙ cut.steps_are.events) cut.within cut.came all
