-- What a play that is cut short leaves at its desk: a beginning of all its output.
use Rattle.std.specs.Prelude.{◌≡◌, ℕ, ◌+◌, List, [], ◌∷◌, ◌++◌, length, Option, Some, Result, ◌⊎◌, option_map}
use Rattle.std.specs.Result.{MatchResult}
use Rattle.desk.specs.World.{World, Shown, shown}
use Rattle.capture_io.specs.Frame.{Frame}
use Rattle.playback.specs.Arrivals.{Arrived}
use Rattle.capture_events.specs.Events.{AreStepsOf, End, Outcome, Played, Step, records_of}
use Rattle.playback.specs.Input.{InputRun}
use Rattle.playback.specs.Playing.{after_output, handed_on, with_output, with_outcome}
use Rattle.playback.specs.declared.output.Output.{Output}

-- one list is a beginning of another
abbrev pub IsFront : {X : Type 0} → List X → List X → Type 0
IsFront {X} front whole = (rest : List X) × (front ++ rest ≡ whole)

-- handing on: output and world stay as they were, or all gathered output is handed on and none is left
abbrev pub Hands : Option ℕ → Output → Option World → Output → Option World → Type 0
Hands file old told new now =
    ((new ≡ old) × (now ≡ told))
    ⊎ ((new.lines ≡ []) × (new.records ≡ []) × (now ≡ handed_on file old told))

-- a fault while gathered output is handed on: the desk has a beginning of it, and no octet of a record before all lines
pub record Breaks (file : Option ℕ) (output : Output) (told now : Option World) : Type 0 where
  pub lines : List ℕ
  pub octets : List ℕ
  pub left : now ≡ option_map (after_output file lines octets) told
  pub said : IsFront lines output.lines
  pub written : IsFront octets output.records
  pub order : (octets ≡ []) ⊎ (lines ≡ output.lines)

module _ {S : Type 0} (does : S → Step → Outcome S → Type 0) (start : S) (file : Option ℕ) (old : Shown) where
  -- steps were played from `start` to a state: the output of the first ones is handed on, and that of the others is
  -- gathered
  pub record Stands (all : List Step) (state : S) (output : Output) (now : Option World) : Type 0 where
    pub first : List Step
    pub others : List Step
    pub whole : first ++ others ≡ all
    pub done : Outcome S
    pub held : Outcome S
    pub is_done : Played does start first done
    pub is_held : Played does done.after others held
    pub state_is : state ≡ held.after
    pub shown : shown now ≡ Some (with_outcome file done old)
    pub lines : output.lines ≡ held.lines
    pub records : output.records ≡ records_of held.packets
    pub written : output.written ≡ length done.packets + length held.packets

  -- a play of steps was cut short: some of them were played, and report and file have a beginning of their output; all
  -- lines of the first steps are reported, and no packets but theirs are written
  pub record Cut (all : List Step) (now : Option World) : Type 0 where
    pub first : List Step
    pub others : List Step
    pub within : IsFront (first ++ others) all
    pub done : Outcome S
    pub held : Outcome S
    pub is_done : Played does start first done
    pub is_held : Played does done.after others held
    pub lines : List ℕ
    pub octets : List ℕ
    pub shown : shown now ≡ Some (with_output file lines octets old)
    pub said : IsFront lines (done.lines ++ held.lines)
    pub reported : IsFront done.lines lines
    pub written : IsFront octets (records_of done.packets)

  -- a play of a capture was cut short: some of its frames were read, perhaps also its end, and the play of their steps
  -- was cut short
  pub record CutRun (run : InputRun) (now : Option World) : Type 0 where
    pub frames : List Frame
    pub within : IsFront frames run.frames
    pub came : Arrived frames
    pub steps : List Step
    pub steps_are : AreStepsOf frames steps
    pub cut : Cut steps now ⊎ ((frames ≡ run.frames) × Cut (steps ++ End ∷ []) now)

-- steps are played after earlier ones: all of them where the result is Ok; where it is an error, the play is cut short
abbrev pub Goes : {S T E : Type 0} → (S → Step → Outcome S → Type 0) → Option ℕ → S → S → List Step → Output → Option World → Result T E → Output → Option World → Type 0
Goes {S} does file before after next output told result new now =
    (start : S) (old : Shown) (past : List Step)
    → Stands does start file old past before output told
    → MatchResult result (λ _. Stands does start file old (past ++ next) after new now) (λ _. Cut does start file old (past ++ next) now)
