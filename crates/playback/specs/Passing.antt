-- A play under way: the frames that were read and played, and those that are left of the capture.
use Rattle.std.specs.Prelude.{◌≡◌, ◌≤◌, ℕ, List, [], ◌++◌, length, Option, Some, None, option_map, unwrap_or, IfSome, IsSomeAnd, Result}
use Rattle.std.specs.List.{All}
use Rattle.std.specs.Result.{MatchResult}
use Rattle.desk.specs.World.{World, Shown, shown_of}
use Rattle.capture_io.specs.Frame.{Frame}
use Rattle.capture_io.specs.Run.{AreLater}
use Rattle.capture_events.specs.Came.{IsRead}
use Rattle.playback.specs.Arrivals.{Arrived}
use Rattle.capture_events.specs.Events.{AreStepsOf, Outcome, Step, events, events_after}
use Rattle.playback.specs.Front.{CutRun, Stands}
use Rattle.playback.specs.Input.{InputRun, beginning}
use Rattle.playback.specs.Limits.{most_frames}
use Rattle.playback.specs.declared.fault.InputFault.{InputFault}
use Rattle.playback.specs.declared.output.Output.{Output}
use Rattle.playback.specs.declared.plays.Play.{Play}
use Rattle.playback.specs.declared.plays.Turn.{Turn}
use Rattle.playback.specs.declared.plays.Turn.TheVariants.{Full, Ended}
use Rattle.playback.specs.declared.progress.Progress.{Progress}

-- a play is between two frames: its reader is open, and has come as far as the play
pub record IsBetween {R : Type 0} (is_open : R → Type 0) (progress_of : R → Progress) (play : Play R) : Type 0 where
  pub open_still : is_open play.reader
  pub progress : progress_of play.reader ≡ play.progress
  pub most : play.progress.frames ≤ most_frames

-- two states of a play have the same file to read and the same file to write
pub record IsSamePlay {R : Type 0} (id_of : R → ℕ) (before after : Play R) : Type 0 where
  pub id : id_of after.reader ≡ id_of before.reader
  pub file : after.file ≡ before.file

-- a play as it begins: no frame was read, and no output is gathered
pub record IsBegun {R : Type 0} (play : Play R) : Type 0 where
  pub progress : play.progress ≡ beginning
  pub lines : play.output.lines ≡ []
  pub records : play.output.records ≡ []
  pub written : play.output.written ≡ 0

-- the id of the file that a play writes, if there is one
abbrev pub file_of : {R : Type 0} → Play R → Option ℕ
file_of play = option_map (λ id. id.number) play.file

-- a fact of a play that paused because its machine is full
abbrev pub IfFull : Turn → Type 0 → Type 0
IfFull Full P = P
IfFull (Ended fault) P = Unit {0}

module _ {S : Type 0} (does : S → Step → Outcome S → Type 0) where
  -- some frames of a capture were read and played, with pauses among their events, and the others are left
  pub record Passed (file : Option ℕ) (start : S) (run : InputRun) (old : Shown) (left : World → InputRun) (at : Progress) (state : S) (output : Output) (now : Option World) (w : World) : Type 0 where
    pub frames : List Frame
    pub whole : frames ++ (left w).frames ≡ run.frames
    pub fault : (left w).fault ≡ run.fault
    pub read : All IsRead frames
    pub later : (more : List Frame) → AreLater (unwrap_or at.moment 0) more → AreLater 0 (frames ++ more)
    pub count : at.frames ≡ length frames
    pub most : at.frames ≤ most_frames
    pub joins : (more : List Frame) → events (frames ++ more) ≡ events frames ++ events_after at.moment more
    pub steps : List Step
    pub steps_are : AreStepsOf frames steps
    pub stands : Stands does start file old steps state output now

  module _ {R : Type 0} (left : R → World → InputRun) where
    -- a play that began in state `start`, in a world in which the capture `run` was left, has come to `state`; always
    -- so of an opaque desk
    abbrev pub IsPassing : S → (World → InputRun) → Play R → S → Option World → Option World → Type 0
    IsPassing start run play state None now = Unit {0}
    IsPassing start run play state (Some w) now =
        IsSomeAnd now (Passed (file_of play) start (run w) (shown_of w) (left play.reader) play.progress state play.output now)

  -- all frames of a capture were read and played, with pauses among their events, and then came its end or its fault
  pub record IsOver (file : Option ℕ) (start : S) (run : InputRun) (old : Shown) (count : ℕ) (fault : Option InputFault) (state : S) (output : Output) (now : Option World) : Type 0 where
    pub fault_is : fault ≡ run.fault
    pub came : Arrived run.frames
    pub count_is : count ≡ length run.frames
    pub steps : List Step
    pub steps_are : AreStepsOf run.frames steps
    pub stands : Stands does start file old steps state output now

  module _ {R : Type 0} (left : R → World → InputRun) where
    -- how far a play has come when its machine is full, or when its capture has ended
    abbrev pub ComesTo : Turn → S → (World → InputRun) → Play R → Play R → S → Option World → Option World → Type 0
    ComesTo Full start run before after state old now = IsPassing left start run after state old now
    ComesTo (Ended fault) start run before after state old now =
        IfSome old (λ w. IsOver (file_of before) start (run w) (shown_of w) after.progress.frames fault state after.output now)

    -- a play goes on from where it is to its next pause or the end; where the result is an error, it is cut short
    abbrev pub PassesOn : {E : Type 0} → Play R → Play R → S → S → Option World → Result Turn E → Option World → Type 0
    PassesOn before after state next told result now =
        (start : S) (run : World → InputRun) (old : Option World)
        → IsPassing left start run before state old told
        → MatchResult result (λ turn. ComesTo turn start run before after next old now) (λ _. IfSome old (λ w. CutRun does start (file_of before) (shown_of w) (run w) now))
