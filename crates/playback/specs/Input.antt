-- A capture as the frames of a play, whatever its format.
use Rattle.std.specs.Prelude.{◌≡◌, ℕ, ◌+◌, ◌*◌, ◌^◌, ◌<◌, ◌≤◌, List, length, Option, Some, None, option_map, unwrap_or, IsSomeAnd}
use Rattle.std.specs.List.{All}
use Rattle.desk.specs.World.{World, left_of}
use Rattle.capture_io.specs.Frame.{Frame}
use Rattle.capture_io.specs.Run.{Run, before, ended}
use Rattle.playback.specs.Limits.{most_arrival_octets}
use Rattle.playback.specs.declared.fault.InputFault.{InputFault}
use Rattle.playback.specs.declared.progress.Progress.{Progress}
use Rattle.playback.specs.declared.reader.Next.{Next}
use Rattle.playback.specs.declared.reader.Next.TheVariants as next

-- the frames of a capture, and its fault, if it has one
abbrev pub InputRun : Type 0
InputRun = Run InputFault

-- the frames and the fault of a capture whose faults are those of one format
abbrev pub input_run : {F : Type 0} → (F → InputFault) → Run F → InputRun
input_run fault_of run = record { frames = run.frames; fault = option_map fault_of run.fault }

-- the progress before the first frame
abbrev pub beginning : Progress
beginning = record { frames = 0; moment = None }

-- the progress behind a frame
abbrev pub behind : Frame → Progress
behind f = record { frames = f.number; moment = Some f.moment }

-- a frame that a reader of at most `most` frames may return next behind a progress, whatever octets its file has
pub record IsNext (most : ℕ) (at : Progress) (f : Frame) : Type 0 where
  pub number : f.number ≡ at.frames + 1
  pub few : f.number ≤ most
  pub later : unwrap_or at.moment 0 ≤ f.moment
  pub moment : f.moment < 2 ^ 32 * 1000000000
  pub size : length f.octets ≤ most_arrival_octets
  pub octets : All (λ octet. octet < 256) f.octets

-- the next item is what a capture has left: its first frame, behind which the desk's world has the rest; its end; or
-- its fault
abbrev pub Comes : Next → InputRun → (World → InputRun) → Option World → Type 0
Comes (next.Frame f) run rest now = IsSomeAnd now (λ w. run ≡ before f (rest w))
Comes next.End run rest now = run ≡ ended None
Comes (next.Fault fault) run rest now = run ≡ ended (Some fault)

-- a fact of the next item, if it is a frame
abbrev pub IfFrame : Next → (Frame → Type 0) → Type 0
IfFrame (next.Frame f) P = P f
IfFrame next.End P = Unit {0}
IfFrame (next.Fault fault) P = Unit {0}

-- the frames and the fault that a reader has left in a world, by its id and the octets left of its file
abbrev pub left_in : {R : Type 0} → (R → ℕ) → (R → List ℕ → InputRun) → R → World → InputRun
left_in id run reader w = run reader (left_of (id reader) w)
