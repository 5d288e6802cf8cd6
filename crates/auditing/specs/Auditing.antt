-- A capture that is played, and a capture of what a router sent, compared with the packets of the first.
use Rattle.std.specs.Prelude.{◌≡◌, ◌≢◌, ℕ, List, map, Option, Some, None, Result, Ok, Err, IfSome, IsSomeAnd}
use Rattle.audit.specs.Compared.{compared}
use Rattle.audit.specs.Lifted.{lifted}
use Rattle.audit.specs.declared.outcome.Outcome.{Outcome as Comparison}
use Rattle.auditing.specs.declared.audited.Audited.{Audited}
use Rattle.auditing.specs.declared.audited.Audited.TheVariants.{Compared, Played as BadPlayed, Sent}
use Rattle.capture_events.specs.Events.{AreStepsOf, Outcome, Packet, Played, Step}
use Rattle.capture_io.specs.Frame.{Frame}
use Rattle.capture_io.specs.Frames.{read_on}
use Rattle.capture_io.specs.Reading.{Reading}
use Rattle.capture_io.specs.Run.{Run}
use Rattle.capture_io.specs.declared.fault.CaptureFault.{CaptureFault}
use Rattle.desk.specs.World.{World, left_of}
use Rattle.lisp_settings.specs.declared.settings.Settings.{Settings}
use Rattle.playback.specs.Arrivals.{Arrived}

-- the frames that a reader has still to give in a world, and the fault at their end
abbrev pub run_in : Reading → World → Run CaptureFault
run_in r w = read_on r.format r.position (left_of r.id w)

-- the octets of each of these packets
abbrev pub octets_of : List Packet → List (List ℕ)
octets_of packets = map (λ packet. packet.octets) packets

-- all frames were read and played from the state `start`, with pauses among their events; `comparison` is the outcome
-- of comparing the packets of that play with the frames `sent`
pub record IsCompared {S : Type 0} (does : S → Step → Outcome S → Type 0) (start : S) (frames sent : List Frame)
    (comparison : Comparison) : Type 0 where
  pub came : Arrived frames
  pub steps : List Step
  pub steps_are : AreStepsOf frames steps
  pub outcome : Outcome S
  pub played : Played does start steps outcome
  pub compares : comparison ≡ compared (octets_of outcome.packets) sent

-- how an audit may end: both captures have no fault, and compare as stated; or one of them has the stated fault
abbrev pub IsAudited : {S : Type 0} → (S → Step → Outcome S → Type 0) → S → Run CaptureFault → Run CaptureFault → Audited → Type 0
IsAudited does start input sent (Compared comparison) =
    (input.fault ≡ None) × ((sent.fault ≡ None) × IsCompared does start input.frames sent.frames comparison)
IsAudited does start input sent (BadPlayed fault) = input.fault ≡ Some fault
IsAudited does start input sent (Sent fault) = sent.fault ≡ Some fault

-- the nonces lifted out of a capture without a fault; or its fault
abbrev pub IsLifted : Settings → Run CaptureFault → Result (List ℕ) CaptureFault → Type 0
IsLifted settings run (Ok nonces) = (run.fault ≡ None) × (nonces ≡ lifted settings run.frames)
IsLifted settings run (Err fault) = run.fault ≡ Some fault

-- each id but this one has as much left to read as before, where contracts see a world
abbrev pub KeepsOthers : ℕ → Option World → Option World → Type 0
KeepsOthers id old new =
    IfSome old (λ w. IsSomeAnd new (λ v. (other : ℕ) → other ≢ id → left_of other v ≡ left_of other w))
