-- A reader of a pcapng capture, as contracts see it.
use Rattle.std.specs.Prelude.{◌≡◌, ◌≤◌, ◌<◌, ◌+◌, ℕ, Bool, true, false, length, Option, Some, None, unwrap_or}
use Rattle.std.specs.List.{All}
use Rattle.desk.specs.World.{World, after_read, left_of}
use Rattle.capture_io.specs.Frame.{Frame}
use Rattle.capture_io.specs.Limits.{most_frame_octets, most_records}
use Rattle.capture_ng.specs.Found.{found}
use Rattle.capture_ng.specs.Limits.{end_of_moments}
use Rattle.capture_ng.specs.Position.{Position, begin}
use Rattle.capture_ng.specs.declared.fault.NgFault.{NgFault}
use Rattle.capture_ng.specs.declared.fault.NgFault.TheVariants.{Memory}

-- a reader: the file's id, whether interfaces are VLANs, its position, and the fault that it keeps
pub record NgReading : Type 0 where
  pub id : ℕ
  pub vlans : Bool
  pub position : Position
  pub fault : Option NgFault

-- a reader that has read no octet
abbrev pub beginning : ℕ → Bool → NgReading
beginning id vlans = record { id = id; vlans = vlans; position = begin; fault = None }

-- octets of a frame, at most; where interfaces are VLANs, a tag of four octets may be among them
abbrev pub most_octets : Bool → ℕ
most_octets true = most_frame_octets + 4
most_octets false = most_frame_octets

-- a frame f that a reader returns behind the position `at`, whatever the file holds
pub record IsNext (vlans : Bool) (at : Position) (f : Frame) : Type 0 where
  pub number : f.number ≡ at.count + 1
  pub most : f.number ≤ most_records
  pub later : unwrap_or at.greatest 0 ≤ f.moment
  pub moment : f.moment < end_of_moments
  pub size : length f.octets ≤ most_octets vlans
  pub octets : All (λ octet. octet < 256) f.octets

-- the count and the greatest moment behind an answer: those of its frame, or as before where there is none
abbrev pub IsCounted : Option Frame → Position → Position → Type 0
IsCounted None old new = (new.count ≡ old.count) × (new.greatest ≡ old.greatest)
IsCounted (Some f) old new = (new.count ≡ f.number) × (new.greatest ≡ Some f.moment)

-- the world of a desk behind the octets of a reader's find at a position
abbrev pub after_found : ℕ → Bool → Position → World → World
after_found id vlans at w = after_read id (found vlans at (left_of id w)).taken w

-- the fault that a reader keeps after one: None where memory was refused
abbrev pub kept_fault : NgFault → Option NgFault
kept_fault Memory = None
kept_fault fault = Some fault
