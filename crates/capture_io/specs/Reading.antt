-- A reader of a capture, as contracts see it.
use Rattle.std.specs.Prelude.{◌≡◌, ◌≤◌, ◌<◌, ◌+◌, ◌*◌, ◌^◌, ℕ, Bool, true, ◌&&◌, nat_le, nat_lt, List, length, Option, Some, None, unwrap_or, Result}
use Rattle.std.specs.List.{All}
use Rattle.octets.specs.Rules.{first_failing}
use Rattle.capture_io.specs.Answers.{unless}
use Rattle.capture_io.specs.Capture.{header_rules, format_of, begin}
use Rattle.capture_io.specs.Frame.{Frame}
use Rattle.capture_io.specs.Limits.{most_frame_octets, most_records}
use Rattle.capture_io.specs.declared.format.Format.{Format}
use Rattle.capture_io.specs.declared.position.Position.{Position}
use Rattle.capture_io.specs.declared.fault.CaptureFault.{CaptureFault}
use Rattle.capture_io.specs.declared.fault.CaptureFault.TheVariants.{Memory}

-- a reader: the file's id, its format, where the reader stands, and the fault that it keeps
pub record Reading : Type 0 where
  pub id : ℕ
  pub format : Format
  pub position : Position
  pub fault : Option CaptureFault

-- a reader that has read the header, and no record
abbrev pub beginning : ℕ → Format → Reading
beginning id format = record { id = id; format = format; position = begin; fault = None }

-- the reader of a file of these octets, or the fault of its header
abbrev pub started : ℕ → List ℕ → Result Reading CaptureFault
started id file = unless (first_failing (header_rules file)) (beginning id (format_of file))

-- whether a moment, if there is one, is below 2^32 seconds
abbrev pub is_moment : Option ℕ → Bool
is_moment None = true
is_moment (Some m) = nat_lt m (2 ^ 32 * 1000000000)

-- whether a reader can stand at a position: records, octets and greatest moment are within the limits
abbrev pub is_reachable : Position → Bool
is_reachable at =
    (nat_le at.count most_records && nat_le at.place (24 + (16 + most_frame_octets) * at.count))
    && is_moment at.greatest

-- a frame f that a reader of that format returns behind the position `at`, whatever the file holds
pub record IsNext (format : Format) (at : Position) (f : Frame) : Type 0 where
  pub number : f.number ≡ at.count + 1
  pub most : f.number ≤ most_records
  pub later : unwrap_or at.greatest 0 ≤ f.moment
  pub moment : f.moment < 2 ^ 32 * 1000000000
  pub link : f.link ≡ format.link
  pub size : length f.octets ≤ most_frame_octets
  pub octets : All (λ octet. octet < 256) f.octets

-- the position behind the record of a frame
abbrev pub passed : Position → Frame → Position
passed at f =
    record { count = f.number; greatest = Some f.moment; place = at.place + 16 + length f.octets }

-- a reader after a frame
abbrev pub after_frame : Reading → Frame → Reading
after_frame r f = record r { position = passed r.position f }

-- a reader after a fault, which it keeps unless memory was refused
abbrev pub after_fault : Reading → CaptureFault → Reading
after_fault r Memory = r
after_fault r fault = record r { fault = Some fault }
