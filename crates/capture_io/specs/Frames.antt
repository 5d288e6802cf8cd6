-- All frames of a capture, and the fault at its end.
use Rattle.std.specs.Prelude.{ℕ, zero, suc, ◌+◌, List, length, drop, Option, Some, None}
use Rattle.octets.specs.Rules.{first_failing}
use Rattle.capture_io.specs.Capture.{header_rules, format_of, begin, outcome, advanced, kept}
use Rattle.capture_io.specs.Run.{Run, ended, goes_on}
use Rattle.capture_io.specs.declared.format.Format.{Format}
use Rattle.capture_io.specs.declared.position.Position.{Position}
use Rattle.capture_io.specs.declared.fault.CaptureFault.{CaptureFault}

-- the octets left behind the next record
abbrev pub rest : Format → List ℕ → List ℕ
rest format left = drop (16 + kept format left) left

-- the run from a position on, of at most n records
unfoldable pub read_within : ℕ → Format → Position → List ℕ → Run CaptureFault
read_within zero format at left = ended None
read_within (suc n) format at left =
    goes_on (outcome format at left)
    (read_within n format (advanced format at left) (rest format left))

-- the run from a position on: there are no more records than octets
unfoldable pub read_on : Format → Position → List ℕ → Run CaptureFault
read_on format at left = read_within (length left) format at left

-- the run behind a header, or the header's fault alone where it has one
abbrev pub opened : Option CaptureFault → Run CaptureFault → Run CaptureFault
opened None run = run
opened (Some fault) run = ended (Some fault)

-- the frames of a file, and its fault
unfoldable pub capture : List ℕ → Run CaptureFault
capture file =
    opened (first_failing (header_rules file)) (read_on (format_of file) begin (drop 24 file))
