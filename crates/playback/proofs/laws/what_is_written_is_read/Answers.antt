use Rattle.std.proofs.Common.{arith}
use Rattle.capture_io.specs.Capture.{begin}
use Rattle.playback.proofs.WrittenLemmas.{capture-records, read_on-records}
use Rattle.playback.proofs.laws.what_is_written_is_read.Goals as goal

pub returns-clause-frames : goal.returns-clause-frames
returns-clause-frames c = capture-records

pub returns-clause-left : goal.returns-clause-left
returns-clause-left c packets may few = read_on-records packets begin may (omega (arith, few))
