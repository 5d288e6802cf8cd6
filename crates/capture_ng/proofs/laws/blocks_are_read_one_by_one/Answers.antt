use Rattle.std.proofs.Common.{false, length}
use Rattle.capture_ng.proofs.Runs.{blocks-fault, read_on-found}
use Rattle.capture_ng.specs.Frames.{read_on}
use Rattle.capture_ng.specs.Position.{begin}
use Rattle.capture_ng.proofs.laws.blocks_are_read_one_by_one.Goals as goal

pub returns-clause-found : goal.returns-clause-found
returns-clause-found c = read_on-found

pub returns-clause-fault : goal.returns-clause-fault
unfolding read_on
returns-clause-fault c vlans file = blocks-fault (length file) vlans false begin file
