use Rattle.capture_ng.proofs.OrderLemmas.{classic-same}
use Rattle.capture_ng.proofs.laws.a_classic_capture_has_the_same_frames.Goals as goal

pub returns : goal.returns
returns c = classic-same
