use Rattle.split_v4.proofs.LeavingLemmas.{halves-none}
use Rattle.split_v4.proofs.laws.short_frames_stay.Goals as goal

pub returns : goal.returns
returns c settings frame short = halves-none settings frame short
