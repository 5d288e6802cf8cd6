use Rattle.audit.proofs.LiftLemmas.{frames-more}
use Rattle.audit.proofs.laws.frames_lift_one_by_one.Goals as goal

pub returns-clause-more : goal.returns-clause-more
returns-clause-more c settings frames frame = frames-more settings frames frame
