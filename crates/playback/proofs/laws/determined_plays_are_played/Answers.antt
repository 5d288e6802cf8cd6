use Rattle.playback.proofs.DeterminedLemmas.{cut-play, determined-played, end-play}
use Rattle.playback.proofs.laws.determined_plays_are_played.Goals as goal

pub returns-clause-steps : goal.returns-clause-steps
returns-clause-steps g c = determined-played

pub returns-clause-ends : goal.returns-clause-ends
returns-clause-ends g c = end-play

pub returns-clause-cuts : goal.returns-clause-cuts
returns-clause-cuts g c = cut-play
