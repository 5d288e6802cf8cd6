use Rattle.router_model.proofs.CutLemmas.{cut-keeps, cut-singly, cut-within}
use Rattle.router_model.proofs.rounds.rounds_keep_the_frames.Goals as goal

pub returns-clause-all : goal.returns-clause-all
returns-clause-all c = cut-keeps

pub returns-clause-within : goal.returns-clause-within
returns-clause-within c = cut-within

pub returns-clause-singly : goal.returns-clause-singly
returns-clause-singly c = cut-singly
