use Rattle.split_v4.proofs.OrderLemmas.{split_from-append, split_from-cons, split_from-short}
use Rattle.split_v4.proofs.laws.frames_are_split_in_order.Goals as goal

pub returns-clause-one : goal.returns-clause-one
returns-clause-one c settings n frame frames = split_from-cons settings n frame frames

pub returns-clause-more : goal.returns-clause-more
returns-clause-more c settings n frames more = split_from-append settings n frames more

pub returns-clause-short : goal.returns-clause-short
returns-clause-short c settings n frames short = split_from-short settings n frames short
