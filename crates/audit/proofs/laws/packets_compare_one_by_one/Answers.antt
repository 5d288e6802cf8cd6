use Rattle.std.proofs.Common.{arith, length}
use Rattle.audit.proofs.CompareLemmas.{expected-more, same-count, steps-compare}
use Rattle.audit.proofs.laws.packets_compare_one_by_one.Goals as goal

pub returns-clause-all : goal.returns-clause-all
returns-clause-all c packets frames = steps-compare 0 packets frames

pub returns-clause-more : goal.returns-clause-more
returns-clause-more c outcome packets packet frames = expected-more outcome packets packet frames

pub returns-clause-count : goal.returns-clause-count
returns-clause-count c packets frames = same-count 0 (length packets) packets frames (omega arith)
