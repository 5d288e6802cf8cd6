use Rattle.std.proofs.Common.{◌≡◌, ◌++◌, take, flat_map}
use Rattle.replay.specs.Messages.{line_of_eid}
use Rattle.replay.proofs.message_lines.push_eids.Given as goal

abbrev pub invariant-loop-eid : goal.invariant-loop-eid
invariant-loop-eid l = l.out ≡ l.fn.out ++ flat_map line_of_eid (take l.eid-index l.eids)
