use Rattle.std.proofs.Common.{◌≡◌, ◌++◌, take, flat_map}
use Rattle.replay.specs.Messages.{line_of_record}
use Rattle.replay.proofs.message_lines.push_records.Given as goal

abbrev pub invariant-loop-mapping : goal.invariant-loop-mapping
invariant-loop-mapping l = l.out ≡ l.fn.out ++ flat_map line_of_record (take l.mapping-index l.mappings)
