use Rattle.std.proofs.Common.{◌-◌, length}
use Rattle.std.specs.Option.{option_copied}
use Rattle.map_cache.proofs.FirstNameLemmas.{NoneBefore}
use Rattle.map_cache.proofs.names.least_in.Given as goal

-- none so far
abbrev pub invariant-loop-name : goal.invariant-loop-name
invariant-loop-name l = NoneBefore (option_copied l.after) l.m l.by_eid.mappings l.set.keys l.index

abbrev pub decreases-loop-name : goal.decreases-loop-name
decreases-loop-name l = length l.set.keys - l.index
