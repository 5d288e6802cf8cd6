use Rattle.std.proofs.Common.{◌≡◌}
use Rattle.table_tests.proofs.mappings.nest.Given as goal

abbrev pub invariant-loop-iid : goal.invariant-loop-iid
invariant-loop-iid l = l.cache.now ≡ 0

abbrev pub invariant-loop-len : goal.invariant-loop-len
invariant-loop-len l = l.cache.now ≡ 0
