use Rattle.std.proofs.Common.{◌≡◌, ◌++◌, take}
use Rattle.mapping_records.specs.Locator.{canonical_locators}
use Rattle.mapping_records.proofs.record_writing.write_locators.Given as goal

abbrev pub invariant-loop-locator : goal.invariant-loop-locator
invariant-loop-locator l = l.out ≡ l.fn.out ++ canonical_locators (take l.locator-index l.locators)
