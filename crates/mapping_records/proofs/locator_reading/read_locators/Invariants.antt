use Rattle.mapping_records.proofs.LocatorLemmas.{Before}
use Rattle.mapping_records.proofs.locator_reading.read_locators.Given as goal

abbrev pub invariant-loop : goal.invariant-loop
invariant-loop l = Before l.count l.base l.octets l.counter l.at l.locators
