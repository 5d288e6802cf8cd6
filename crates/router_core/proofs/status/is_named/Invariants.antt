use Rattle.std.proofs.Common.{◌≡◌, drop}
use Rattle.std.specs.List.{list_any}
use Rattle.mapping_records.specs.Eids.{same_address}
use Rattle.router_core.proofs.status.is_named.Given as goal

-- what is to come decides
abbrev pub invariant-loop-locator : goal.invariant-loop-locator
invariant-loop-locator l =
    list_any (λ locator. same_address locator.addr l.address) l.locators ≡ list_any (λ locator. same_address locator.addr l.address) (drop l.locator-index l.locators)
