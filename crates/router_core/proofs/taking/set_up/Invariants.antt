use Rattle.std.proofs.Common.{◌≡◌}
use Rattle.router_model.specs.Standing.{changing}
use Rattle.router_core.proofs.SecondLemmas.{still}
use Rattle.router_core.proofs.taking.set_up.Given as goal

abbrev pub invariant-loop-own : goal.invariant-loop-own
invariant-loop-own l =
    still l.initial.address l.initial.up l.own-index l.locators ≡ changing l.initial.address l.initial.up l.initial.locators
