use Rattle.std.proofs.Common.{◌≡◌, ◌==◌, drop}
use Rattle.std.specs.List.{list_all}
use Rattle.locator_choice.specs.Choice.{partaking}
use Rattle.locator_choice.proofs.choice.have_weight.Given as goal

-- what is to come decides
abbrev pub invariant-loop-candidate : goal.invariant-loop-candidate
invariant-loop-candidate l =
    list_all (λ other. other.weight == l.weight) (partaking l.priority l.candidates) ≡ list_all (λ other. other.weight == l.weight) (partaking l.priority (drop l.candidate-index l.candidates))
