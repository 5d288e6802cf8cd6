use Rattle.std.proofs.Common.{◌≡◌, ◌+◌, ◌||◌, drop}
use Rattle.std.specs.List.{position_or_len}
use Rattle.mapping_records.specs.Eids.{same_address}
use Rattle.locator_state.specs.Turns.{goes_before}
use Rattle.locator_state.proofs.turns.place.Given as goal

-- the place lies so far on in what is to come
abbrev pub invariant-loop-index : goal.invariant-loop-index
invariant-loop-index l =
    l.index + position_or_len (λ next. same_address l.target.rloc next.rloc || goes_before l.target next) (drop l.index l.targets) ≡ position_or_len (λ next. same_address l.target.rloc next.rloc || goes_before l.target next) l.targets
