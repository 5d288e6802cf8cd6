use Rattle.std.proofs.Common.{sym, ap, ◌∙◌}
use Rattle.named_list.specs.Limits.{ring_names}
use Rattle.named_list.specs.Rings.{rolled}
use Rattle.named_list.proofs.ShiftLemmas.{rolled_end}
use Rattle.named_list.proofs.rings.end_of.Goals as goal

pub returns-then-head-eq0-clause-names : goal.returns-then-head-eq0-clause-names
returns-then-head-eq0-clause-names c ring is =
    rolled_end ring ring_names is ∙ ap (λ head. rolled head ring) (sym c.if-head-eq0.true)
