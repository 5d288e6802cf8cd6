use Rattle.std.proofs.Common.{ap, ◌∙◌}
use Rattle.named_list.specs.Limits.{ring_names}
use Rattle.named_list.specs.Rings.{joined}
use Rattle.named_list.proofs.BehindLemmas.{joined_closed}
use Rattle.named_list.proofs.names.close_last.Goals as goal

pub returns-then-len-clause-names : goal.returns-then-len-clause-names
returns-then-len-clause-names c =
    ap (λ heads. joined ring_names heads c.args.slots.now.items) c.push_reserved.ensures.items
    ∙ joined_closed c.args.heads.now.items c.args.slots.now.items c.requires.full
