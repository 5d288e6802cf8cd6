use Rattle.std.proofs.Common.{arith}
use Rattle.named_list.specs.Limits.{ring_names}
use Rattle.named_list.proofs.RingsLemmas.{length-joined}
use Rattle.named_list.proofs.names.Names.len.Goals as goal

pub returns-clause-len : goal.returns-clause-len
returns-clause-len c =
    rw (← c.self.view_is) (omega (arith, length-joined ring_names c.self.inside.heads.items c.self.inside.slots.items, c.len.ensures, c.self.inside.slots.ok.0))
