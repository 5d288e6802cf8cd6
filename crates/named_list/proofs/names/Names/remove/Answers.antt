use Rattle.std.proofs.Common.{arith}
use Rattle.named_list.specs.Limits.{ring_names}
use Rattle.named_list.proofs.RingsLemmas.{length-joined}
use Rattle.named_list.proofs.names.Names.remove.Goals as goal

pub remove_name-requires-clause-index : goal.remove_name-requires-clause-index
remove_name-requires-clause-index c =
    omega (arith, length-joined ring_names c.self.inside.heads.items c.self.inside.slots.items, rw (← c.self.view_is) at c.requires, c.open_last.ensures.len)
