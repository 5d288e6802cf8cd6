use Rattle.std.proofs.Common.{arith}
use Rattle.named_list.specs.Limits.{ring_names}
use Rattle.named_list.proofs.RingsLemmas.{length-joined}
use Rattle.named_list.proofs.names.Names.insert.Goals as goal

pub insert_name-requires-clause-index : goal.insert_name-requires-clause-index
insert_name-requires-clause-index c =
    omega (arith, length-joined ring_names c.self.inside.heads.items c.self.inside.slots.items, rw (← c.self.view_is) at c.requires.place)

pub insert_name-requires-clause-room : goal.insert_name-requires-clause-room
insert_name-requires-clause-room c =
    omega (arith, length-joined ring_names c.self.inside.heads.items c.self.inside.slots.items, rw (← c.self.view_is) at c.requires.room, c.self.inside.slots.ok.0)
