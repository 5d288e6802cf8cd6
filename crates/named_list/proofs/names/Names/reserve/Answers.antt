use Rattle.std.proofs.Common.{arith}
use Rattle.named_list.specs.Limits.{ring_names}
use Rattle.named_list.proofs.RingsLemmas.{length-joined}
use Rattle.named_list.proofs.names.Names.reserve.Goals as goal

pub returns-in_ok-reserve_exact-clause-ok : goal.returns-in_ok-reserve_exact-clause-ok
returns-in_ok-reserve_exact-clause-ok c =
    let len = length-joined ring_names c.self.inside.heads.items c.self.inside.slots.items in
    rw (← c.self.view_is) (omega (arith, len, c.self.inside.slots.ok.0, c.in_ok-reserve_exact.ensures.ok, c.reserve_exact.ensures.len))

pub returns-in_ok-reserve_exact-clause-at_most : goal.returns-in_ok-reserve_exact-clause-at_most
returns-in_ok-reserve_exact-clause-at_most c =
    let len = length-joined ring_names c.self.inside.heads.items c.self.inside.slots.items in
    rw (← c.self.view_is) (omega (arith, len, c.self.inside.slots.ok.0, c.in_ok-reserve_exact.ensures.capacity_exact))

pub returns-else-capacity-len-clause-ok : goal.returns-else-capacity-len-clause-ok
returns-else-capacity-len-clause-ok c =
    let len = length-joined ring_names c.self.inside.heads.items c.self.inside.slots.items in
    rw (← c.self.view_is) (omega (arith, len, c.self.inside.slots.ok.0, c.len-len.ensures, c.capacity.ensures, c.if-capacity-len.false))
