use Rattle.std.proofs.Common.{sym, ◌∙◌, arith}
use Rattle.std.proofs.lemmas.Option.{slice_get_past}
use Rattle.named_list.proofs.ItemsLemmas.{length-items_at, slice_get-items_at}
use Rattle.named_list.proofs.list.NamedList.get.Goals as goal

pub returns-then-index-len : goal.returns-then-index-len
returns-then-index-len g c =
    rw (← c.self.view_is) (sym (slice_get-items_at c.self.inside.store c.self.inside.order.names c.args.index c.get.result c.self.invariant.each (omega (arith, c.if-index-len.true, c.len.ensures)) c.get.ensures ∙ c.read.ensures.node))

pub returns-else-index-len : goal.returns-else-index-len
returns-else-index-len g c =
    let len = length-items_at c.self.inside.store c.self.inside.order.names c.self.invariant.each in
    rw (← c.self.view_is) (sym (slice_get_past _ c.args.index (omega (arith, len, c.if-index-len.false, c.len.ensures))))
