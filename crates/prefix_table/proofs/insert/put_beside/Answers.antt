use Rattle.std.proofs.Common.{ℕ, Option, Some, IfSome, arith, is_some, sym, ap, ◌∙◌}
use Rattle.node_store.specs.Store.{IsLive}
use Rattle.prefix_table.proofs.ForkLemmas.{on_each}
use Rattle.prefix_table.proofs.PutLemmas.{still_live, puts_beside}
use Rattle.prefix_table.proofs.insert.put_beside.Goals as goal

pub returns : goal.returns
returns g c given is =
    puts_beside _ c.args.at c.args.key c.args.eid given c.args.least c.requires.live c.requires.top _ _ c.put-leaf.result c.put.result c.common-over.result c.next_bit-side.result c.common-over.ensures (sym c.next_bit-side.ensures) c.put-leaf.ensures.fresh (rw is at c.put-leaf.ensures.changes) c.put.ensures.fresh (rw c.new.ensures at c.put.ensures.changes) (omega (arith, c.put-leaf.ensures.rooms, c.put.ensures.rooms)) (c.put.ensures.slots ∙ c.put-leaf.ensures.slots)

pub put-requires-clause-next : goal.put-requires-clause-next
put-requires-clause-next g c side =
    on_each (λ (n : Option ℕ). IfSome n (IsLive c.put-leaf.new.self)) c.next_bit-side.result side (Some c.put-leaf.result) (Some c.args.at) c.new.result c.new.ensures (ap is_some c.put-leaf.ensures.changes.changed) (still_live _ _ c.args.at c.put-leaf.result _ c.put-leaf.ensures.changes c.put-leaf.ensures.fresh c.requires.live)
