use Rattle.std.proofs.Common.{ℕ, Option, Some, None, IfSome, arith, sym}
use Rattle.node_store.specs.Store.{IsLive}
use Rattle.prefix_table.proofs.ForkLemmas.{on_each}
use Rattle.prefix_table.proofs.PutLemmas.{puts_above}
use Rattle.prefix_table.proofs.insert.put_above.Goals as goal

pub put-requires-clause-next : goal.put-requires-clause-next
put-requires-clause-next g c side =
    on_each (λ (n : Option ℕ). IfSome n (IsLive c.args.store.now)) c.next_bit-side.result side (Some c.args.at) None c.new.result c.new.ensures c.requires.live tt

pub returns : goal.returns
returns g c given is least =
    puts_above _ c.args.at c.args.key c.args.eid given least c.requires.live c.requires.top _ c.put.result c.next_bit-side.result c.requires.above c.requires.not_below (sym c.next_bit-side.ensures) c.put.ensures.fresh (rw (is, c.new.ensures) at c.put.ensures.changes) (omega (arith, c.put.ensures.rooms)) c.put.ensures.slots
