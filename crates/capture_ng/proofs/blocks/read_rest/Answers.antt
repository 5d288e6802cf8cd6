use Rattle.std.proofs.Common.{◌-◌, arith}
use Rattle.capture_ng.proofs.BlockLemmas.{last_held}
use Rattle.capture_ng.proofs.blocks.read_rest.Goals as goal

pub returns-clause-last : goal.returns-clause-last
returns-clause-last g c =
    last_held c.args.id.number (g.D.Desk.told c.args.desk.now) c.args.head.order c.args.head.length (c.args.head.length - c.len.result) c.args.first.now c.in_ok-octets.octets.items c.deref.result.now c.last_of-last.result
    (omega (arith, c.len.ensures)) c.requires c.deref.ensures.value c.last_of-last.ensures (rw (← c.as_slice.ensures.value) c.in_ok-octets.ensures.octets)
