use Rattle.std.proofs.Common.{◌-◌, arith}
use Rattle.capture_ng.proofs.ComingLemmas.{part_filled}
use Rattle.capture_ng.proofs.coming.fill_part.Goals as goal

pub returns-clause-octets : goal.returns-clause-octets
returns-clause-octets g c =
    part_filled c.args.id.number c.args.from (c.args.to - c.args.from) c.in_ok-n.n (g.D.Desk.told c.args.desk.now) c.args.buf.now c.read_full.new.buf
    (omega arith) (omega arith) c.in_ok-n.ensures.octets
