use Rattle.std.proofs.Common.{arith}
use Rattle.capture_ng.proofs.ComingLemmas.{last_missing, last_read, last_told}
use Rattle.capture_ng.proofs.coming.read_end.Goals as goal

pub returns-then-passed-n-clause-number : goal.returns-then-passed-n-clause-number
returns-then-passed-n-clause-number g c =
    last_missing c.args.id.number c.args.order c.args.size c.in_ok-passed.passed c.in_ok-n.n (g.D.Desk.told c.args.desk.now) (g.D.Desk.told c.skip.new.desk) c.read_full.new.buf
    (omega arith) (omega arith) (omega arith) c.in_ok-passed.ensures.come c.in_ok-n.ensures.octets

pub returns-clause-number : goal.returns-clause-number
returns-clause-number g c =
    last_read c.args.id.number c.args.order c.args.size c.in_ok-passed.passed c.in_ok-n.n c.number_32.result (g.D.Desk.told c.args.desk.now) (g.D.Desk.told c.skip.new.desk) c.read_full.new.buf
    (omega arith) (omega arith) (omega (arith, c.in_ok-passed.ensures.most, c.in_ok-n.ensures.bound)) (omega (arith, c.in_ok-passed.ensures.most, c.in_ok-n.ensures.bound)) c.number_32.ensures c.in_ok-passed.ensures.come c.in_ok-n.ensures.octets

pub returns-clause-told : goal.returns-clause-told
returns-clause-told g c =
    last_told c.args.id.number c.args.size c.in_ok-passed.passed c.in_ok-n.n (g.D.Desk.told c.args.desk.now) (g.D.Desk.told c.skip.new.desk) (g.D.Desk.told c.read_full.new.desk)
    (omega arith) (omega (arith, c.in_ok-passed.ensures.most, c.in_ok-n.ensures.bound)) (omega (arith, c.in_ok-passed.ensures.most, c.in_ok-n.ensures.bound)) c.in_ok-passed.ensures.come.told c.in_ok-n.ensures.told
