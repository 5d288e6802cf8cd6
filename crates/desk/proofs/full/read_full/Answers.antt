use Rattle.desk.proofs.Reading.{started, goes_on, ended, nothing_more}
use Rattle.std.proofs.Common.{arith, ◌∙◌, refl}
use Rattle.desk.proofs.full.read_full.Goals as goal

pub loop-filled-init : goal.loop-filled-init
loop-filled-init g c = record { so_far = started c.args.id.number (g.D.Desk.told c.args.desk.now) c.args.buf.now; given = refl; steady = λ steady. steady; faults = refl }

pub loop-filled-preserved : goal.loop-filled-preserved
loop-filled-preserved g c = record {
  so_far = goes_on c.args.id.number c.loop-filled.filled c.in_ok-n.n (g.D.Desk.told c.args.desk.now) (g.D.Desk.told c.loop-filled.desk) (g.D.Desk.told c.read_file.new.self) c.loop-filled.buf c.read_file.new.buf
      c.loop-filled.invariant.so_far c.in_ok-n.ensures.bound (omega arith) c.in_ok-n.ensures.octets c.in_ok-n.ensures.told;
  given = c.in_ok-n.ensures.given ∙ c.loop-filled.invariant.given;
  steady = λ steady. c.in_ok-n.ensures.steady.stays (c.loop-filled.invariant.steady steady);
  faults = c.in_ok-n.ensures.cause.ok ∙ c.loop-filled.invariant.faults;
}

pub returns-then-n-eq0-clause-octets : goal.returns-then-n-eq0-clause-octets
returns-then-n-eq0-clause-octets g c =
    ended c.args.id.number c.loop-filled.filled c.in_ok-n.n (g.D.Desk.told c.args.desk.now) (g.D.Desk.told c.loop-filled.desk) c.loop-filled.buf c.read_file.new.buf c.loop-filled.invariant.so_far c.if-n-eq0.true c.in_ok-n.ensures.octets

pub returns-then-n-eq0-clause-told : goal.returns-then-n-eq0-clause-told
returns-then-n-eq0-clause-told g c =
    nothing_more c.args.id.number c.loop-filled.filled c.in_ok-n.n (g.D.Desk.told c.args.desk.now) (g.D.Desk.told c.loop-filled.desk) (g.D.Desk.told c.read_file.new.self) c.loop-filled.buf c.loop-filled.invariant.so_far c.if-n-eq0.true c.in_ok-n.ensures.told
