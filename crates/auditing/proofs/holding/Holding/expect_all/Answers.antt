use Rattle.std.proofs.Common.{◌∙◌, arith}
use Rattle.auditing.proofs.HoldingLemmas.{reached-all, reached-on}
use Rattle.auditing.proofs.holding.Holding.expect_all.Goals as goal

pub loop-rest-preserved : goal.loop-rest-preserved
loop-rest-preserved g c =
    let inv = c.loop-rest.invariant in
    let split = c.split_record.ensures in
    let done = c.in_ok-expect.ensures in
    let rest = c.loop-rest.rest.now in
    let header = c.loop-rest-test.true in
    record {
      open_still = done.open;
      id = done.id ∙ inv.id;
      short = omega (arith, split.less, inv.short);
      reached = λ packets is.
          reached-on packets rest c.split_record.result.1.now c.split_record.result.0.now c.args.self.now c.loop-rest.self c.expect.new.self
          (g.D.Desk.told c.args.desk.now) (g.D.Desk.told c.loop-rest.desk) (g.D.Desk.told c.expect.new.desk) (inv.reached packets is) (omega (arith, header)) split.packet split.others done.holds;
      shown = done.shown ∙ inv.shown;
      given = done.given ∙ inv.given;
      steady = λ steady. done.steady.stays (inv.steady steady);
      faults = done.same (λ is. cc) ∙ inv.faults;
    }

pub returns-clause-holds : goal.returns-clause-holds
returns-clause-holds g c = λ packets is.
    let inv = c.loop-rest.invariant in
    let few = c.loop-rest-test.false in
    reached-all packets c.loop-rest.rest.now c.args.self.now c.loop-rest.self (g.D.Desk.told c.args.desk.now) (g.D.Desk.told c.loop-rest.desk) (inv.reached packets is) (omega (arith, few))
