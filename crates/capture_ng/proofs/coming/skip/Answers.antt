use Rattle.std.proofs.Common.{arith, ◌∙◌, refl}
use Rattle.capture_ng.proofs.ComingLemmas.{all_came, more_came, none_came, nothing_came}
use Rattle.capture_ng.proofs.coming.skip.Goals as goal

pub loop-passed-init : goal.loop-passed-init
loop-passed-init g c = record { within = omega arith; so_far = nothing_came c.args.id.number (g.D.Desk.told c.args.desk.now); given = refl; shown = refl; steady = λ steady. steady; faults = refl }

pub loop-passed-preserved : goal.loop-passed-preserved
loop-passed-preserved g c = record {
  within = omega (arith, c.in_ok-n.ensures.most, c.loop-passed.invariant.within);
  so_far = more_came c.args.id.number c.loop-passed.passed c.in_ok-n.n (g.D.Desk.told c.args.desk.now) (g.D.Desk.told c.loop-passed.desk) (g.D.Desk.told c.skip_piece.new.desk) c.loop-passed.invariant.so_far c.in_ok-n.ensures.told c.in_ok-n.ensures.count;
  given = c.in_ok-n.ensures.given ∙ c.loop-passed.invariant.given;
  shown = c.in_ok-n.ensures.shown ∙ c.loop-passed.invariant.shown;
  steady = λ steady. c.in_ok-n.ensures.steady.stays (c.loop-passed.invariant.steady steady);
  faults = c.in_ok-n.ensures.cause.ok ∙ c.loop-passed.invariant.faults;
}

pub returns-after-loop-passed-clause-come : goal.returns-after-loop-passed-clause-come
returns-after-loop-passed-clause-come g c = all_came c.args.id.number c.args.size c.loop-passed.passed (g.D.Desk.told c.args.desk.now) (g.D.Desk.told c.loop-passed.desk) (omega (arith, c.loop-passed.invariant.within)) c.loop-passed.invariant.so_far

pub returns-then-n-eq0-clause-come : goal.returns-then-n-eq0-clause-come
returns-then-n-eq0-clause-come g c = none_came c.args.id.number c.args.size c.loop-passed.passed c.in_ok-n.n (g.D.Desk.told c.args.desk.now) (g.D.Desk.told c.loop-passed.desk) (g.D.Desk.told c.skip_piece.new.desk) c.loop-passed.invariant.within c.if-n-eq0.true c.loop-passed.invariant.so_far c.in_ok-n.ensures.told c.in_ok-n.ensures.count
