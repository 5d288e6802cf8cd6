use Rattle.std.proofs.Common.{◌∙◌, arith, refl, sym}
use Rattle.router_core.proofs.SecondLemmas.{still-next, still-none}
use Rattle.router_core.proofs.taking.set_up.Goals as goal

pub loop-own-init : goal.loop-own-init
loop-own-init c = refl

pub loop-own-preserved : goal.loop-own-preserved
loop-own-preserved c =
    still-next c.args.address c.args.up c.loop-own.locators c.loop-own.own-index c.set_one.new.own _
    (omega (arith, c.loop-own-test.true, c.loop-own.auto.locators)) c.set_one.ensures
    ∙ c.loop-own.invariant

pub returns : goal.returns
returns c =
    sym (still-none c.args.address c.args.up c.loop-own.locators c.loop-own.own-index (omega (arith, c.loop-own-test.false, c.loop-own.auto.locators)))
    ∙ c.loop-own.invariant
