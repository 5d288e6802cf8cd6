use Rattle.std.proofs.Common.{◌∙◌, sym}
use Rattle.capture_ng.proofs.OptionLemmas.{behind-less, clock_on-end, clock_on-refuses, clock_on-sets, clock_on-unfit}
use Rattle.capture_ng.proofs.options.read_options.Goals as goal

pub loop-rest-preserved : goal.loop-rest-preserved
loop-rest-preserved c = (
  c.loop-rest.invariant.0
      ∙ clock_on-sets c.args.order c.loop-rest.clock c.in_ok-clock.clock (record { code = c.in_ok-code.code; value = c.in_ok-code.value.now }) c.loop-rest.rest.now c.in_ok-code.behind.now
      (sym c.ends_options.ensures ∙ c.loop-rest-test.true) (sym c.in_ok-code.ensures.fits) c.in_ok-code.ensures.option c.in_ok-code.ensures.behind c.in_ok-clock.ensures.value,
  c.in_ok-clock.ensures.units,
)

pub loop-rest-smaller : goal.loop-rest-smaller
loop-rest-smaller c = behind-less c.args.order c.loop-rest.rest.now c.in_ok-code.behind.now (sym c.ends_options.ensures ∙ c.loop-rest-test.true) c.in_ok-code.ensures.behind

pub returns-clause-value : goal.returns-clause-value
returns-clause-value c = sym (c.loop-rest.invariant.0 ∙ clock_on-end c.args.order c.loop-rest.clock c.loop-rest.rest.now (sym c.ends_options.ensures ∙ c.loop-rest-test.false))

pub returns-in_err-code-clause-value : goal.returns-in_err-code-clause-value
returns-in_err-code-clause-value c =
    c.from_residual.ensures
    ∙ sym (c.loop-rest.invariant.0 ∙ clock_on-unfit c.args.order c.loop-rest.clock c.loop-rest.rest.now (sym c.ends_options.ensures ∙ c.loop-rest-test.true) (sym c.in_err-code.ensures.fits))

pub returns-in_err-clock-clause-value : goal.returns-in_err-clock-clause-value
returns-in_err-clock-clause-value c =
    c.from_residual-in_err-clock.ensures
    ∙ sym (c.loop-rest.invariant.0 ∙ clock_on-refuses c.args.order c.loop-rest.clock (record { code = c.in_ok-code.code; value = c.in_ok-code.value.now }) c.loop-rest.rest.now
    (sym c.ends_options.ensures ∙ c.loop-rest-test.true) (sym c.in_ok-code.ensures.fits) c.in_ok-code.ensures.option c.in_err-clock.ensures.value)
