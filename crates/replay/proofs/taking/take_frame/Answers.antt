use Rattle.std.proofs.Common.{◌≡◌, ◌∙◌, true, false, ap, sym, subst, arith}
use Rattle.std.proofs.lemmas.Result.{on_ok_weaker}
use Rattle.std.specs.Result.{OnOk}
use Rattle.capture_events.specs.Events.{Outcome}
use Rattle.router_model.specs.Course.{control, is_message}
use Rattle.router_model.specs.Parts.{Parts}
use Rattle.router_model.specs.Plain.{Router}
use Rattle.replay.specs.Taking.{router_of, GathersFew}
use Rattle.replay.proofs.ReplayLemmas.{decided, heard-event}
use Rattle.replay.proofs.taking.take_frame.Goals as goal

pub returns-else-is_message-clause-gathers : goal.returns-else-is_message-clause-gathers
returns-else-is_message-clause-gathers c =
    let apart : control c.args.settings.now c.args.frame.now ≡ false =
    ap is_message (sym c.course_of-course.ensures.course) ∙ sym c.is_message.ensures ∙ c.if-is_message.false in
    subst (λ (o : Outcome (Router Parts)). OnOk c.decide.result (GathersFew o c.args.output.now c.decide.new.output))
    (decided c.args.settings.now c.args.memory.now.parts c.args.frame.now _ c.course_of-course.ensures.course apart) c.decide.ensures.gathers

pub returns-else-is_message-clause-state : goal.returns-else-is_message-clause-state
returns-else-is_message-clause-state c =
    let apart : control c.args.settings.now c.args.frame.now ≡ false =
    ap is_message (sym c.course_of-course.ensures.course) ∙ sym c.is_message.ensures ∙ c.if-is_message.false in
    subst (λ (o : Outcome (Router Parts)). OnOk c.decide.result (router_of c.args.settings.now c.decide.new.memory.parts ≡ o.after))
    (decided c.args.settings.now c.args.memory.now.parts c.args.frame.now _ c.course_of-course.ensures.course apart) c.decide.ensures.state

pub returns-then-is_message-clause-gathers : goal.returns-then-is_message-clause-gathers
returns-then-is_message-clause-gathers c =
    let comes : control c.args.settings.now c.args.frame.now ≡ true =
    ap is_message (sym c.course_of-course.ensures.course) ∙ sym c.is_message.ensures ∙ c.if-is_message.true in
    subst (λ (o : Outcome (Router Parts)). OnOk c.hear.result (GathersFew o c.args.output.now c.hear.new.output))
    (heard-event c.args.settings.now c.args.memory.now.parts c.args.frame.now _ c.course_of-course.ensures.course comes) c.hear.ensures.gathers

pub returns-then-is_message-clause-state : goal.returns-then-is_message-clause-state
returns-then-is_message-clause-state c =
    let settings = c.args.settings.now in
    let comes : control settings c.args.frame.now ≡ true =
    ap is_message (sym c.course_of-course.ensures.course) ∙ sym c.is_message.ensures ∙ c.if-is_message.true in
    let event = heard-event settings c.args.memory.now.parts c.args.frame.now _ c.course_of-course.ensures.course comes in
    on_ok_weaker c.hear.result (λ is. ap (router_of settings) is ∙ ap (λ (o : Outcome (Router Parts)). o.after) event) c.hear.ensures.state

pub hear-requires-clause-may : goal.hear-requires-clause-may
hear-requires-clause-may c = record { later = c.requires.later; count = omega (arith, c.requires.count) }

pub returns-else-is_message-clause-entered : goal.returns-else-is_message-clause-entered
returns-else-is_message-clause-entered c =
    on_ok_weaker c.decide.result (λ entered. record { now = entered.now; count = omega (arith, entered.count); own = entered.own; steps = entered.steps }) c.decide.ensures.entered
