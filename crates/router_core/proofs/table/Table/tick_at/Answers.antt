use Rattle.std.proofs.Common.{◌∙◌, ap, arith, sym, subst}
use Rattle.std.proofs.lemmas.Result.{IfOk-weaker}
use Rattle.lisp_settings.specs.declared.settings.Settings.{Settings}
use Rattle.router_core.specs.Changing.{Ascend}
use Rattle.router_core.specs.Steps.{AreSent, HasEntered}
use Rattle.router_core.proofs.DueLemmas.{lawful-ascend}
use Rattle.router_core.proofs.SecondLemmas.{if_ok-with, second-of, stands-on, ticked-left, ticked-still}
use Rattle.router_core.proofs.table.Table.tick_at.Goals as goal

pub is_due-requires : goal.is_due-requires
is_due-requires c =
    subst Ascend (sym c.changes_left-left.ensures.left)
    (lawful-ascend c.args.settings.now c.args.self.now.parts.steps c.requires.lawful)

pub change_and_send-requires-clause-few : goal.change_and_send-requires-clause-few
change_and_send-requires-clause-few c = omega (arith, c.changes_left-left.ensures.few, c.requires.lawful.few_changes)

pub change_and_send-requires-clause-some : goal.change_and_send-requires-clause-some
change_and_send-requires-clause-some c = sym c.is_due.ensures ∙ c.if-is_due.true

pub returns-then-is_due-clause-parts : goal.returns-then-is_due-clause-parts
returns-then-is_due-clause-parts c =
    let left = c.changes_left-left in
    IfOk-weaker c.change_and_send.result _ _ (λ changed is.
    is ∙ ticked-left c.args.m c.args.settings.now c.args.self.now.parts left.result.now left.ensures.left) c.change_and_send.ensures.parts

pub send_at-requires-clause-own : goal.send_at-requires-clause-own
send_at-requires-clause-own c = ap (λ (s : Settings). s.locators) c.site-site.ensures ∙ c.requires.own

pub returns-clause-parts : goal.returns-clause-parts
returns-clause-parts c =
    let left = c.changes_left-left in
    IfOk-weaker c.send_at.result _ _ (λ changed is.
    is ∙ ticked-still c.args.m c.args.settings.now c.args.self.now.parts left.result.now _ left.ensures.left (sym c.is_due.ensures ∙ c.if-is_due.false) c.site-site.ensures) c.send_at.ensures.parts

pub returns-clause-sent : goal.returns-clause-sent
returns-clause-sent c =
    let settings = c.args.settings.now in
    if_ok-with c.send_at.result _ _ (λ (entered : HasEntered 20752 c.args.m c.args.self.now.parts c.send_at.new.self.parts) changed sent.
    subst (λ (s : Settings). AreSent s 20752 changed.emits) (c.site-site.ensures ∙ stands-on settings c.args.self.now.parts c.send_at.new.self.parts entered.own entered.steps) sent) c.send_at.ensures.step.entered c.send_at.ensures.sent

pub returns-clause-step : goal.returns-clause-step
returns-clause-step c = second-of 20752 c.args.m c.args.self.now.parts c.send_at.new.self.parts c.send_at.result c.send_at.ensures.step
