use Rattle.std.proofs.Common.{rules, ◌≡◌, sym, refl, subst, ◌∙◌}
use Rattle.std.specs.Fn.{FnOnceReturnsAt}
use Rattle.left_right.specs.Register.{TurnsAt}
use Rattle.left_right.specs.Sides.{view as known}
use Rattle.router_model.specs.Parts.{Parts, Stands}
use Rattle.router_core.specs.Table.{TableSeen}
use Rattle.forwarders.specs.declared.door.view.View.{View}
use Rattle.forwarders.specs.declared.door.view.View.TheVariants.{Reads}
use Rattle.forwarders.specs.Batches.{count_of, journal_of}
use Rattle.forwarders.specs.Keeping.{Enters, Keeps}
use Rattle.forwarders.specs.Looks.{Rereads, Sees}
use Rattle.forwarders.specs.Views.{forwarding_of, list_in, plan_in, settings_in}
use Rattle.forwarders.proofs.RuleLemmas.{enters}
use Rattle.forwarders.proofs.StandLemmas.{count-stands}
use Rattle.forwarders.proofs.door.forwarder.entered.Goals as goal

pub enter_as-requires : goal.enter_as-requires
enter_as-requires g c x =
    subst (λ (v : View). TurnsAt Keeps c.args.reader.place.id v x x (λ v before after w. Enters v after.parts w)) (sym c.requires.reads) (enters _ _ _ _ x)

pub call_once-answer-requires : goal.call_once-answer-requires
call_once-answer-requires g c =
    let v : View = known c.args.reader.place in
    let entered = c.in-Ok.ensures.1 in
    let memory : TableSeen = c.table-table.result.now in
    let same : memory.parts ≡ c.in-Ok.reading.part.value.parts = search rules in
    let stands = subst (λ (p : Parts). Stands (settings_in v) p (journal_of entered.seen)) (sym same) entered.stands in
    c.requires.may entered.seen memory entered.rises stands c.table-table.result refl

pub returns-in-Ok-clause-rereads : goal.returns-in-Ok-clause-rereads
returns-in-Ok-clause-rereads g c =
    let v : View = known c.args.reader.place in
    let entered = c.in-Ok.ensures.1 in
    let now : known c.leave.result.place ≡ Reads (settings_in v) entered.seen (plan_in v) = c.leave.ensures.1 ∙ entered.view in
    subst (λ (w : View). Rereads (forwarding_of v) (forwarding_of w)) (sym now)
    (record { settings = refl; plan = refl; rises = entered.rises; along = entered.along })

pub returns-in-Ok-clause-sees : goal.returns-in-Ok-clause-sees
returns-in-Ok-clause-sees g c =
    let v : View = known c.args.reader.place in
    let entered = c.in-Ok.ensures.1 in
    let now : known c.leave.result.place ≡ Reads (settings_in v) entered.seen (plan_in v) = c.leave.ensures.1 ∙ entered.view in
    let memory : TableSeen = c.table-table.result.now in
    let same : memory.parts ≡ c.in-Ok.reading.part.value.parts = search rules in
    let stands = subst (λ (p : Parts). Stands (settings_in v) p (journal_of entered.seen)) (sym same) entered.stands in
    let is : FnOnceReturnsAt g.F.FnOnce c.args.look.0 memory c.call_once-answer.result = search rules in
    subst (λ (w : View). Sees {X = g.row.X.Denot} (FnOnceReturnsAt g.F.FnOnce c.args.look.0) (forwarding_of w) c.call_once-answer.result) (sym now)
    (record { memory = memory; stands = stands; is = is })

pub returns-in-Ok-clause-count : goal.returns-in-Ok-clause-count
returns-in-Ok-clause-count g c =
    let v : View = known c.args.reader.place in
    let entered = c.in-Ok.ensures.1 in
    let now : known c.leave.result.place ≡ Reads (settings_in v) entered.seen (plan_in v) = c.leave.ensures.1 ∙ entered.view in
    let memory : TableSeen = c.table-table.result.now in
    let same : memory.parts ≡ c.in-Ok.reading.part.value.parts = search rules in
    let stands = subst (λ (p : Parts). Stands (settings_in v) p (journal_of entered.seen)) (sym same) entered.stands in
    subst (λ (w : View). c.count-count.result ≡ count_of (list_in w)) (sym now) (c.count-count.ensures ∙ count-stands (settings_in v) memory.parts entered.seen stands)
