use Rattle.std.proofs.Common.{rules, ◌≡◌, List, ◌++◌, All, refl, sym, subst}
use Rattle.router_log.specs.declared.emit.Emit.{Emit}
use Rattle.router_model.specs.Changes.{Change}
use Rattle.router_model.specs.Parts.{Parts}
use Rattle.router_model.specs.Standing.{standing_by}
use Rattle.router_model.specs.declared.own.Own.{Own}
use Rattle.router_core.specs.Sendable.{IsSendable}
use Rattle.router_core.specs.Table.{changed_seen}
use Rattle.forwarders.proofs.NoteLemmas.{notes-sent}
use Rattle.forwarders.proofs.notices.note_one.Goals as goal

pub push_emits-requires-clause-sendable : goal.push_emits-requires-clause-sendable
push_emits-requires-clause-sendable c =
    subst (λ (t : Own × List Emit). All (IsSendable (standing_by c.args.closing.now.settings.now t.0)) t.1) (λ i. (sym c.own-own.ensures i, sym c.as_slice.ensures i)) c.in_ok-more.ensures.sent.sendable

pub returns : goal.returns
returns c =
    let after : Parts = c.note_found.new.self.parts in
    let change : Change Parts = changed_seen after c.in_ok-more.field-0 in
    let added : c.append.new.self.items ≡ c.args.entries.now.items ++ change.entries = search rules in
    notes-sent c.push_emits.result c.args.closing.now.settings.now c.args.closing.now.moment c.args.notice.now c.args.table.now.parts after c.own-own.result change c.as_slice.result.now change.entries
    c.args.entries.now.items c.append.new.self.items c.args.items.now.items c.push_emits.new.items.items
    c.in_ok-more.ensures.parts refl c.own-own.ensures refl c.as_slice.ensures added c.push_emits.ensures.items c.push_emits.ensures.fits
    c.in_ok-more.ensures.sent.few c.in_ok-more.ensures.step.entered
