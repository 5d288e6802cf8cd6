use Rattle.std.proofs.Common.{◌≡◌, ◌∙◌, List, ◌++◌, All, map, refl, sym, subst}
use Rattle.std.proofs.lemmas.Result.{on_ok_weaker}
use Rattle.router_log.specs.Moments.{seconds}
use Rattle.router_log.specs.declared.emit.Emit.{Emit}
use Rattle.router_model.specs.Changes.{Change}
use Rattle.router_model.specs.Parts.{Parts, standing_in}
use Rattle.router_model.specs.Plain.{emit_packets}
use Rattle.router_model.specs.Standing.{standing_by}
use Rattle.router_model.specs.declared.own.Own.{Own}
use Rattle.router_model.proofs.UpsLemmas.{ups-tell}
use Rattle.router_core.specs.Sendable.{IsSendable}
use Rattle.router_core.specs.Table.{changed_seen}
use Rattle.forwarders.specs.declared.gathering.Gathered.{Gathered}
use Rattle.forwarders.specs.Gathering.{packet_gathered}
use Rattle.forwarders.proofs.WriteLemmas.{writes-second}
use Rattle.forwarders.proofs.writing.write_second.Goals as goal

pub tick-requires-clause-own : goal.tick-requires-clause-own
tick-requires-clause-own c = ups-tell c.args.table.now.parts.own c.args.settings.now.locators c.requires.own

pub push_emits-requires-clause-sendable : goal.push_emits-requires-clause-sendable
push_emits-requires-clause-sendable c =
    subst (λ (t : Own × List Emit). All (IsSendable (standing_by c.args.settings.now t.0)) t.1) (λ i. (sym c.own-own.ensures i, sym c.as_slice.ensures i)) c.in_ok-entries.ensures.sent.sendable

pub returns-clause-writes : goal.returns-clause-writes
returns-clause-writes c =
    let settings = c.args.settings.now in
    let second = c.args.second in
    let before : Parts = c.args.table.now.parts in
    let after : Parts = c.tick.new.self.parts in
    let change : Change Parts = changed_seen after c.in_ok-entries.field-0 in
    let old : List Gathered = c.args.written.now.items.items in
    let emits : c.as_slice.result.now ≡ change.emits = c.as_slice.ensures in
    let items : c.push_emits.new.items.items ≡ old ++ map packet_gathered (emit_packets (standing_in settings after) (seconds second) change.emits) =
    c.in_ok-push_emits.ensures.items ∙ (λ i. old ++ map packet_gathered (emit_packets (standing_by settings (c.own-own.ensures i)) (seconds (c.from-moment.ensures i)) (emits i))) in
    on_ok_weaker c.keep_batch.result (λ kept. λ frames.
    writes-second settings frames second before after change c.args.written.now (record { items = c.push_emits.new.items; batches = c.keep_batch.new.batches; places = c.args.written.now.places })
    c.in_ok-entries.ensures.parts refl items kept refl c.in_ok-push_emits.ensures.fits c.in_ok-entries.ensures.sent.few c.in_ok-entries.ensures.step.entered.count) c.keep_batch.ensures
