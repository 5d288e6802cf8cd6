use Rattle.std.proofs.Common.{◌≡◌, ◌≤◌, ◌∙◌, List, [], ap, arith, filter, length, subst, sym}
use Rattle.std.specs.List.{All}
use Rattle.std.proofs.lemmas.List.Elements.{All-nil}
use Rattle.lisp_settings.specs.declared.settings.Settings.{Settings}
use Rattle.request_queue.specs.Queue.{all_due, due}
use Rattle.request_queue.specs.declared.request.Request.{Request}
use Rattle.router_log.specs.declared.emit.Emit.{Emit}
use Rattle.router_log.specs.declared.entry.Entry.{Entry}
use Rattle.router_model.specs.Changes.{unchanged}
use Rattle.router_model.specs.Parts.{Parts, own_of, standing_in, table}
use Rattle.router_model.specs.Standing.{due_changes}
use Rattle.router_model.specs.Tick.{all_changed, ticked_by}
use Rattle.router_core.specs.Sendable.{IsSendable}
use Rattle.router_core.specs.Site.{IsSite}
use Rattle.router_core.specs.Table.{change_of, changed_seen}
use Rattle.router_core.specs.declared.changed.Changed.{Changed}
use Rattle.router_core.proofs.SecondLemmas.{own-stands, stands-on, ticked-from}
use Rattle.router_core.proofs.StandLemmas.{site-by}
use Rattle.router_core.proofs.table.Table.change_and_send.Goals as goal

pub tell_and_send-requires-clause-site : goal.tell_and_send-requires-clause-site
tell_and_send-requires-clause-site c =
    subst IsSite (sym c.site-site.ensures) (site-by c.args.settings.now (own_of c.make_changes.new.self.parts) c.requires.lawful)

pub tell_and_send-requires-clause-own : goal.tell_and_send-requires-clause-own
tell_and_send-requires-clause-own c =
    let settings = c.args.settings.now in
    let m = c.args.m in
    let own = subst (λ (p : Parts). (standing_in settings p).locators ≡ p.own) (sym c.in_ok-reserve_second.ensures.parts) c.requires.own in
    ap (λ (site : Settings). site.locators) c.site-site.ensures
    ∙ own-stands settings m (due_changes m c.args.left.now) c.reserve_second.new.self.parts c.make_changes.new.self.parts c.make_changes.new.entries.items c.reserve.new.self.items own (c.make_changes.ensures.change settings)

pub tell_and_send-requires-clause-may : goal.tell_and_send-requires-clause-may
tell_and_send-requires-clause-may c =
    let few : length c.as_slice.result.now ≤ 16384 = omega (arith, c.as_slice.ensures.len, c.in_ok-due.ensures.few) in
    let same = ap (λ (p : Parts). p.count) c.in_ok-reserve_second.ensures.parts in
    let made = c.make_changes.ensures.entered in
    let entries = c.make_changes.ensures.entries in
    record {
      enter = record { later = made.now; count = omega (arith, few, same, made.count, c.requires.few, c.requires.may.count) };
      entries = omega (arith, c.in_ok-reserve.ensures.ok, c.in_ok-reserve.ensures.len, c.new-entries.ensures.len, c.as_slice.ensures.len, c.len.ensures, entries.most_more, entries.capacity);
      emits = omega (arith, c.in_ok-reserve-2.ensures.ok, c.in_ok-reserve-2.ensures.len, c.new-emits.ensures.len, c.as_slice.ensures.len, c.len.ensures);
      sendable = subst (All (IsSendable c.site-site.result)) (sym (c.in_ok-reserve-2.ensures.items ∙ c.new-emits.ensures.items)) (All-nil (IsSendable c.site-site.result));
    }

pub tell_and_send-requires-clause-due : goal.tell_and_send-requires-clause-due
tell_and_send-requires-clause-due c =
    c.as_slice.ensures.value ∙ c.in_ok-due.ensures.items
    ∙ ap (λ (p : Parts). all_due c.args.m p.requests) (sym c.in_ok-reserve_second.ensures.parts)
    ∙ ap (λ (l : List Request). filter (due c.args.m) l) (sym c.make_changes.ensures.waits)

pub returns-clause-parts : goal.returns-clause-parts
returns-clause-parts c =
    let settings = c.args.settings.now in
    let m = c.args.m in
    let left = c.args.left.now in
    let p = c.reserve_second.new.self.parts in
    let none = c.in_ok-reserve.ensures.items ∙ c.new-entries.ensures.items in
    ap (changed_seen c.tell_and_send.new.self.parts) c.changed.ensures
    ∙ ticked-from m settings p left _ c.make_changes.new.self.parts c.make_changes.new.entries.items c.reserve-2.new.self.items _
    c.requires.some
    (c.make_changes.ensures.change settings ∙ ap (λ (l : List Entry). all_changed table settings m (due_changes m left) (change_of p l [])) none)
    c.site-site.ensures
    (c.in_ok-reserve-2.ensures.items ∙ c.new-emits.ensures.items)
    c.tell_and_send.ensures.change
    ∙ ap (λ (p : Parts). ticked_by table settings m (due_changes m left) (unchanged p)) c.in_ok-reserve_second.ensures.parts

pub returns-clause-sent : goal.returns-clause-sent
returns-clause-sent c =
    let settings = c.args.settings.now in
    let taken = c.tell_and_send.ensures.taken in
    let emits = c.tell_and_send.new.step.emits in
    let same = ap (λ (changed : Changed). changed.emits) c.changed.ensures in
    let stands = taken.site ∙ c.site-site.ensures ∙ stands-on settings c.make_changes.new.self.parts c.tell_and_send.new.self.parts taken.entered.own taken.entered.steps in
    record {
      sendable = subst (All (IsSendable (standing_in settings c.tell_and_send.new.self.parts))) (sym same) (subst (λ (site : Settings). All (IsSendable site) emits.items) stands taken.sendable);
      few = omega (arith, ap (λ (l : List Emit). length l) same, emits.ok.0, taken.emits.most_more, c.in_ok-reserve-2.ensures.len, c.new-emits.ensures.len, c.as_slice.ensures.len, c.in_ok-due.ensures.few);
    }

pub returns-clause-step : goal.returns-clause-step
returns-clause-step c =
    let same = ap (λ (p : Parts). p.count) c.in_ok-reserve_second.ensures.parts in
    let taken = c.tell_and_send.ensures.taken in
    record {
      entered = record { now = taken.entered.now; count = omega (arith, same, c.make_changes.ensures.entered.count, taken.entered.count, c.requires.few, c.as_slice.ensures.len, c.in_ok-due.ensures.few) };
      err = tt;
    }
