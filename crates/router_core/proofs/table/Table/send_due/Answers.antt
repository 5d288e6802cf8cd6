use Rattle.std.proofs.Common.{ℕ, ◌+◌, ◌^◌, ◌≤◌, ◌∙◌, ap, ap₂, arith, length}
use Rattle.lisp_settings.specs.declared.settings.Settings.{Settings}
use Rattle.router_model.specs.Parts.{table}
use Rattle.router_model.specs.Site.{reaches_resolver}
use Rattle.router_model.specs.Tick.{all_probed, retried_where}
use Rattle.router_core.specs.Steps.{so_far}
use Rattle.router_core.specs.Table.{changed_seen}
use Rattle.router_core.specs.declared.changed.Changed.{Changed}
use Rattle.router_core.proofs.StepLemmas.{begun-sent, enter-few, may-begin, may-behind, may-less, taken-both}
use Rattle.router_core.proofs.TickingLemmas.{sent-from}
use Rattle.router_core.proofs.table.Table.send_due.Goals as goal

pub retry_due-requires-clause-may : goal.retry_due-requires-clause-may
retry_due-requires-clause-may c =
    let most = c.len.result + 16 in
    let few : most ≤ 2 ^ 61 = omega (arith, c.len.ensures, c.in_ok-due.ensures.few) in
    may-less (length c.as_slice.result.now) (omega (arith, c.as_slice.ensures.len, c.len.ensures))
    (may-begin c.in_ok-step.ensures.begun (enter-few most few c.requires.may c.in_ok-reserve_probes.ensures.parts))

pub probe_next-requires-clause-may : goal.probe_next-requires-clause-may
probe_next-requires-clause-may c =
    let most = c.len.result + 16 in
    let few : most ≤ 2 ^ 61 = omega (arith, c.len.ensures, c.in_ok-due.ensures.few) in
    may-behind 16 (omega (arith, c.as_slice.ensures.len, c.len.ensures))
    (may-begin c.in_ok-step.ensures.begun (enter-few most few c.requires.may c.in_ok-reserve_probes.ensures.parts)) c.retry_due.ensures.taken

pub returns-clause-parts : goal.returns-clause-parts
returns-clause-parts c =
    let begun = c.in_ok-step.ensures.begun in
    let sent = c.retry_due.ensures.taken in
    let step = c.in_ok-step.step in
    let p = c.reserve_probes.new.self.parts in
    ap (changed_seen c.probe_next.new.self.parts) c.changed.ensures
    ∙ c.probe_next.ensures.change
    ∙ ap₂ (λ (site : Settings) (m : ℕ). all_probed table site m (so_far c.retry_due.new.self.parts c.retry_due.new.step)) (sent.site ∙ begun.stands) (sent.moment ∙ begun.moment)
    ∙ sent-from c.args.site.now c.args.m p c.args.self.now.parts step.entries.items step.emits.items _
    (c.retry_due.ensures.change ∙ ap₂ (λ (site : Settings) (m : ℕ). retried_where table site m (reaches_resolver site) (so_far p step)) begun.stands begun.moment)
    c.in_ok-reserve_probes.ensures.parts begun.no_entries begun.no_emits

pub returns-clause-sent : goal.returns-clause-sent
returns-clause-sent c =
    let few : length c.as_slice.result.now + 16 ≤ 20752 = omega (arith, c.as_slice.ensures.len, c.in_ok-due.ensures.few) in
    begun-sent c.changed.result.emits c.in_ok-step.ensures.begun
    (taken-both 20752 few c.retry_due.ensures.taken c.probe_next.ensures.taken) (ap (λ (changed : Changed). changed.emits) c.changed.ensures)
