use Rattle.std.proofs.Common.{◌*◌, ℕ, subst}
use Rattle.std.proofs.lemmas.Result.{on_ok_weaker}
use Rattle.playback.specs.declared.output.Output.{Output}
use Rattle.router_log.specs.Moments.{seconds}
use Rattle.router_model.specs.Changes.{Change}
use Rattle.router_model.specs.Parts.{Parts, standing_in, table}
use Rattle.router_model.specs.Plain.{after_tick, emit_packets}
use Rattle.router_model.specs.Standing.{standing_by}
use Rattle.router_model.specs.declared.own.Own.{Own}
use Rattle.router_core.specs.Table.{changed_seen}
use Rattle.replay.specs.Taking.{router_of, GathersFew, Sends}
use Rattle.replay.proofs.ReplayLemmas.{second-gathers}
use Rattle.replay.proofs.taking.take_second.Goals as goal

pub returns-clause-gathers : goal.returns-clause-gathers
returns-clause-gathers c =
    let settings = c.args.settings.now in
    let moment = seconds c.args.second in
    let old : Output = c.args.output.now in
    let new : Output = c.push_emits.new.output in
    let after = c.tick.new.self.parts in
    let router = router_of settings c.args.memory.now.parts in
    let change : Change Parts = changed_seen after c.in_ok-changed.changed in
    on_ok_weaker c.push_emits.result (λ sends.
    let sent : Sends (emit_packets (standing_in settings after) moment change.emits) old new =
    subst (λ (own : Own). Sends (emit_packets (standing_by settings own) moment change.emits) old new) c.own-own.ensures
    (subst (λ (n : ℕ). Sends (emit_packets (standing_by settings c.own-own.result) (n * 1000000000) change.emits) old new) c.from-moment.ensures sends) in
    subst (λ (change : Change Parts). GathersFew (after_tick table router moment change) old new) c.in_ok-changed.ensures.parts
    (second-gathers router moment change old new sent c.in_ok-changed.ensures.sent.few)) c.push_emits.ensures
