use Rattle.std.proofs.Common.{arith, unwrap_or}
use Rattle.capture_events.specs.Events.{Tick}
use Rattle.router_model.specs.Parts.{table}
use Rattle.router_model.specs.Plain.{after_event}
use Rattle.replay.specs.Taking.{router_of}
use Rattle.replay.proofs.ReplayLemmas.{gathers-determined, on_ok_three, on_ok_two, own-kept, own-stands, packets-later, packets-left, ready-later, room-left}
use Rattle.replay.proofs.plainly.ReplayMachine.tick.Goals as goal

pub take_second-requires-clause-may : goal.take_second-requires-clause-may
take_second-requires-clause-may c =
    let by = c.requires.ready in
    let ready = by.ready in
    let later = by.later in
    let room = room-left by.progress.frames c.args.self.now.table.parts.count (unwrap_or by.progress.moment 0) by.few (omega (arith, later)) ready.1.1.1.0 in
    record { later = omega (arith, ready.1.1.0, later); count = omega (arith, room) }

pub take_second-requires-clause-own : goal.take_second-requires-clause-own
take_second-requires-clause-own c = own-stands c.args.self.now.settings.now c.args.self.now.table.parts c.requires.ready.ready.1.0

pub take_second-requires-clause-room : goal.take_second-requires-clause-room
take_second-requires-clause-room c =
    let by = c.requires.ready in
    let later = by.later in
    packets-left by.progress.frames c.args.output.now.written (unwrap_or by.progress.moment 0) by.few (omega (arith, later)) by.ready.1.1.1.1

pub returns-clause-ready : goal.returns-clause-ready
returns-clause-ready c =
    on_ok_three c.take_second.result c.take_second.ensures.entered c.take_second.ensures.state c.take_second.ensures.gathers (λ entered state gathers progress ready later. (
      ready.0,
      (
        own-kept c.args.self.now.settings.now c.args.self.now.table.parts c.take_second.new.memory.parts (Tick c.args.second) ready.1.0 state,
        (
          entered.now,
          (
            ready-later progress.frames _ _ (unwrap_or progress.moment 0) c.args.second later ready.1.1.1.0 entered.count,
            packets-later progress.frames c.args.output.now.written _ _ (unwrap_or progress.moment 0) c.args.second later ready.1.1.1.1 gathers.few gathers.gathers.written,
          ),
        ),
      ),
    ))

pub returns-clause-gathers : goal.returns-clause-gathers
returns-clause-gathers c =
    let settings = c.args.self.now.settings.now in
    let before = router_of settings c.args.self.now.table.parts in
    on_ok_two c.take_second.result c.take_second.ensures.gathers c.take_second.ensures.state (λ gathers state.
    gathers-determined (after_event table) before (router_of settings c.take_second.new.memory.parts) (Tick c.args.second) c.args.output.now c.take_second.new.output gathers.gathers state)
