use Rattle.std.proofs.Common.{arith, unwrap_or}
use Rattle.capture_events.specs.Events.{Arrival}
use Rattle.router_model.specs.Parts.{table}
use Rattle.router_model.specs.Plain.{after_event}
use Rattle.replay.specs.Taking.{router_of}
use Rattle.replay.proofs.ReplayLemmas.{gathers-determined, own-kept, packets-left, packets-more, ready-more, room-left}
use Rattle.replay.proofs.plainly.ReplayMachine.take.Goals as goal

pub take_frame-requires-clause-count : goal.take_frame-requires-clause-count
take_frame-requires-clause-count c =
    let by = c.requires.ready in
    let next = by.next in
    let most = c.requires.most in
    let later = by.later in
    let early = c.requires.moment in
    room-left by.progress.frames c.args.self.now.table.parts.count (unwrap_or by.progress.moment 0) (omega (arith, next, most)) (omega (arith, later, early)) by.ready.1.1.1.0

pub take_frame-requires-clause-room : goal.take_frame-requires-clause-room
take_frame-requires-clause-room c =
    let by = c.requires.ready in
    let next = by.next in
    let most = c.requires.most in
    let later = by.later in
    let early = c.requires.moment in
    packets-left by.progress.frames c.args.output.now.written (unwrap_or by.progress.moment 0) (omega (arith, next, most)) (omega (arith, later, early)) by.ready.1.1.1.1

pub returns-clause-ready : goal.returns-clause-ready
returns-clause-ready c =
    let by = c.requires.ready in
    let ready = by.ready in
    let frames = by.progress.frames in
    let earlier = unwrap_or by.progress.moment 0 in
    let number = c.args.frame.number in
    let moment = c.args.frame.moment in
    let took = c.in_ok-take_frame.ensures in (
      ready.0,
      (
        own-kept c.args.self.now.settings.now c.args.self.now.table.parts c.take_frame.new.memory.parts (Arrival c.args.frame) ready.1.0 took.state,
        (
          took.entered.now,
          (
            ready-more frames number _ _ earlier moment by.next by.later ready.1.1.1.0 took.entered.count,
            packets-more frames number c.args.output.now.written _ _ earlier moment by.next by.later ready.1.1.1.1 took.gathers.few took.gathers.gathers.written,
          ),
        ),
      ),
    )

pub returns-clause-gathers : goal.returns-clause-gathers
returns-clause-gathers c =
    let settings = c.args.self.now.settings.now in
    let before = router_of settings c.args.self.now.table.parts in
    let took = c.in_ok-take_frame.ensures in
    gathers-determined (after_event table) before (router_of settings c.take_frame.new.memory.parts) (Arrival c.args.frame) c.args.output.now c.take_frame.new.output took.gathers.gathers took.state
