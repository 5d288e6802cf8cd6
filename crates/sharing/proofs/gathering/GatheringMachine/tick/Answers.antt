use Rattle.std.proofs.Common.{refl}
use Rattle.capture_events.specs.Events.{Happens, Tick}
use Rattle.playback.proofs.FrontLemmas.{gathers-idle}
use Rattle.sharing.specs.Gathering.{InRounds, gathering_of}
use Rattle.sharing.proofs.RoundLemmas.{ready-second}
use Rattle.sharing.proofs.gathering.GatheringMachine.tick.Goals as goal

pub returns-clause-ready : goal.returns-clause-ready
returns-clause-ready c = λ progress ready later.
    let router = c.args.self.now in
    let g = gathering_of router.settings.now router.published.batches router.size router.previous router.frames.items in
    ready-second router.settings.now router.table.parts router.published g router.octets progress.frames c.args._second c.args._output.now.written progress.moment ready later

pub returns-clause-gathers : goal.returns-clause-gathers
returns-clause-gathers c =
    let router = c.args.self.now in
    let g = gathering_of router.settings.now router.published.batches router.size router.previous router.frames.items in
    gathers-idle (InRounds g (Happens (Tick c.args._second))) c.args._output.now g refl
