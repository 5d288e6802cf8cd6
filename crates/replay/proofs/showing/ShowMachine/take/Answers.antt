use Rattle.std.proofs.Common.{refl}
use Rattle.capture_events.specs.Events.{Arrival}
use Rattle.replay.specs.Show.{showing}
use Rattle.replay.proofs.ReplayLemmas.{gathers-determined}
use Rattle.replay.proofs.ShowLemmas.{lines_gathered}
use Rattle.replay.proofs.showing.ShowMachine.take.Goals as goal

pub returns-clause-gathers : goal.returns-clause-gathers
returns-clause-gathers c =
    gathers-determined showing tt tt (Arrival c.args.frame) c.args.output.now _ (lines_gathered c.args.frame c.args.output.now _ c.in_ok-push_shown.ensures refl refl) refl
