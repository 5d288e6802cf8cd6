use Rattle.std.proofs.Common.{sym, ap, ◌∙◌}
use Rattle.replay.specs.Opening.{run_of}
use Rattle.replay.proofs.input.InputFrameReader.take_back.Goals as goal

pub returns-in-Ng-clause-run : goal.returns-in-Ng-clause-run
returns-in-Ng-clause-run c = c.take_back-in-Ng.ensures.run ∙ ap run_of (sym c.in-Ng.is)
