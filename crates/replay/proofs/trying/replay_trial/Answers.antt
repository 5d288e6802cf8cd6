use Rattle.std.proofs.Common.{◌∙◌, refl}
use Rattle.std.specs.Prelude.{codes}
use Rattle.std.proofs.lemmas.Option.{same_Some}
use Rattle.std.proofs.lemmas.Result.{IfOk-weaker}
use Rattle.capture_io.specs.Frames.{capture}
use Rattle.playback.specs.Input.{input_run}
use Rattle.playback.specs.declared.fault.InputFault.TheVariants.{Classic}
use Rattle.replay.specs.Trial.{trial_file}
use Rattle.replay.proofs.TrialLemmas.{opened-trial, output_of, trial_line-replayed}
use Rattle.replay.proofs.trying.replay_trial.Goals as goal

pub unreachable-requires-in-Ok-Err : goal.unreachable-requires-in-Ok-Err
unreachable-requires-in-Ok-Err g c =
    let has = rw (c.in_ok-desk.ensures.desk, c.in-Ok-Err.field-0-is) at c.in-Ok-Err.ensures.answer in
    rw (opened-trial (trial_file c.args.n) c.in_ok-desk.ensures.header) at has

pub unreachable-requires : goal.unreachable-requires
unreachable-requires g c =
    let has = rw (opened-trial (trial_file c.args.n) c.in_ok-desk.ensures.header) at (rw (c.in_ok-desk.ensures.desk, c.in-Ok-Ok.field-0-is) at c.in-Ok-Ok.ensures.answer) in
    let made = output_of c.in_ok-settings.settings (codes "out") (input_run Classic (capture (trial_file c.args.n))) c.in-Ok-Ok.counts _ c.replay_file.new.desk.world refl refl has.replayed in
    let none = rw c.in_default.is at c.file.ensures in
    cc

pub returns-in-Ok-Ok : goal.returns-in-Ok-Ok
returns-in-Ok-Ok g c =
    let has = rw (opened-trial (trial_file c.args.n) c.in_ok-desk.ensures.header) at (rw (c.in_ok-desk.ensures.desk, c.in-Ok-Ok.field-0-is) at c.in-Ok-Ok.ensures.answer) in
    let made = output_of c.in_ok-settings.settings (codes "out") (input_run Classic (capture (trial_file c.args.n))) c.in-Ok-Ok.counts _ c.replay_file.new.desk.world refl refl has.replayed in
    let found = rw c.in-Some.is at c.file.ensures in
    let output = same_Some _ _ (found ∙ made) in
    let settings = c.in_ok-settings.ensures.settings in
    IfOk-weaker c.trial_line.result _ _ (λ line is.
    is ∙ trial_line-replayed c.args.n (codes "out") (trial_file c.args.n) c.in-Some.output.now c.in-Ok-Ok.counts _ _ c.in_ok-desk.ensures.read (rw settings at has.replayed) (rw settings at output)) c.trial_line.ensures
