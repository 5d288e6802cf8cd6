use Rattle.std.proofs.Common.{◌∙◌, List, ℕ, ap}
use Rattle.std.specs.Option.{option_map}
use Rattle.desk.specs.World.{World, after_say}
use Rattle.replay.specs.Answer.{closing}
use Rattle.std.proofs.Common.{subst}
use Rattle.std.proofs.lemmas.Result.{on_err_weaker}
use Rattle.playback.proofs.FrontLemmas.{on_err_always}
use Rattle.replay.specs.Front.{SaysPart}
use Rattle.replay.specs.Lines.{end_line}
use Rattle.replay.specs.Opening.{arriving_at}
use Rattle.replay.proofs.FrontCases.{says_none}
use Rattle.replay.proofs.SharedCases.{file_closed, file_refused}
use Rattle.replay.proofs.SharedFrontCases.{file_fault, file_line}
use Rattle.replay.proofs.AnswerCases.{ok_both}
use Rattle.replay.proofs.replaying.replay_by.Goals as goal

pub returns-in_ok-line-in-Ok-clause-answer : goal.returns-in_ok-line-in-Ok-clause-answer
returns-in_ok-line-in-Ok-clause-answer g c =
    let counts = c.in-Ok.counts in
    let played = g.D.Desk.told c.replay_file.new.desk in
    ok_both c.close.result c.close.ensures.status c.close.ensures.told (λ s is said.
    let line = said ∙ ap (λ (l : List ℕ). option_map (after_say (closing counts.fault l)) played) (c.as_slice.ensures ∙ c.in_ok-line-in-Ok.ensures) in
    file_closed c.args.crew.now.workers c.args.crew.now.round c.args.settings.now c.args.captures.now.output.now (λ (w : World). arriving_at c.args.captures.now w.files c.args.settings.now) counts (g.D.Desk.told c.args.desk.now) played (g.D.Desk.told c.close.new.desk) s (rw c.in-Ok.is at c.in_ok-counts.ensures.answer) line is)

pub returns-in-Err-clause-answer : goal.returns-in-Err-clause-answer
returns-in-Err-clause-answer g c =
    ok_both c.refuse_capture.result c.refuse_capture.ensures.status c.refuse_capture.ensures.told (λ s is said.
    file_refused c.args.crew.now.workers c.args.crew.now.round c.args.settings.now c.args.captures.now.output.now (λ (w : World). arriving_at c.args.captures.now w.files c.args.settings.now) c.in-Err.fault (g.D.Desk.told c.args.desk.now) (g.D.Desk.told c.replay_file.new.desk) (g.D.Desk.told c.refuse_capture.new.desk) s
    (rw c.in-Err.is at c.in_ok-counts.ensures.answer) said is)

pub returns-in_err-line-in-Ok-clause-front : goal.returns-in_err-line-in-Ok-clause-front
returns-in_err-line-in-Ok-clause-front g c =
    let counts = c.in-Ok.counts in
    let played = g.D.Desk.told c.replay_file.new.desk in
    on_err_always c.from_residual-in_err-line-in-Ok.result
    (file_line c.args.crew.now.workers c.args.crew.now.round c.args.settings.now c.args.captures.now.output.now (λ (w : World). arriving_at c.args.captures.now w.files c.args.settings.now) counts (g.D.Desk.told c.args.desk.now) played played (rw c.in-Ok.is at c.in_ok-counts.ensures.answer) (says_none (closing counts.fault (end_line counts.frames counts.written counts.entries)) played))

pub returns-in_ok-line-in-Ok-clause-front : goal.returns-in_ok-line-in-Ok-clause-front
returns-in_ok-line-in-Ok-clause-front g c =
    let counts = c.in-Ok.counts in
    let played = g.D.Desk.told c.replay_file.new.desk in
    let new = g.D.Desk.told c.close.new.desk in
    on_err_weaker c.close.result (λ says.
    file_line c.args.crew.now.workers c.args.crew.now.round c.args.settings.now c.args.captures.now.output.now (λ (w : World). arriving_at c.args.captures.now w.files c.args.settings.now) counts (g.D.Desk.told c.args.desk.now) played new (rw c.in-Ok.is at c.in_ok-counts.ensures.answer)
    (subst (λ (l : List ℕ). SaysPart (closing counts.fault l) played new) (c.as_slice.ensures ∙ c.in_ok-line-in-Ok.ensures) says)) c.close.ensures.part

pub returns-in-Err-clause-front : goal.returns-in-Err-clause-front
returns-in-Err-clause-front g c =
    on_err_weaker c.refuse_capture.result (λ says.
    file_fault c.args.crew.now.workers c.args.crew.now.round c.args.settings.now c.args.captures.now.output.now (λ (w : World). arriving_at c.args.captures.now w.files c.args.settings.now) c.in-Err.fault (g.D.Desk.told c.args.desk.now) (g.D.Desk.told c.replay_file.new.desk) (g.D.Desk.told c.refuse_capture.new.desk)
    (rw c.in-Err.is at c.in_ok-counts.ensures.answer) says) c.refuse_capture.ensures.part
