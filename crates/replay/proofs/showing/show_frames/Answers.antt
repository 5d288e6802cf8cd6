use Rattle.replay.specs.Opening.{run_in}
use Rattle.std.proofs.Common.{◌∙◌, List, ℕ, ap}
use Rattle.std.specs.Option.{option_map}
use Rattle.desk.specs.World.{after_say}
use Rattle.replay.specs.Answer.{closing}
use Rattle.std.proofs.Common.{subst}
use Rattle.std.proofs.lemmas.Result.{on_err_weaker}
use Rattle.playback.proofs.FrontLemmas.{on_err_always}
use Rattle.replay.specs.Front.{SaysPart}
use Rattle.replay.specs.Lines.{count_line}
use Rattle.replay.proofs.ShowFrontCases.{line_front, messages_front}
use Rattle.replay.proofs.FrontCases.{says_none}
use Rattle.replay.proofs.AnswerCases.{messages_answered, ok_both}
use Rattle.replay.proofs.showing.show_frames.Goals as goal

pub returns-clause-answer : goal.returns-clause-answer
returns-clause-answer g c =
    let ending = c.in_ok-ending.ending in
    let played = g.D.Desk.told c.play.new.desk in
    ok_both c.close.result c.close.ensures.status c.close.ensures.told (λ s is said.
    let line = said ∙ ap (λ (l : List ℕ). option_map (after_say (closing ending.fault l)) played) (c.as_slice.ensures ∙ c.in_ok-line.ensures) in
    messages_answered (run_in c.args.reader) (g.D.Desk.told c.args.desk.now) played (g.D.Desk.told c.close.new.desk) ending s c.in_ok-ending.ensures.played line is)

pub returns-in_err-ending-clause-front : goal.returns-in_err-ending-clause-front
returns-in_err-ending-clause-front g c =
    on_err_always c.from_residual.result
    (messages_front (run_in c.args.reader) (g.D.Desk.told c.args.desk.now) (g.D.Desk.told c.play.new.desk) c.in_err-ending.ensures.cut)

pub returns-in_err-line-clause-front : goal.returns-in_err-line-clause-front
returns-in_err-line-clause-front g c =
    let ending = c.in_ok-ending.ending in
    let played = g.D.Desk.told c.play.new.desk in
    on_err_always c.from_residual-in_err-line.result
    (line_front (run_in c.args.reader) (g.D.Desk.told c.args.desk.now) played played ending c.in_ok-ending.ensures.played (says_none (closing ending.fault (count_line ending.frames)) played))

pub returns-clause-front : goal.returns-clause-front
returns-clause-front g c =
    let ending = c.in_ok-ending.ending in
    let played = g.D.Desk.told c.play.new.desk in
    let new = g.D.Desk.told c.close.new.desk in
    on_err_weaker c.close.result (λ says.
    line_front (run_in c.args.reader) (g.D.Desk.told c.args.desk.now) played new ending c.in_ok-ending.ensures.played
    (subst (λ (l : List ℕ). SaysPart (closing ending.fault l) played new) (c.as_slice.ensures ∙ c.in_ok-line.ensures) says)) c.close.ensures.part
