use Rattle.std.proofs.Common.{◌≡◌, ◌≤◌, ◌∷◌, [], arith, rules}
use Rattle.std.proofs.lemmas.Option.{IfSome_then}
use Rattle.std.proofs.lemmas.Result.{IfOk-weaker, on_err_weaker}
use Rattle.desk.specs.World.{shown, shown_of, to_read, to_write}
use Rattle.playback.proofs.FrontLemmas.{on_err_always}
use Rattle.playback.specs.Input.{left_in}
use Rattle.replay.proofs.AnswerCases.{counts_of}
use Rattle.replay.proofs.SharedCases.{frames_shared, replays_plain, replays_rounds}
use Rattle.replay.proofs.SharedFrontCases.{ends_plain, ends_rounds, shares_output, shares_part}
use Rattle.replay.proofs.SteadyLemmas.{given-kept, given-new}
use Rattle.replay.proofs.replaying.replay_frames.Goals as goal

pub returns-then-crew-eq0-clause-answer : goal.returns-then-crew-eq0-clause-answer
returns-then-crew-eq0-clause-answer g c =
    let crew = c.args.crew.now in
    let new = shown (g.D.Desk.told c.replay_plainly.new.desk) in
    let none : crew.workers ≡ 0 = omega (arith, c.if-crew-eq0.true) in
    IfOk-weaker c.replay_plainly.result _ _ (λ counts answered. IfSome_then (g.D.Desk.told c.args.desk.now) answered (λ w has.
    replays_plain crew.workers crew.round c.args.settings.now c.args.output.now (left_in g.I.FrameReader.id g.I.FrameReader.run c.args.reader w) counts (shown_of w) new none has)) c.replay_plainly.ensures.answer

pub returns-then-crew-eq0-clause-front : goal.returns-then-crew-eq0-clause-front
returns-then-crew-eq0-clause-front g c =
    let crew = c.args.crew.now in
    let new = g.D.Desk.told c.replay_plainly.new.desk in
    let none : crew.workers ≡ 0 = omega (arith, c.if-crew-eq0.true) in
    on_err_weaker c.replay_plainly.result (λ ends. IfSome_then (g.D.Desk.told c.args.desk.now) ends (λ w front.
    ends_plain crew.workers crew.round c.args.settings.now c.args.output.now (left_in g.I.FrameReader.id g.I.FrameReader.run c.args.reader w) (shown_of w) new none front)) c.replay_plainly.ensures.front

pub returns-clause-answer : goal.returns-clause-answer
returns-clause-answer g c =
    let crew = c.args.crew.now in
    let old = g.D.Desk.told c.args.desk.now in
    let new = g.D.Desk.told c.play_rounds.new.desk in
    let some : 1 ≤ crew.workers = omega (arith, c.if-crew-eq0.false) in
    IfSome_then old (frames_shared c.args.settings.now crew.round c.in_ok-file.file.number (g.I.FrameReader.id c.args.reader) (g.I.FrameReader.run c.args.reader) c.args.output.now old (g.D.Desk.told c.make_output.new.desk) new
    c.in_ok-ended.ended c.in_ok-file.ensures.fresh c.in_ok-file.ensures.told c.in_ok-ended.ensures.shared) (λ w has.
    replays_rounds crew.workers crew.round c.args.settings.now c.args.output.now (left_in g.I.FrameReader.id g.I.FrameReader.run c.args.reader w) (counts_of c.in_ok-ended.ended.ending c.in_ok-ended.ended.entries) (shown_of w) (shown new) some has)

pub returns-in_err-ended-clause-steady : goal.returns-in_err-ended-clause-steady
returns-in_err-ended-clause-steady g c =
    let old = g.D.Desk.given c.args.desk.now in
    let made = c.in_ok-file.ensures in
    let file = given-new c.in_ok-file.file.number to_write old (g.D.Desk.given c.make_output.new.desk) made.given_fresh made.given in
    search (rules, file, made.given, given-kept (g.I.FrameReader.id c.args.reader) to_read old ((c.in_ok-file.file.number, to_write) ∷ []))

pub returns-in_err-file-clause-front : goal.returns-in_err-file-clause-front
returns-in_err-file-clause-front g c =
    let crew = c.args.crew.now in
    let left = left_in g.I.FrameReader.id g.I.FrameReader.run c.args.reader in
    let old = g.D.Desk.told c.args.desk.now in
    let new = g.D.Desk.told c.make_output.new.desk in
    let some : 1 ≤ crew.workers = omega (arith, c.if-crew-eq0.false) in
    on_err_always c.from_residual.result
    (IfSome_then old (shares_output c.args.settings.now crew.round left c.args.output.now old new c.in_err-file.ensures.part) (λ w front.
    ends_rounds crew.workers crew.round c.args.settings.now c.args.output.now (left w) (shown_of w) new some front))

pub returns-in_err-ended-clause-front : goal.returns-in_err-ended-clause-front
returns-in_err-ended-clause-front g c =
    let crew = c.args.crew.now in
    let old = g.D.Desk.told c.args.desk.now in
    let new = g.D.Desk.told c.play_rounds.new.desk in
    let some : 1 ≤ crew.workers = omega (arith, c.if-crew-eq0.false) in
    on_err_always c.from_residual-in_err-ended.result
    (IfSome_then old (shares_part c.args.settings.now crew.round c.in_ok-file.file.number (g.I.FrameReader.id c.args.reader) (g.I.FrameReader.run c.args.reader) c.args.output.now old (g.D.Desk.told c.make_output.new.desk) new
    c.in_ok-file.ensures.fresh c.in_ok-file.ensures.told c.in_err-ended.ensures.front) (λ w front.
    ends_rounds crew.workers crew.round c.args.settings.now c.args.output.now (left_in g.I.FrameReader.id g.I.FrameReader.run c.args.reader w) (shown_of w) new some front))
