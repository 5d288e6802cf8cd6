use Rattle.std.proofs.Common.{Err, ap, inl, inr, map}
use Rattle.std.specs.Prelude.{string_bytes}
use Rattle.std.proofs.lemmas.Option.{IfSome_then}
use Rattle.desk.specs.World.{shown, shown_of}
use Rattle.replay.proofs.FrontCases.{always}
use Rattle.replay.proofs.SharedCases.{shown-left, status-with}
use Rattle.replay.proofs.SharedFrontCases.{shown-ends}
use Rattle.replay.proofs.running.run.Goals as goal

pub returns-in-Err-Failed-clause-complete : goal.returns-in-Err-Failed-clause-complete
returns-in-Err-Failed-clause-complete g c =
    let failed = ap Err c.in-Err-Failed.field-0-is in
    let call = c.in-Err-Failed.ensures in
    always (g.D.Desk.told c.args.desk.now) (λ w lawful why.
    elim why [ inl none ↦ absurd (none (call.cause.failed failed)) | inr owes ↦ absurd (call.steady.done owes.0 owes.1 failed) ])

pub returns-in-Ok-clause-status : goal.returns-in-Ok-clause-status
returns-in-Ok-clause-status g c = λ inside.
    IfSome_then (g.D.Desk.told c.args.desk.now) c.in-Ok.ensures.shared (λ w gives.
    status-with (map string_bytes c.args.words.now) w.files _ (shown_of w) (shown (g.D.Desk.told c.answer_words.new.desk)) gives)

pub returns-in-Ok-clause-left : goal.returns-in-Ok-clause-left
returns-in-Ok-clause-left g c = λ inside none.
    shown-left (map string_bytes c.args.words.now) (g.D.Desk.told c.args.desk.now) _ (shown (g.D.Desk.told c.answer_words.new.desk)) none c.in-Ok.ensures.shared

pub returns-in-Err-Failed-clause-front : goal.returns-in-Err-Failed-clause-front
returns-in-Err-Failed-clause-front g c = λ outside none.
    shown-ends (map string_bytes c.args.words.now) (g.D.Desk.told c.args.desk.now) (g.D.Desk.told c.answer_words.new.desk) none c.in-Err-Failed.ensures.shared_front

pub returns-in-Err-Memory-clause-front : goal.returns-in-Err-Memory-clause-front
returns-in-Err-Memory-clause-front g c = λ outside none.
    shown-ends (map string_bytes c.args.words.now) (g.D.Desk.told c.args.desk.now) (g.D.Desk.told c.answer_words.new.desk) none c.in-Err-Memory.ensures.shared_front

pub returns-in-Ok-clause-complete : goal.returns-in-Ok-clause-complete
returns-in-Ok-clause-complete g c =
    IfSome_then (g.D.Desk.told c.args.desk.now) c.in-Ok.ensures.shared (λ w gives lawful why.
    inl (status-with (map string_bytes c.args.words.now) w.files _ (shown_of w) (shown (g.D.Desk.told c.answer_words.new.desk)) gives))
