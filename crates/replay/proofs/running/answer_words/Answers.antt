use Rattle.std.proofs.Common.{◌≡◌, [], refl, ap, sym, subst, map, Option, Some, None, Err, IsErrOf}
use Rattle.std.specs.Prelude.{codes, string_bytes}
use Rattle.std.proofs.lemmas.Option.{IfSome_then}
use Rattle.std.proofs.lemmas.Result.{IfOk-weaker}
use Rattle.command_words.specs.Words.{words_of}
use Rattle.command_words.specs.declared.words.Words.{Words}
use Rattle.desk.specs.Causes.{StaysSteady}
use Rattle.desk.specs.declared.fault.DeskFault.TheVariants.{Failed}
use Rattle.desk.specs.World.{shown, shown_of}
use Rattle.replay.specs.Owed.{AreThere}
use Rattle.replay.specs.Shared.{GivesWith}
use Rattle.replay.specs.declared.status.Status.{Status}
use Rattle.replay.specs.declared.status.Status.TheVariants as status
use Rattle.std.proofs.lemmas.Result.{on_err_weaker}
use Rattle.replay.specs.Answer.{after_words}
use Rattle.replay.specs.Front.{part_after_words}
use Rattle.replay.proofs.FrontCases.{always, front_says, words-zero}
use Rattle.replay.proofs.AnswerCases.{ok_both, said_line}
use Rattle.replay.proofs.SharedCases.{gives_with}
use Rattle.replay.proofs.SharedFrontCases.{ends_after, ends_still, ends_with}
use Rattle.replay.proofs.running.answer_words.Goals as goal

pub returns-in-Ok-clause-shared : goal.returns-in-Ok-clause-shared
returns-in-Ok-clause-shared g c =
    let words = map string_bytes c.args.words.now in
    let new = shown (g.D.Desk.told c.do_words.new.desk) in
    IfOk-weaker c.do_words.result _ _ (λ s answered. IfSome_then (g.D.Desk.told c.args.desk.now) answered (λ w gives.
    gives_with words w.files (Some c.in-Ok.words) s (shown_of w) new c.in-Ok.ensures.ok gives)) c.do_words.ensures.answer

pub returns-in-Ok-clause-steady : goal.returns-in-Ok-clause-steady
returns-in-Ok-clause-steady g c =
    let new = c.do_words.new.desk in
    subst (λ (o : Option Words). StaysSteady (g.D.Desk.steady c.args.desk.now) (g.D.Desk.steady new) (AreThere o (g.D.Desk.told c.args.desk.now)) (IsErrOf c.do_words.result Failed)) (sym c.in-Ok.ensures.ok) c.do_words.ensures.steady

pub returns-in-Err-Usage-clause-shared : goal.returns-in-Err-Usage-clause-shared
returns-in-Err-Usage-clause-shared g c =
    let words = map string_bytes c.args.words.now in
    let old = g.D.Desk.told c.args.desk.now in
    let new = g.D.Desk.told c.refuse_words.new.desk in
    let none : words_of words ≡ None = c.in-Err-Usage.ensures.usage (ap Err c.in-Err-Usage.field-0-is) in
    ok_both c.refuse_words.result c.refuse_words.ensures.status c.refuse_words.ensures.told (λ s is said.
    IfSome_then old (said_line status.Usage (codes "usage\n") old new said) (λ w gives.
    subst (λ (x : Status). GivesWith words w.files x (shown_of w) (shown new)) (sym is)
    (gives_with words w.files None status.Usage (shown_of w) (shown new) none (record { ns = []; lawful = refl; gives = gives }))))

pub returns-in-Ok-clause-shared_front : goal.returns-in-Ok-clause-shared_front
returns-in-Ok-clause-shared_front g c =
    let words = map string_bytes c.args.words.now in
    let new = g.D.Desk.told c.do_words.new.desk in
    on_err_weaker c.do_words.result (λ ends. IfSome_then (g.D.Desk.told c.args.desk.now) ends (λ w front.
    ends_with words w.files (Some c.in-Ok.words) (shown_of w) new c.in-Ok.ensures.ok front)) c.do_words.ensures.front

pub returns-in-Err-Usage-clause-shared_front : goal.returns-in-Err-Usage-clause-shared_front
returns-in-Err-Usage-clause-shared_front g c =
    let words = map string_bytes c.args.words.now in
    let old = g.D.Desk.told c.args.desk.now in
    let new = g.D.Desk.told c.refuse_words.new.desk in
    let none : words_of words ≡ None = c.in-Err-Usage.ensures.usage (ap Err c.in-Err-Usage.field-0-is) in
    on_err_weaker c.refuse_words.result (λ says. IfSome_then old (
    front_says (λ w. after_words w.files None) (λ w. part_after_words w.files None) (codes "usage\n") old old new (λ w. words-zero w.files None) refl (always old (λ w. refl)) (always old (λ w. refl)) says) (λ w ends.
    ends_with words w.files None (shown_of w) new none (ends_after w.files None (shown_of w) new refl refl ends))) c.refuse_words.ensures.part

pub returns-in-Err-Memory-clause-shared_front : goal.returns-in-Err-Memory-clause-shared_front
returns-in-Err-Memory-clause-shared_front g c =
    ends_still (map string_bytes c.args.words.now) (g.D.Desk.told c.args.desk.now) (g.D.Desk.told c.args.desk.now) refl
