use Rattle.std.proofs.Common.{◌∙◌, ◌≤◌, arith, length}
use Rattle.toml.specs.View.{table_view}
use Rattle.std.proofs.lemmas.Result.{IfOk-at_ok, IfOk-weaker, MatchResult-weaker}
use Rattle.lisp_settings.specs.Limits.{most_nonces}
use Rattle.lisp_settings.specs.Lawful.{IsLawful}
use Rattle.lisp_settings.proofs.LawfulLemmas.{settings_in-lawful}
use Rattle.lisp_settings.proofs.NonceLemmas.{settings_in-few}
use Rattle.lisp_settings.proofs.ReadingLemmas.{settings_of-long, settings_of-document, settings_of-none}
use Rattle.lisp_settings.proofs.reading.read_settings.Goals as goal

pub returns-then-text-gt-MOST_TEXT_OCTETS-clause-err : goal.returns-then-text-gt-MOST_TEXT_OCTETS-clause-err
returns-then-text-gt-MOST_TEXT_OCTETS-clause-err c other = settings_of-long c.args.text.now (omega arith)

pub returns-in-Ok-clause-ok : goal.returns-in-Ok-clause-ok
returns-in-Ok-clause-ok c =
    let document = settings_of-document c.args.text.now (table_view c.in-Ok.top) (omega arith) c.in-Ok.ensures.ok.0 c.in-Ok.ensures.ok.1 in
    IfOk-weaker c.read_top.result _ _ (λ settings is. document ∙ is) c.read_top.ensures.ok

pub returns-in-Ok-clause-err : goal.returns-in-Ok-clause-err
returns-in-Ok-clause-err c =
    let document = settings_of-document c.args.text.now (table_view c.in-Ok.top) (omega arith) c.in-Ok.ensures.ok.0 c.in-Ok.ensures.ok.1 in
    MatchResult-weaker c.read_top.result c.read_top.ensures.err (λ settings t. t) (λ e refused other. document ∙ refused other)

pub returns-in-Err-2-clause-err : goal.returns-in-Err-2-clause-err
returns-in-Err-2-clause-err c other =
    settings_of-none c.args.text.now (omega arith) (c.in-Err.ensures.refused (λ memory. cc (c.is_memory.ensures.1 memory)))

pub returns-in-Ok-clause-lawful : goal.returns-in-Ok-clause-lawful
returns-in-Ok-clause-lawful c = IfOk-weaker c.read_top.result _ _ (λ settings is. IfOk-at_ok IsLawful is (settings_in-lawful (table_view c.in-Ok.top))) c.read_top.ensures.ok

pub returns-in-Ok-clause-few : goal.returns-in-Ok-clause-few
returns-in-Ok-clause-few c = IfOk-weaker c.read_top.result _ _ (λ settings is. IfOk-at_ok (λ s. length s.nonces ≤ most_nonces) is (settings_in-few (table_view c.in-Ok.top))) c.read_top.ensures.ok
