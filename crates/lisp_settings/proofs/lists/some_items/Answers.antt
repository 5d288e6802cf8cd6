use Rattle.std.proofs.Common.{◌∙◌, ap, sym, Err}
use Rattle.lisp_settings.specs.declared.fault.SettingsFault.TheVariants.{Missing}
use Rattle.lisp_settings.proofs.ListLemmas.{some_items-none, some_items-some}
use Rattle.lisp_settings.proofs.lists.some_items.Goals as goal

pub returns-then-items-eq0-clause-err : goal.returns-then-items-eq0-clause-err
returns-then-items-eq0-clause-err c other =
    some_items-none c.args.list.now c.args.items.now c.if-items-eq0.true ∙ ap (λ key. Err (Missing key)) (sym c.in_ok-copied.ensures)

pub returns-clause-ok : goal.returns-clause-ok
returns-clause-ok c = some_items-some c.args.list.now c.args.items.now c.if-items-eq0.false
