use Rattle.std.proofs.Common.{◌∙◌, ap, sym, Err, arith}
use Rattle.lisp_settings.specs.declared.fault.SettingsFault.TheVariants.{TooMany}
use Rattle.lisp_settings.proofs.ListLemmas.{few_items-many, few_items-few}
use Rattle.lisp_settings.proofs.lists.few_items.Goals as goal

pub returns-then-items-most-clause-err : goal.returns-then-items-most-clause-err
returns-then-items-most-clause-err c other =
    few_items-many c.args.list.now c.args.most c.args.items.now c.if-items-most.true ∙ ap (λ key. Err (TooMany key)) (sym c.in_ok-copied.ensures)

pub returns-clause-ok : goal.returns-clause-ok
returns-clause-ok c = few_items-few c.args.list.now c.args.most c.args.items.now (omega arith)
