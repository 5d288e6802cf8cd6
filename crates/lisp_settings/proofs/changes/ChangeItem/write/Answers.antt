use Rattle.std.proofs.Common.{rules, string_bytes}
use Rattle.toml.specs.View.{table_view}
use Rattle.lisp_settings.proofs.ChangeLemmas.{change_in-written}
use Rattle.lisp_settings.proofs.changes.ChangeItem.write.Goals as goal

pub returns-clause-reads : goal.returns-clause-reads
returns-clause-reads c known fits =
    change_in-written known c.args.self.now (string_bytes c.in_ok-address_text.field-0) (table_view c.put_flag.new.table) fits c.in_ok-address_text.ensures.reads c.put_number.ensures.within (search rules)
