use Rattle.std.proofs.Common.{rules}
use Rattle.toml.specs.View.{table_view}
use Rattle.lisp_settings.proofs.ItemLemmas.{database_in-written}
use Rattle.lisp_settings.proofs.items.DatabaseItem.write.Goals as goal

pub returns-clause-reads : goal.returns-clause-reads
returns-clause-reads c known fits =
    database_in-written c.args.self.now (table_view c.in_ok-table.table) (table_view c.put_number.new.table) c.in_ok-table.ensures c.requires.version (search rules)
