use Rattle.std.proofs.Common.{rules}
use Rattle.toml.specs.View.{table_view}
use Rattle.lisp_settings.proofs.LimitLemmas.{limit_in-written}
use Rattle.lisp_settings.proofs.limiting.LimitItemItem.write.Goals as goal

pub returns-clause-reads : goal.returns-clause-reads
returns-clause-reads c known fits =
    limit_in-written known c.args.self.now (table_view c.put_number-3.new.table) fits c.requires (search rules)
