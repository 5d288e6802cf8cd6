use Rattle.std.proofs.Common.{rules, string_bytes}
use Rattle.toml.specs.View.{table_view}
use Rattle.lisp_settings.proofs.ItemLemmas.{locator_in-written}
use Rattle.lisp_settings.proofs.items.OwnLocatorItem.write.Goals as goal

pub returns-clause-reads : goal.returns-clause-reads
returns-clause-reads c known fits =
    locator_in-written c.args.self.now (string_bytes c.in_ok-address_text.field-0) (table_view c.put_flag.new.table) c.in_ok-address_text.ensures.reads c.put_octet.ensures.within c.put_octet-2.ensures.within (search rules)
