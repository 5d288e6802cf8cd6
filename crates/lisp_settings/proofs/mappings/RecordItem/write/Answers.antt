use Rattle.std.proofs.Common.{rules, subst}
use Rattle.toml.specs.View.{items_view, table_view}
use Rattle.mapping_records.specs.Orders.{addr_order}
use Rattle.lisp_settings.specs.Settings.{mapped_in}
use Rattle.lisp_settings.specs.Writing.{IsArrayOf}
use Rattle.lisp_settings.proofs.ItemLemmas.{mapping_in-written}
use Rattle.lisp_settings.proofs.mappings.RecordItem.write.Goals as goal

pub returns-clause-reads : goal.returns-clause-reads
returns-clause-reads c known fits =
    mapping_in-written c.args.self.now (table_view c.in_ok-table.table) (table_view c.put_array.new.table) (items_view c.in_ok-locators.locators.items) c.requires c.in_ok-table.ensures
    (subst (λ items. IsArrayOf mapped_in (λ locator. locator.addr) addr_order 1 items (items_view c.in_ok-locators.locators.items)) c.as_slice.ensures (c.in_ok-locators.ensures tt (λ k d less. tt)))
    (search rules)

pub returns-clause-plain : goal.returns-clause-plain
returns-clause-plain c =
    let listed = c.in_ok-locators.ensures tt (λ k d less. tt) in
    search (rules, listed)
