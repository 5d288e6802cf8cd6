use Rattle.std.proofs.Common.{rules, map, subst, nat_cmp}
use Rattle.std.proofs.lemmas.Map.Keys.{IsDistinct-from_sorted}
use Rattle.toml.specs.View.{array_view, table_view}
use Rattle.mapping_records.specs.Orders.{addr_order, eid_order}
use Rattle.lisp_settings.specs.Changes.{change_key, change_order}
use Rattle.lisp_settings.specs.Settings.{attachment_in, change_in, database_in, limit_in, locator_in, mapping_in}
use Rattle.lisp_settings.specs.Writing.{IsArrayOf}
use Rattle.lisp_settings.proofs.LimitLemmas.{limits-below}
use Rattle.lisp_settings.proofs.TopLemmas.{IsTopTable, settings_in-top, top-plain}
use Rattle.lisp_settings.proofs.writing.top_table.Goals as goal

pub write_items-requires-clause-distinct : goal.write_items-requires-clause-distinct
write_items-requires-clause-distinct c =
    rw c.as_slice.ensures (IsDistinct-from_sorted addr_order (map (λ own. own.addr) c.args.settings.now.locators) c.requires.locators)

pub write_items-requires-2-clause-distinct : goal.write_items-requires-2-clause-distinct
write_items-requires-2-clause-distinct c =
    rw c.as_slice-2.ensures (IsDistinct-from_sorted nat_cmp (map (λ attachment. attachment.vlan) c.args.settings.now.attachments) c.requires.vlans)

pub write_items-requires-3-clause-distinct : goal.write_items-requires-3-clause-distinct
write_items-requires-3-clause-distinct c =
    rw c.as_slice-3.ensures (IsDistinct-from_sorted eid_order (map (λ database. database.eid) c.args.settings.now.databases) c.requires.prefixes)

pub write_items-requires-4-clause-distinct : goal.write_items-requires-4-clause-distinct
write_items-requires-4-clause-distinct c =
    rw c.as_slice-4.ensures (IsDistinct-from_sorted eid_order (map (λ mapping. mapping.eid) c.args.settings.now.mappings) c.requires.eids)

pub write_items-requires-5-clause-distinct : goal.write_items-requires-5-clause-distinct
write_items-requires-5-clause-distinct c =
    rw c.as_slice-5.ensures (IsDistinct-from_sorted change_order (map change_key c.args.settings.now.changes) c.requires.moments)

pub write_items-requires-6-clause-lawful : goal.write_items-requires-6-clause-lawful
write_items-requires-6-clause-lawful c =
    rw c.as_slice-6.ensures (limits-below c.args.settings.now.attachments c.args.settings.now.limits c.requires.attachments c.requires.limits)

pub write_items-requires-6-clause-distinct : goal.write_items-requires-6-clause-distinct
write_items-requires-6-clause-distinct c =
    rw c.as_slice-6.ensures (IsDistinct-from_sorted nat_cmp (map (λ limit. limit.iid) c.args.settings.now.limits) c.requires.instances)

made : (c : goal.In_ok-put_array-6) → IsTopTable c.args.settings.now (table_view c.put_array-6.new.table)
made c = record {
  front = table_view c.in_ok-top.top;
  locators = array_view c.in_ok-locators.locators;
  attachments = array_view c.in_ok-attachments.attachments;
  databases = array_view c.in_ok-databases.databases;
  mappings = array_view c.in_ok-mappings.mappings;
  changes = array_view c.in_ok-changes.changes;
  limits = array_view c.in_ok-limits.limits;
  fronts = c.in_ok-top.ensures;
  own = subst (λ items. IsArrayOf locator_in (λ own. own.addr) addr_order 1 items (array_view c.in_ok-locators.locators)) c.as_slice.ensures (c.in_ok-locators.ensures tt (λ k d less. tt));
  attached = subst (λ items. IsArrayOf attachment_in (λ attachment. attachment.vlan) nat_cmp 1 items (array_view c.in_ok-attachments.attachments)) c.as_slice-2.ensures (c.in_ok-attachments.ensures tt (λ k d less. tt));
  based = subst (λ items. IsArrayOf database_in (λ database. database.eid) eid_order 1 items (array_view c.in_ok-databases.databases)) c.as_slice-3.ensures (c.in_ok-databases.ensures tt (λ k d less. tt));
  mapped = subst (λ items. IsArrayOf mapping_in (λ mapping. mapping.eid) eid_order 3 items (array_view c.in_ok-mappings.mappings)) c.as_slice-4.ensures (c.in_ok-mappings.ensures tt (λ k d less. tt));
  changed = subst (λ items. IsArrayOf (change_in c.args.settings.now.locators) change_key change_order 1 items (array_view c.in_ok-changes.changes)) c.as_slice-5.ensures (c.in_ok-changes.ensures c.args.settings.now.locators (rw c.as_slice-5.ensures c.requires.changes));
  limited = subst (λ items. IsArrayOf (limit_in c.args.settings.now.attachments) (λ limit. limit.iid) nat_cmp 1 items (array_view c.in_ok-limits.limits)) c.as_slice-6.ensures (c.in_ok-limits.ensures c.args.settings.now.attachments (rw c.as_slice-6.ensures c.requires.limits));
  members = search rules;
}

pub returns-clause-reads : goal.returns-clause-reads
returns-clause-reads c few = settings_in-top c.args.settings.now (table_view c.put_array-6.new.table) (made c) c.requires few

pub returns-clause-plain : goal.returns-clause-plain
returns-clause-plain c = top-plain c.args.settings.now (table_view c.put_array-6.new.table) (made c)
