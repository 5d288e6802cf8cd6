-- The demands of the router on its own site.
use Rattle.std.specs.Prelude.{◌≤◌, length, map}
use Rattle.std.specs.List.{All}
use Rattle.std.specs.List.Sorted.{IsStrictlySortedBy}
use Rattle.mapping_records.specs.Orders.{eid_order}
use Rattle.lisp_settings.specs.Lawful.{IsLawfulDatabase}
use Rattle.lisp_settings.specs.Limits.{most_databases}
use Rattle.lisp_settings.specs.declared.settings.Settings.{Settings}
use Rattle.router_model.specs.Limits.{most_locators}

-- a site of lawful settings, whichever own locators are up, and however many steps the versions are on
pub record IsSite (site : Settings) : Type 0 where
  pub ttl : (1 ≤ site.ttl) × (site.ttl ≤ 4294967294)
  pub few_locators : length site.locators ≤ most_locators
  pub few_databases : length site.databases ≤ most_databases
  pub databases : All IsLawfulDatabase site.databases
  pub eids : IsStrictlySortedBy eid_order (map (λ mapping. mapping.eid) site.mappings)
