-- Tries and their roots, before and after a pair is put or taken under one.
use Rattle.std.specs.Prelude.{◌≡◌, ◌+◌, List, length, Option}
use Rattle.mapping_records.specs.declared.eid.Eid.{Eid}
use Rattle.node_store.specs.Store.{Store}
use Rattle.prefix_table.specs.declared.node.Node.{Node}
use Rattle.prefix_table.specs.declared.node.Root.{Root}
use Rattle.prefix_table.specs.Pairs.{value_in}
use Rattle.prefix_table.specs.Table.{pairs_under, size_under, IsForest}

-- the pairs under roots changed at an EID: the roots then (`after`), and the EID's value before (`was`)
pub record EditedUnder {V : Type 0} (old new : Store (Node V)) (roots after : List Root) (change : List (Eid × V) → List (Eid × V)) (eid : Eid) (was : Option V) : Type 0 where
  pub forest : IsForest new after
  pub pairs : pairs_under new after ≡ change (pairs_under old roots)
  pub found : was ≡ value_in eid (pairs_under old roots)
  pub rooms : new.rooms + size_under new after ≡ old.rooms + size_under old roots
  pub slots : length new.slots ≡ length old.slots
