-- The longest pair of a list that covers an EID and passes a test.
use Rattle.std.specs.Prelude.{◌<◌, Bool, true, false, IsTrue, Some, None, List, All, Contains, Option}
use Rattle.std.specs.Borrow.{Bor}
use Rattle.mapping_records.specs.declared.eid.Eid.{Eid}
use Rattle.mapping_records.specs.Eids.{covers_eid}
use Rattle.prefix_table.specs.Keys.{key_len}

-- the pair behind two references
abbrev pub seen : {V : Type 0} → Bor Eid × Bor V → Eid × V
seen found = (found.0.now, found.1.now)

module _ {V : Type 0} (answers : V → Bool → Type 0) (eid : Eid) where
  -- a pair doesn't cover the EID, or the test refuses its value
  abbrev pub IsRefused : Eid × V → Type 0
  IsRefused pair = IsTrue (covers_eid pair.0 eid) → answers pair.1 false

  -- the pair is one of the list, covers the EID and passes the test, and no longer one does
  pub record IsLongestWhere (pairs : List (Eid × V)) (pair : Eid × V) : Type 0 where
    pub there : Contains pairs pair
    pub covers : IsTrue (covers_eid pair.0 eid)
    pub passes : answers pair.1 true
    pub longest : All (λ other. key_len pair.0 < key_len other.0 → IsRefused other) pairs

-- the best pair after a look at a node: the node's, where its value passes the test, else the best before
pub data After {V : Type 0} (answers : V → Bool → Type 0) (best : Option (Eid × V)) (key : Eid) : Option V → Option (Eid × V) → Type 0 where
  passed : (value : V) → answers value true → After answers best key (Some value) (Some (key, value))
  refused : (value : V) → answers value false → After answers best key (Some value) best
  valueless : After answers best key None best
