-- Pairs of EIDs and values in ascending order of the EIDs.
use Rattle.std.specs.Prelude.{Bool, IsTrue, List, [], ◌∷◌, AllPairs, Option, Some, None, if◌then◌else◌}
use Rattle.std.specs.Ordering.{is_lt}
use Rattle.mapping_records.specs.Orders.{eid_order}
use Rattle.mapping_records.specs.declared.eid.Eid.{Eid}

-- whether the first EID comes before the second
abbrev pub is_below : Eid → Eid → Bool
is_below a b = is_lt (eid_order a b)

-- each pair's EID comes before those of all later pairs
abbrev pub Ascends : {V : Type 0} → List (Eid × V) → Type 0
Ascends pairs = AllPairs (λ a b. IsTrue (is_below a.0 b.0)) pairs

module _ {V : Type 0} (eid : Eid) where
  -- the pairs with that value for the EID, in its place
  abbrev pub with_pair : V → List (Eid × V) → List (Eid × V)
  with_pair value [] = (eid, value) ∷ []
  with_pair value ((key, old) ∷ rest) =
      if is_below key eid then (key, old) ∷ with_pair value rest
      else if is_below eid key then (eid, value) ∷ ((key, old) ∷ rest)
      else (eid, value) ∷ rest

  -- the pairs without the one of the EID
  abbrev pub without_pair : List (Eid × V) → List (Eid × V)
  without_pair [] = []
  without_pair ((key, old) ∷ rest) =
      if is_below key eid then (key, old) ∷ without_pair rest
      else if is_below eid key then (key, old) ∷ rest
      else rest

  -- the value of the EID, or None
  abbrev pub value_in : List (Eid × V) → Option V
  value_in [] = None
  value_in ((key, old) ∷ rest) =
      if is_below key eid then value_in rest
      else if is_below eid key then None
      else Some old
