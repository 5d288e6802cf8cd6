-- Lists of items that tables keep of the journal. A journal has its newest entry first.
use Rattle.std.specs.Prelude.{Bool, true, cond, List, [], ◌∷◌, ◌++◌, Option, Some, None, filter, filter_map, option_and_then, option_to_list}

-- a kind of item: the item that an entry begins, an item behind an entry (None: it goes), and putting one in the list
pub record Kind (E I : Type 0) : Type 0 where
  pub begins : E → Option I
  pub step : E → I → Option I
  pub put : I → List I → List I

-- a list with an item, if there is one and it passes the test
abbrev pub placed : {I : Type 0} → (I → Bool) → (I → List I → List I) → Option I → List I → List I
placed test put None items = items
placed test put (Some item) items = cond (test item) (put item items) items

-- the items of a journal that pass a test, such as counting at a moment, with the effects of the entries after them
abbrev pub counting : {E I : Type 0} → Kind E I → (I → Bool) → List E → List I
counting kind test [] = []
counting kind test (e ∷ older) = placed test kind.put (kind.begins e) (filter_map (kind.step e) (counting kind test older))

-- the kept items behind an entry: those that no longer pass the test go, then the entry has its effect
abbrev pub absorb : {E I : Type 0} → Kind E I → (I → Bool) → E → List I → List I
absorb kind test e items = placed test kind.put (kind.begins e) (filter_map (kind.step e) (filter test items))

-- an item after further entries, the oldest of them first; None where one of them takes it away
abbrev pub carried : {E I : Type 0} → Kind E I → List E → I → Option I
carried kind [] item = Some item
carried kind (e ∷ later) item = option_and_then (carried kind later) (kind.step e item)

-- the item that an entry begins, if it passes the test, after further entries
abbrev pub left_of : {E I : Type 0} → Kind E I → (I → Bool) → List E → E → Option I
left_of kind test later e = option_and_then (λ item. cond (test item) (carried kind later item) None) (kind.begins e)

-- the items of a journal that pass a test, found entry by entry, each after the entries behind it (`later`), in the
-- order in which they began
abbrev pub scanned : {E I : Type 0} → Kind E I → (I → Bool) → List E → List E → List I
scanned kind test later [] = []
scanned kind test later (e ∷ older) = scanned kind test (e ∷ later) older ++ option_to_list (left_of kind test later e)

-- a list with an item at its end
abbrev pub last_put : {I : Type 0} → I → List I → List I
last_put item items = items ++ item ∷ []

-- the test that any item passes
abbrev pub any : {I : Type 0} → I → Bool
any item = true
