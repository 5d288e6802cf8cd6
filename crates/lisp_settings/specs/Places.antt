-- The keys of faults: paths of keys joined by dots, with positions in lists from 0.
use Rattle.std.specs.Prelude.{ℕ, List, ◌∷◌, ◌++◌, Result, Ok, Err}
use Rattle.std.specs.Fmt.{decimal}
use Rattle.lisp_settings.specs.declared.fault.SettingsFault.{SettingsFault}
use Rattle.lisp_settings.specs.declared.fault.SettingsFault.TheVariants.{NotToml, UnknownKey, Missing, BadValue, Duplicate, TooMany, TooLong, Memory}

-- the path to an item of a list: `database.2`
abbrev pub item_key : List ℕ → ℕ → List ℕ
item_key list position = list ++ (46 ∷ decimal position)

-- the path to a key of an item of a list: `mapping.3.iid`
abbrev pub inner_key : List ℕ → ℕ → List ℕ → List ℕ
inner_key list position key = item_key list position ++ (46 ∷ key)

-- the fault of an item, with its path from the table that has the list
abbrev pub fault_within : List ℕ → ℕ → SettingsFault → SettingsFault
fault_within list position (UnknownKey key) = UnknownKey (inner_key list position key)
fault_within list position (Missing key) = Missing (inner_key list position key)
fault_within list position (BadValue key) = BadValue (inner_key list position key)
fault_within list position (Duplicate key) = Duplicate (inner_key list position key)
fault_within list position (TooMany key) = TooMany (inner_key list position key)
fault_within list position NotToml = NotToml
fault_within list position TooLong = TooLong
fault_within list position Memory = Memory

-- the outcome of reading an item, with a fault's path from the table that has the list
abbrev pub within : {A : Type 0} → List ℕ → ℕ → Result A SettingsFault → Result A SettingsFault
within list position (Ok value) = Ok value
within list position (Err fault) = Err (fault_within list position fault)
