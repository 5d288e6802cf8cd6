-- Values at the keys of a table, each read or refused.
use Rattle.std.specs.Prelude.{ℕ, bytes_eq, List, Option, Some, None, Result, Ok, Err, if◌then◌else◌}
use Rattle.std.specs.Cmp.Lexicographic.{slice_cmp}
use Rattle.std.specs.List.{list_any}
use Rattle.std.specs.Ordering.{is_lt, nat_cmp}
use Rattle.toml.specs.Data.{Data, Members, no_members, member, get_member}
use Rattle.lisp_settings.specs.declared.fault.SettingsFault.{SettingsFault}
use Rattle.lisp_settings.specs.declared.fault.SettingsFault.TheVariants.{UnknownKey, Missing, BadValue}

-- a step on the value of a result; a fault stays as it is
abbrev pub if_ok : {A B : Type 0} → (A → Result B SettingsFault) → Result A SettingsFault
    → Result B SettingsFault
if_ok next (Ok value) = next value
if_ok next (Err fault) = Err fault

infixl 10 ◌>>=◌
-- a step on the value of a result, as `do` writes it; a fault stays as it is
abbrev pub ◌>>=◌ : {A B : Type 0} → Result A SettingsFault → (A → Result B SettingsFault)
    → Result B SettingsFault
r >>= next = if_ok next r

-- the lesser of a key and another one, if there is one, in the order of their octets
abbrev pub lesser : List ℕ → Option (List ℕ) → List ℕ
lesser key None = key
lesser key (Some other) = if is_lt (slice_cmp nat_cmp other key) then other else key

-- the least key of a table that isn't a known one
abbrev pub unknown_key : List (List ℕ) → Members → Option (List ℕ)
unknown_key known no_members = None
unknown_key known (member key value more) =
    if list_any (λ name. bytes_eq name key) known
    then unknown_key known more else Some (lesser key (unknown_key known more))

-- the table, or the fault of its unknown key, if there is one
abbrev pub unless_unknown : Members → Option (List ℕ) → Result Members SettingsFault
unless_unknown table None = Ok table
unless_unknown table (Some key) = Err (UnknownKey key)

-- the table, if it has no key but the known ones; else the fault of the least other key
abbrev pub only_keys : List (List ℕ) → Members → Result Members SettingsFault
only_keys known table = unless_unknown table (unknown_key known table)

-- the value that was read at a key, or the fault of a bad value where none was read
abbrev pub taken : {A : Type 0} → List ℕ → Option A → Result A SettingsFault
taken key (Some value) = Ok value
taken key None = Err (BadValue key)

-- the value at a required key, or the fault of a missing key
abbrev pub value_at : List ℕ → Option Data → Result Data SettingsFault
value_at key (Some value) = Ok value
value_at key None = Err (Missing key)

-- the value at a required key of a table, read by `read`; else the fault of a missing key or of a bad value
abbrev pub required : {A : Type 0} → List ℕ → (Data → Option A) → Members → Result A SettingsFault
required key read table = do
  value ← value_at key (get_member key table)
  taken key (read value)

-- the value of a key, read by `read`, or the default without a value; else the fault of a bad value
abbrev pub value_or : {A : Type 0} → List ℕ → (Data → Option A) → A → Option Data
    → Result A SettingsFault
value_or key read default (Some value) = taken key (read value)
value_or key read default None = Ok default

-- the value at a key of a table, read by `read`, or the default without the key; else the fault of a bad value
abbrev pub optional : {A : Type 0} → List ℕ → (Data → Option A) → A → Members
    → Result A SettingsFault
optional key read default table = value_or key read default (get_member key table)
