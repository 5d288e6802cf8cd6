-- Lists of tables, and of nonces, at the keys of a table.
use Rattle.std.specs.Prelude.{ℕ, suc, ◌==◌, nat_le, List, [], ◌∷◌, ◌++◌, length, fold, Result, Ok, Err, if◌then◌else◌}
use Rattle.std.specs.BTreeMap.{insert_entry}
use Rattle.std.specs.List.{list_any}
use Rattle.std.specs.Map.{values_of}
use Rattle.std.specs.Ordering.{is_eq}
use Rattle.std.specs.declared.cmp.Ordering.{Ordering}
use Rattle.toml.specs.Data.{Items, no_items, item, Members, get_member, as_array, as_table}
use Rattle.lisp_settings.specs.Fields.{◌>>=◌, taken, value_or}
use Rattle.lisp_settings.specs.Places.{item_key, within}
use Rattle.lisp_settings.specs.Values.{nonce, tables}
use Rattle.lisp_settings.specs.declared.fault.SettingsFault.{SettingsFault}
use Rattle.lisp_settings.specs.declared.fault.SettingsFault.TheVariants.{Missing, Duplicate, TooMany}

-- the number of items of an array
abbrev pub count : Items → ℕ
count no_items = 0
count (item value more) = suc (count more)

-- the items of a list, or the fault of a missing key where there are none
abbrev pub some_items : List ℕ → Items → Result Items SettingsFault
some_items list items = if count items == 0 then Err (Missing list) else Ok items

-- the items of a list, or the fault `TooMany` where they are more than `most`
abbrev pub few_items : List ℕ → ℕ → Items → Result Items SettingsFault
few_items list most items = if nat_le (count items) most then Ok items else Err (TooMany list)

-- the items in ascending order of their keys; of items with one key the last
abbrev pub ascending : {A K : Type 0} → (A → K) → (K → K → Ordering) → List A → List A
ascending key order items =
    values_of (fold (λ entries next. insert_entry order entries (key next) next) [] items)

module _ {A K : Type 0} (list : List ℕ) (read : Members → Result A SettingsFault)
    (key : A → K) (order : K → K → Ordering) where
  -- the earlier items and one more, or the fault `Duplicate` where an earlier one has its key
  abbrev pub distinct : List A → A → Result (List A) SettingsFault
  distinct earlier next =
      if list_any (λ old. is_eq (order (key old) (key next))) earlier
      then Err (Duplicate (item_key list (length earlier))) else Ok (earlier ++ next ∷ [])

  -- the earlier items and those of an array, read one after another, or the first fault
  abbrev pub each : List A → Items → Result (List A) SettingsFault
  each earlier no_items = Ok earlier
  each earlier (item value more) = do
    table ← taken list (as_table value)
    next ← within list (length earlier) (read table)
    items ← distinct earlier next
    each items more

  -- the items of an array, in ascending order of their keys, or the first fault
  abbrev pub each_ascending : Items → Result (List A) SettingsFault
  each_ascending items = do
    all ← each [] items
    Ok (ascending key order all)

  -- the items of a list of 0 to `most` tables, in the order of the file
  abbrev pub any_number : ℕ → Members → Result (List A) SettingsFault
  any_number most table = do
    items ← value_or list tables no_items (get_member list table)
    few ← few_items list most items
    each [] few

  -- the items of a list of 1 to `most` tables, in the order of the file
  abbrev pub one_or_more : ℕ → Members → Result (List A) SettingsFault
  one_or_more most table = do
    items ← value_or list tables no_items (get_member list table)
    some ← some_items list items
    few ← few_items list most some
    each [] few

  -- the items of a list of 1 to `most` tables, in ascending order of their keys
  abbrev pub some_ascending : ℕ → Members → Result (List A) SettingsFault
  some_ascending most table = do
    items ← one_or_more most table
    Ok (ascending key order items)

  -- the items of a list of 0 to `most` tables, in ascending order of their keys
  abbrev pub any_ascending : ℕ → Members → Result (List A) SettingsFault
  any_ascending most table = do
    items ← any_number most table
    Ok (ascending key order items)

-- the earlier nonces and those of an array, read one after another, or the first fault
abbrev pub each_nonce : List ℕ → List ℕ → Items → Result (List ℕ) SettingsFault
each_nonce list earlier no_items = Ok earlier
each_nonce list earlier (item value more) = do
  next ← taken (item_key list (length earlier)) (nonce value)
  each_nonce list (earlier ++ next ∷ []) more

-- the nonces in the array at a key, at most `most`; none without the key
abbrev pub nonces_at : List ℕ → ℕ → Members → Result (List ℕ) SettingsFault
nonces_at list most table = do
  items ← value_or list as_array no_items (get_member list table)
  few ← few_items list most items
  each_nonce list [] few
