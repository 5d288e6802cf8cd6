-- Arrays of tables that read as items, made by one push after another.
use Rattle.std.proofs.Common.{◌≡◌, ℕ, zero, suc, ◌+◌, ◌<◌, ◌≤◌, true, false, List, [], ◌∷◌, ◌++◌, length, get_or, take, map, Result, Ok, Err, BTreeMap, String, Global, Ordering, is_eq, refl, sym, ap, ◌∙◌, subst, arith, length-append}
use Rattle.std.proofs.lemmas.Bool.{and_from, and_parts}
use Rattle.std.proofs.lemmas.List.{take_more}
use Rattle.std.specs.List.{AllByRecursion, IsDistinct, list_any}
use Rattle.std.specs.Ordering.{eq_by_cmp}
use Rattle.toml.proofs.Views.{items_view-push, view-Table}
use Rattle.toml.specs.Data.{Data, table, Items, no_items, item, Members, as_table, push_item, depth, has_valid_dates, items_depth, items_have_valid_dates}
use Rattle.toml.specs.View.{items_view, table_view}
use Rattle.toml.specs.declared.value.Value.{Value, Table}
use Rattle.lisp_settings.specs.Fields.{if_ok, taken}
use Rattle.lisp_settings.specs.Lists.{count, distinct, each}
use Rattle.lisp_settings.specs.Places.{within}
use Rattle.lisp_settings.specs.Values.{are_tables}
use Rattle.lisp_settings.specs.Writing.{IsArrayOf, IsPlain}
use Rattle.lisp_settings.specs.declared.fault.SettingsFault.{SettingsFault}
use Rattle.lisp_settings.proofs.ListLemmas.{each-new}

-- one table more
are_tables-push : (array : Items) (inner : Members) → are_tables array ≡ true → are_tables (push_item array (table inner)) ≡ true
are_tables-push no_items inner all = refl
are_tables-push (item value more) inner all =
    let (first, rest) = and_parts _ (are_tables more) all in
    and_from _ _ first (are_tables-push more inner rest)

-- one value more
pub count-push : (array : Items) (value : Data) → count (push_item array value) ≡ suc (count array)
count-push no_items value = refl
count-push (item first more) value = ap suc (count-push more value)

-- one value more that nests no deeper
pub items_depth-push : (most : ℕ) (array : Items) (value : Data) → items_depth array ≤ most → depth value ≤ most → items_depth (push_item array value) ≤ most
items_depth-push most no_items value before here = omega arith
items_depth-push most (item first more) value before here = omega (arith, items_depth-push most more value (omega arith) here)

-- one value more with dates that are ones
pub dates-push : (array : Items) (value : Data) → items_have_valid_dates array ≡ true → has_valid_dates value ≡ true → items_have_valid_dates (push_item array value) ≡ true
dates-push no_items value before here = and_from _ _ here refl
dates-push (item first more) value before here =
    let (one, rest) = and_parts (has_valid_dates first) (items_have_valid_dates more) before in
    and_from _ _ one (dates-push more value rest here)

-- what comes of another next step, where there was no fault
pub bound : {A B : Type 0} (r : Result A SettingsFault) (f g : A → Result B SettingsFault) (x y : B) → ((a : A) → f a ≡ Ok x → g a ≡ Ok y) → if_ok f r ≡ Ok x → if_ok g r ≡ Ok y
bound (Ok a) f g x y next is = next a is
bound (Err fault) f g x y next is = cc

module _ {A K : Type 0} (read : Members → Result A SettingsFault) (key : A → K) (order : K → K → Ordering) where
  -- a table behind those that were read
  each-push : (list : List ℕ) (earlier : List A) (array : Items) (inner : Members) (items : List A) (next : A) → each list read key order earlier array ≡ Ok items → read inner ≡ Ok next → list_any (λ old. is_eq (order (key old) (key next))) items ≡ false → each list read key order earlier (push_item array (table inner)) ≡ Ok (items ++ next ∷ [])
  each-push list earlier no_items inner items next before reads new =
      let same : earlier ≡ items = cc in
      let here = subst (λ l. list_any (λ old. is_eq (order (key old) (key next))) l ≡ false) (sym same) new in
      each-new list read key order earlier (length earlier) (table inner) no_items next (key next) refl refl (ap (within list (length earlier)) reads) here ∙ ap (λ l. Ok (l ++ next ∷ [])) same
  each-push list earlier (item value more) inner items next before reads new =
      bound (taken list (as_table value)) _ _ items (items ++ next ∷ []) (λ first.
      bound (within list (length earlier) (read first)) _ _ items (items ++ next ∷ []) (λ one.
      bound (distinct list read key order earlier one) _ _ items (items ++ next ∷ []) (λ all is.
      each-push list all more inner items next is reads new))) before

  -- no items
  array_none : (most : ℕ) → IsArrayOf read key order most [] no_items
  array_none most = record { tables = refl; number = refl; reads = λ list. refl; depth = omega arith; dates = refl }

  -- one item more
  array_push : (nested : ℕ) (items : List A) (array : Items) (inner : Members) (next : A) → IsArrayOf read key order (suc nested) items array → read inner ≡ Ok next → IsPlain nested inner → list_any (λ old. is_eq (order (key old) (key next))) items ≡ false → IsArrayOf read key order (suc nested) (items ++ next ∷ []) (push_item array (table inner))
  array_push nested items array inner next is reads plain new = record {
    tables = are_tables-push array inner is.tables;
    number = count-push array (table inner) ∙ omega (arith, is.number, length-append items (next ∷ []));
    reads = λ list. each-push list [] array inner items next (is.reads list) reads new;
    depth = items_depth-push (suc nested) array (table inner) is.depth (omega (arith, plain.depth));
    dates = dates-push array (table inner) is.dates plain.dates;
  }

  -- the first key of keys that differ
  head_apart : (k : K) (items : List A) (i : ℕ) (d : A) → AllByRecursion (λ y. eq_by_cmp order k y ≡ false) (map key items) → i < length items → is_eq (order k (key (get_or items i d))) ≡ false
  head_apart k [] i d apart below = absurd (omega arith)
  head_apart k (first ∷ items) zero d apart below = apart.0
  head_apart k (first ∷ items) (suc i) d apart below = head_apart k items i d apart.1 (omega arith)

  -- none before an item has its key
  new_key : (items : List A) (i : ℕ) (d : A) → IsDistinct (eq_by_cmp order) (map key items) → i < length items → list_any (λ old. is_eq (order (key old) (key (get_or items i d)))) (take i items) ≡ false
  unfolding IsDistinct
  new_key [] i d apart below = absurd (omega arith)
  new_key (first ∷ items) zero d apart below = refl
  new_key (first ∷ items) (suc i) d apart below =
      rw (head_apart (key first) items i d apart.0 (omega arith), new_key items i d apart.1 (omega arith)) refl

  -- one table more, of the next item
  pub array_more : (nested : ℕ) (items : List A) (i : ℕ) (next : A) (values pushed : List Value) (t : BTreeMap (String Global) Value) → i < length items → next ≡ get_or items i next → IsDistinct (eq_by_cmp order) (map key items) → IsArrayOf read key order (suc nested) (take i items) (items_view values) → pushed ≡ values ++ Table t ∷ [] → read (table_view t) ≡ Ok next → IsPlain nested (table_view t) → IsArrayOf read key order (suc nested) (take (i + 1) items) (items_view pushed)
  array_more nested items i next values pushed t below at apart is all reads plain =
      let new = subst (λ n. list_any (λ old. is_eq (order (key old) (key n))) (take i items) ≡ false) (sym at) (new_key items i next apart below) in
      let taken_is : take (i + 1) items ≡ take i items ++ next ∷ [] = take_more items i next below ∙ ap (λ n. take i items ++ n ∷ []) (sym at) in
      let array_is : items_view pushed ≡ push_item (items_view values) (table (table_view t)) = ap items_view all ∙ items_view-push values (Table t) ∙ ap (push_item (items_view values)) (view-Table t) in
      rw (taken_is, array_is) (array_push nested (take i items) (items_view values) (table_view t) next is reads plain new)

  -- none yet
  pub array_empty : (most : ℕ) (values : List Value) → values ≡ [] → IsArrayOf read key order most [] (items_view values)
  array_empty most values none = rw none (array_none most)
