-- Lists of items by their number.
use Rattle.std.proofs.Common.{◌≡◌, ℕ, suc, ◌+◌, ◌<◌, ◌≤◌, ◌||◌, Bool, true, false, cond, List, [], ◌∷◌, ◌++◌, length, get_or, drop, Option, Some, is_some, Result, Ok, Err, Ordering, is_eq, refl, sym, ap, subst, ◌∙◌, arith, le-leb, eq-eqb, ne_eqb, drop-cons}
use Rattle.std.proofs.Math.Path.{fun_ext}
use Rattle.std.proofs.lemmas.Bool.{lt-leb}
use Rattle.std.proofs.lemmas.List.Folds.{list_any-append}
use Rattle.std.specs.List.{list_any}
use Rattle.toml.specs.Data.{Data, Items, item, Members, as_table}
use Rattle.toml.specs.View.{view, items_view}
use Rattle.lisp_settings.specs.Fields.{if_ok, taken}
use Rattle.lisp_settings.specs.Places.{item_key, within}
use Rattle.lisp_settings.specs.declared.fault.SettingsFault.{SettingsFault}
use Rattle.toml.specs.declared.value.Value.{Value}
use Rattle.lisp_settings.specs.Lists.{count, few_items, some_items, ascending, distinct, each}
use Rattle.lisp_settings.specs.declared.fault.SettingsFault.TheVariants.{Missing, Duplicate, TooMany}

pub count-items_view : (values : List Value) → count (items_view values) ≡ length values
count-items_view [] = refl
count-items_view (value ∷ values) = ap suc (count-items_view values)

-- more items than that
pub few_items-many : (list : List ℕ) (most : ℕ) (values : List Value) → most < length values → few_items list most (items_view values) ≡ Err (TooMany list)
few_items-many list most values many = rw (count-items_view values, lt-leb (length values) most many) refl

-- so many items at most
pub few_items-few : (list : List ℕ) (most : ℕ) (values : List Value) → length values ≤ most → few_items list most (items_view values) ≡ Ok (items_view values)
few_items-few list most values few = rw (count-items_view values, le-leb (length values) most few) refl

-- no item
pub some_items-none : (list : List ℕ) (values : List Value) → length values ≡ 0 → some_items list (items_view values) ≡ Err (Missing list)
some_items-none list values none = rw (count-items_view values, eq-eqb (length values) 0 none) refl

-- an item at least
pub some_items-some : (list : List ℕ) (values : List Value) → (length values ≡ 0 → ⊥) → some_items list (items_view values) ≡ Ok (items_view values)
some_items-some list values some = rw (count-items_view values, ne_eqb (length values) 0 some) refl

-- the values from a position on
pub items_view-drop : (values : List Value) (i : ℕ) (value : Value) → i < length values → value ≡ get_or values i value → items_view (drop i values) ≡ item (view value) (items_view (drop (i + 1) values))
items_view-drop values i value below is =
    let next : suc i ≡ i + 1 = omega arith in
    ap items_view (drop-cons values i value below ∙ ap (λ v. v ∷ drop (suc i) values) (sym is)) ∙ ap (λ n. item (view value) (items_view (drop n values))) next

if_ok-if_ok : {A B C : Type 0} (f : B → Result C SettingsFault) (g : A → Result B SettingsFault) (r : Result A SettingsFault) → if_ok f (if_ok g r) ≡ if_ok (λ x. if_ok f (g x)) r
if_ok-if_ok f g (Ok value) = refl
if_ok-if_ok f g (Err fault) = refl

module _ {A K : Type 0} (list : List ℕ) (reads : Members → Result A SettingsFault) (key : A → K) (order : K → K → Ordering) where
  -- an item that was read comes to the earlier ones, or is a duplicate
  each-item : (earlier : List A) (value : Data) (more : Items) (next : A) → if_ok (λ table. within list (length earlier) (reads table)) (taken list (as_table value)) ≡ Ok next → each list reads key order earlier (item value more) ≡ if_ok (λ items. each list reads key order items more) (distinct list reads key order earlier next)
  each-item earlier value more next read =
      sym (if_ok-if_ok (λ next. if_ok (λ items. each list reads key order items more) (distinct list reads key order earlier next)) (λ table. within list (length earlier) (reads table)) (taken list (as_table value)))
      ∙ ap (if_ok (λ next. if_ok (λ items. each list reads key order items more) (distinct list reads key order earlier next))) read

  pub each-duplicate : (earlier : List A) (position : ℕ) (value : Data) (more : Items) (next : A) (k : K) → position ≡ length earlier → k ≡ key next → if_ok (λ table. within list position (reads table)) (taken list (as_table value)) ≡ Ok next → list_any (λ old. is_eq (order (key old) k)) earlier ≡ true → each list reads key order earlier (item value more) ≡ Err (Duplicate (item_key list position))
  each-duplicate earlier position value more next k here its read old =
      let read_here = subst (λ p. if_ok (λ table. within list p (reads table)) (taken list (as_table value)) ≡ Ok next) here read in
      let old_key : list_any (λ old. is_eq (order (key old) (key next))) earlier ≡ true = subst (λ q. list_any (λ old. is_eq (order (key old) q)) earlier ≡ true) its old in
      each-item earlier value more next read_here ∙ rw old_key (ap (λ p. Err (Duplicate (item_key list p))) (sym here))

  pub each-new : (earlier : List A) (position : ℕ) (value : Data) (more : Items) (next : A) (k : K) → position ≡ length earlier → k ≡ key next → if_ok (λ table. within list position (reads table)) (taken list (as_table value)) ≡ Ok next → list_any (λ old. is_eq (order (key old) k)) earlier ≡ false → each list reads key order earlier (item value more) ≡ each list reads key order (earlier ++ next ∷ []) more
  each-new earlier position value more next k here its read new =
      let read_here = subst (λ p. if_ok (λ table. within list p (reads table)) (taken list (as_table value)) ≡ Ok next) here read in
      let new_key : list_any (λ old. is_eq (order (key old) (key next))) earlier ≡ false = subst (λ q. list_any (λ old. is_eq (order (key old) q)) earlier ≡ false) its new in
      each-item earlier value more next read_here ∙ rw new_key refl

or_cond : (here was : Bool) → cond here true was ≡ (was || (here || false))
or_cond true true = refl
or_cond true false = refl
or_cond false true = refl
or_cond false false = refl

-- one more item that a test may hold of
pub list_any-push : {A : Type 0} (test : A → Bool) (items : List A) (next : A) (was now : Bool) → was ≡ list_any test items → now ≡ cond (test next) true was → now ≡ list_any test (items ++ next ∷ [])
list_any-push test items next was now old is = is ∙ or_cond (test next) was ∙ ap (λ (b : Bool). b || (test next || false)) old ∙ sym (list_any-append test items (next ∷ []))

-- whether there is one behind a change of one
pub is_some-cond : {A : Type 0} (here : Bool) (next : A) (was : Option A) → is_some (cond here (Some next) was) ≡ cond here true (is_some was)
is_some-cond true next was = refl
is_some-cond false next was = refl

-- orders that agree put items in one order
pub ascending-order : {A K : Type 0} (key : A → K) (order other : K → K → Ordering) (items : List A) → ((a b : K) → order a b ≡ other a b) → ascending key order items ≡ ascending key other items
ascending-order key order other items agree = ap (λ o. ascending key o items) (fun_ext (λ a. fun_ext (λ b. agree a b)))
