-- What holds of items that were read.
use Rattle.std.proofs.Common.{◌≡◌, ap₂, ◌||◌, ℕ, suc, ◌+◌, ◌≤◌, ◌==◌, nat_le, Bool, List, [], ◌∷◌, ◌++◌, length, length-append, map, All, Option, Some, None, IfSome, Result, Ok, Err, IfOk, Ordering, is_eq, refl, sym, ap, subst, ◌∙◌, arith, leb-true}
use Rattle.std.proofs.lemmas.Bool.{cond_both, eqb-false}
use Rattle.std.proofs.lemmas.Cmp.{eq_by_cmp_equiv}
use Rattle.std.proofs.lemmas.List.{map-append}
use Rattle.std.proofs.lemmas.List.Elements.{All-nil, All-push}
use Rattle.std.proofs.lemmas.Map.Keys.{IsDistinct-push}
use Rattle.std.proofs.lemmas.Result.{IfOk-weaker}
use Rattle.std.specs.Cmp.{IsTotalOrder}
use Rattle.std.specs.List.{list_any, IsDistinct}
use Rattle.std.specs.Ordering.{eq_by_cmp}
use Rattle.toml.specs.Data.{Data, Items, no_items, item, Members, get_member, as_table}
use Rattle.lisp_settings.specs.Fields.{if_ok, taken, value_at, value_or, required, optional}
use Rattle.lisp_settings.specs.Lists.{count, few_items, some_items, distinct, each, any_number, one_or_more}
use Rattle.lisp_settings.specs.Places.{item_key, within}
use Rattle.lisp_settings.specs.Values.{tables}
use Rattle.lisp_settings.specs.declared.fault.SettingsFault.{SettingsFault}
use Rattle.lisp_settings.specs.declared.fault.SettingsFault.TheVariants.{Missing, Duplicate, TooMany}

-- what asks nothing holds of each result
pub IfOk-any : {A : Type 0} (r : Result A SettingsFault) → IfOk r (λ a. Unit {0})
IfOk-any (Ok a) = tt
IfOk-any (Err fault) = tt

-- what comes after a step of which nothing is asked
pub pass : {A B : Type 0} (Q : B → Type 0) (r : Result A SettingsFault) (next : A → Result B SettingsFault) → ((a : A) → IfOk (next a) Q) → IfOk (if_ok next r) Q
pass Q (Ok a) next after = after a
pass Q (Err fault) next after = tt

-- what comes after a step that gives what is asked
pub step : {A B : Type 0} (P : A → Type 0) (Q : B → Type 0) (r : Result A SettingsFault) (next : A → Result B SettingsFault) → IfOk r P → ((a : A) → P a → IfOk (next a) Q) → IfOk (if_ok next r) Q
step P Q (Ok a) next holds after = after a holds
step P Q (Err fault) next holds after = tt

taken-holds : {A : Type 0} (P : A → Type 0) (key : List ℕ) (read : Option A) → IfSome read P → IfOk (taken key read) P
taken-holds P key (Some value) holds = holds
taken-holds P key None holds = tt

-- what holds of each value that is read
pub required-holds : {A : Type 0} (P : A → Type 0) (key : List ℕ) (read : Data → Option A) (table : Members) → ((value : Data) → IfSome (read value) P) → IfOk (required key read table) P
required-holds P key read table holds = pass P (value_at key (get_member key table)) (λ value. taken key (read value)) (λ value. taken-holds P key (read value) (holds value))

value_or-holds : {A : Type 0} (P : A → Type 0) (key : List ℕ) (read : Data → Option A) (default : A) (value : Option Data) → P default → ((value : Data) → IfSome (read value) P) → IfOk (value_or key read default value) P
value_or-holds P key read default (Some value) first holds = taken-holds P key (read value) (holds value)
value_or-holds P key read default None first holds = first

-- what holds of the default and of each value that is read
pub optional-holds : {A : Type 0} (P : A → Type 0) (key : List ℕ) (read : Data → Option A) (default : A) (table : Members) → P default → ((value : Data) → IfSome (read value) P) → IfOk (optional key read default table) P
optional-holds P key read default table first holds = value_or-holds P key read default (get_member key table) first holds

within-holds : {A : Type 0} (P : A → Type 0) (list : List ℕ) (position : ℕ) (r : Result A SettingsFault) → IfOk r P → IfOk (within list position r) P
within-holds P list position (Ok value) holds = holds
within-holds P list position (Err fault) holds = tt

pub few_items-few : (list : List ℕ) (most : ℕ) (items : Items) → IfOk (few_items list most items) (λ few. (few ≡ items) × (count few ≤ most))
few_items-few list most items =
    cond_both (nat_le (count items) most) (Ok items) (Err (TooMany list)) (λ r. IfOk r (λ few. (few ≡ items) × (count few ≤ most))) (λ few. (refl, leb-true (count items) most few)) (λ many. tt)

some_items-some : (list : List ℕ) (items : Items) → IfOk (some_items list items) (λ some. 1 ≤ count some)
some_items-some list items =
    cond_both (count items == 0) (Err (Missing list)) (Ok items) (λ r. IfOk r (λ some. 1 ≤ count some)) (λ none. tt) (λ some. omega (arith, eqb-false (count items) 0 some))

-- n items with different keys, of each of which P holds
pub record AreRead {A K : Type 0} (key : A → K) (order : K → K → Ordering) (P : A → Type 0) (n : ℕ) (items : List A) : Type 0 where
  pub all : All P items
  pub number : length items ≡ n
  pub distinct : IsDistinct (eq_by_cmp order) (map key items)

-- items, so many at most
pub record AreFew {A K : Type 0} (key : A → K) (order : K → K → Ordering) (P : A → Type 0) (most : ℕ) (items : List A) : Type 0 where
  pub all : All P items
  pub few : length items ≤ most
  pub distinct : IsDistinct (eq_by_cmp order) (map key items)

module _ {A K : Type 0} (list : List ℕ) (read : Members → Result A SettingsFault) (key : A → K) (order : K → K → Ordering) (total : IsTotalOrder order) (P : A → Type 0) (reads : (table : Members) → IfOk (read table) P) where
  -- a key that no earlier item has, from either side
  not_earlier : (k : K) (earlier : List A) → list_any (eq_by_cmp order k) (map key earlier) ≡ list_any (λ old. is_eq (order (key old) k)) earlier
  not_earlier k [] = refl
  not_earlier k (old ∷ earlier) = ap₂ (λ (a b : Bool). a || b) ((eq_by_cmp_equiv total).symm k (key old)) (not_earlier k earlier)

  distinct-read : (n : ℕ) (earlier : List A) (next : A) → AreRead key order P n earlier → P next → IfOk (distinct list read key order earlier next) (AreRead key order P (suc n))
  distinct-read n earlier next were holds =
      cond_both (list_any (λ old. is_eq (order (key old) (key next))) earlier) (Err (Duplicate (item_key list (length earlier)))) (Ok (earlier ++ next ∷ [])) (λ r. IfOk r (AreRead key order P (suc n)))
      (λ old. tt)
      (λ new. record {
        all = All-push P earlier next were.all holds;
        number = length-append earlier (next ∷ []) ∙ omega (arith, were.number);
        distinct = subst (IsDistinct (eq_by_cmp order)) (sym (map-append key earlier (next ∷ []))) (IsDistinct-push (eq_by_cmp_equiv total) (map key earlier) (key next) were.distinct (not_earlier (key next) earlier ∙ new));
      })

  each-read : (n : ℕ) (earlier : List A) (items : Items) → AreRead key order P n earlier → IfOk (each list read key order earlier items) (AreRead key order P (n + count items))
  each-read n earlier no_items were = subst (λ m. AreRead key order P m earlier) (omega arith) were
  each-read n earlier (item value more) were =
      let Q = AreRead key order P (n + suc (count more)) in
      let same : suc n + count more ≡ n + suc (count more) = omega arith in
      pass Q (taken list (as_table value)) _ (λ table.
      step P Q (within list (length earlier) (read table)) _ (within-holds P list (length earlier) (read table) (reads table)) (λ next holds.
      step (AreRead key order P (suc n)) Q (distinct list read key order earlier next) _ (distinct-read n earlier next were holds) (λ items are.
      subst (λ m. IfOk (each list read key order items more) (AreRead key order P m)) same (each-read (suc n) items more are))))

  none_read : AreRead key order P 0 []
  unfolding IsDistinct
  none_read = record { all = All-nil P; number = refl; distinct = tt }

  few_read : (most : ℕ) (items : Items) → count items ≤ most → IfOk (each list read key order [] items) (λ all. AreFew key order P most all × (length all ≡ count items))
  few_read most items few = IfOk-weaker (each list read key order [] items) _ _ (λ all are. (record { all = are.all; few = omega (arith, are.number); distinct = are.distinct }, are.number ∙ omega arith)) (each-read 0 [] items none_read)

  -- the items of a list
  pub any_number-few : (most : ℕ) (table : Members) → IfOk (any_number list read key order most table) (AreFew key order P most)
  any_number-few most table =
      pass (AreFew key order P most) (value_or list tables no_items (get_member list table)) _ (λ items.
      step _ (AreFew key order P most) (few_items list most items) _ (few_items-few list most items) (λ few are.
      IfOk-weaker (each list read key order [] few) _ _ (λ all both. both.0) (few_read most few are.1)))

  -- the items of a list, of which one is needed
  pub one_or_more-some : (most : ℕ) (table : Members) → IfOk (one_or_more list read key order most table) (λ all. AreFew key order P most all × (1 ≤ length all))
  one_or_more-some most table =
      let Q : List A → Type 0 = λ all. AreFew key order P most all × (1 ≤ length all) in
      pass Q (value_or list tables no_items (get_member list table)) _ (λ items.
      step _ Q (some_items list items) _ (some_items-some list items) (λ some one.
      step _ Q (few_items list most some) _ (few_items-few list most some) (λ few are.
      IfOk-weaker (each list read key order [] few) _ _ (λ all both. (both.0, omega (arith, one, ap count are.0, both.1))) (few_read most few are.1))))
