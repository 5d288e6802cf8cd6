-- Sums of limits: what is stated of different instances, and equal parts of what is left.
use Rattle.std.proofs.Common.{◌≡◌, ℕ, ◌+◌, ◌*◌, ◌/◌, ◌≤◌, ◌<◌, List, [], ◌∷◌, map, Option, Some, None, cond, Less, refl, sym, ap, arith, inl, inr, is_none, unwrap_or, count_by, sum_by, eqb-true, ne_eqb}
use Rattle.std.proofs.Math.Nat.{le_trans, mul-div-le, suc-mul}
use Rattle.std.proofs.lemmas.Bool.{cases_Bool}
use Rattle.std.proofs.lemmas.Cmp.{ranked}
use Rattle.std.proofs.lemmas.List.Sums.{sum_by-cons}
use Rattle.std.proofs.lemmas.Nat.{mul-le}
use Rattle.std.specs.Bool.{◌==◌}
use Rattle.std.specs.List.{AllByRecursion}
use Rattle.std.specs.List.Sorted.{IsStrictlySortedBy}
use Rattle.std.specs.Option.{option_map_or}
use Rattle.std.specs.Ordering.{nat_cmp}
use Rattle.lisp_settings.specs.Instances.{stated}
use Rattle.lisp_settings.specs.declared.settings.LimitItem.{LimitItem}

-- a number counted where an instance is this one
abbrev counted : ℕ → ℕ → ℕ → ℕ
counted iid n other = cond (iid == other) n 0

-- it isn't counted among greater instances
counted_above : (iid n : ℕ) (iids : List ℕ) → AllByRecursion (λ other. nat_cmp iid other ≡ Less) iids → sum_by (counted iid n) iids ≡ 0
counted_above iid n [] above = refl
counted_above iid n (other ∷ more) above =
    let less : iid < other = ranked iid other _ (sym above.0) in
    let none : counted iid n other ≡ 0 = rw (ne_eqb iid other (λ same. omega (arith, less, same))) refl in
    omega (arith, sum_by-cons (counted iid n) other more, none, counted_above iid n more above.1)

-- and once at most among different ones
counted_once : (iid n : ℕ) (iids : List ℕ) → IsStrictlySortedBy nat_cmp iids → sum_by (counted iid n) iids ≤ n
unfolding IsStrictlySortedBy
counted_once iid n [] sorted = omega arith
counted_once iid n (other ∷ more) sorted =
    elim (cases_Bool (iid == other)) [
      | inl this ↦
          let here : counted iid n other ≡ n = rw this refl in
          let above : AllByRecursion (λ next. nat_cmp iid next ≡ Less) more = rw (eqb-true iid other this) sorted.0 in
          omega (arith, sum_by-cons (counted iid n) other more, here, counted_above iid n more above)
      | inr another ↦
          let none : counted iid n other ≡ 0 = rw another refl in
          omega (arith, sum_by-cons (counted iid n) other more, none, counted_once iid n more sorted.1)
    ]

module _ (part : LimitItem → ℕ) where
  -- what is stated of an instance, none where nothing is
  abbrev stated_part : List LimitItem → ℕ → ℕ
  stated_part limits iid = option_map_or part (stated limits iid) 0

  nothing_stated : (iids : List ℕ) → sum_by (stated_part []) iids ≡ 0
  nothing_stated [] = refl
  nothing_stated (iid ∷ more) = omega (arith, sum_by-cons (stated_part []) iid more, nothing_stated more)

  -- one limit more states no more than itself
  one_more : (limit : LimitItem) (others : List LimitItem) (iid : ℕ) → stated_part (limit ∷ others) iid ≤ counted limit.iid (part limit) iid + stated_part others iid
  one_more limit others iid =
      elim (cases_Bool (limit.iid == iid)) [
        | inl this ↦ rw this (omega arith)
        | inr another ↦ rw another (omega arith)
      ]

  more_stated : (limit : LimitItem) (others : List LimitItem) (iids : List ℕ) → sum_by (stated_part (limit ∷ others)) iids ≤ sum_by (counted limit.iid (part limit)) iids + sum_by (stated_part others) iids
  more_stated limit others [] = omega arith
  more_stated limit others (iid ∷ more) =
      omega (arith, sum_by-cons (stated_part (limit ∷ others)) iid more, sum_by-cons (counted limit.iid (part limit)) iid more, sum_by-cons (stated_part others) iid more, one_more limit others iid, more_stated limit others more)

  -- what is stated of different instances is no more than what is stated in all
  pub stated_within : (limits : List LimitItem) (iids : List ℕ) → IsStrictlySortedBy nat_cmp iids → sum_by (stated_part limits) iids ≤ sum_by part limits
  stated_within [] iids sorted = omega (arith, nothing_stated iids)
  stated_within (limit ∷ others) iids sorted =
      omega (arith, more_stated limit others iids, counted_once limit.iid (part limit) iids sorted, stated_within others iids sorted, sum_by-cons part limit others)

  -- instances of which nothing is stated are given a part each
  given_one : (found : Option LimitItem) (given : LimitItem) (n q rest : ℕ) → part given ≡ q → part (unwrap_or found given) + (rest + n * q) ≡ (option_map_or part found 0 + rest) + (cond (is_none found) 1 0 + n) * q
  given_one (Some limit) given n q rest is = omega arith
  given_one None given n q rest is = omega (arith, is, suc-mul n q)

  given_each : (limits : List LimitItem) (given : ℕ → LimitItem) (q : ℕ) → ((iid : ℕ) → part (given iid) ≡ q) → (iids : List ℕ) → sum_by part (map (λ iid. unwrap_or (stated limits iid) (given iid)) iids) ≡ sum_by (stated_part limits) iids + count_by (λ iid. is_none (stated limits iid)) iids * q
  given_each limits given q is [] = omega arith
  given_each limits given q is (iid ∷ more) =
      let this : LimitItem = unwrap_or (stated limits iid) (given iid) in
      let rest = map (λ iid. unwrap_or (stated limits iid) (given iid)) more in
      omega (arith, sum_by-cons part this rest, sum_by-cons (stated_part limits) iid more, ap (λ n. n * q) (sum_by-cons (λ iid. cond (is_none (stated limits iid)) 1 0) iid more), given_one (stated limits iid) (given iid) (count_by (λ iid. is_none (stated limits iid)) more) q (sum_by (stated_part limits) more) (is iid), given_each limits given q is more)

  -- all of them are no more than what is stated, and what is left
  pub given_within : (limits : List LimitItem) (given : ℕ → LimitItem) (q left : ℕ) → ((iid : ℕ) → part (given iid) ≡ q) → (iids : List ℕ) → IsStrictlySortedBy nat_cmp iids → q ≤ left / count_by (λ iid. is_none (stated limits iid)) iids → sum_by part (map (λ iid. unwrap_or (stated limits iid) (given iid)) iids) ≤ sum_by part limits + left
  given_within limits given q left is iids sorted few =
      let count = count_by (λ iid. is_none (stated limits iid)) iids in
      let shares : count * q ≤ left = le_trans (mul-le count q count (left / count) (omega arith) few) (mul-div-le left count) in
      omega (arith, given_each limits given q is iids, stated_within limits iids sorted, shares)
