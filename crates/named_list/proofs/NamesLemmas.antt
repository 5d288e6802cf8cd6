-- How often a name is in a list.
use Rattle.std.proofs.Common.{◌≡◌, ◌≢◌, ℕ, suc, ◌+◌, ◌<◌, ◌≤◌, ◌==◌, Bool, cond, List, [], ◌∷◌, ◌++◌, length, get_or, set, take, drop, All, refl, sym, ap, ◌∙◌, arith}
use Rattle.std.specs.List.{insert, remove}
use Rattle.std.proofs.lemmas.Bool.{eq-eqb, ne_eqb}
use Rattle.std.proofs.lemmas.List.{set_split, set-get_or}
use Rattle.std.proofs.lemmas.List.Sums.{sum_by-append, sum_by-cons, sum_by-take-drop}
use Rattle.std.proofs.lemmas.List.Elements.{All-head, All-tail, All-nil, All-cons, All-append}
use Rattle.named_list.specs.Named.{times}

abbrev pub one_if : Bool → ℕ
one_if b = cond b 1 0

pub times-more : (name first : ℕ) (names : List ℕ) → times name (first ∷ names) ≡ one_if (first == name) + times name names
times-more name first names = sum_by-cons (λ n. one_if (n == name)) first names

-- a name that isn't in the list differs from each there
pub times_none : (name : ℕ) (names : List ℕ) → times name names ≡ 0 → All (λ n. n ≢ name) names
times_none name [] none = All-nil (λ n. n ≢ name)
times_none name (first ∷ names) none =
    All-cons (λ n. n ≢ name) first names
    (λ same. let one : one_if (first == name) ≡ 1 = ap one_if (eq-eqb first name same) in omega (arith, none, times-more name first names, one))
    (times_none name names (omega (arith, none, times-more name first names)))

pub none_times : (name : ℕ) (names : List ℕ) → All (λ n. n ≢ name) names → times name names ≡ 0
none_times name [] differ = refl
none_times name (first ∷ names) differ =
    let zero_is : one_if (first == name) ≡ 0 = ap one_if (ne_eqb first name (All-head (λ n. n ≢ name) first names differ)) in
    let rest = none_times name names (All-tail (λ n. n ≢ name) first names differ) in
    omega (arith, times-more name first names, zero_is, rest)

-- the list as what stands before a place, the name there, and what stands behind
pub names_split : (names : List ℕ) (i name : ℕ) → i < length names → name ≡ get_or names i name → names ≡ take i names ++ name ∷ drop (suc i) names
names_split names i name within is =
    sym (set-get_or names i name) ∙ ap (set names i) (sym is) ∙ set_split names i name within

pub times-insert : (n name : ℕ) (names : List ℕ) (i : ℕ) → times n (insert names i name) ≡ one_if (name == n) + times n names
times-insert n name names i =
    let f : ℕ → ℕ = λ m. one_if (m == n) in
    omega (arith, sum_by-append f (take i names) (name ∷ drop i names), sum_by-cons f name (drop i names), sum_by-take-drop f names i)

pub times-remove : (n name : ℕ) (names : List ℕ) (i : ℕ) → i < length names → name ≡ get_or names i name → times n names ≡ one_if (name == n) + times n (remove names i)
times-remove n name names i within is =
    let f : ℕ → ℕ = λ m. one_if (m == n) in
    omega (arith, ap (times n) (names_split names i name within is), sum_by-append f (take i names) (name ∷ drop (suc i) names), sum_by-cons f name (drop (suc i) names), sum_by-append f (take i names) (drop (suc i) names))

-- where none stands twice, the name at a place stands neither before nor behind it
module _ (name : ℕ) (names : List ℕ) (i : ℕ) (once : (n : ℕ) → times n names ≤ 1) (within : i < length names) (is : name ≡ get_or names i name) where
  none_both : times name (take i names) + times name (drop (suc i) names) ≡ 0
  none_both =
      let one : one_if (name == name) ≡ 1 = ap one_if (eq-eqb name name refl) in
      omega (arith, once name, times-remove name name names i within is, one, sum_by-append (λ m. one_if (m == name)) (take i names) (drop (suc i) names))

  pub front_differs : All (λ n. n ≢ name) (take i names)
  front_differs = times_none name (take i names) (omega (arith, none_both))

  pub behind_differs : All (λ n. n ≢ name) (drop (suc i) names)
  behind_differs = times_none name (drop (suc i) names) (omega (arith, none_both))

  pub others_differ : All (λ n. n ≢ name) (remove names i)
  others_differ = All-append (λ n. n ≢ name) (take i names) (drop (suc i) names) front_differs behind_differs
