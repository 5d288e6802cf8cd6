-- Each candidate gets its share of the numbers below the whole.
use Rattle.std.proofs.Common.{◌≡◌, ◌≤◌, ◌+◌, ◌-◌, ◌%◌, ◌==◌, ◌&&◌, ℕ, zero, suc, min, nat_le, nat_lt, Bool, true, false, cond, List, [], ◌∷◌, get_or, sum, Option, Some, None, option_map, refl, ap, ◌∙◌, arith}
use Rattle.std.proofs.lemmas.Bool.Decides.{nat_tests}
use native.Mathlib.Nat.{mod-eq_of_lt}
use Rattle.locator_choice.specs.Choice.{interval_of, shares}
use Rattle.locator_choice.specs.Shares.{choosing, is_index}
use Rattle.locator_choice.specs.declared.choice.Candidate.{Candidate}
use Rattle.locator_choice.proofs.ChoiceLemmas.{sum-more}

-- where the interval of number i begins
abbrev before : List ℕ → ℕ → ℕ
before [] i = 0
before (size ∷ sizes) zero = 0
before (size ∷ sizes) (suc i) = size + before sizes i

-- a number is in an interval
abbrev within : ℕ → ℕ → ℕ → Bool
within start size n = nat_le start n && nat_lt n (start + size)

in-first : (size n : ℕ) → nat_lt n size ≡ true → true ≡ within 0 size n
in-first size n is = grind (arith, nat_tests, is)

past-first : (size n : ℕ) → nat_lt n size ≡ false → false ≡ within 0 size n
past-first size n is = grind (arith, nat_tests, is)

before-others : (size start other n : ℕ) → nat_lt n size ≡ true → false ≡ within (size + start) other n
before-others size start other n is = grind (arith, nat_tests, is)

moved : (size start other n : ℕ) → nat_lt n size ≡ false → within start other (n - size) ≡ within (size + start) other n
moved size start other n is = grind (arith, nat_tests, is)

next-index : (i : ℕ) (o : Option ℕ) → is_index (suc i) (option_map suc o) ≡ is_index i o
next-index i None = refl
next-index i (Some index) = grind (arith, nat_tests)

no-first : (o : Option ℕ) → is_index 0 (option_map suc o) ≡ false
no-first None = refl
no-first (Some index) = past index
  where
    past : (n : ℕ) → (suc n == 0) ≡ false
    past n = grind (arith, nat_tests)

-- the intervals lie end to end
index-within : (sizes : List ℕ) (i n : ℕ) → is_index i (interval_of sizes n) ≡ within (before sizes i) (get_or sizes i 0) n
index-within [] i n = past-first 0 n (none n)
  where
    none : (n : ℕ) → nat_lt n 0 ≡ false
    none n = grind (arith, nat_tests)
index-within (size ∷ sizes) zero n = by (nat_lt n size) refl
  where
    by : (b : Bool) → nat_lt n size ≡ b → is_index 0 (cond b (Some 0) (option_map suc (interval_of sizes (n - size)))) ≡ within 0 size n
    by true is = in-first size n is
    by false is = no-first (interval_of sizes (n - size)) ∙ past-first size n is
index-within (size ∷ sizes) (suc i) n = by (nat_lt n size) refl (index-within sizes i (n - size))
  where
    by : (b : Bool) → nat_lt n size ≡ b → is_index i (interval_of sizes (n - size)) ≡ within (before sizes i) (get_or sizes i 0) (n - size) → is_index (suc i) (cond b (Some 0) (option_map suc (interval_of sizes (n - size)))) ≡ within (size + before sizes i) (get_or sizes i 0) n
    by true is h = (let first : (0 == suc i) ≡ false = grind (arith, nat_tests) in first) ∙ before-others size (before sizes i) (get_or sizes i 0) n is
    by false is h = next-index i (interval_of sizes (n - size)) ∙ h ∙ moved size (before sizes i) (get_or sizes i 0) n is

-- the last interval ends at the whole
ends-within : (sizes : List ℕ) (i : ℕ) → before sizes i + get_or sizes i 0 ≤ sum sizes
ends-within [] i = omega arith
ends-within (size ∷ sizes) zero = let whole = sum-more size sizes in omega (arith, whole)
ends-within (size ∷ sizes) (suc i) = let whole = sum-more size sizes in let rest = ends-within sizes i in omega (arith, whole, rest)

one-more : (start size n : ℕ) → cond (within start size n) 1 0 + min size (n - start) ≡ min size (suc n - start)
one-more start size n = by (within start size n) refl
  where
    by : (b : Bool) → within start size n ≡ b → cond b 1 0 + min size (n - start) ≡ min size (suc n - start)
    by true is = grind (arith, nat_tests, is)
    by false is = grind (arith, nat_tests, is)

-- so many of the numbers below n are in it
choosing-below : (candidates : List Candidate) (i n : ℕ) → n ≤ sum (shares candidates) → choosing candidates i n ≡ min (get_or (shares candidates) i 0) (n - before (shares candidates) i)
choosing-below candidates i zero few = omega arith
choosing-below candidates i (suc n) few =
    let sizes = shares candidates in
    let same : n % sum sizes ≡ n = mod-eq_of_lt few in
    ap (λ (k : ℕ). cond (is_index i (interval_of sizes k)) 1 0 + choosing candidates i n) same
    ∙ ap (λ (b : Bool). cond b 1 0 + choosing candidates i n) (index-within sizes i n)
    ∙ ap (λ (k : ℕ). cond (within (before sizes i) (get_or sizes i 0) n) 1 0 + k) (choosing-below candidates i n (omega (arith, few)))
    ∙ one-more (before sizes i) (get_or sizes i 0) n

pub share-chosen : (candidates : List Candidate) (i : ℕ) → choosing candidates i (sum (shares candidates)) ≡ get_or (shares candidates) i 0
share-chosen candidates i =
    let whole = ends-within (shares candidates) i in
    choosing-below candidates i (sum (shares candidates)) (omega arith) ∙ omega (arith, whole)
