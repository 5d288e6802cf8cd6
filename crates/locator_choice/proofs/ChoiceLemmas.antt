-- Shares, and the intervals that they make.
use Rattle.std.proofs.Common.{◌≡◌, ◌<◌, ◌+◌, ◌-◌, ◌==◌, ◌&&◌, ℕ, suc, nat_lt, Bool, true, false, cond, List, [], ◌∷◌, map, fold, sum, length, true≢false, ◌||◌, Option, Some, None, is_some, option_map, refl, ap, sym, subst, ◌∙◌, arith}
use Rattle.std.proofs.lemmas.Bool.{eq-eqb}
use Rattle.std.proofs.lemmas.Bool.Decides.{nat_tests}
use Rattle.std.specs.List.{list_all, list_any}
use Rattle.locator_choice.specs.Choice.{interval_of, one_weight, partaking, share, takes_part}
use Rattle.locator_choice.specs.declared.choice.Candidate.{Candidate}

-- ### the least priority

pub first-part : (c : Candidate) (others : List Candidate) → c.usable ≡ true → 0 < length (partaking c.priority (c ∷ others))
first-part c others usable = subst (λ (b : Bool). 0 < length (cond b (c ∷ partaking c.priority others) (partaking c.priority others))) (sym is) (omega arith)
  where
    is : takes_part c.priority c ≡ true
    is = ap (λ b. b && (c.priority == c.priority)) usable ∙ eq-eqb c.priority c.priority refl

-- ### sums

zero-plus : (n : ℕ) → 0 + n ≡ n
zero-plus n = omega arith

sum-from : (n : ℕ) (l : List ℕ) → fold ◌+◌ n l ≡ n + sum l
sum-from n [] = omega arith
sum-from n (x ∷ l) =
    let first = sum-from (n + x) l in
    let others = sum-from x l in
    let same = ap (λ (m : ℕ). fold ◌+◌ m l) (zero-plus x) in
    omega (first, others, same, arith)

-- a sum is its first number and the rest
pub sum-more : (n : ℕ) (l : List ℕ) → sum (n ∷ l) ≡ n + sum l
sum-more n l = ap (λ (m : ℕ). fold ◌+◌ m l) (zero-plus n) ∙ sum-from n l

-- ### shares

-- where none is usable, none has a share
pub no-shares : (equal : Bool) (priority : ℕ) (candidates : List Candidate) → list_any (λ c. c.usable) candidates ≡ false → sum (map (share equal priority) candidates) ≡ 0
no-shares equal priority [] none = refl
no-shares equal priority (c ∷ others) none = sum-more (share equal priority c) (map (share equal priority) others) ∙ by c.usable refl none (no-shares equal priority others)
  where
    by : (b : Bool) → c.usable ≡ b → (b || list_any (λ d. d.usable) others) ≡ false → (list_any (λ d. d.usable) others ≡ false → sum (map (share equal priority) others) ≡ 0) → share equal priority c + sum (map (share equal priority) others) ≡ 0
    by true is never h = absurd (true≢false never)
    by false is rest h =
        let no : share equal priority c ≡ 0 = ap (λ b. cond (b && (c.priority == priority)) (cond equal 1 c.weight) 0) is in
        let other = h rest in
        omega (no, other, arith)

-- where all count 1, the shares sum to their number
pub equal-shares : (priority : ℕ) (candidates : List Candidate) → sum (map (share true priority) candidates) ≡ length (partaking priority candidates)
equal-shares priority [] = refl
equal-shares priority (c ∷ others) = sum-more (share true priority c) (map (share true priority) others) ∙ by (takes_part priority c) (equal-shares priority others)
  where
    by : (b : Bool) → sum (map (share true priority) others) ≡ length (partaking priority others) → cond b 1 0 + sum (map (share true priority) others) ≡ length (cond b (c ∷ partaking priority others) (partaking priority others))
    by true h = omega (h, arith)
    by false h = omega (h, arith)

-- else to their weights
pub weight-shares : (priority : ℕ) (candidates : List Candidate) → sum (map (share false priority) candidates) ≡ sum (map (λ c. c.weight) (partaking priority candidates))
weight-shares priority [] = refl
weight-shares priority (c ∷ others) = sum-more (share false priority c) (map (share false priority) others) ∙ by (takes_part priority c) (weight-shares priority others)
  where
    by : (b : Bool) → sum (map (share false priority) others) ≡ sum (map (λ d. d.weight) (partaking priority others)) → cond b c.weight 0 + sum (map (share false priority) others) ≡ sum (map (λ d. d.weight) (cond b (c ∷ partaking priority others) (partaking priority others)))
    by true h = ap (λ (n : ℕ). c.weight + n) h ∙ sym (sum-more c.weight (map (λ d. d.weight) (partaking priority others)))
    by false h = zero-plus (sum (map (share false priority) others)) ∙ h

-- of several weights one isn't 0
other-weight : (weight : ℕ) (candidates : List Candidate) → list_all (λ d. d.weight == weight) candidates ≡ false → 0 < weight + sum (map (λ d. d.weight) candidates)
other-weight weight [] all = absurd (true≢false all)
other-weight weight (d ∷ others) all = subst (λ (n : ℕ). 0 < weight + n) (sym (sum-more d.weight (map (λ e. e.weight) others))) (by (d.weight == weight) refl all (other-weight weight others))
  where
    by : (b : Bool) → (d.weight == weight) ≡ b → (b && list_all (λ e. e.weight == weight) others) ≡ false → (list_all (λ e. e.weight == weight) others ≡ false → 0 < weight + sum (map (λ e. e.weight) others)) → 0 < weight + (d.weight + sum (map (λ e. e.weight) others))
    by true is rest h = let more = h rest in omega (more, arith)
    by false is rest h = grind (arith, nat_tests, is)

pub several-weights : (candidates : List Candidate) → one_weight candidates ≡ false → 0 < sum (map (λ c. c.weight) candidates)
several-weights [] one = absurd (true≢false one)
several-weights (c ∷ others) one = subst (λ (n : ℕ). 0 < n) (sym (sum-more c.weight (map (λ d. d.weight) others))) (other-weight c.weight others one)

-- where one takes part, the shares aren't nothing
pub some-shares : (priority : ℕ) (candidates : List Candidate) → 0 < length (partaking priority candidates) → 0 < sum (map (share (one_weight (partaking priority candidates)) priority) candidates)
some-shares priority candidates part = by (one_weight (partaking priority candidates)) refl
  where
    by : (b : Bool) → one_weight (partaking priority candidates) ≡ b → 0 < sum (map (share b priority) candidates)
    by true one = subst (λ (n : ℕ). 0 < n) (sym (equal-shares priority candidates)) part
    by false one = subst (λ (n : ℕ). 0 < n) (sym (weight-shares priority candidates)) (several-weights (partaking priority candidates) one)

-- ### intervals

is_some-map : {A B : Type 0} (f : A → B) (o : Option A) → is_some (option_map f o) ≡ is_some o
is_some-map f None = refl
is_some-map f (Some a) = refl

-- a number is in one of the intervals where it is below the whole
pub interval-some : (sizes : List ℕ) (n : ℕ) → is_some (interval_of sizes n) ≡ nat_lt n (sum sizes)
interval-some [] n = grind (arith, nat_tests)
interval-some (size ∷ sizes) n = by (nat_lt n size) refl (interval-some sizes (n - size)) ∙ ap (nat_lt n) (sym (sum-more size sizes))
  where
    by : (b : Bool) → nat_lt n size ≡ b → is_some (interval_of sizes (n - size)) ≡ nat_lt (n - size) (sum sizes) → is_some (cond b (Some 0) (option_map suc (interval_of sizes (n - size)))) ≡ nat_lt n (size + sum sizes)
    by true is h = grind (arith, nat_tests, is)
    by false is h = is_some-map suc (interval_of sizes (n - size)) ∙ h ∙ grind (arith, nat_tests, is)

pub no-interval : (sizes : List ℕ) (n : ℕ) → sum sizes ≡ 0 → interval_of sizes n ≡ None
no-interval sizes n is = by (interval_of sizes n) (interval-some sizes n ∙ ap (nat_lt n) is ∙ grind (arith, nat_tests))
  where
    by : (o : Option ℕ) → is_some o ≡ false → o ≡ None
    by None h = refl
    by (Some i) h = absurd (true≢false h)
