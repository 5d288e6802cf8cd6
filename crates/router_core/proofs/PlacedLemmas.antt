-- The first targets in order, once one more was offered a place among them: those that had a place keep it.
use Rattle.std.proofs.Common.{◌≡◌, ◌⊎◌, ◌≤◌, ◌==◌, ◌&&◌, ◌||◌, ℕ, zero, suc, Bool, true, false, cond, List, [], ◌∷◌, find, get_or, length, take, Option, Some, inl, inr, refl, ap, ap₂, subst, ◌∙◌, arith, is_lt}
use Rattle.std.specs.Prelude.{nat_lt}
use Rattle.std.proofs.lemmas.List.{length-take, length-take-le}
use Rattle.std.proofs.lemmas.List.Elements.{All-cons, All-contains, All-head, All-nil, All-tail, All-take, All-weaker, Contains-get_or}
use Rattle.std.specs.List.{All, Contains, list_any}
use Rattle.ip_headers.specs.declared.addr.Addr.{Addr}
use Rattle.locator_state.proofs.TurnsLemmas.{All-with, Ascends, HaveOneProbe, IsAlike, IsBehind, ascending-pairs, before-other, before-trans, equal-address, found-contained, pairs-ascend}
use Rattle.locator_state.specs.Turns.{goes_before, turn_of, with_target}
use Rattle.locator_state.specs.declared.target.Target.{Target}
use Rattle.mapping_records.specs.Eids.{same_address}
use Rattle.mapping_records.specs.Orders.{addr_order}
use Rattle.router_model.proofs.StandingLemmas.{same-address}
use Rattle.router_core.specs.Turning.{AreChosen, IsPlaced, has_address}

-- ### addresses and order

or-right : (a b : Bool) → b ≡ true → (a || b) ≡ true
or-right true b is = refl
or-right false b is = is

-- the other goes before a target
abbrev GoesBefore : Target → Target → Type 0
GoesBefore target other = goes_before other target ≡ true

-- what goes before a target goes before another one of its address and last probe
before-like : (t a b : Target) → same_address a.rloc b.rloc ≡ true → a.last ≡ b.last → goes_before t b ≡ true → goes_before t a ≡ true
before-like t a b same last goes =
    ap₂ (λ (l : Option ℕ) (r : Addr). nat_lt (turn_of t.last) (turn_of l) || ((turn_of t.last == turn_of l) && is_lt (addr_order t.rloc r))) last (equal-address a.rloc b.rloc same)
    ∙ goes

-- what goes before all goes before a target that one of them is like
before-one : (t target : Target) (others : List Target) → All (IsBehind t) others → All (IsAlike target) others → list_any (has_address target.rloc) others ≡ true → goes_before t target ≡ true
before-one t target [] behind alike there = absurd (cc there)
before-one t target (next ∷ others) behind alike there =
    by (has_address target.rloc next) refl there (before-one t target others (All-tail (IsBehind t) next others behind) (All-tail (IsAlike target) next others alike))
  where
    by : (b : Bool) → has_address target.rloc next ≡ b → (b || list_any (has_address target.rloc) others) ≡ true → (list_any (has_address target.rloc) others ≡ true → goes_before t target ≡ true) → goes_before t target ≡ true
    by true same there rest =
        before-like t target next same (All-head (IsAlike target) next others alike same) (All-head (IsBehind t) next others behind)
    by false apart there rest = rest there

-- what goes before the first goes before all
all-behind : (target next : Target) (others : List Target) → IsBehind target next → All (IsBehind next) others → All (IsBehind target) (next ∷ others)
all-behind target next others goes up =
    All-cons (IsBehind target) next others goes
    (All-weaker (IsBehind next) (IsBehind target) (λ other later. before-trans target next other goes later) others up)

-- ### with one more

with-ascends : (target : Target) (first : List Target) → Ascends first → Ascends (with_target target first)
with-ascends target [] up = (All-nil (IsBehind target), tt)
with-ascends target (next ∷ others) up =
    by (same_address target.rloc next.rloc) (goes_before target next) refl refl (with-ascends target others up.1)
  where
    by : (b c : Bool) → same_address target.rloc next.rloc ≡ b → goes_before target next ≡ c → Ascends (with_target target others)
        → Ascends (cond b (next ∷ others) (cond c (target ∷ next ∷ others) (next ∷ with_target target others)))
    by true c same goes rest = up
    by false true same goes rest = (all-behind target next others goes up.0, up)
    by false false same goes rest = (All-with (IsBehind next) target others (before-other target next same goes) up.0, rest)

with-longer : (target : Target) (first : List Target) → length first ≤ length (with_target target first)
with-longer target [] = omega arith
with-longer target (next ∷ others) = by (same_address target.rloc next.rloc) (goes_before target next) (with-longer target others)
  where
    by : (b c : Bool) → length others ≤ length (with_target target others) → length (next ∷ others) ≤ length (cond b (next ∷ others) (cond c (target ∷ next ∷ others) (next ∷ with_target target others)))
    by true c h = omega arith
    by false true h = omega arith
    by false false h = omega (arith, h)

-- those that are there stay
any-with : (p : Target → Bool) (target : Target) (first : List Target) → list_any p first ≡ true → list_any p (with_target target first) ≡ true
any-with p target [] there = absurd (cc there)
any-with p target (next ∷ others) there = by (same_address target.rloc next.rloc) (goes_before target next) there (any-with p target others)
  where
    behind : (q : Bool) → (q || list_any p others) ≡ true → (list_any p others ≡ true → list_any p (with_target target others) ≡ true) → (q || list_any p (with_target target others)) ≡ true
    behind true there rest = refl
    behind false there rest = rest there

    by : (b c : Bool) → list_any p (next ∷ others) ≡ true → (list_any p others ≡ true → list_any p (with_target target others) ≡ true)
        → list_any p (cond b (next ∷ others) (cond c (target ∷ next ∷ others) (next ∷ with_target target others))) ≡ true
    by true c there rest = there
    by false true there rest = or-right (p target) (list_any p (next ∷ others)) there
    by false false there rest = behind (p next) there rest

-- and the new one is there
any-new : (target : Target) (first : List Target) → list_any (has_address target.rloc) (with_target target first) ≡ true
any-new target [] = ap (λ b. b || false) (same-address target.rloc)
any-new target (next ∷ others) = by (same_address target.rloc next.rloc) (goes_before target next) refl (any-new target others)
  where
    by : (b c : Bool) → same_address target.rloc next.rloc ≡ b → list_any (has_address target.rloc) (with_target target others) ≡ true
        → list_any (has_address target.rloc) (cond b (next ∷ others) (cond c (target ∷ next ∷ others) (next ∷ with_target target others))) ≡ true
    by true c same rest = ap (λ b. b || list_any (has_address target.rloc) others) same
    by false true same rest = ap (λ b. b || list_any (has_address target.rloc) (next ∷ others)) (same-address target.rloc)
    by false false same rest = or-right (has_address target.rloc next) (list_any (has_address target.rloc) (with_target target others)) rest

-- where all go before a target, as many do with one more
before-with : (target more : Target) (first : List Target) → All (GoesBefore target) first → All (GoesBefore target) (take (length first) (with_target more first))
before-with target more [] all = All-nil (GoesBefore target)
before-with target more (next ∷ others) all =
    by (same_address more.rloc next.rloc) (goes_before more next) refl (before-with target more others (All-tail (GoesBefore target) next others all))
  where
    n : ℕ
    n = length others

    by : (b c : Bool) → goes_before more next ≡ c → All (GoesBefore target) (take n (with_target more others))
        → All (GoesBefore target) (take (suc n) (cond b (next ∷ others) (cond c (more ∷ next ∷ others) (next ∷ with_target more others))))
    by true c goes rest = All-take (GoesBefore target) (suc n) (next ∷ others) all
    by false true goes rest =
        All-cons (GoesBefore target) more (take n (next ∷ others)) (before-trans more next target goes (All-head (GoesBefore target) next others all))
        (All-take (GoesBefore target) n (next ∷ others) all)
    by false false goes rest = All-cons (GoesBefore target) next (take n (with_target more others)) (All-head (GoesBefore target) next others all) rest

-- ### the first n

take-ascends : (n : ℕ) (targets : List Target) → Ascends targets → Ascends (take n targets)
take-ascends zero targets up = tt
take-ascends (suc n) [] up = tt
take-ascends (suc n) (target ∷ others) up = (All-take (IsBehind target) n others up.0, take-ascends n others up.1)

-- one that is there is among the first n, or they are n and go before it
take-placed : (target : Target) (n : ℕ) (targets : List Target) → Ascends targets → All (IsAlike target) targets → list_any (has_address target.rloc) targets ≡ true
    → (list_any (has_address target.rloc) (take n targets) ≡ true) ⊎ ((length (take n targets) ≡ n) × All (GoesBefore target) (take n targets))
take-placed target zero targets up alike there = inr (refl, All-nil (GoesBefore target))
take-placed target (suc n) [] up alike there = absurd (cc there)
take-placed target (suc n) (next ∷ others) up alike there =
    by (has_address target.rloc next) refl there (take-placed target n others up.1 (All-tail (IsAlike target) next others alike))
  where
    Placed : List Target → ℕ → Type 0
    Placed targets n = (list_any (has_address target.rloc) targets ≡ true) ⊎ ((length targets ≡ n) × All (GoesBefore target) targets)

    by : (b : Bool) → has_address target.rloc next ≡ b → (b || list_any (has_address target.rloc) others) ≡ true → (list_any (has_address target.rloc) others ≡ true → Placed (take n others) n)
        → Placed (next ∷ take n others) (suc n)
    by true same there rest = inl (ap (λ b. b || list_any (has_address target.rloc) (take n others)) same)
    by false apart there rest = elim (rest there) [
      | inl among ↦ inl (or-right (has_address target.rloc next) (list_any (has_address target.rloc) (take n others)) among)
      | inr full ↦ inr (ap suc full.0, All-cons (GoesBefore target) next (take n others) (before-one next target others up.0 (All-tail (IsAlike target) next others alike) there) full.1)
    ]

-- ### a target is offered a place

module _ (all first : List Target) (one : HaveOneProbe all) (more : Target) (is : find (has_address more.rloc) all ≡ Some more) (chosen : AreChosen all first) where
  abbrev wider : List Target
  wider = with_target more first

  ascends : Ascends wider
  ascends = with-ascends more first (pairs-ascend first chosen.ascend)

  -- each is the first one of its address
  abbrev IsFirst : Target → Type 0
  IsFirst target = find (has_address target.rloc) all ≡ Some target

  alike : (target : Target) → Contains all target → All (IsAlike target) wider
  alike target among =
      All-with (IsAlike target) more first (like more is)
      (All-weaker IsFirst (IsAlike target) (λ other found. like other found) first chosen.found)
    where
      like : (other : Target) → IsFirst other → IsAlike target other
      like other found =
          All-contains (IsAlike target) all other (All-contains (λ a. All (IsAlike a) all) all target one among)
          (found-contained (has_address other.rloc) all other found)

  -- they are chosen
  pub offer-chosen : AreChosen all (take 16 (with_target more first))
  offer-chosen = record {
    ascend = ascending-pairs (take 16 wider) (take-ascends 16 wider ascends);
    few = omega (arith, length-take 16 wider);
    found = All-take IsFirst 16 wider (All-with IsFirst more first is chosen.found);
  }

  stays : (target : Target) → Contains all target → IsPlaced first target → IsPlaced (take 16 wider) target
  stays target among (inl there) = take-placed target 16 wider ascends (alike target among) (any-with (has_address target.rloc) more first there)
  stays target among (inr full) =
      inr (
        length-take-le 16 wider (omega (arith, full.0, with-longer more first)),
        subst (λ (n : ℕ). All (GoesBefore target) (take n wider)) full.0 (before-with target more first full.1),
      )

  -- those that had a place keep it
  pub offer-stays : All (λ target. IsPlaced first target → IsPlaced (take 16 (with_target more first)) target) all
  offer-stays k d within placed = stays (get_or all k d) (Contains-get_or all k d within) placed

  -- and those of the offered address have one
  pub offer-here : All (λ target. same_address more.rloc target.rloc ≡ true → IsPlaced (take 16 (with_target more first)) target) all
  offer-here k d within same =
      let target = get_or all k d in
      take-placed target 16 wider ascends (alike target (Contains-get_or all k d within))
      (subst (λ (a : Addr). list_any (has_address a) wider ≡ true) (equal-address more.rloc target.rloc same) (any-new more first))
