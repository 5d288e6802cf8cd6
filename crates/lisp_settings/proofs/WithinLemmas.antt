-- Where each instance keeps within its limit, all of them keep within the sum.
use Rattle.std.proofs.Common.{◌≡◌, ℕ, ◌+◌, ◌≤◌, ◌==◌, not, Bool, true, false, cond, List, [], ◌∷◌, Some, count_by, filter, length, sum_by, refl, ap, subst, arith}
use Rattle.std.specs.Option.{option_map_or}
use Rattle.std.proofs.lemmas.Bool.{eq-eqb, eqb-true}
use Rattle.std.proofs.lemmas.List.Sums.{sum_by-cons}
use Rattle.lisp_settings.specs.Instances.{stated}
use Rattle.lisp_settings.specs.declared.settings.LimitItem.{LimitItem}

-- the first counts before the others
pub count-cons : {A : Type 0} (test : A → Bool) (a : A) (items : List A) → count_by test (a ∷ items) ≡ cond (test a) 1 0 + count_by test items
count-cons test a items = sum_by-cons (λ x. cond (test x) 1 0) a items

module _ {A : Type 0} (instance : A → ℕ) where
  -- it is of an instance
  abbrev is_of : ℕ → A → Bool
  is_of iid a = instance a == iid

  abbrev is_else : ℕ → A → Bool
  is_else iid a = not (is_of iid a)

  -- those of an instance, and the others, are all
  parted : (iid : ℕ) (items : List A) → length items ≡ count_by (is_of iid) items + length (filter (is_else iid) items)
  parted iid [] = refl
  parted iid (a ∷ items) = by (is_of iid a) (count-cons (is_of iid) a items) (parted iid items)
    where
      by : (b : Bool) → count_by (is_of iid) (a ∷ items) ≡ cond b 1 0 + count_by (is_of iid) items → length items ≡ count_by (is_of iid) items + length (filter (is_else iid) items) → length (a ∷ items) ≡ count_by (is_of iid) (a ∷ items) + length (cond (not b) (a ∷ filter (is_else iid) items) (filter (is_else iid) items))
      by true first h = omega (arith, first, h)
      by false first h = omega (arith, first, h)

  -- of the others none is of it
  none-of : (iid : ℕ) (items : List A) → count_by (is_of iid) (filter (is_else iid) items) ≡ 0
  none-of iid [] = refl
  none-of iid (a ∷ items) = by (is_of iid a) refl (none-of iid items)
    where
      by : (b : Bool) → is_of iid a ≡ b → count_by (is_of iid) (filter (is_else iid) items) ≡ 0 → count_by (is_of iid) (cond (not b) (a ∷ filter (is_else iid) items) (filter (is_else iid) items)) ≡ 0
      by true is h = h
      by false is h =
          let first = count-cons (is_of iid) a (filter (is_else iid) items) in
          let zero : ◌≡◌ {A = ℕ} (cond (is_of iid a) 1 0) 0 = ap (λ b. cond b 1 0) is in
          omega (arith, first, zero, h)

  -- leaving some out makes no more of any
  fewer-of : (other iid : ℕ) (items : List A) → count_by (is_of other) (filter (is_else iid) items) ≤ count_by (is_of other) items
  fewer-of other iid [] = omega arith
  fewer-of other iid (a ∷ items) = by (is_else iid a) (fewer-of other iid items)
    where
      all : count_by (is_of other) (a ∷ items) ≡ cond (is_of other a) 1 0 + count_by (is_of other) items
      all = count-cons (is_of other) a items

      some : count_by (is_of other) (a ∷ filter (is_else iid) items) ≡ cond (is_of other a) 1 0 + count_by (is_of other) (filter (is_else iid) items)
      some = count-cons (is_of other) a (filter (is_else iid) items)

      by : (b : Bool) → count_by (is_of other) (filter (is_else iid) items) ≤ count_by (is_of other) items → count_by (is_of other) (cond b (a ∷ filter (is_else iid) items) (filter (is_else iid) items)) ≤ count_by (is_of other) (a ∷ items)
      by true h = omega (arith, all, some, h)
      by false h = omega (arith, all, h)

  -- the first is of its own instance
  first-of : (a : A) (items : List A) → 1 ≤ count_by (is_of (instance a)) (a ∷ items)
  first-of a items =
      let first = count-cons (is_of (instance a)) a items in
      let one : ◌≡◌ {A = ℕ} (cond (is_of (instance a) a) 1 0) 1 = ap (λ b. cond b 1 0) (eq-eqb (instance a) (instance a) refl) in
      omega (arith, first, one)

  module _ (amount : LimitItem → ℕ) where
    -- what limits give an instance, 0 where they haven't got it
    abbrev given : List LimitItem → ℕ → ℕ
    given limits iid = option_map_or amount (stated limits iid) 0

    -- no instance has more items than it is given
    abbrev pub AreWithin : List LimitItem → List A → Type 0
    AreWithin limits items = (iid : ℕ) → count_by (is_of iid) items ≤ given limits iid

    -- then all have no more than all are given
    pub within-all : (limits : List LimitItem) (items : List A) → AreWithin limits items → length items ≤ sum_by amount limits
    within-all [] [] within = omega arith
    within-all [] (a ∷ items) within = absurd (let one = first-of a items in let none = within (instance a) in omega (arith, one, none))
    within-all (limit ∷ limits) items within =
        let rest : length (filter (is_else limit.iid) items) ≤ sum_by amount limits = within-all limits (filter (is_else limit.iid) items) others in
        let mine : count_by (is_of limit.iid) items ≤ amount limit = subst (λ n. count_by (is_of limit.iid) items ≤ n) (found limit.iid refl) (within limit.iid) in
        let all = parted limit.iid items in
        let sum = sum_by-cons amount limit limits in
        omega (arith, rest, mine, all, sum)
      where
        found : (iid : ℕ) → limit.iid ≡ iid → given (limit ∷ limits) iid ≡ amount limit
        found iid same = rw (eq-eqb limit.iid iid same) refl

        others : AreWithin limits (filter (is_else limit.iid) items)
        others iid = by (limit.iid == iid) refl (within iid)
          where
            by : (b : Bool) → (limit.iid == iid) ≡ b → count_by (is_of iid) items ≤ option_map_or amount (cond b (Some limit) (stated limits iid)) 0 → count_by (is_of iid) (filter (is_else limit.iid) items) ≤ given limits iid
            by true same h = let none = subst (λ n. count_by (is_of n) (filter (is_else limit.iid) items) ≡ 0) (eqb-true limit.iid iid same) (none-of limit.iid items) in omega (arith, none)
            by false other h = let less = fewer-of iid limit.iid items in omega (arith, less, h)
