-- Where the mapping of an EID is, and where it would go.
use Rattle.std.proofs.Common.{◌≡◌, ℕ, zero, suc, ◌-◌, ◌<◌, ◌≤◌, Bool, true, false, cond, if◌then◌else◌, not, List, [], ◌∷◌, length, take, drop, All, IsFalse, Option, Some, None, IfSome, is_some, slice_get, Ordering, Less, Equal, Greater, is_lt, is_eq, refl, sym, ap, subst, ◌∙◌, arith, inl, inr, true≢false, ◌⊎◌}
use Rattle.std.specs.Ordering.{ordering_reverse}
use Rattle.std.proofs.lemmas.Cmp.{tied_itself}
use Rattle.std.proofs.lemmas.List.Elements.{All-cons, All-head, All-nil}
use Rattle.std.proofs.lemmas.Option.{same_Some}
use Rattle.mapping_records.proofs.OrderLemmas.{eid_order-total}
use Rattle.mapping_records.specs.Eids.{same_eid}
use Rattle.mapping_records.specs.Orders.{eid_order}
use Rattle.mapping_records.specs.declared.eid.Eid.{Eid}
use Rattle.map_cache.specs.Lists.{IsAbove, IsAscending, IsBelow, IsPlace}
use Rattle.map_cache.specs.Cache.{exact, without_eid}
use Rattle.map_cache.specs.declared.mapping.Mapping.{Mapping}
use Rattle.map_cache.proofs.AmongLemmas.{among-place, below-among}
use Rattle.map_cache.proofs.AscendingLemmas.{IsBelow-lower, Less-is_lt}
use Rattle.map_cache.proofs.EidLemmas.{is_eq-eid}

-- ### the place, by what stands before it and at it

before-all : (eid : Eid) (items : List Mapping) (n : ℕ) → IsAscending items → n < length items → IfSome (slice_get items n) (λ mapping. is_lt (eid_order mapping.eid eid) ≡ true) → IsAbove eid (take (suc n) items)
before-all eid [] n ascending within is = tt
before-all eid (x ∷ items) zero ascending within is = (Less-is_lt (eid_order x.eid eid) is, tt)
before-all eid (x ∷ []) (suc n) ascending within is = absurd (omega (arith, within))
before-all eid (x ∷ y ∷ items) (suc n) ascending within is =
    let above : IsAbove eid (take (suc n) (y ∷ items)) = before-all eid (y ∷ items) n ascending.1 (omega (arith, within)) is in
    (eid_order-total.trans x.eid y.eid eid ascending.0.0 above.0, above)

-- what is above one that isn't under the EID isn't either
not_under : (eid a b : Eid) → eid_order a b ≡ Less → is_lt (eid_order a eid) ≡ false → is_lt (eid_order b eid) ≡ false
not_under eid a b less is = by (eid_order b eid) refl
  where
    by : (r : Ordering) → eid_order b eid ≡ r → is_lt r ≡ false
    by Less e = absurd (true≢false (sym (ap is_lt (eid_order-total.trans a b eid less e)) ∙ is))
    by Equal e = refl
    by Greater e = refl

behind-below : (eid a : Eid) (items : List Mapping) → is_lt (eid_order a eid) ≡ false → IsBelow a items → All (λ mapping. IsFalse (is_lt (eid_order mapping.eid eid))) items
behind-below eid a [] is below = All-nil (λ (mapping : Mapping). IsFalse (is_lt (eid_order mapping.eid eid)))
behind-below eid a (x ∷ items) is below =
    All-cons (λ (mapping : Mapping). IsFalse (is_lt (eid_order mapping.eid eid))) x items (not_under eid a x.eid below.0 is) (behind-below eid a items is below.1)

behind-all : (eid : Eid) (items : List Mapping) (n : ℕ) → IsAscending items → IfSome (slice_get items n) (λ mapping. is_lt (eid_order mapping.eid eid) ≡ false) → All (λ mapping. IsFalse (is_lt (eid_order mapping.eid eid))) (drop n items)
behind-all eid [] zero ascending is = All-nil (λ (mapping : Mapping). IsFalse (is_lt (eid_order mapping.eid eid)))
behind-all eid [] (suc n) ascending is = All-nil (λ (mapping : Mapping). IsFalse (is_lt (eid_order mapping.eid eid)))
behind-all eid (x ∷ items) zero ascending is =
    All-cons (λ (mapping : Mapping). IsFalse (is_lt (eid_order mapping.eid eid))) x items is (behind-below eid x.eid items is ascending.0)
behind-all eid (x ∷ items) (suc n) ascending is = behind-all eid items n ascending.1 is

before-place : (eid : Eid) (items : List Mapping) (n : ℕ) → IsAscending items → n ≤ length items → (0 < n → IfSome (slice_get items (n - 1)) (λ mapping. is_lt (eid_order mapping.eid eid) ≡ true)) → IsAbove eid (take n items)
before-place eid items zero ascending within before = tt
before-place eid items (suc n) ascending within before =
    let back : suc n - 1 ≡ n = omega arith in
    before-all eid items n ascending (omega (arith, within)) (subst (λ (k : ℕ). IfSome (slice_get items k) (λ mapping. is_lt (eid_order mapping.eid eid) ≡ true)) back (before (omega arith)))

-- where mappings ascend, the one before the place and the one at it tell of all
pub is_place : (eid : Eid) (items : List Mapping) (n : ℕ) → IsAscending items → n ≤ length items → (0 < n → IfSome (slice_get items (n - 1)) (λ mapping. is_lt (eid_order mapping.eid eid) ≡ true)) → IfSome (slice_get items n) (λ mapping. is_lt (eid_order mapping.eid eid) ≡ false) → IsPlace eid items n
is_place eid items n ascending within before behind = record {
  within = within;
  before = before-place eid items n ascending within before;
  behind = behind-all eid items n ascending behind;
}

-- ### the mapping of the EID is at the place, or would go there

-- those before have lesser EIDs, that at the place has the EID, and those behind have greater ones
abbrev pub IsThere : Eid → List Mapping → ℕ → Type 0
IsThere eid [] n = ⊥
IsThere eid (x ∷ items) zero = (eid_order x.eid eid ≡ Equal) × IsBelow eid items
IsThere eid (x ∷ items) (suc n) = (eid_order x.eid eid ≡ Less) × IsThere eid items n

-- those before have lesser EIDs, and those from the place on have greater ones
abbrev pub IsAbsent : Eid → List Mapping → ℕ → Type 0
IsAbsent eid [] zero = Unit {0}
IsAbsent eid [] (suc n) = ⊥
IsAbsent eid (x ∷ items) zero = IsBelow eid (x ∷ items)
IsAbsent eid (x ∷ items) (suc n) = (eid_order x.eid eid ≡ Less) × IsAbsent eid items n

IsBelow-alike : (a b : Eid) (items : List Mapping) → eid_order a b ≡ Equal → IsBelow a items → IsBelow b items
IsBelow-alike a b [] ties below = tt
IsBelow-alike a b (x ∷ items) ties below = (sym (eid_order-total.congr a b x.eid ties) ∙ below.0, IsBelow-alike a b items ties below.1)

there_or_absent : (eid : Eid) (items : List Mapping) (n : ℕ) → IsAscending items → IsPlace eid items n → IsThere eid items n ⊎ IsAbsent eid items n
there_or_absent eid [] zero ascending place = inr tt
there_or_absent eid [] (suc n) ascending place = absurd (omega (arith, place.within))
there_or_absent eid (x ∷ items) zero ascending place = by (eid_order x.eid eid) refl
  where
    by : (r : Ordering) → eid_order x.eid eid ≡ r → IsThere eid (x ∷ items) zero ⊎ IsAbsent eid (x ∷ items) zero
    by Less is = absurd (true≢false (sym (ap is_lt is) ∙ All-head (λ (mapping : Mapping). IsFalse (is_lt (eid_order mapping.eid eid))) x items place.behind))
    by Equal is = inl (is, IsBelow-alike x.eid eid items is ascending.0)
    by Greater is =
        let less : eid_order eid x.eid ≡ Less = eid_order-total.antisymm eid x.eid ∙ ap ordering_reverse is in
        inr (less, IsBelow-lower eid x.eid items less ascending.0)
there_or_absent eid (x ∷ items) (suc n) ascending place =
    elim (there_or_absent eid items n ascending.1 (record { within = omega (arith, place.within); before = place.before.1; behind = place.behind })) [
      | inl there ↦ inl (place.before.0, there)
      | inr absent ↦ inr (place.before.0, absent)
    ]

-- ### what is there

pub lesser-apart : (eid : Eid) (x : Mapping) → eid_order x.eid eid ≡ Less → same_eid x.eid eid ≡ false
lesser-apart eid x less = sym (is_eq-eid x.eid eid) ∙ ap is_eq less

pub greater-apart : (eid : Eid) (x : Mapping) → eid_order eid x.eid ≡ Less → same_eid x.eid eid ≡ false
greater-apart eid x less = sym (is_eq-eid x.eid eid) ∙ ap is_eq (eid_order-total.antisymm x.eid eid ∙ ap ordering_reverse less)

exact-below : (eid : Eid) (items : List Mapping) → IsBelow eid items → exact items eid ≡ None
exact-below eid [] below = refl
exact-below eid (x ∷ items) below = ap (λ b. cond b (Some x) (exact items eid)) (greater-apart eid x below.0) ∙ exact-below eid items below.1

pub without-below : (eid : Eid) (items : List Mapping) → IsBelow eid items → without_eid eid items ≡ items
without-below eid [] below = refl
without-below eid (x ∷ items) below =
    ap (λ b. cond (not b) (x ∷ without_eid eid items) (without_eid eid items)) (greater-apart eid x below.0)
    ∙ ap (λ l. x ∷ l) (without-below eid items below.1)

pub exact-absent : (eid : Eid) (items : List Mapping) (n : ℕ) → IsAbsent eid items n → exact items eid ≡ None
exact-absent eid [] n absent = refl
exact-absent eid (x ∷ items) zero absent = exact-below eid (x ∷ items) absent
exact-absent eid (x ∷ items) (suc n) absent =
    ap (λ b. cond b (Some x) (exact items eid)) (lesser-apart eid x absent.0) ∙ exact-absent eid items n absent.1

-- where there is none, none goes
pub without-absent : (eid : Eid) (items : List Mapping) (n : ℕ) → IsAbsent eid items n → without_eid eid items ≡ items
without-absent eid [] n absent = refl
without-absent eid (x ∷ items) zero absent = without-below eid (x ∷ items) absent
without-absent eid (x ∷ items) (suc n) absent =
    ap (λ b. cond (not b) (x ∷ without_eid eid items) (without_eid eid items)) (lesser-apart eid x absent.0)
    ∙ ap (λ l. x ∷ l) (without-absent eid items n absent.1)

pub there-same : (eid : Eid) (x : Mapping) → eid_order x.eid eid ≡ Equal → same_eid x.eid eid ≡ true
there-same eid x ties = sym (is_eq-eid x.eid eid) ∙ ap is_eq ties

exact-there : (eid : Eid) (items : List Mapping) (n : ℕ) → IsThere eid items n → slice_get items n ≡ exact items eid
exact-there eid [] n there = elim there [ ]
exact-there eid (x ∷ items) zero there = sym (ap (λ b. cond b (Some x) (exact items eid)) (there-same eid x there.0))
exact-there eid (x ∷ items) (suc n) there =
    exact-there eid items n there.1 ∙ sym (ap (λ b. cond b (Some x) (exact items eid)) (lesser-apart eid x there.0))

some-there : (eid : Eid) (items : List Mapping) (n : ℕ) → IsThere eid items n → is_some (slice_get items n) ≡ true
some-there eid [] n there = elim there [ ]
some-there eid (x ∷ items) zero there = refl
some-there eid (x ∷ items) (suc n) there = some-there eid items n there.1

-- a mapping is there, and is that of the EID
abbrev at_eid : Eid → Option Mapping → Bool
at_eid eid None = false
at_eid eid (Some x) = same_eid x.eid eid

at_eid-there : (eid : Eid) (items : List Mapping) (n : ℕ) → IsThere eid items n → at_eid eid (slice_get items n) ≡ true
at_eid-there eid [] n there = elim there [ ]
at_eid-there eid (x ∷ items) zero there = there-same eid x there.0
at_eid-there eid (x ∷ items) (suc n) there = at_eid-there eid items n there.1

pub same-there : (eid : Eid) (items : List Mapping) (n : ℕ) (x : Mapping) → IsThere eid items n → slice_get items n ≡ Some x → same_eid x.eid eid ≡ true
same-there eid items n x there is = ap (at_eid eid) (sym is) ∙ at_eid-there eid items n there

module _ (eid : Eid) (items : List Mapping) (n : ℕ) (ascending : IsAscending items) (place : IsPlace eid items n) where
  pub there-if : is_some (exact items eid) ≡ true → IsThere eid items n
  there-if is = elim (there_or_absent eid items n ascending place) [
    | inl there ↦ there
    | inr absent ↦ absurd (true≢false (sym is ∙ ap is_some (exact-absent eid items n absent)))
  ]

  pub absent-if : is_some (exact items eid) ≡ false → IsAbsent eid items n
  absent-if is = elim (there_or_absent eid items n ascending place) [
    | inl there ↦
        absurd (true≢false (sym (some-there eid items n there) ∙ ap is_some (exact-there eid items n there) ∙ is))
    | inr absent ↦ absent
  ]

-- ### a mapping that is taken from its place

-- it is where its EID is
pub there-itself : (items : List Mapping) (n : ℕ) (x : Mapping) → IsAscending items → slice_get items n ≡ Some x → IsThere x.eid items n
there-itself [] n x ascending at = cc
there-itself (y ∷ items) zero x ascending at =
    subst (λ (z : Mapping). IsThere z.eid (y ∷ items) zero) (same_Some y x at) (tied_itself eid_order-total y.eid, ascending.0)
there-itself (y ∷ items) (suc n) x ascending at =
    (below-among y.eid items x ascending.0 (among-place items n x at), there-itself items n x ascending.1 at)

-- ### the place of an EID

-- those of lesser EIDs are so many
abbrev pub place_in : Eid → List Mapping → ℕ
place_in eid [] = 0
place_in eid (x ∷ items) = if is_lt (eid_order x.eid eid) then suc (place_in eid items) else 0

place-within : (eid : Eid) (items : List Mapping) → place_in eid items ≤ length items
place-within eid [] = omega arith
place-within eid (x ∷ items) = by (is_lt (eid_order x.eid eid)) (place-within eid items)
  where
    by : (b : Bool) → place_in eid items ≤ length items → cond b (suc (place_in eid items)) 0 ≤ length (x ∷ items)
    by true rest = omega (arith, rest)
    by false rest = omega arith

-- the one before a place is below the EID
abbrev IsLastBelow : Eid → List Mapping → ℕ → Type 0
IsLastBelow eid items n = 0 < n → IfSome (slice_get items (n - 1)) (λ mapping. is_lt (eid_order mapping.eid eid) ≡ true)

place-before : (eid : Eid) (items : List Mapping) → IsLastBelow eid items (place_in eid items)
place-before eid [] some = absurd (omega (arith, some))
place-before eid (x ∷ items) some = by (is_lt (eid_order x.eid eid)) refl (place-before eid items) some
  where
    from : (n : ℕ) → IsLastBelow eid items n → is_lt (eid_order x.eid eid) ≡ true → IfSome (slice_get (x ∷ items) n) (λ mapping. is_lt (eid_order mapping.eid eid) ≡ true)
    from zero rest is = is
    from (suc n) rest is =
        let back : suc n - 1 ≡ n = omega arith in
        subst (λ (k : ℕ). IfSome (slice_get items k) (λ mapping. is_lt (eid_order mapping.eid eid) ≡ true)) back (rest (omega arith))

    by : (b : Bool) → is_lt (eid_order x.eid eid) ≡ b → IsLastBelow eid items (place_in eid items) → IsLastBelow eid (x ∷ items) (cond b (suc (place_in eid items)) 0)
    by true is rest some =
        let back : place_in eid items ≡ suc (place_in eid items) - 1 = omega arith in
        subst (λ (k : ℕ). IfSome (slice_get (x ∷ items) k) (λ mapping. is_lt (eid_order mapping.eid eid) ≡ true)) back (from (place_in eid items) rest is)
    by false is rest some = absurd (omega (arith, some))

place-behind : (eid : Eid) (items : List Mapping) → IfSome (slice_get items (place_in eid items)) (λ mapping. is_lt (eid_order mapping.eid eid) ≡ false)
place-behind eid [] = tt
place-behind eid (x ∷ items) = by (is_lt (eid_order x.eid eid)) refl (place-behind eid items)
  where
    by : (b : Bool) → is_lt (eid_order x.eid eid) ≡ b → IfSome (slice_get items (place_in eid items)) (λ mapping. is_lt (eid_order mapping.eid eid) ≡ false) → IfSome (slice_get (x ∷ items) (cond b (suc (place_in eid items)) 0)) (λ mapping. is_lt (eid_order mapping.eid eid) ≡ false)
    by true is rest = rest
    by false is rest = is

pub is-place : (eid : Eid) (items : List Mapping) → IsAscending items → IsPlace eid items (place_in eid items)
is-place eid items ascending =
    is_place eid items (place_in eid items) ascending (place-within eid items) (place-before eid items) (place-behind eid items)

-- a mapping that is found is at that place
pub exact-at : (eid : Eid) (items : List Mapping) (x : Mapping) → IsAscending items → exact items eid ≡ Some x → (slice_get items (place_in eid items) ≡ Some x) × IsThere eid items (place_in eid items)
exact-at eid items x ascending found =
    let there = there-if eid items (place_in eid items) ascending (is-place eid items ascending) (ap is_some found) in
    (exact-there eid items (place_in eid items) there ∙ found, there)
