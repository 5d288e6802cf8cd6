-- Where a key stands in keys that ascend.
use Rattle.std.proofs.Common.{◌≡◌, ℕ, zero, suc, ◌+◌, ◌-◌, ◌<◌, Bool, true, false, ◌||◌, ◌&&◌, not, List, [], ◌∷◌, length, get_or, take, drop, All, Option, IfSome, slice_get, Ordering, Less, Equal, Greater, is_eq, is_lt, refl, sym, ap, ap₂, subst, ◌∙◌, arith, true≢false, drop-cons, inl, inr}
use Rattle.std.proofs.lemmas.Bool.{cases_eq}
use Rattle.std.proofs.lemmas.Cmp.{alike_right}
use Rattle.std.proofs.lemmas.List.{get_or-take, get_or-drop, length-take-le, length-drop, take-append-drop, drop_all, take_all}
use Rattle.std.proofs.lemmas.List.Elements.{All-cons, All-append, All-take, All-drop, All-nil}
use Rattle.std.proofs.lemmas.List.Folds.{list_any-append, list_any_none}
use Rattle.std.proofs.lemmas.List.Kept.{AllPairs-cons}
use Rattle.std.proofs.lemmas.List.Quantifiers.{all_pairs_remove}
use Rattle.std.proofs.lemmas.Option.{slice_get-get_or, slice_get_cases}
use Rattle.std.specs.Cmp.{IsTotalOrder, Equal-is}
use Rattle.std.specs.List.{AllPairs, insert, list_any, remove}
use Rattle.std.specs.Ordering.{ordering_reverse}
use Rattle.ordered_set.specs.Keys.{Ascends, IsPlace, has, ties}

-- ### answers of an order

Less-is : (r : Ordering) → is_lt r ≡ true → r ≡ Less
Less-is Less e = refl
Less-is Equal e = absurd (true≢false (sym e))
Less-is Greater e = absurd (true≢false (sym e))

-- what neither is below nor ties is above
above : (r : Ordering) → is_lt r ≡ false → is_eq r ≡ false → ordering_reverse r ≡ Less
above Less low apart = absurd (true≢false low)
above Equal low apart = absurd (true≢false apart)
above Greater low apart = refl

-- ### lists

-- R holds also with one more, put where it stands in R to those before and those behind
AllPairs-insert : {X : Type 0} (R : X → X → Type 0) (xs : List X) (p : ℕ) (x : X)
    → AllPairs R xs → All (λ y. R y x) (take p xs) → All (R x) (drop p xs) → AllPairs R (insert xs p x)
AllPairs-insert R xs zero x pairs before behind = AllPairs-cons R x xs behind pairs
AllPairs-insert R [] (suc p) x pairs before behind = AllPairs-cons R x [] behind pairs
AllPairs-insert {X} R (y ∷ ys) (suc p) x pairs before behind =
    let least : All (R y) ys = λ k d within. pairs zero (suc k) d (omega arith) (omega arith) in
    let low : R y x = before zero x (omega arith) in
    let more : AllPairs R ys = λ i j d order within. pairs (suc i) (suc j) d (omega arith) (omega arith) in
    let rest : All (λ z. R z x) (take p ys) = λ k d within. before (suc k) d (omega arith) in
    let both : All (R y) (insert ys p x) =
    All-append (R y) (take p ys) (x ∷ drop p ys) (All-take (R y) p ys least) (All-cons (R y) x (drop p ys) low (All-drop (R y) p ys least)) in
    AllPairs-cons R y (insert ys p x) both (AllPairs-insert R ys p x more rest behind)

turned : (a b c : Bool) → (a || (b || c)) ≡ (b || (a || c))
turned true true c = refl
turned true false c = refl
turned false b c = refl

only_middle : {a b c : Bool} → a ≡ false → c ≡ false → (a || (b || c)) ≡ b
only_middle {a = a} {b = true} {c = c} e f = ap (λ (x : Bool). x || true) e
only_middle {a = a} {b = false} {c = c} e f = ap (λ (x : Bool). x || c) e ∙ f

-- without what passes where the others don't
without : (e a c : Bool) → (e ≡ true → a ≡ false) → (e ≡ true → c ≡ false) → (a || c) ≡ (not e && (a || (e || c)))
without true a c f g = ap (λ (x : Bool). x || c) (f refl) ∙ g refl
without false a c f g = refl

-- a test of one more
list_any-insert : {X : Type 0} (test : X → Bool) (xs : List X) (p : ℕ) (x : X) → list_any test (insert xs p x) ≡ (test x || list_any test xs)
list_any-insert test xs p x =
    list_any-append test (take p xs) (x ∷ drop p xs)
    ∙ turned (list_any test (take p xs)) (test x) (list_any test (drop p xs))
    ∙ ap (λ (found : Bool). test x || found) (sym (list_any-append test (take p xs) (drop p xs)) ∙ ap (list_any test) (take-append-drop p xs))

-- a test of a list by what stands at a place
list_any-at : {X : Type 0} (test : X → Bool) (xs : List X) (p : ℕ) (d : X) → p < length xs
    → list_any test xs ≡ (list_any test (take p xs) || (test (get_or xs p d) || list_any test (drop (suc p) xs)))
list_any-at test xs p d within =
    ap (list_any test) (sym (take-append-drop p xs))
    ∙ list_any-append test (take p xs) (drop p xs)
    ∙ ap (λ (rest : _). list_any test (take p xs) || list_any test rest) (drop-cons xs p d within)

module _ {K : Type 0} (order : K → K → Ordering) (total : IsTotalOrder order) (key : K) where
  -- what is above one that isn't below the key is above the key
  beyond : (a b : K) (r : Ordering) → order a key ≡ r → is_lt r ≡ false → order a b ≡ Less → order key b ≡ Less
  beyond a b Less is low e = absurd (true≢false low)
  beyond a b Equal is low e = sym (total.congr a key b is) ∙ e
  beyond a b Greater is low e = total.trans key a b (total.antisymm key a ∙ ap ordering_reverse is) e

  below_apart : (k : K) → order k key ≡ Less → is_eq (order k key) ≡ false
  below_apart k e = ap is_eq e

  above_apart : (k : K) → order key k ≡ Less → is_eq (order k key) ≡ false
  above_apart k e = ap is_eq (total.antisymm k key ∙ ap ordering_reverse e)

  module _ (keys : List K) (p : ℕ) (place : IsPlace order key keys p) where
    -- all keys before the place are below
    all_before : All (λ other. order other key ≡ Less) (take p keys)
    all_before k d inside =
        let short : k < p = omega (arith, length-take-le p keys place.within) in
        let last : is_lt (order (get_or keys (p - 1) d) key) ≡ true =
        subst (λ (o : Option K). IfSome o (λ other. is_lt (order other key) ≡ true)) (slice_get-get_or keys (p - 1) d (omega (arith, place.within))) (place.before (omega arith)) in
        let less : order (get_or keys (p - 1) d) key ≡ Less = Less-is _ last in
        subst (λ (other : K). order other key ≡ Less) (sym (get_or-take p keys k d short))
        (elim (cases_eq k (p - 1)) [
          | inl same ↦ subst (λ (i : ℕ). order (get_or keys i d) key ≡ Less) (sym same) less
          | inr apart ↦ total.trans (get_or keys k d) (get_or keys (p - 1) d) key (place.ascends k (p - 1) d (omega arith) (omega (arith, place.within))) less
        ])

    -- all keys behind the one at the place are above
    all_behind : All (λ other. order key other ≡ Less) (drop (suc p) keys)
    all_behind k d inside =
        let far : suc p + k < length keys = omega (arith, length-drop (suc p) keys) in
        let first : is_lt (order (get_or keys p d) key) ≡ false =
        subst (λ (o : Option K). IfSome o (λ other. is_lt (order other key) ≡ false)) (slice_get-get_or keys p d (omega arith)) place.behind in
        subst (λ (other : K). order key other ≡ Less) (sym (get_or-drop (suc p) keys k d)) (beyond (get_or keys p d) (get_or keys (suc p + k) d) _ refl first (place.ascends p (suc p + k) d (omega arith) far))

    none_before : All (λ other. is_eq (order other key) ≡ false) (take p keys)
    none_before k d inside = below_apart _ (all_before k d inside)

    none_behind : All (λ other. is_eq (order other key) ≡ false) (drop (suc p) keys)
    none_behind k d inside = above_apart _ (all_behind k d inside)

    -- the key is there where the one at the place ties with it
    pub has-at : has order key keys ≡ ties order key (slice_get keys p)
    has-at = elim (slice_get_cases keys p).1 [
      | inl there ↦
          list_any-at (λ other. is_eq (order other key)) keys p there.0 there.1
          ∙ only_middle (list_any_none _ (take p keys) none_before) (list_any_none _ (drop (suc p) keys) none_behind)
          ∙ ap (λ (k : K). is_eq (order k key)) there.3
          ∙ sym (ap (ties order key) there.2)
      | inr past ↦
          sym (ap (list_any (λ other. is_eq (order other key))) (take_all p keys past.0))
          ∙ list_any_none _ (take p keys) none_before
          ∙ sym (ap (ties order key) past.1)
    ]

    -- the same, by what a test of the place answered
    pub has-told : (answer told : Bool) → answer ≡ ties order key (slice_get keys p) → answer ≡ told → has order key keys ≡ told
    has-told answer told is told_is = has-at ∙ sym is ∙ told_is

    -- all keys at the place and behind it are above, where the key isn't there
    all_above : has order key keys ≡ false → All (λ other. order key other ≡ Less) (drop p keys)
    all_above new = elim (slice_get_cases keys p).1 [
      | inl there ↦
          let apart : is_eq (order there.0 key) ≡ false =
          sym (ap (ties order key) there.2) ∙ sym has-at ∙ new in
          let first : is_lt (order there.0 key) ≡ false =
          subst (λ (o : Option K). IfSome o (λ other. is_lt (order other key) ≡ false)) there.2 place.behind in
          let less : order key there.0 ≡ Less = total.antisymm key there.0 ∙ above (order there.0 key) first apart in
          subst (All (λ other. order key other ≡ Less)) (sym (drop-cons keys p there.0 there.1)) (All-cons (λ other. order key other ≡ Less) (get_or keys p there.0) (drop (suc p) keys) (subst (λ (k : K). order key k ≡ Less) (sym there.3) less) all_behind)
      | inr past ↦ subst (All (λ other. order key other ≡ Less)) (sym (drop_all p keys past.0)) (All-nil (λ other. order key other ≡ Less))
    ]

    -- keys with one more, which wasn't there
    pub ascends-insert : has order key keys ≡ false → Ascends order (insert keys p key)
    ascends-insert new = AllPairs-insert (λ a b. order a b ≡ Less) keys p key place.ascends all_before (all_above new)

    -- where the key is there, it ties with the one at the place
    tied_at : has order key keys ≡ true → (k : K) × (p < length keys) × (get_or keys p k ≡ k) × (order k key ≡ Equal)
    tied_at was = elim (slice_get_cases keys p).1 [
      | inl there ↦ (there.0, there.1, there.3, (Equal-is (order there.0 key)).0 (sym (ap (ties order key) there.2) ∙ sym has-at ∙ was))
      | inr past ↦ absurd (true≢false (sym was ∙ has-at ∙ ap (ties order key) past.1))
    ]

    -- a key that is there stands at the place
    pub place-inside : has order key keys ≡ true → p < length keys
    place-inside was = (tied_at was).1

    -- keys without the one at the place
    pub ascends-remove : has order key keys ≡ true → Ascends order (remove keys p)
    ascends-remove was = all_pairs_remove (λ a b. order a b ≡ Less) keys p (place-inside was) place.ascends

    -- what is there without the one at the place, with which the key ties
    pub has-remove : has order key keys ≡ true → (other : K) → has order other (remove keys p) ≡ (not (is_eq (order key other)) && has order other keys)
    has-remove was other =
        let tied = tied_at was in
        let test : K → Bool = λ k. is_eq (order k other) in
        let alike : is_eq (order (get_or keys p tied.0) other) ≡ is_eq (order key other) =
        ap (λ (k : K). is_eq (order k other)) tied.2 ∙ ap is_eq (total.congr tied.0 key other tied.3) in
        let none : (xs : List K) → All (λ k. is_eq (order k key) ≡ false) xs → is_eq (order key other) ≡ true → list_any test xs ≡ false = λ xs all same.
        list_any_none test xs (λ k d inside. ap is_eq (sym (alike_right total key other (get_or xs k d) ((Equal-is (order key other)).0 same))) ∙ all k d inside) in
        list_any-append test (take p keys) (drop (suc p) keys)
        ∙ without (is_eq (order key other)) (list_any test (take p keys)) (list_any test (drop (suc p) keys)) (none (take p keys) none_before) (none (drop (suc p) keys) none_behind)
        ∙ ap (λ (same : Bool). not (is_eq (order key other)) && (list_any test (take p keys) || (same || list_any test (drop (suc p) keys)))) (sym alike)
        ∙ sym (ap (λ (found : Bool). not (is_eq (order key other)) && found) (list_any-at test keys p tied.0 tied.1))

  -- what is there with one more
  pub has-insert : (keys : List K) (p : ℕ) (other : K) → has order other (insert keys p key) ≡ (is_eq (order key other) || has order other keys)
  has-insert keys p other = list_any-insert (λ k. is_eq (order k other)) keys p key

  -- a key that ties is there alike
  has-alike : (keys : List K) (other : K) → order key other ≡ Equal → has order other keys ≡ has order key keys
  has-alike [] other same = refl
  has-alike (k ∷ keys) other same =
      ap₂ (λ (a b : Bool). a || b) (sym (ap is_eq (alike_right total key other k same))) (has-alike keys other same)

  has-again_if : (keys : List K) (other : K) (same : Bool) → is_eq (order key other) ≡ same → has order key keys ≡ true → has order other keys ≡ (same || has order other keys)
  has-again_if keys other true same was = has-alike keys other ((Equal-is (order key other)).0 same) ∙ was
  has-again_if keys other false same was = refl

  -- what is there doesn't change by a key that was there
  pub has-again : (keys : List K) → has order key keys ≡ true → (other : K) → has order other keys ≡ (is_eq (order key other) || has order other keys)
  has-again keys was other = has-again_if keys other (is_eq (order key other)) refl was

  has-still_if : (keys : List K) (other : K) (same : Bool) → is_eq (order key other) ≡ same → has order key keys ≡ false → has order other keys ≡ (not same && has order other keys)
  has-still_if keys other true same was = has-alike keys other ((Equal-is (order key other)).0 same) ∙ was
  has-still_if keys other false same was = refl

  -- nor by the lack of one that wasn't
  pub has-still : (keys : List K) → has order key keys ≡ false → (other : K) → has order other keys ≡ (not (is_eq (order key other)) && has order other keys)
  has-still keys was other = has-still_if keys other (is_eq (order key other)) refl was

-- ### the first place

not-below : (r : Ordering) → is_eq r ≡ true → is_lt r ≡ false
not-below Less e = absurd (true≢false (sym e))
not-below Equal e = refl
not-below Greater e = refl

module _ {K : Type 0} (order : K → K → Ordering) (key : K) where
  -- the first key is the key, so that it stands there
  pub place-first : (keys : List K) → Ascends order keys → ties order key (slice_get keys 0) ≡ true → IsPlace order key keys 0
  place-first keys ascends first = record {
    ascends = ascends;
    within = omega arith;
    before = λ some. absurd (omega (arith, some));
    behind = behind keys first;
  }
    where
      behind : (keys : List K) → ties order key (slice_get keys 0) ≡ true → IfSome (slice_get keys 0) (λ other. is_lt (order other key) ≡ false)
      behind [] first = tt
      behind (k ∷ ks) first = not-below (order k key) first
