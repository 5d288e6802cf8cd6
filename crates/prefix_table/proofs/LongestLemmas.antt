-- Lookups in tries.
use Rattle.std.proofs.Common.{◌≡◌, ◌⊎◌, ℕ, ◌+◌, ◌%◌, ◌<◌, ◌≤◌, ◌==◌, Bool, true, false, [], ◌++◌, All, Contains, Option, Some, None, inl, inr, subst, refl, sym, ◌∙◌, arith}
use Rattle.std.proofs.lemmas.Bool.{false≢true, eqb-true, eqb-false}
use Rattle.std.proofs.lemmas.List.Elements.{All-nil, All-cons, All-append, Contains-append_left, Contains-append_right}
use native.Mathlib.Nat.{div-add-mod, mod-lt}
use Rattle.mapping_records.specs.declared.eid.Eid.{Eid}
use Rattle.mapping_records.specs.Eids.{covers_eid}
use Rattle.prefix_table.specs.Keys.{key_len, key_bits}
use Rattle.prefix_table.specs.Tree.{Tree, pair_of, pairs, Fits, IsTrie, side_bits}
use Rattle.prefix_table.specs.Tree.Tree.{none, node}
use Rattle.prefix_table.specs.Longest.{IsRefused}
use Rattle.prefix_table.specs.Sides.{bit_of}
use Rattle.prefix_table.proofs.Bits.{Covers, key_bits-half, key_len-within, covers_parts, covers_from, below_covers, side_fits, fits_covers, covers_trans}
use Rattle.prefix_table.proofs.ForkLemmas.{fork}

-- the fact holds of a pair whose value is there
abbrev pub OnPair : {V : Type 0} → (Eid × V → Type 0) → Eid → Option V → Type 0
OnPair P key None = Unit {0}
OnPair P key (Some value) = P (key, value)

pub OnPair-all : {V : Type 0} (P : Eid × V → Type 0) (key : Eid) (value : Option V) → ((v : V) → P (key, v)) → OnPair P key value
OnPair-all P key None of = tt
OnPair-all P key (Some v) of = of v

-- each pair of the tree
abbrev pub Each : {V : Type 0} → (Eid × V → Type 0) → Tree V → Type 0
Each P none = Unit {0}
Each P (node name key value zero one) = OnPair P key value × Each P zero × Each P one

pub All-pair_of : {V : Type 0} (P : Eid × V → Type 0) (key : Eid) (value : Option V) → OnPair P key value → All P (pair_of key value)
All-pair_of P key None h = All-nil P
All-pair_of P key (Some value) h = All-cons P (key, value) [] h (All-nil P)

pub All-pairs : {V : Type 0} (P : Eid × V → Type 0) (tree : Tree V) → Each P tree → All P (pairs tree)
All-pairs P none h = All-nil P
All-pairs P (node name key value zero one) h =
    All-append P (pair_of key value) (pairs zero ++ pairs one) (All-pair_of P key value h.0) (All-append P (pairs zero) (pairs one) (All-pairs P zero h.1) (All-pairs P one h.2))

-- a fact of each key that fits
pub each_fits : {V : Type 0} (P : Eid × V → Type 0) (tree : Tree V) (iid width bits len : ℕ) → IsTrie iid width bits len tree → ((key : Eid) (value : V) → Fits iid width bits len key → P (key, value)) → Each P tree
each_fits P none iid width bits len trie of = tt
each_fits P (node name key value zero one) iid width bits len trie of = (
  OnPair-all P key value (λ v. of key v trie.0),
  each_fits P zero iid width (side_bits key 0) (key_len key + 1) trie.1 (λ k v inner. of k v (side_fits key k iid width bits len 0 (omega arith) trie.0 inner)),
  each_fits P one iid width (side_bits key 1) (key_len key + 1) trie.2 (λ k v inner. of k v (side_fits key k iid width bits len 1 (omega arith) trie.0 inner)),
)

-- one pair of the tree
abbrev pub Has : {V : Type 0} → Eid × V → Tree V → Type 0
Has pair none = ⊥
Has pair (node name key value zero one) = ((key ≡ pair.0) × (value ≡ Some pair.1)) ⊎ (Has pair zero ⊎ Has pair one)

pub Contains-pairs : {V : Type 0} (tree : Tree V) (pair : Eid × V) → Has pair tree → Contains (pairs tree) pair
Contains-pairs none pair h = absurd h
Contains-pairs (node name key value zero one) pair h =
    elim h [
      | inl here ↦ Contains-append_left (pair_of key value) (pairs zero ++ pairs one) pair (rw (here.0, here.1) (0, omega arith, refl))
      | inr there ↦
          Contains-append_right (pair_of key value) (pairs zero ++ pairs one) pair
          (elim there [
            | inl in_zero ↦ Contains-append_left (pairs zero) (pairs one) pair (Contains-pairs zero pair in_zero)
            | inr in_one ↦ Contains-append_right (pairs zero) (pairs one) pair (Contains-pairs one pair in_one)
          ])
    ]

-- each pair has what one of them has
pub Each-has : {V : Type 0} (P : Eid × V → Type 0) (tree : Tree V) (pair : Eid × V) → Has pair tree → Each P tree → P pair
Each-has P none pair h each = absurd h
Each-has P (node name key None zero one) pair h each =
    elim h [
      | inl here ↦ absurd (cc (here.1))
      | inr there ↦ elim there [ inl in_zero ↦ Each-has P zero pair in_zero each.1 | inr in_one ↦ Each-has P one pair in_one each.2 ]
    ]
Each-has {V} P (node name key (Some value) zero one) pair h each =
    elim h [
      | inl here ↦ let same : value ≡ pair.1 = cc (here.1) in let whole : ◌≡◌ {A = Eid × V} (key, value) pair = rw (here.0, same) refl in subst P whole each.0
      | inr there ↦ elim there [ inl in_zero ↦ Each-has P zero pair in_zero each.1 | inr in_one ↦ Each-has P one pair in_one each.2 ]
    ]

-- a weaker fact holds of each
pub Each-weaker : {V : Type 0} (P Q : Eid × V → Type 0) (tree : Tree V) → ((pair : Eid × V) → P pair → Q pair) → Each P tree → Each Q tree
Each-weaker P Q none f each = tt
Each-weaker P Q (node name key None zero one) f each = (tt, Each-weaker P Q zero f each.1, Each-weaker P Q one f each.2)
Each-weaker P Q (node name key (Some value) zero one) f each = (f (key, value) each.0, Each-weaker P Q zero f each.1, Each-weaker P Q one f each.2)

module _ {V : Type 0} (answers : V → Bool → Type 0) (eid : Eid) where
  -- this pair of the tree is its longest that covers and passes
  pub record IsFound (tree : Tree V) (pair : Eid × V) : Type 0 where
    pub there : Has pair tree
    pub covers : covers_eid pair.0 eid ≡ true
    pub passes : answers pair.1 true
    pub longest : Each (λ other. key_len pair.0 < key_len other.0 → IsRefused answers eid other) tree

  -- what a search of the tree may answer that has found `best` before, and shorter
  abbrev pub Answers : Tree V → Option (Eid × V) → Option (Eid × V) → Type 0
  Answers tree best result =
      ((result ≡ best) × Each (IsRefused answers eid) tree)
      ⊎ ((pair : Eid × V) × (result ≡ Some pair) × IsFound tree pair)

  -- how a tree is made of the pair at its top, the side that goes on and the other
  pub record Parts (tree near far : Tree V) (key : Eid) (value : Option V) : Type 1 where
    pub own : (v : V) → value ≡ Some v → Has (key, v) tree
    pub near_has : (pair : Eid × V) → Has pair near → Has pair tree
    pub join : (P : Eid × V → Type 0) → OnPair P key value → Each P near → Each P far → Each P tree

  pub parts : (side : Bool) (name : ℕ) (key : Eid) (value : Option V) (near far : Tree V) → Parts (fork side name key value near far) near far key value
  parts false name key value near far = record {
    own = λ v is. inl (refl, is);
    near_has = λ pair h. inr (inl h);
    join = λ P own in_near in_far. (own, in_near, in_far);
  }
  parts true name key value near far = record {
    own = λ v is. inl (refl, is);
    near_has = λ pair h. inr (inr h);
    join = λ P own in_near in_far. (own, in_far, in_near);
  }

  abbrev pub Misses : Eid × V → Type 0
  Misses pair = covers_eid pair.0 eid ≡ true → ⊥

  -- what is found below is what is found
  found_below : (tree near far : Tree V) (key : Eid) (value : Option V) (pair : Eid × V) → Parts tree near far key value → Each (λ other. key_len key < key_len other.0) near → Each Misses far → IsFound near pair → IsFound tree pair
  found_below tree near far key value pair parts longer misses found = record {
    there = parts.near_has pair found.there;
    covers = found.covers;
    passes = found.passes;
    longest =
        parts.join (λ other. key_len pair.0 < key_len other.0 → IsRefused answers eid other)
        (OnPair-all (λ other. key_len pair.0 < key_len other.0 → IsRefused answers eid other) key value (λ v less. absurd (omega (arith, less, Each-has (λ other. key_len key < key_len other.0) near pair found.there longer))))
        found.longest
        (Each-weaker Misses (λ other. key_len pair.0 < key_len other.0 → IsRefused answers eid other) far (λ other miss less covers. absurd (miss covers)) misses);
  }

  -- the pair at the top passed, and nothing below does
  found_here : (tree near far : Tree V) (key : Eid) (v : V) → Parts tree near far key (Some v) → covers_eid key eid ≡ true → answers v true → Each (IsRefused answers eid) near → Each Misses far → IsFound tree (key, v)
  found_here tree near far key v parts covers passes refused misses = record {
    there = parts.own v refl;
    covers = covers;
    passes = passes;
    longest =
        parts.join (λ other. key_len key < key_len other.0 → IsRefused answers eid other)
        (λ less. absurd (omega (arith, less)))
        (Each-weaker (IsRefused answers eid) (λ other. key_len key < key_len other.0 → IsRefused answers eid other) near (λ other no less. no) refused)
        (Each-weaker Misses (λ other. key_len key < key_len other.0 → IsRefused answers eid other) far (λ other miss less covers. absurd (miss covers)) misses);
  }

  -- a search goes on below a pair that passed
  pub step_passed : (tree near far : Tree V) (key : Eid) (v : V) (best result : Option (Eid × V)) → Parts tree near far key (Some v) → covers_eid key eid ≡ true → answers v true → Each (λ other. key_len key < key_len other.0) near → Each Misses far → Answers near (Some (key, v)) result → Answers tree best result
  step_passed tree near far key v best result parts covers passes longer misses below =
      elim below [
        | inl stays ↦ inr ((key, v), stays.0, found_here tree near far key v parts covers passes stays.1 misses)
        | inr found ↦ inr (found.0, found.1, found_below tree near far key (Some v) found.0 parts longer misses found.2)
      ]

  -- and below one that was refused, or has no value
  pub step_refused : (tree near far : Tree V) (key : Eid) (value : Option V) (best result : Option (Eid × V)) → Parts tree near far key value → OnPair (IsRefused answers eid) key value → Each (λ other. key_len key < key_len other.0) near → Each Misses far → Answers near best result → Answers tree best result
  step_refused tree near far key value best result parts refused longer misses below =
      elim below [
        | inl stays ↦ inl (stays.0, parts.join (IsRefused answers eid) refused stays.1 (Each-weaker Misses (IsRefused answers eid) far (λ other miss covers. absurd (miss covers)) misses))
        | inr found ↦ inr (found.0, found.1, found_below tree near far key value found.0 parts longer misses found.2)
      ]

  -- each key on a side is longer
  pub side_longer : (tree : Tree V) (key : Eid) (iid width bits : ℕ) → IsTrie iid width bits (key_len key + 1) tree → Each (λ other. key_len key < key_len other.0) tree
  side_longer tree key iid width bits trie =
      each_fits (λ other. key_len key < key_len other.0) tree iid width bits (key_len key + 1) trie (λ k v fits. omega (arith, fits.longer))

  -- no key on the side that the EID isn't on covers it
  pub side_misses : (tree : Tree V) (iid width bits len : ℕ) → IsTrie iid width bits len tree → (key_bits eid len ≡ bits → ⊥) → Each Misses tree
  side_misses tree iid width bits len trie off =
      each_fits Misses tree iid width bits len trie (λ k v fits covers. off (fits_covers k eid iid width bits len fits (covers_parts k eid covers)))

  -- below a key that doesn't cover the EID, none does
  pub none_covers : (name : ℕ) (key : Eid) (value : Option V) (zero one : Tree V) (iid width bits len : ℕ) → IsTrie iid width bits len (node name key value zero one) → covers_eid key eid ≡ false → Each Misses (node name key value zero one)
  none_covers name key value zero one iid width bits len trie off =
      let differs = false≢true in
      let none_below = λ (other : Eid) (side : ℕ) (bit : side < 2) (fits : Fits iid width (side_bits key side) (key_len key + 1) other) (covers : covers_eid other eid ≡ true).
      differs (sym off ∙ covers_from key eid (covers_trans key other eid (below_covers key other iid width side bit trie.0.same_iid trie.0.same_width fits) (covers_parts other eid covers))) in (
        OnPair-all Misses key value (λ v covers. differs (sym off ∙ covers)),
        each_fits Misses zero iid width (side_bits key 0) (key_len key + 1) trie.1 (λ k v fits covers. none_below k 0 (omega arith) fits covers),
        each_fits Misses one iid width (side_bits key 1) (key_len key + 1) trie.2 (λ k v fits covers. none_below k 1 (omega arith) fits covers),
      )

  -- a search of one side of a tree of which no key covers the EID finds nothing
  pub astray : (tree near far : Tree V) (key : Eid) (value : Option V) (best result : Option (Eid × V)) → Parts tree near far key value → Each Misses tree → Answers near best result → Answers tree best result
  astray tree near far key value best result parts misses below =
      elim below [
        | inl stays ↦ inl (stays.0, Each-weaker Misses (IsRefused answers eid) tree (λ other miss covers. absurd (miss covers)) misses)
        | inr found ↦ absurd (Each-has Misses tree found.0 (parts.near_has found.0 (found.2).there) misses (found.2).covers)
      ]

  -- no key on a side of one that isn't shorter than the EID covers it
  pub longer_misses : (tree : Tree V) (key : Eid) (iid width bits : ℕ) → key_len eid ≤ key_len key → IsTrie iid width bits (key_len key + 1) tree → Each (IsRefused answers eid) tree
  longer_misses tree key iid width bits long trie =
      each_fits (IsRefused answers eid) tree iid width bits (key_len key + 1) trie (λ k v fits covers. let c = covers_parts k eid covers in absurd (omega (arith, long, fits.longer, c.shorter)))

-- the side of a key on which an EID that it covers is
pub side_of : (key eid : Eid) (side : ℕ) → Covers key eid → key_len key < key_len eid → key_bits eid (key_len key + 1) % 2 ≡ side → key_bits eid (key_len key + 1) ≡ side_bits key side
side_of key eid side c shorter parity =
    let half = key_bits-half eid (key_len key) (omega (arith, shorter, key_len-within eid)) in
    omega (arith, half, c.front, parity, div-add-mod (key_bits eid (key_len key + 1)) 2)

-- by the bit behind the key's length
pub side_at : (key eid : Eid) (side : Bool) → Covers key eid → key_len key < key_len eid → (key_bits eid (key_len key + 1) % 2 == 1) ≡ side → key_bits eid (key_len key + 1) ≡ side_bits key (bit_of side)
side_at key eid true c shorter bit = side_of key eid 1 c shorter (eqb-true _ _ bit)
side_at key eid false c shorter bit =
    side_of key eid 0 c shorter (omega (arith, eqb-false _ _ bit, mod-lt (key_bits eid (key_len key + 1)) {m = 2} (omega arith)))
