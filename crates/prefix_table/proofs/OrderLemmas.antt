-- The order of keys, and lists of pairs that are below or above an EID.
use Rattle.std.proofs.Common.{◌≡◌, ℕ, ◌+◌, ◌-◌, ◌*◌, ◌/◌, ◌%◌, ◌^◌, ◌<◌, ◌≤◌, ◌==◌, nat_lt, nat_le, true, false, cond, List, [], ◌∷◌, ◌++◌, All, None, inl, inr, refl, sym, ap, ◌∙◌, arith, pow_pos}
use Rattle.std.proofs.lemmas.Bool.{eq-eqb, ne_eqb, lt-ltb, le-ltb, cond-true, cond-false, and_parts, eqb-true, cases_order, cases_Bool}
use Rattle.std.proofs.lemmas.List.Elements.{All-head, All-tail}
use Rattle.std.proofs.lemmas.Bool.Decides.{nat_tests}
use native.Mathlib.Nat.{div-add-mod, mul-le-mul_left, mod-lt, mul-div-le}
use Rattle.ip_headers.specs.Addr.{number, width}
use Rattle.mapping_records.specs.declared.eid.Eid.{Eid}
use Rattle.prefix_table.specs.Keys.{key_width, key_len, key_bits}
use Rattle.prefix_table.specs.Pairs.{is_below, with_pair, without_pair, value_in}
use Rattle.prefix_table.proofs.Bits.{Covers}
use Rattle.prefix_table.proofs.NumberOrder.{is_below-numbers}

-- the first key is below the second
pub record Lt (a b : Eid) : Type 0 where
  pub below : is_below a b ≡ true
  pub above : is_below b a ≡ false

-- of one instance and family, by number and then length
below_by_number : (a b : Eid) → a.iid ≡ b.iid → key_width a ≡ key_width b → number a.prefix.addr < number b.prefix.addr → Lt a b
below_by_number a b iid width less = record {
  below = is_below-numbers a b ∙ rw (eq-eqb a.iid b.iid iid, eq-eqb (key_width a) (key_width b) width, ne_eqb (number a.prefix.addr) (number b.prefix.addr) (λ e. absurd (omega (arith, e, less))), lt-ltb (number a.prefix.addr) (number b.prefix.addr) less) refl;
  above = is_below-numbers b a ∙ rw (eq-eqb b.iid a.iid (sym iid), eq-eqb (key_width b) (key_width a) (sym width), ne_eqb (number b.prefix.addr) (number a.prefix.addr) (λ e. absurd (omega (arith, e, less))), le-ltb (number b.prefix.addr) (number a.prefix.addr) (omega (arith, less))) refl;
}

below_by_len : (a b : Eid) → a.iid ≡ b.iid → key_width a ≡ key_width b → number a.prefix.addr ≡ number b.prefix.addr → key_len a < key_len b → Lt a b
below_by_len a b iid width same less = record {
  below = is_below-numbers a b ∙ rw (eq-eqb a.iid b.iid iid, eq-eqb (key_width a) (key_width b) width, eq-eqb (number a.prefix.addr) (number b.prefix.addr) same, lt-ltb (key_len a) (key_len b) less) refl;
  above = is_below-numbers b a ∙ rw (eq-eqb b.iid a.iid (sym iid), eq-eqb (key_width b) (key_width a) (sym width), eq-eqb (number b.prefix.addr) (number a.prefix.addr) (sym same), le-ltb (key_len b) (key_len a) (omega (arith, less))) refl;
}

-- the address of a key is its bits and then zeros
pub number_aligned : (key : Eid) → number key.prefix.addr ≡ 2 ^ (key_width key - key_len key) * key_bits key (key_len key)
number_aligned key =
    let rest : number key.prefix.addr % 2 ^ (key_width key - key_len key) ≡ 0 = eqb-true (number key.prefix.addr % 2 ^ (key_width key - key_len key)) 0 (and_parts (nat_le (key_len key) (key_width key)) (number key.prefix.addr % 2 ^ (key_width key - key_len key) == 0) key.prefix.lawful).1 in
    omega (arith, rest, div-add-mod (number key.prefix.addr) (2 ^ (key_width key - key_len key)))

-- what a key covers has no lesser address
number_covers : (key eid : Eid) → Covers key eid → number key.prefix.addr ≤ number eid.prefix.addr
number_covers key eid c =
    let size : ℕ = 2 ^ (key_width key - key_len key) in
    let bits : key_bits eid (key_len key) ≡ number eid.prefix.addr / size = ap (λ w. number eid.prefix.addr / 2 ^ (w - key_len key)) (sym c.same_width) in
    let least : size * (number eid.prefix.addr / size) ≤ number eid.prefix.addr = mul-div-le (number eid.prefix.addr) size in
    let whole : number key.prefix.addr ≡ size * (number eid.prefix.addr / size) = number_aligned key ∙ ap (λ n. size * n) (c.front ∙ bits) in
    omega (arith, whole, least)

-- a key is below each longer one that it covers
pub Lt-covers : (key eid : Eid) → Covers key eid → key_len key < key_len eid → Lt key eid
Lt-covers key eid c shorter =
    elim (cases_order (number key.prefix.addr) (number eid.prefix.addr)) [
      | inl same ↦ below_by_len key eid c.same_iid c.same_width same shorter
      | inr differs ↦
          elim differs [
            | inl less ↦ below_by_number key eid c.same_iid c.same_width less
            | inr more ↦ absurd (omega (arith, more, number_covers key eid c))
          ]
    ]

quotient_less : (s a b : ℕ) → 0 < s → a / s < b / s → a < b
quotient_less s a b some less =
    let step : s * (a / s + 1) ≤ s * (b / s) = mul-le-mul_left s (omega (arith, less)) in
    let rest : a % s < s = mod-lt a some in
    omega (arith, step, rest, div-add-mod a s, div-add-mod b s)

-- lesser first bits are of a lesser address
pub Lt-bits : (a b : Eid) (len : ℕ) → a.iid ≡ b.iid → key_width a ≡ key_width b → key_bits a len < key_bits b len → Lt a b
Lt-bits a b len iid same_width less =
    let size : ℕ = 2 ^ (key_width a - len) in
    let bits : key_bits b len ≡ number b.prefix.addr / size = ap (λ w. number b.prefix.addr / 2 ^ (w - len)) (sym same_width) in
    below_by_number a b iid same_width (quotient_less size (number a.prefix.addr) (number b.prefix.addr) (pow_pos (key_width a - len)) (omega (arith, less, bits)))

-- the same key
pub record Same (a b : Eid) : Type 0 where
  pub not_below : is_below a b ≡ false
  pub not_above : is_below b a ≡ false

-- a key that covers one as long is the same
pub Same-covers : (key eid : Eid) → Covers key eid → key_len key ≡ key_len eid → Same key eid
Same-covers key eid c same =
    let size : ℕ = 2 ^ (key_width key - key_len key) in
    let eid_size : 2 ^ (key_width eid - key_len eid) ≡ size = ap (λ n. 2 ^ n) (omega (arith, c.same_width, same)) in
    let eid_bits : key_bits eid (key_len eid) ≡ key_bits key (key_len key) = ap (key_bits eid) (sym same) ∙ sym c.front in
    let number_is : number eid.prefix.addr ≡ number key.prefix.addr = number_aligned eid ∙ ap (λ n. n * key_bits eid (key_len eid)) eid_size ∙ ap (λ n. size * n) eid_bits ∙ sym (number_aligned key) in
    record {
      not_below = is_below-numbers key eid ∙ rw (eq-eqb key.iid eid.iid c.same_iid, eq-eqb (key_width key) (key_width eid) c.same_width, eq-eqb (number key.prefix.addr) (number eid.prefix.addr) (sym number_is), le-ltb (key_len key) (key_len eid) (omega (arith, same))) refl;
      not_above = is_below-numbers eid key ∙ rw (eq-eqb eid.iid key.iid (sym c.same_iid), eq-eqb (key_width eid) (key_width key) (sym c.same_width), eq-eqb (number eid.prefix.addr) (number key.prefix.addr) number_is, le-ltb (key_len eid) (key_len key) (omega (arith, same))) refl;
    }

-- equal numbers, by the tests of the order
same_numbers : (i j w v n m l k : ℕ) → cond (i == j) (cond (w == v) (cond (n == m) (nat_lt l k) (nat_lt n m)) (nat_lt w v)) (nat_lt i j) ≡ false → cond (j == i) (cond (v == w) (cond (m == n) (nat_lt k l) (nat_lt m n)) (nat_lt v w)) (nat_lt j i) ≡ false → (i ≡ j) × (w ≡ v) × (n ≡ m) × (l ≡ k)
same_numbers i j w v n m l k below above =
    let first : i ≡ j = grind (arith, nat_tests) in
    let second : w ≡ v = grind (arith, nat_tests) in
    let third : n ≡ m = grind (arith, nat_tests) in
    let fourth : l ≡ k = grind (arith, nat_tests) in
    (first, second, third, fourth)

-- the same key covers
pub covers-Same : (a b : Eid) → Same a b → Covers a b
covers-Same a b s =
    let is = same_numbers a.iid b.iid (key_width a) (key_width b) (number a.prefix.addr) (number b.prefix.addr) (key_len a) (key_len b) (sym (is_below-numbers a b) ∙ s.not_below) (sym (is_below-numbers b a) ∙ s.not_above) in
    record {
      same_iid = is.0;
      same_width = is.1;
      shorter = omega (arith, is.3);
      front = rw (is.1, is.2) refl;
    }

-- a list in which the EID's key isn't has no value of it
pub value_in-missing : {V : Type 0} (eid : Eid) (l : List (Eid × V)) → All (λ pair. Same pair.0 eid → ⊥) l → value_in eid l ≡ None
value_in-missing eid [] missing = refl
value_in-missing {V} eid ((key, old) ∷ l) missing =
    let P = λ (pair : Eid × V). Same pair.0 eid → ⊥ in
    elim (cases_Bool (is_below key eid)) [
      | inl below ↦ rw (below) (value_in-missing eid l (All-tail P (key, old) l missing))
      | inr not_below ↦
          elim (cases_Bool (is_below eid key)) [
            | inl above ↦ rw (not_below, above) refl
            | inr not_above ↦ absurd (All-head P (key, old) l missing (record { not_below = not_below; not_above = not_above }))
          ]
    ]

module _ {V : Type 0} (eid : Eid) where
  abbrev pub IsBefore : Eid × V → Type 0
  IsBefore pair = Lt pair.0 eid

  abbrev pub IsAfter : Eid × V → Type 0
  IsAfter pair = Lt eid pair.0

  pub with_pair-past : (value : V) (xs ys : List (Eid × V)) → All IsBefore xs → with_pair eid value (xs ++ ys) ≡ xs ++ with_pair eid value ys
  with_pair-past value [] ys before = refl
  with_pair-past value ((key, old) ∷ xs) ys before =
      let lt = All-head IsBefore (key, old) xs before in
      cond-true (is_below key eid) _ _ lt.below ∙ ap (λ l. (key, old) ∷ l) (with_pair-past value xs ys (All-tail IsBefore (key, old) xs before))

  pub with_pair-before : (value : V) (xs ys : List (Eid × V)) → All IsAfter ys → with_pair eid value (xs ++ ys) ≡ with_pair eid value xs ++ ys
  with_pair-before value [] [] after = refl
  with_pair-before value [] ((key, old) ∷ ys) after =
      let gt = All-head IsAfter (key, old) ys after in
      cond-false (is_below key eid) _ _ gt.above ∙ cond-true (is_below eid key) _ _ gt.below
  with_pair-before value ((key, old) ∷ xs) ys after =
      elim (cases_Bool (is_below key eid)) [
        | inl below ↦ rw (below, with_pair-before value xs ys after) refl
        | inr not_below ↦
            elim (cases_Bool (is_below eid key)) [
              | inl above ↦ rw (not_below, above) refl
              | inr not_above ↦ rw (not_below, not_above) refl
            ]
      ]

  pub without_pair-past : (xs ys : List (Eid × V)) → All IsBefore xs → without_pair eid (xs ++ ys) ≡ xs ++ without_pair eid ys
  without_pair-past [] ys before = refl
  without_pair-past ((key, old) ∷ xs) ys before =
      let lt = All-head IsBefore (key, old) xs before in
      cond-true (is_below key eid) _ _ lt.below ∙ ap (λ l. (key, old) ∷ l) (without_pair-past xs ys (All-tail IsBefore (key, old) xs before))

  pub without_pair-before : (xs ys : List (Eid × V)) → All IsAfter ys → without_pair eid (xs ++ ys) ≡ without_pair eid xs ++ ys
  without_pair-before [] [] after = refl
  without_pair-before [] ((key, old) ∷ ys) after =
      let gt = All-head IsAfter (key, old) ys after in
      cond-false (is_below key eid) _ _ gt.above ∙ cond-true (is_below eid key) _ _ gt.below
  without_pair-before ((key, old) ∷ xs) ys after =
      elim (cases_Bool (is_below key eid)) [
        | inl below ↦ rw (below, without_pair-before xs ys after) refl
        | inr not_below ↦
            elim (cases_Bool (is_below eid key)) [
              | inl above ↦ rw (not_below, above) refl
              | inr not_above ↦ rw (not_below, not_above) refl
            ]
      ]

  pub value_in-past : (xs ys : List (Eid × V)) → All IsBefore xs → value_in eid (xs ++ ys) ≡ value_in eid ys
  value_in-past [] ys before = refl
  value_in-past ((key, old) ∷ xs) ys before =
      let lt = All-head IsBefore (key, old) xs before in
      cond-true (is_below key eid) _ _ lt.below ∙ value_in-past xs ys (All-tail IsBefore (key, old) xs before)

  pub value_in-before : (xs ys : List (Eid × V)) → All IsAfter ys → value_in eid (xs ++ ys) ≡ value_in eid xs
  value_in-before [] [] after = refl
  value_in-before [] ((key, old) ∷ ys) after =
      let gt = All-head IsAfter (key, old) ys after in
      cond-false (is_below key eid) _ _ gt.above ∙ cond-true (is_below eid key) _ _ gt.below
  value_in-before ((key, old) ∷ xs) ys after =
      elim (cases_Bool (is_below key eid)) [
        | inl below ↦ rw (below, value_in-before xs ys after) refl
        | inr not_below ↦
            elim (cases_Bool (is_below eid key)) [
              | inl above ↦ rw (not_below, above) refl
              | inr not_above ↦ rw (not_below, not_above) refl
            ]
      ]
