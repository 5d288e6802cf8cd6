-- The number of an octet: the table of its digits, and how they are written with what is before them.
use Rattle.std.proofs.Common.{slice_set, ◌≡◌, ℕ, zero, suc, ◌+◌, ◌-◌, ◌*◌, ◌<◌, ◌≤◌, List, [], ◌∷◌, ◌++◌, length, drop, replicate, get_or, refl, sym, ap, ◌∙◌, inl, inr, arith, eq-zero-or-pos, length-append}
use Rattle.std.specs.Fmt.{decimal}
use Rattle.std.proofs.lemmas.Grind.{common_steps}
use Rattle.std.proofs.lemmas.List.{get_or_append_left, get_or-append-add, length-replicate, drop-drop}
use Rattle.router_log.specs.Numbers.{octet_entry}
use Rattle.router_log.specs.declared.digits.TheConstants.{OCTETS}
use Rattle.router_log.proofs.DigitLemmas.{length_octet}

-- what a table has of m numbers from n on
abbrev entries : ℕ → ℕ → List ℕ
entries n zero = []
entries n (suc m) = octet_entry n ++ entries (suc n) m

-- so has the one of octets
table : OCTETS ≡ entries 0 256
unfolding Rattle.std.specs.Fmt.digits
table = refl

-- four octets each
pub length_entry : (n : ℕ) → n < 256 → length (octet_entry n) ≡ 4
length_entry n high =
    let few = length_octet n high in
    let joined = length-append (replicate (3 - length (decimal n)) 46) (decimal n) in
    let filled = length-replicate {A = ℕ} (3 - length (decimal n)) 46 in
    omega (arith, few, joined, filled)

-- the octet j of the number p
entry_of : (m n p j k : ℕ) → n + m ≤ 256 → n ≤ p → p < n + m → j < 4 → k ≡ (p - n) * 4 + j
    → get_or (entries n m) k 0 ≡ get_or (octet_entry p) j 0
entry_of zero n p j k fits low below inside is = absurd (omega arith)
entry_of (suc m) n p j k fits low below inside is =
    let four : length (octet_entry n) ≡ 4 = length_entry n (omega arith) in
    elim (eq-zero-or-pos (p - n)) [
      | inl first ↦
          let same : p ≡ n = omega arith in
          let place : k ≡ j = omega arith in
          ap (λ i. get_or (octet_entry n ++ entries (suc n) m) i 0) place
          ∙ get_or_append_left (octet_entry n) (entries (suc n) m) 0 j (omega (arith, four))
          ∙ ap (λ q. get_or (octet_entry q) j 0) (sym same)
      | inr more ↦
          let place : k ≡ length (octet_entry n) + (k - 4) = omega (arith, four) in
          ap (λ i. get_or (octet_entry n ++ entries (suc n) m) i 0) place
          ∙ get_or-append-add (octet_entry n) (entries (suc n) m) (k - 4) 0
          ∙ entry_of m (suc n) p j (k - 4) (omega arith) (omega arith) (omega arith) inside (omega arith)
    ]

-- so in the table
octet_of : (n j k : ℕ) → n < 256 → j < 4 → k ≡ n * 4 + j → get_or OCTETS k 0 ≡ get_or (octet_entry n) j 0
octet_of n j k high inside is =
    ap (λ l. get_or l k 0) table ∙ entry_of 256 0 n j k (omega arith) (omega arith) (omega arith) inside (omega arith)

-- four octets, one by one
four_of : (l : List ℕ) → length l ≡ 4 → get_or l 0 0 ∷ get_or l 1 0 ∷ get_or l 2 0 ∷ get_or l 3 0 ∷ [] ≡ l
four_of [] four = absurd (omega (arith, four))
four_of (a ∷ []) four = absurd (omega (arith, four))
four_of (a ∷ b ∷ []) four = absurd (omega (arith, four))
four_of (a ∷ b ∷ c ∷ []) four = absurd (omega (arith, four))
four_of (a ∷ b ∷ c ∷ d ∷ []) four = refl
four_of (a ∷ b ∷ c ∷ d ∷ e ∷ l) four = absurd (omega (arith, four))

-- four that are the same
four_same : (a b c d e f g h : ℕ) → a ≡ e → b ≡ f → c ≡ g → d ≡ h → a ∷ b ∷ c ∷ d ∷ [] ≡ e ∷ f ∷ g ∷ h ∷ []
four_same a b c d e f g h one two three four = rw (one, two, three, four) refl

-- how many digits the table says that a number has
pub count_at : (n : ℕ) → n < 256 → get_or OCTETS (n * 4) 0 ≡ 48 + length (decimal n)
count_at n high = octet_of n 0 (n * 4) high (omega arith) (omega arith)

-- what it has of a number, before a rest
pub four_at : (n : ℕ) (rest : List ℕ) → n < 256
    → get_or OCTETS (n * 4) 0 ∷ get_or OCTETS (n * 4 + 1) 0 ∷ get_or OCTETS (n * 4 + 2) 0 ∷ get_or OCTETS (n * 4 + 3) 0 ∷ rest ≡ octet_entry n ++ rest
four_at n rest high =
    ap (λ l. l ++ rest)
    (four_same _ _ _ _ _ _ _ _ (octet_of n 0 (n * 4) high (omega arith) (omega arith)) (octet_of n 1 (n * 4 + 1) high (omega arith) (omega arith))
    (octet_of n 2 (n * 4 + 2) high (omega arith) (omega arith)) (octet_of n 3 (n * 4 + 3) high (omega arith) (omega arith))
    ∙ four_of (octet_entry n) (length_entry n high))

-- four octets that are written side by side
pub set_four : (l : List ℕ) (at a b c d : ℕ) → at + 4 ≤ length l
    → drop at (slice_set (slice_set (slice_set (slice_set l (at + 3) d) (at + 2) c) (at + 1) b) at a) ≡ a ∷ b ∷ c ∷ d ∷ drop (at + 4) l
set_four l at a b c d room = grind (arith, common_steps, room)

-- behind what fills three octets up
behind : (p : ℕ) (digits rest : List ℕ) → drop p ((replicate p 46 ++ digits) ++ rest) ≡ digits ++ rest
behind zero digits rest = refl
behind (suc p) digits rest = behind p digits rest

-- where the entry of a number was written, its digits stand at the end
pub behind_filling : (n stop count : ℕ) (new rest : List ℕ) → 4 ≤ stop → count ≡ length (decimal n) → count ≤ 3 → drop (stop - 4) new ≡ octet_entry n ++ rest
    → drop (stop - count) new ≡ decimal n ++ rest
behind_filling n stop count new rest room is few written =
    let place : stop - count ≡ stop - 4 + suc (3 - length (decimal n)) = omega (arith, room, is, few) in
    ap (λ i. drop i new) place
    ∙ sym (drop-drop (suc (3 - length (decimal n))) (stop - 4) new)
    ∙ ap (drop (suc (3 - length (decimal n)))) written
    ∙ behind (3 - length (decimal n)) (decimal n) rest
