-- The Internet checksum, RFC 1071.
use Rattle.std.specs.Prelude.{ℕ, ◌+◌, ◌-◌, ◌*◌, ◌%◌, nat_lt, List, [], ◌∷◌, fold, if◌then◌else◌}

-- the 16 bit words of octets, an odd last octet padded with zero
abbrev pub words : List ℕ → List ℕ
words [] = []
words (last ∷ []) = last * 256 ∷ []
words (high ∷ low ∷ octets) = (high * 256 + low) ∷ words octets

-- ones' complement addition: a carry out of the word comes in again at its end
abbrev pub ones_add : ℕ → ℕ → ℕ
ones_add a b = if nat_lt 65535 (a + b) then a + b - 65535 else a + b

-- the ones' complement sum of the words
abbrev pub ones_sum : List ℕ → ℕ
ones_sum octets = fold ones_add 0 (words octets)

-- the Internet checksum of octets: the complement of their sum
abbrev pub checksum : List ℕ → ℕ
checksum octets = 65535 - ones_sum octets

-- the plain sum of the words of octets, added to an earlier one
abbrev pub plain_sum : ℕ → List ℕ → ℕ
plain_sum start octets = fold (λ (sum word : ℕ). sum + word) start (words octets)

-- a plain sum with its carries added in: 0 for 0 alone
abbrev pub folded : ℕ → ℕ
folded sum = if nat_lt 0 sum then (sum - 1) % 65535 + 1 else 0
