-- The nonces of a router: those of its settings, then the words of a ChaCha8 stream.
use Rattle.std.specs.Prelude.{ℕ, ◌+◌, ◌*◌, ◌-◌, ◌^◌, nat_lt, List, length, slice_index, if◌then◌else◌}
use Rattle.rand_chacha.specs.ChaCha.{key_of, word_at}

-- the word at a place of stream 0 of a seed
abbrev pub word : List ℕ → ℕ → ℕ
word seed place = word_at 4 (key_of seed) 0 place

-- number j that the stream of a seed gives: words 2j (low) and 2j + 1 (high)
abbrev pub drawn : List ℕ → ℕ → ℕ
drawn seed j = word seed (2 * j) + word seed (2 * j + 1) * 2 ^ 32

-- nonce i, counted from 0: that of the list, and past its end the next number of the stream
abbrev pub nonce_of : List ℕ → List ℕ → ℕ → ℕ
nonce_of seed nonces i =
    if nat_lt i (length nonces) then slice_index nonces i else drawn seed (i - length nonces)
