-- The first word and the nonce of the control messages, RFC 9301 section 5.
use Rattle.std.specs.Prelude.{ℕ, ◌/◌, ◌%◌, ◌==◌, Bool, List, slice_index}
use Rattle.octets.specs.Numbers.{big}

-- the type of a message, in its first four bits
abbrev pub kind : List ℕ → ℕ
kind octets = slice_index octets 0 / 16

-- whether a message is a Map-Request
abbrev pub is_request : List ℕ → Bool
is_request octets = kind octets == 1

-- whether a message is a Map-Reply
abbrev pub is_reply : List ℕ → Bool
is_reply octets = kind octets == 2

-- whether a message is an Encapsulated Control Message
abbrev pub is_ecm : List ℕ → Bool
is_ecm octets = kind octets == 8

-- whether the bit of that weight is set in an octet
abbrev pub bit : ℕ → ℕ → Bool
bit weight octet = octet / weight % 2 == 1

-- the nonce of a Map-Request or a Map-Reply
abbrev pub nonce_at : List ℕ → ℕ
nonce_at octets = big 8 octets 4
