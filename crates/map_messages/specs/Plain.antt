-- Messages that an Encapsulated Control Message may carry, RFC 9301 sections 5.2 and 5.4.
use Rattle.std.specs.Prelude.{ℕ, ◌+◌, ◌||◌, nat_le, not, Bool, List, [], ◌∷◌, ◌++◌, length, slice_index, if◌then◌else◌}
use Rattle.octets.specs.declared.refused.Refused.{Refused}
use Rattle.octets.specs.declared.refused.Why.TheVariants.{Short, MessageType, Authenticated}
use Rattle.mapping_records.specs.Address.{refused}
use Rattle.map_messages.specs.Words.{bit, is_reply, is_request}
use Rattle.map_messages.specs.Request.{canonical_request, request_rules, request_size, IsRequestAt, SpellsRequest}
use Rattle.map_messages.specs.Reply.{canonical_reply, reply_rules, reply_size, IsReplyAt, SpellsReply}
use Rattle.map_messages.specs.declared.plain.Plain.{Plain}
use Rattle.map_messages.specs.declared.plain.Plain.TheVariants.{Request, Reply}

-- the rules up to the nonce: the message is a Map-Request, or a Map-Reply whose bit S, which would add authentication,
-- is clear
abbrev pub front_rules : ℕ → List ℕ → List (Bool × Refused)
front_rules base octets =
    (nat_le 4 (length octets), refused base Short)
    ∷ (is_request octets || is_reply octets, refused base MessageType)
    ∷ (is_request octets || not (bit 2 (slice_index octets 0)), refused base Authenticated)
    ∷ (nat_le 12 (length octets), refused (base + 4) Short)
    ∷ []

-- the rules of a Map-Request or a Map-Reply
abbrev pub plain_rules : ℕ → List ℕ → List (Bool × Refused)
plain_rules base octets =
    front_rules base octets
    ++ (if is_request octets then request_rules base octets else reply_rules base octets)

-- the octets of a Map-Request or a Map-Reply
abbrev pub plain_size : List ℕ → ℕ
plain_size octets = if is_request octets then request_size octets else reply_size octets

-- the Map-Request or Map-Reply at the front of the octets
abbrev pub IsPlainAt : List ℕ → Plain → Type 0
IsPlainAt octets (Request request) = IsRequestAt octets request
IsPlainAt octets (Reply reply) = IsReplyAt octets reply

-- the octets begin with this Map-Request or Map-Reply of so many octets
abbrev pub SpellsPlain : List ℕ → Plain → ℕ → Type 0
SpellsPlain octets (Request request) size = SpellsRequest octets request size
SpellsPlain octets (Reply reply) size = SpellsReply octets reply size

-- the one spelling of a Map-Request or a Map-Reply
abbrev pub canonical_plain : Plain → List ℕ
canonical_plain (Request request) = canonical_request request
canonical_plain (Reply reply) = canonical_reply reply
