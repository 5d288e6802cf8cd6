-- Whole control messages, RFC 9301 section 5.
use Rattle.std.specs.Prelude.{ℕ, ◌-◌, ◌≤◌, Bool, List, length, if◌then◌else◌}
use Rattle.octets.specs.declared.refused.Refused.{Refused}
use Rattle.map_messages.specs.Words.{is_ecm}
use Rattle.map_messages.specs.Request.{canonical_request, IsRequestAt, SpellsRequest}
use Rattle.map_messages.specs.Reply.{canonical_reply, IsReplyAt, SpellsReply}
use Rattle.map_messages.specs.Plain.{plain_rules, plain_size}
use Rattle.map_messages.specs.Control.{canonical_ecm, ecm_rules, ecm_size, IsEcmAt, SpellsEcm}
use Rattle.map_messages.specs.declared.message.Message.{Message}
use Rattle.map_messages.specs.declared.message.Message.TheVariants.{Request, Reply, Control}

-- the rules of a message
abbrev pub message_rules : ℕ → List ℕ → List (Bool × Refused)
message_rules base octets = if is_ecm octets then ecm_rules base octets else plain_rules base octets

-- the octets that are part of a message and of the headers in front of it
abbrev pub message_size : List ℕ → ℕ
message_size octets = if is_ecm octets then ecm_size octets else plain_size octets

-- the octets that are left over behind a message
abbrev pub left_over : List ℕ → ℕ
left_over octets = length octets - message_size octets

-- the message at the front of the octets
abbrev pub IsMessageAt : List ℕ → Message → Type 0
IsMessageAt octets (Request request) = IsRequestAt octets request
IsMessageAt octets (Reply reply) = IsReplyAt octets reply
IsMessageAt octets (Control ecm) = IsEcmAt octets ecm

-- the octets spell this message, with so many left over
abbrev pub SpellsMessage : List ℕ → Message → ℕ → Type 0
SpellsMessage octets (Request request) left =
    (left ≤ length octets) × SpellsRequest octets request (length octets - left)
SpellsMessage octets (Reply reply) left =
    (left ≤ length octets) × SpellsReply octets reply (length octets - left)
SpellsMessage octets (Control ecm) left = SpellsEcm octets ecm left

-- the one spelling of a message
abbrev pub canonical_message : Message → List ℕ
canonical_message (Request request) = canonical_request request
canonical_message (Reply reply) = canonical_reply reply
canonical_message (Control ecm) = canonical_ecm ecm
