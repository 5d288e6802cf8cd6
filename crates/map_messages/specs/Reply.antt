-- Map-Replies, RFC 9301 section 5.4.
use Rattle.std.specs.Prelude.{◌≡◌, ℕ, ◌+◌, ◌≤◌, Bool, false, List, ◌∷◌, ◌++◌, length, drop, slice_index, flat_map}
use Rattle.octets.specs.Numbers.{big, big_octets, flag}
use Rattle.octets.specs.declared.refused.Refused.{Refused}
use Rattle.mapping_records.specs.Record.{canonical_record, record_rules, record_size, IsRecordAt, SpellsRecord}
use Rattle.map_messages.specs.Items.{items_rules, items_size, AreItems, SpellItems}
use Rattle.map_messages.specs.Words.{bit, kind, nonce_at}
use Rattle.map_messages.specs.declared.message.MapReply.{MapReply}

-- how many records a Map-Reply has
abbrev pub mapping_count : List ℕ → ℕ
mapping_count octets = slice_index octets 3

-- the rules of a Map-Reply behind its nonce
abbrev pub reply_rules : ℕ → List ℕ → List (Bool × Refused)
reply_rules base octets =
    items_rules record_rules record_size (mapping_count octets) (base + 12) (drop 12 octets)

-- the octets of a Map-Reply
abbrev pub reply_size : List ℕ → ℕ
reply_size octets = 12 + items_size record_size (mapping_count octets) (drop 12 octets)

-- the Map-Reply at the front of the octets
pub record IsReplyAt (octets : List ℕ) (reply : MapReply) : Type 0 where
  pub message_type : kind octets ≡ 2
  pub probe : reply.probe ≡ bit 8 (slice_index octets 0)
  pub nonce : reply.nonce ≡ nonce_at octets
  pub mappings : AreItems IsRecordAt record_size (mapping_count octets) (drop 12 octets)
      reply.mappings

-- the octets begin with this Map-Reply of so many octets; S is clear, E and reserved bits are free
pub record SpellsReply (octets : List ℕ) (reply : MapReply) (size : ℕ) : Type 0 where
  pub head : 12 ≤ length octets
  pub message_type : kind octets ≡ 2
  pub plain : bit 2 (slice_index octets 0) ≡ false
  pub probe : bit 8 (slice_index octets 0) ≡ reply.probe
  pub count : slice_index octets 3 ≡ length reply.mappings
  pub nonce : big 8 octets 4 ≡ reply.nonce
  pub records_octets : ℕ
  pub mappings : SpellItems SpellsRecord (drop 12 octets) reply.mappings records_octets
  pub end : size ≡ 12 + records_octets

-- the first twelve octets of a Map-Reply, up to and with its nonce
abbrev pub reply_head : MapReply → List ℕ
reply_head reply =
    (32 + flag reply.probe 8) ∷ 0 ∷ 0 ∷ length reply.mappings ∷ big_octets 8 reply.nonce

-- the one spelling of a Map-Reply, its ignored bits 0
abbrev pub canonical_reply : MapReply → List ℕ
canonical_reply reply = reply_head reply ++ flat_map canonical_record reply.mappings
