-- Map-Replies: what is spelled is read, what is read is spelled, and what is written is spelled.
use Rattle.std.proofs.Common.{◌≡◌, ◌≤◌, ℕ, ◌+◌, ◌/◌, Bool, true, false, List, [], ◌++◌, length, drop, slice_index, None, flat_map, refl, sym, ap, ◌∙◌, arith}
use Rattle.octets.specs.Rules.{first_failing}
use Rattle.octets.specs.Numbers.{flag}
use Rattle.mapping_records.specs.Record.{canonical_record, record_rules, record_size, IsLawful, IsRecordAt, SpellsRecord}
use Rattle.mapping_records.specs.declared.record.Record.{Record}
use Rattle.mapping_records.proofs.EidLemmas.{back}
use Rattle.mapping_records.proofs.WholeRecord.{record_is_spelled, same_at, some_record, spelled_record}
use Rattle.mapping_records.proofs.WrittenRecord.{record_spells}
use Rattle.map_messages.specs.Items.{items_rules, items_size}
use Rattle.map_messages.specs.Range.{IsLawfulReply}
use Rattle.map_messages.specs.Reply.{canonical_reply, mapping_count, reply_rules, reply_size, IsReplyAt, SpellsReply}
use Rattle.map_messages.specs.Words.{bit, kind, nonce_at}
use Rattle.map_messages.specs.declared.message.MapReply.{MapReply}
use Rattle.map_messages.proofs.ItemLaws.{are_spelled, items_spell, same_items, some_items, spelled_items, ItemRead}

-- a record that is spelled is read
pub record_read : (octets : List ℕ) (mapping : Record) (n : ℕ) → SpellsRecord octets mapping n → ItemRead IsRecordAt record_rules record_size octets mapping n
record_read octets mapping n s =
    let first = spelled_record 0 octets mapping n s in
    record { pass = λ base. (spelled_record base octets mapping n s).rules; value = first.value; end = first.end }

-- a Map-Reply that obeys the rules, with its value and its octets
pub record ReadReply (octets : List ℕ) (reply : MapReply) (size : ℕ) : Type 0 where
  pub pass : (base : ℕ) → first_failing (reply_rules base octets) ≡ None
  pub value : IsReplyAt octets reply
  pub end : reply_size octets ≡ size

-- what is spelled is read
pub spelled_reply : (octets : List ℕ) (reply : MapReply) (size : ℕ) → SpellsReply octets reply size → ReadReply octets reply size
spelled_reply octets reply size s =
    let rest : List ℕ = drop 12 octets in
    let items = spelled_items IsRecordAt record_rules record_size SpellsRecord record_read rest reply.mappings s.records_octets s.mappings in
    record {
      pass = λ base. ap (λ (n : ℕ). first_failing (items_rules record_rules record_size n (base + 12) rest)) s.count ∙ items.pass (base + 12);
      value = record {
        message_type = s.message_type;
        probe = sym s.probe;
        nonce = sym s.nonce;
        mappings = record { number = sym s.count; each = items.each };
      };
      end = ap (λ (n : ℕ). 12 + items_size record_size n rest) s.count ∙ ap (λ (k : ℕ). 12 + k) items.end ∙ sym s.end;
    }

-- what is read is spelled
pub reply_is_spelled : (base : ℕ) (octets : List ℕ) (reply : MapReply) → 12 ≤ length octets → bit 2 (slice_index octets 0) ≡ false
    → first_failing (reply_rules base octets) ≡ None → IsReplyAt octets reply → SpellsReply octets reply (reply_size octets)
reply_is_spelled base octets reply head plain none at = record {
  head = head;
  message_type = at.message_type;
  plain = plain;
  probe = sym at.probe;
  count = sym at.mappings.number;
  nonce = sym at.nonce;
  records_octets = items_size record_size (mapping_count octets) (drop 12 octets);
  mappings = are_spelled IsRecordAt record_rules record_size SpellsRecord record_is_spelled (mapping_count octets) (base + 12) (drop 12 octets) reply.mappings none at.mappings;
  end = refl;
}

-- a Map-Reply is there
pub some_reply : (base : ℕ) (octets : List ℕ) → kind octets ≡ 2 → first_failing (reply_rules base octets) ≡ None → (reply : MapReply) × IsReplyAt octets reply
some_reply base octets two none =
    let items = some_items IsRecordAt record_rules record_size some_record (mapping_count octets) (base + 12) (drop 12 octets) none in
    (record { probe = bit 8 (slice_index octets 0); nonce = nonce_at octets; mappings = items.0 }, record { message_type = two; probe = refl; nonce = refl; mappings = items.1 })

-- the Map-Reply at the front is one
pub same_reply : (octets : List ℕ) (a b : MapReply) → IsReplyAt octets a → IsReplyAt octets b → a ≡ b
same_reply octets a b s t =
    let mappings = same_items IsRecordAt record_size same_at (drop 12 octets) a.mappings b.mappings s.mappings.each t.mappings.each (s.mappings.number ∙ sym t.mappings.number) in
    rw (s.probe ∙ sym t.probe, s.nonce ∙ sym t.nonce, mappings) refl

-- the type and the flags of the first octet
record FirstOctet (probe : Bool) : Type 0 where
  message_type : (32 + flag probe 8) / 16 ≡ 2
  plain : bit 2 (32 + flag probe 8) ≡ false
  probed : bit 8 (32 + flag probe 8) ≡ probe

-- its fields out of the first octet
first_octet : (probe : Bool) → FirstOctet probe
first_octet true = record { message_type = refl; plain = refl; probed = refl }
first_octet false = record { message_type = refl; plain = refl; probed = refl }

-- what is written is spelled
pub reply_spells : (reply : MapReply) (rest : List ℕ) → IsLawfulReply reply → SpellsReply (canonical_reply reply ++ rest) reply (length (canonical_reply reply))
reply_spells reply rest lawful =
    let first = first_octet reply.probe in
    record {
      head = omega arith;
      message_type = first.message_type;
      plain = first.plain;
      probe = first.probed;
      count = refl;
      nonce = back 8 reply.nonce [] lawful.nonce;
      records_octets = length (flat_map canonical_record reply.mappings);
      mappings = items_spell SpellsRecord canonical_record IsLawful record_spells reply.mappings rest lawful.mappings;
      end = omega arith;
    }
