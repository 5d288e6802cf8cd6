-- Map-Requests that were written spell what was written.
use Rattle.std.proofs.Common.{◌≡◌, ℕ, ◌+◌, ◌/◌, Bool, true, false, List, [], ◌++◌, length, drop, Option, Some, None, IfSome, All, flat_map, refl, sym, ap, subst, ◌∙◌, append_assoc, arith}
use Rattle.std.specs.Prelude.{is_some, option_to_list}
use Rattle.std.proofs.lemmas.List.{drop-drop, drop_at, length-append}
use Rattle.std.proofs.lemmas.List.Elements.{All-cons, All-nil}
use Rattle.ip_headers.specs.Addr.{IsAddr}
use Rattle.mapping_records.specs.Address.{canonical_addr}
use Rattle.octets.specs.Numbers.{flag}
use Rattle.mapping_records.specs.Record.{canonical_record, IsLawful, SpellsRecord}
use Rattle.mapping_records.specs.declared.record.Record.{Record}
use Rattle.mapping_records.proofs.EidLemmas.{back}
use Rattle.mapping_records.proofs.WrittenRecord.{record_spells}
use Rattle.map_messages.specs.Items.{SpellItems}
use Rattle.map_messages.specs.Range.{IsLawfulRequest}
use Rattle.map_messages.specs.Request.{canonical_asked_eid, canonical_request, canonical_source, SpellsAskedEid, SpellsReplyAddr, SpellsRequest, SpellsSource}
use Rattle.map_messages.specs.Words.{bit}
use Rattle.map_messages.specs.declared.message.MapRequest.{MapRequest}
use Rattle.map_messages.proofs.AddrLaws.{addr_spells}
use Rattle.map_messages.proofs.AskedEidLaws.{asked_spells}
use Rattle.map_messages.proofs.ItemLaws.{items_spell}
use Rattle.map_messages.proofs.SourceLaws.{source_spells}

-- the type and the flags of the first octet
abbrev first : Bool → Bool → Bool → ℕ
first follows probe smr = 16 + flag follows 4 + flag probe 2 + flag smr 1

-- its fields
record FirstOctet (follows probe smr : Bool) : Type 0 where
  message_type : first follows probe smr / 16 ≡ 1
  record_follows : bit 4 (first follows probe smr) ≡ follows
  probed : bit 2 (first follows probe smr) ≡ probe
  solicits : bit 1 (first follows probe smr) ≡ smr

-- the fields out of the first octet
first_octet : (follows probe smr : Bool) → FirstOctet follows probe smr
first_octet true true true = record { message_type = refl; record_follows = refl; probed = refl; solicits = refl }
first_octet true true false = record { message_type = refl; record_follows = refl; probed = refl; solicits = refl }
first_octet true false true = record { message_type = refl; record_follows = refl; probed = refl; solicits = refl }
first_octet true false false = record { message_type = refl; record_follows = refl; probed = refl; solicits = refl }
first_octet false true true = record { message_type = refl; record_follows = refl; probed = refl; solicits = refl }
first_octet false true false = record { message_type = refl; record_follows = refl; probed = refl; solicits = refl }
first_octet false false true = record { message_type = refl; record_follows = refl; probed = refl; solicits = refl }
first_octet false false false = record { message_type = refl; record_follows = refl; probed = refl; solicits = refl }

-- the flag of the second octet
second_octet : (invoked : Bool) → bit 64 (flag invoked 64) ≡ invoked
second_octet true = refl
second_octet false = refl

-- what stands behind a run of octets
pub behind_run : (octets front rest : List ℕ) (at : ℕ) → drop at octets ≡ front ++ rest → drop (at + length front) octets ≡ rest
behind_run octets front rest at is =
    sym (drop-drop (length front) at octets) ∙ ap (λ (d : List ℕ). drop (length front) d) is ∙ drop_at front rest (length front) refl

-- an optional item as items
pub all_option : (P : Record → Type 0) (option : Option Record) → IfSome option P → All P (option_to_list option)
all_option P (Some mapping) is = All-cons P mapping [] is (All-nil P)
all_option P None is = All-nil P

-- what is written is spelled
pub request_spells : (request : MapRequest) (rest : List ℕ) → IsLawfulRequest request → SpellsRequest (canonical_request request ++ rest) request (length (canonical_request request))
request_spells request rest lawful =
    let octets : List ℕ = canonical_request request ++ rest in
    let source : List ℕ = canonical_source request.source in
    let addrs : List ℕ = flat_map canonical_addr request.replies_to in
    let eids : List ℕ = flat_map canonical_asked_eid request.eids in
    let records : List ℕ = flat_map canonical_record (option_to_list request.piggyback) in
    let source_at : drop 12 octets ≡ source ++ ((addrs ++ (eids ++ records)) ++ rest) = append_assoc source (addrs ++ (eids ++ records)) rest in
    let addrs_end = 12 + length source in
    let addrs_at : drop addrs_end octets ≡ addrs ++ ((eids ++ records) ++ rest) =
    behind_run octets source ((addrs ++ (eids ++ records)) ++ rest) 12 source_at ∙ append_assoc addrs (eids ++ records) rest in
    let eids_end = addrs_end + length addrs in
    let eids_at : drop eids_end octets ≡ eids ++ (records ++ rest) =
    behind_run octets addrs ((eids ++ records) ++ rest) addrs_end addrs_at ∙ append_assoc eids records rest in
    let record_end = eids_end + length eids in
    let record_at : drop record_end octets ≡ records ++ rest = behind_run octets eids (records ++ rest) eids_end eids_at in
    let octet = first_octet (is_some request.piggyback) request.probe request.smr in
    record {
      head = omega arith;
      message_type = octet.message_type;
      record_follows = octet.record_follows;
      probe = octet.probed;
      smr = octet.solicits;
      invoked = second_octet request.invoked;
      addrs = omega (arith, lawful.range.some, lawful.range.most);
      records = refl;
      nonce = back 8 request.nonce [] lawful.nonce;
      source_end = addrs_end;
      source_octets = length source;
      source = subst (λ (d : List ℕ). SpellsSource d request.source (length source)) (sym source_at) (source_spells request.source _ lawful.range.instance lawful.source);
      behind_source = refl;
      addrs_end = eids_end;
      addrs_octets = length addrs;
      replies_to = subst (λ (d : List ℕ). SpellItems SpellsReplyAddr d request.replies_to (length addrs)) (sym addrs_at)
          (items_spell SpellsReplyAddr canonical_addr IsAddr addr_spells request.replies_to ((eids ++ records) ++ rest) lawful.replies_to);
      behind_addrs = refl;
      eids_end = record_end;
      eids_octets = length eids;
      eids = subst (λ (d : List ℕ). SpellItems SpellsAskedEid d request.eids (length eids)) (sym eids_at)
          (items_spell SpellsAskedEid canonical_asked_eid (λ eid. IsAddr eid.prefix.addr) asked_spells request.eids (records ++ rest) lawful.eids);
      behind_eids = refl;
      record_octets = length records;
      piggyback = subst (λ (d : List ℕ). SpellItems SpellsRecord d (option_to_list request.piggyback) (length records)) (sym record_at)
          (items_spell SpellsRecord canonical_record IsLawful record_spells (option_to_list request.piggyback) rest (all_option IsLawful request.piggyback lawful.piggyback));
      end = omega (arith, length-append source (addrs ++ (eids ++ records)), length-append addrs (eids ++ records), length-append eids records);
    }
