-- Map-Requests, RFC 9301 section 5.2.
use Rattle.std.specs.Prelude.{◌≡◌, ℕ, ◌+◌, ◌-◌, ◌%◌, ◌≤◌, nat_le, Bool, List, [], ◌∷◌, ◌++◌, length, drop, slice_index, if◌then◌else◌, is_some, Option, Some, None, option_to_list, flat_map}
use Rattle.octets.specs.Numbers.{big, big_octets, flag}
use Rattle.octets.specs.declared.refused.Refused.{Refused}
use Rattle.octets.specs.declared.refused.Why.TheVariants.{Short, Afi}
use Rattle.ip_headers.specs.declared.addr.Addr.{Addr}
use Rattle.mapping_records.specs.Address.{refused, has_addr, addr_size, addr_at, canonical_addr, octets_of, SpellsAddr}
use Rattle.mapping_records.specs.Eid.{canonical_eid, eid_addr, eid_rules, eid_size, instance_at, is_none, SpellsEid}
use Rattle.mapping_records.specs.Record.{canonical_record, eid_prefix_rules, record_rules, record_size, IsEidPrefix, IsRecordAt, SpellsEidPrefix, SpellsRecord}
use Rattle.mapping_records.specs.declared.eid.Eid.{Eid}
use Rattle.mapping_records.specs.declared.record.Record.{Record}
use Rattle.map_messages.specs.Items.{items_rules, items_size, AreItems, SpellItems}
use Rattle.map_messages.specs.Words.{bit, kind, nonce_at}
use Rattle.map_messages.specs.declared.message.MapRequest.{MapRequest}

-- the octets of an ITR-RLOC: an AFI and an address
abbrev pub reply_addr_size : List ℕ → ℕ
reply_addr_size octets = 2 + addr_size (big 2 octets 0)

-- the rules of an ITR-RLOC
abbrev pub reply_addr_rules : ℕ → List ℕ → List (Bool × Refused)
reply_addr_rules base octets =
    (nat_le 2 (length octets), refused base Short)
    ∷ (has_addr (big 2 octets 0), refused base Afi)
    ∷ (nat_le (reply_addr_size octets) (length octets), refused (base + 2) Short)
    ∷ []

-- the ITR-RLOC at the front of the octets
abbrev pub IsReplyAddr : List ℕ → Addr → Type 0
IsReplyAddr octets addr = addr ≡ addr_at (big 2 octets 0) octets 2

-- the octets of an EID record: a reserved octet, the mask length, the EID
abbrev pub asked_eid_size : List ℕ → ℕ
asked_eid_size octets = 2 + eid_size (drop 2 octets)

-- the rules of an EID record
abbrev pub asked_eid_rules : ℕ → List ℕ → List (Bool × Refused)
asked_eid_rules base octets =
    (nat_le 2 (length octets), refused base Short)
    ∷ eid_prefix_rules (base + 2) (drop 2 octets) (slice_index octets 1) (base + 1)

-- the EID record at the front of the octets
abbrev pub IsAskedEid : List ℕ → Eid → Type 0
IsAskedEid octets eid = IsEidPrefix (drop 2 octets) (slice_index octets 1) eid

-- the Source EID at the front of the octets, an instance and an address; none for AFI 0
abbrev pub source_at : List ℕ → Option (ℕ × Addr)
source_at octets = if is_none octets then None else Some (instance_at octets, eid_addr octets)

-- where the ITR-RLOCs begin
unfoldable pub addrs_place : List ℕ → ℕ
addrs_place octets = 12 + eid_size (drop 12 octets)

-- how many ITR-RLOCs there are: IRC counts one less
abbrev pub addr_count : List ℕ → ℕ
addr_count octets = slice_index octets 2 % 32 + 1

-- where the EID records begin
unfoldable pub eids_place : List ℕ → ℕ
eids_place octets =
    addrs_place octets
    + items_size reply_addr_size (addr_count octets) (drop (addrs_place octets) octets)

-- how many EID records there are
abbrev pub eid_count : List ℕ → ℕ
eid_count octets = slice_index octets 3

-- where the Map-Reply record begins
unfoldable pub record_place : List ℕ → ℕ
record_place octets =
    eids_place octets
    + items_size asked_eid_size (eid_count octets) (drop (eids_place octets) octets)

-- how many Map-Reply records there are: one by the bit M
abbrev pub record_count : List ℕ → ℕ
record_count octets = if bit 4 (slice_index octets 0) then 1 else 0

-- the octets of a Map-Request
unfoldable pub request_size : List ℕ → ℕ
request_size octets =
    record_place octets
    + items_size record_size (record_count octets) (drop (record_place octets) octets)

-- the rules of the Source EID, behind the nonce
abbrev pub source_rules : ℕ → List ℕ → List (Bool × Refused)
source_rules base octets = eid_rules (base + 12) (drop 12 octets)

-- the rules of the ITR-RLOCs
abbrev pub addrs_rules : ℕ → List ℕ → List (Bool × Refused)
addrs_rules base octets =
    items_rules reply_addr_rules reply_addr_size (addr_count octets)
    (base + addrs_place octets) (drop (addrs_place octets) octets)

-- the rules of the EID records
abbrev pub eids_rules : ℕ → List ℕ → List (Bool × Refused)
eids_rules base octets =
    items_rules asked_eid_rules asked_eid_size (eid_count octets)
    (base + eids_place octets) (drop (eids_place octets) octets)

-- the rules of the Map-Reply record
abbrev pub piggyback_rules : ℕ → List ℕ → List (Bool × Refused)
piggyback_rules base octets =
    items_rules record_rules record_size (record_count octets)
    (base + record_place octets) (drop (record_place octets) octets)

-- the rules of a Map-Request behind its nonce
unfoldable pub request_rules : ℕ → List ℕ → List (Bool × Refused)
request_rules base octets =
    source_rules base octets
    ++ (addrs_rules base octets ++ (eids_rules base octets ++ piggyback_rules base octets))

-- the ITR-RLOCs of a Map-Request
abbrev pub AreReplyAddrs : List ℕ → List Addr → Type 0
AreReplyAddrs octets addrs =
    AreItems IsReplyAddr reply_addr_size (addr_count octets) (drop (addrs_place octets) octets)
    addrs

-- the EIDs that a Map-Request asks for
abbrev pub AreAskedEids : List ℕ → List Eid → Type 0
AreAskedEids octets eids =
    AreItems IsAskedEid asked_eid_size (eid_count octets) (drop (eids_place octets) octets) eids

-- the Map-Reply record of a Map-Request, if there is one
abbrev pub IsPiggyback : List ℕ → Option Record → Type 0
IsPiggyback octets mapping =
    AreItems IsRecordAt record_size (record_count octets) (drop (record_place octets) octets)
    (option_to_list mapping)

-- the Map-Request at the front of the octets
pub record IsRequestAt (octets : List ℕ) (request : MapRequest) : Type 0 where
  pub message_type : kind octets ≡ 1
  pub probe : request.probe ≡ bit 2 (slice_index octets 0)
  pub smr : request.smr ≡ bit 1 (slice_index octets 0)
  pub invoked : request.invoked ≡ bit 64 (slice_index octets 1)
  pub nonce : request.nonce ≡ nonce_at octets
  pub source : request.source ≡ source_at (drop 12 octets)
  pub replies_to : AreReplyAddrs octets request.replies_to
  pub eids : AreAskedEids octets request.eids
  pub piggyback : IsPiggyback octets request.piggyback

-- the octets begin with this ITR-RLOC
pub record SpellsReplyAddr (octets : List ℕ) (addr : Addr) (size : ℕ) : Type 0 where
  pub whole : size ≤ length octets
  pub address : SpellsAddr octets 0 addr
  pub end : size ≡ 2 + octets_of addr

-- the octets begin with this EID record; its bits past the mask are free, as the reserved octet is
pub record SpellsAskedEid (octets : List ℕ) (eid : Eid) (size : ℕ) : Type 0 where
  pub head : 2 ≤ length octets
  pub eid_octets : ℕ
  pub prefix : SpellsEidPrefix (drop 2 octets) (slice_index octets 1) eid eid_octets
  pub end : size ≡ 2 + eid_octets

-- the octets begin with this Source EID
abbrev pub SpellsSource : List ℕ → Option (ℕ × Addr) → ℕ → Type 0
SpellsSource octets None size = SpellsEid octets (0, None, size)
SpellsSource octets (Some source) size = SpellsEid octets (source.0, Some source.1, size)

-- the octets begin with this Map-Request of so many octets; the flags that it doesn't hold are free
pub record SpellsRequest (octets : List ℕ) (request : MapRequest) (size : ℕ) : Type 0 where
  pub head : 12 ≤ length octets
  pub message_type : kind octets ≡ 1
  pub record_follows : bit 4 (slice_index octets 0) ≡ is_some request.piggyback
  pub probe : bit 2 (slice_index octets 0) ≡ request.probe
  pub smr : bit 1 (slice_index octets 0) ≡ request.smr
  pub invoked : bit 64 (slice_index octets 1) ≡ request.invoked
  pub addrs : slice_index octets 2 % 32 + 1 ≡ length request.replies_to
  pub records : slice_index octets 3 ≡ length request.eids
  pub nonce : big 8 octets 4 ≡ request.nonce
  pub source_end : ℕ
  pub source_octets : ℕ
  pub source : SpellsSource (drop 12 octets) request.source source_octets
  pub behind_source : source_end ≡ 12 + source_octets
  pub addrs_end : ℕ
  pub addrs_octets : ℕ
  pub replies_to : SpellItems SpellsReplyAddr (drop source_end octets)
      request.replies_to addrs_octets
  pub behind_addrs : addrs_end ≡ source_end + addrs_octets
  pub eids_end : ℕ
  pub eids_octets : ℕ
  pub eids : SpellItems SpellsAskedEid (drop addrs_end octets) request.eids eids_octets
  pub behind_eids : eids_end ≡ addrs_end + eids_octets
  pub record_octets : ℕ
  pub piggyback : SpellItems SpellsRecord (drop eids_end octets)
      (option_to_list request.piggyback) record_octets
  pub end : size ≡ eids_end + record_octets

-- an EID record with its ignored octet 0
abbrev pub canonical_asked_eid : Eid → List ℕ
canonical_asked_eid eid = 0 ∷ eid.prefix.len ∷ canonical_eid eid.iid (Some eid.prefix.addr)

-- a Source EID, of AFI 0 where there is none
abbrev pub canonical_source : Option (ℕ × Addr) → List ℕ
canonical_source None = canonical_eid 0 None
canonical_source (Some source) = canonical_eid source.0 (Some source.1)

-- the first twelve octets of a Map-Request, up to and with its nonce
abbrev pub request_head : MapRequest → List ℕ
request_head request =
    (16 + flag (is_some request.piggyback) 4 + flag request.probe 2 + flag request.smr 1)
    ∷ flag request.invoked 64 ∷ (length request.replies_to - 1) ∷ length request.eids
    ∷ big_octets 8 request.nonce

-- the one spelling of a Map-Request, its ignored bits 0
abbrev pub canonical_request : MapRequest → List ℕ
canonical_request request =
    request_head request
    ++ (canonical_source request.source
    ++ (flat_map canonical_addr request.replies_to
    ++ (flat_map canonical_asked_eid request.eids
    ++ flat_map canonical_record (option_to_list request.piggyback))))
