-- What is written is no longer than any other spelling.
use Rattle.std.proofs.Common.{◌≡◌, inl, inr, ◌≤◌, ℕ, ◌+◌, ◌-◌, List, [], ◌∷◌, ◌++◌, length, drop, slice_index, eqb, Option, Some, None, flat_map, sym, ap, subst, ◌∙◌, arith}
use Rattle.std.specs.Prelude.{option_to_list}
use Rattle.std.proofs.lemmas.Bool.{cases_Bool}
use Rattle.std.proofs.lemmas.List.{length-append}
use Rattle.std.proofs.lemmas.List.Concat.{flat_map-cons}
use Rattle.octets.specs.Rules.{first_failing}
use Rattle.ip_headers.specs.Addr.{cleared}
use Rattle.ip_headers.specs.Ip.{ip_rules, payload_place, source_of, Spells}
use Rattle.ip_headers.specs.Udp.{addr_octets, payload_in}
use Rattle.ip_headers.specs.declared.addr.Addr.{Addr}
use Rattle.ip_headers.specs.declared.addr.Addr.TheVariants as family
use Rattle.ip_headers.specs.declared.header.IpHeader.{IpHeader}
use Rattle.ip_headers.specs.declared.header.IpHeader.TheVariants.{V4, V6}
use Rattle.ip_headers.proofs.CutPacket.{v4_facts}
use Rattle.mapping_records.specs.Address.{canonical_addr, octets_of}
use Rattle.mapping_records.specs.Eid.{canonical_eid, canonical_lcaf, SpellsEid}
use Rattle.mapping_records.specs.Locator.{canonical_locators}
use Rattle.mapping_records.specs.Record.{canonical_record, SpellsEidPrefix, SpellsRecord}
use Rattle.mapping_records.specs.declared.eid.Eid.{Eid}
use Rattle.mapping_records.specs.declared.record.Record.{Record}
use Rattle.mapping_records.proofs.WrittenRecord.{length-locators}
use Rattle.map_messages.specs.Control.{canonical_carried, canonical_ecm, control_header, Carries, SpellsEcm}
use Rattle.map_messages.specs.Items.{SpellItems}
use Rattle.map_messages.specs.Message.{canonical_message, SpellsMessage}
use Rattle.map_messages.specs.Plain.{SpellsPlain}
use Rattle.map_messages.specs.Reply.{canonical_reply, SpellsReply}
use Rattle.map_messages.specs.Request.{canonical_asked_eid, canonical_request, canonical_source, SpellsAskedEid, SpellsReplyAddr, SpellsRequest, SpellsSource}
use Rattle.map_messages.specs.declared.message.Ecm.{Ecm}
use Rattle.map_messages.specs.declared.message.MapReply.{MapReply}
use Rattle.map_messages.specs.declared.message.MapRequest.{MapRequest}
use Rattle.map_messages.specs.declared.message.Message.{Message}
use Rattle.map_messages.specs.declared.message.Message.TheVariants.{Request, Reply, Control}
use Rattle.map_messages.proofs.WritingLemmas.{length-control_packet}

-- an address behind its AFI
length-addr : (addr : Addr) → length (canonical_addr addr) ≡ 2 + octets_of addr
length-addr (family.V4 n) = omega arith
length-addr (family.V6 n) = omega arith

-- an address
length-octets : (addr : Addr) → length (addr_octets addr) ≡ octets_of addr
length-octets (family.V4 n) = omega arith
length-octets (family.V6 n) = omega arith

-- cleared bits leave the family
same_family : (addr : Addr) (len : ℕ) → octets_of (cleared addr len) ≡ octets_of addr
same_family (family.V4 n) len = omega arith
same_family (family.V6 n) len = omega arith

-- an address in an LCAF
length-lcaf : (iid : ℕ) (addr : Addr) → length (canonical_lcaf iid addr) ≡ 14 + octets_of addr
length-lcaf iid addr = omega (arith, length-octets addr)

-- an EID of instance 0
plain_le : (addr : Addr) → length (canonical_eid 0 (Some addr)) ≤ 2 + octets_of addr
plain_le addr = omega (arith, length-addr addr)

-- an EID of any instance has no more octets than an LCAF
any_le : (iid : ℕ) (addr : Addr) → length (canonical_eid iid (Some addr)) ≤ 14 + octets_of addr
any_le iid addr =
    elim (cases_Bool (eqb iid 0)) [
      | inl none ↦ rw none (omega (arith, length-addr addr))
      | inr some ↦ rw some (omega (arith, length-lcaf iid addr))
    ]

-- an EID
eid_le : (octets : List ℕ) (iid size : ℕ) (host addr : Addr) → SpellsEid octets (iid, Some host, size) → octets_of addr ≡ octets_of host → length (canonical_eid iid (Some addr)) ≤ size
eid_le octets iid size host addr (inl s) same =
    subst (λ (i : ℕ). length (canonical_eid i (Some addr)) ≤ size) (sym s.instance) (omega (arith, plain_le addr, same, s.end))
eid_le octets iid size host addr (inr s) same = omega (arith, any_le iid addr, same, s.end)

-- an EID prefix
prefix_le : (octets : List ℕ) (mask : ℕ) (eid : Eid) (size : ℕ) → SpellsEidPrefix octets mask eid size → length (canonical_eid eid.iid (Some eid.prefix.addr)) ≤ size
prefix_le octets mask eid size s =
    eid_le octets eid.iid size s.host eid.prefix.addr s.spelled (ap octets_of s.cleared_host ∙ same_family s.host eid.prefix.len)

-- a Source EID
source_le : (octets : List ℕ) (source : Option (ℕ × Addr)) (size : ℕ) → SpellsSource octets source size → length (canonical_source source) ≤ size
source_le octets None size s = omega (arith, s.end)
source_le octets (Some source) size s = eid_le octets source.0 size source.1 source.1 s (omega arith)

-- an ITR-RLOC
addr_le : (octets : List ℕ) (addr : Addr) (size : ℕ) → SpellsReplyAddr octets addr size → length (canonical_addr addr) ≤ size
addr_le octets addr size s = omega (arith, s.end, length-addr addr)

-- an EID record
asked_le : (octets : List ℕ) (eid : Eid) (size : ℕ) → SpellsAskedEid octets eid size → length (canonical_asked_eid eid) ≤ size
asked_le octets eid size s =
    omega (arith, s.end, prefix_le (drop 2 octets) (slice_index octets 1) eid s.eid_octets s.prefix)

-- a record
record_le : (octets : List ℕ) (mapping : Record) (size : ℕ) → SpellsRecord octets mapping size → length (canonical_record mapping) ≤ size
record_le octets mapping size s =
    let host : List ℕ = canonical_eid mapping.eid.iid (Some mapping.eid.prefix.addr) in
    let eid = prefix_le (drop 10 octets) (slice_index octets 5) mapping.eid s.eid_octets s.eid in
    omega (arith, s.end, eid, length-append host (canonical_locators mapping.locators), length-locators mapping.locators)

-- items, where each of them is
items_le : {T : Type 0} (Spells : List ℕ → T → ℕ → Type 0) (canonical : T → List ℕ) → ((octets : List ℕ) (item : T) (size : ℕ) → Spells octets item size → length (canonical item) ≤ size)
    → (octets : List ℕ) (items : List T) (whole : ℕ) → SpellItems Spells octets items whole → length (flat_map canonical items) ≤ whole
items_le Spells canonical one octets [] whole s = omega arith
items_le Spells canonical one octets (item ∷ items) whole (size, others, first, rest, end) =
    let split : length (flat_map canonical (item ∷ items)) ≡ length (canonical item) + length (flat_map canonical items) =
    ap (λ (t : List ℕ). length t) (flat_map-cons canonical item items) ∙ length-append (canonical item) (flat_map canonical items) in
    omega (arith, split, end, one octets item size first, items_le Spells canonical one (drop size octets) items others rest)

-- a Map-Reply
reply_le : (octets : List ℕ) (reply : MapReply) (size : ℕ) → SpellsReply octets reply size → length (canonical_reply reply) ≤ size
reply_le octets reply size s =
    omega (arith, s.end, items_le SpellsRecord canonical_record record_le (drop 12 octets) reply.mappings s.records_octets s.mappings)

-- a Map-Request
request_le : (octets : List ℕ) (request : MapRequest) (size : ℕ) → SpellsRequest octets request size → length (canonical_request request) ≤ size
request_le octets request size s =
    let source : List ℕ = canonical_source request.source in
    let addrs : List ℕ = flat_map canonical_addr request.replies_to in
    let eids : List ℕ = flat_map canonical_asked_eid request.eids in
    let records : List ℕ = flat_map canonical_record (option_to_list request.piggyback) in
    let a = source_le (drop 12 octets) request.source s.source_octets s.source in
    let b = items_le SpellsReplyAddr canonical_addr addr_le (drop s.source_end octets) request.replies_to s.addrs_octets s.replies_to in
    let c = items_le SpellsAskedEid canonical_asked_eid asked_le (drop s.addrs_end octets) request.eids s.eids_octets s.eids in
    let d = items_le SpellsRecord canonical_record record_le (drop s.eids_end octets) (option_to_list request.piggyback) s.record_octets s.piggyback in
    omega (
      arith,
      s.end,
      s.behind_eids,
      s.behind_addrs,
      s.behind_source,
      a,
      b,
      c,
      d,
      length-append source (addrs ++ (eids ++ records)),
      length-append addrs (eids ++ records),
      length-append eids records,
    )

-- the IP header that is written has no options
header_le : (octets : List ℕ) (header : IpHeader) (from to : Addr) (size : ℕ) → Spells octets header → first_failing (ip_rules 0 octets) ≡ None
    → source_of header ≡ from → length (control_header from to size) ≤ payload_place header
unfolding control_header
header_le octets (V4 h) (family.V4 a) to size s none source =
    let facts = v4_facts 0 octets none (ap (λ (v : ℕ). eqb v 4) s.version) in
    omega (arith, facts.words, s.words)
header_le octets (V6 h) (family.V6 a) to size s none source = omega arith
header_le octets (V4 h) (family.V6 a) to size s none source = cc
header_le octets (V6 h) (family.V4 a) to size s none source = cc

-- the message that is carried
carried_le : (octets : List ℕ) (request : Option MapRequest) (reply : Option MapReply) (size : ℕ) → Carries (λ plain. SpellsPlain octets plain size) request reply
    → length (canonical_carried request reply) ≤ size
carried_le octets (Some request) None size s = request_le octets request size s
carried_le octets None (Some reply) size s = reply_le octets reply size s
carried_le octets (Some request) (Some reply) size s = absurd s
carried_le octets None None size s = absurd s

-- an Encapsulated Control Message
ecm_le : (octets : List ℕ) (ecm : Ecm) (left : ℕ) → SpellsEcm octets ecm left → length (canonical_ecm ecm) ≤ length octets
ecm_le octets ecm left s =
    let payload : List ℕ = canonical_carried ecm.request ecm.reply in
    let header = header_le (drop 4 octets) s.header ecm.source ecm.dest (8 + length payload) s.spells_header s.lawful s.source in
    let carried = carried_le (payload_in s.packet s.udp) ecm.request ecm.reply s.size s.carried in
    omega (arith, s.end, s.place, header, carried, length-control_packet ecm.source ecm.dest ecm.source_port payload)

-- what is written of a message is no longer than the octets that it was read from
pub canonical_le : (octets : List ℕ) (message : Message) (left : ℕ) → SpellsMessage octets message left → length (canonical_message message) ≤ length octets
canonical_le octets (Request request) left s = omega (arith, request_le octets request (length octets - left) s.1)
canonical_le octets (Reply reply) left s = omega (arith, reply_le octets reply (length octets - left) s.1)
canonical_le octets (Control ecm) left s = ecm_le octets ecm left s
