-- What is spelled ends in its octets.
use Rattle.std.proofs.Common.{inl, inr, ◌≤◌, ℕ, ◌+◌, List, [], ◌∷◌, length, drop, Option, Some, None, arith}
use Rattle.std.proofs.lemmas.List.{length-drop}
use Rattle.ip_headers.specs.declared.addr.Addr.{Addr}
use Rattle.mapping_records.specs.Address.{octets_of}
use Rattle.mapping_records.specs.Eid.{SpellsEid}
use Rattle.mapping_records.specs.Locator.{octets_of_locators, SpellsLocators}
use Rattle.mapping_records.specs.Record.{SpellsRecord}
use Rattle.mapping_records.specs.declared.eid.Eid.{Eid}
use Rattle.mapping_records.specs.declared.record.Locator.{Locator}
use Rattle.mapping_records.specs.declared.record.Record.{Record}
use Rattle.map_messages.specs.Items.{SpellItems}
use Rattle.map_messages.specs.Reply.{SpellsReply}
use Rattle.map_messages.specs.Request.{SpellsAskedEid, SpellsReplyAddr, SpellsRequest, SpellsSource}
use Rattle.map_messages.specs.declared.message.MapReply.{MapReply}
use Rattle.map_messages.specs.declared.message.MapRequest.{MapRequest}

-- an EID
eid_inside : (octets : List ℕ) (iid size : ℕ) (host : Addr) → SpellsEid octets (iid, Some host, size) → size ≤ length octets
eid_inside octets iid size host (inl s) = s.whole
eid_inside octets iid size host (inr s) = s.whole

-- a Source EID
source_inside : (octets : List ℕ) (source : Option (ℕ × Addr)) (size : ℕ) → SpellsSource octets source size → size ≤ length octets
source_inside octets None size s = s.whole
source_inside octets (Some source) size s = eid_inside octets source.0 size source.1 s

-- locators
locators_inside : (octets : List ℕ) (locators : List Locator) → SpellsLocators octets locators → octets_of_locators locators ≤ length octets
locators_inside octets [] s = omega arith
locators_inside octets (locator ∷ locators) s =
    let n = 8 + octets_of locator.addr in
    omega (arith, s.0.whole, locators_inside (drop n octets) locators s.1, length-drop n octets)

-- a record
record_inside : (octets : List ℕ) (mapping : Record) (size : ℕ) → SpellsRecord octets mapping size → size ≤ length octets
record_inside octets mapping size s =
    let eid = eid_inside (drop 10 octets) mapping.eid.iid s.eid_octets s.eid.host s.eid.spelled in
    let n = 10 + s.eid_octets in
    omega (arith, s.end, s.head, eid, length-drop 10 octets, locators_inside (drop n octets) mapping.locators s.locators, length-drop n octets)

-- an ITR-RLOC
addr_inside : (octets : List ℕ) (addr : Addr) (size : ℕ) → SpellsReplyAddr octets addr size → size ≤ length octets
addr_inside octets addr size s = s.whole

-- an EID record
asked_inside : (octets : List ℕ) (eid : Eid) (size : ℕ) → SpellsAskedEid octets eid size → size ≤ length octets
asked_inside octets eid size s =
    omega (arith, s.end, s.head, eid_inside (drop 2 octets) eid.iid s.eid_octets s.prefix.host s.prefix.spelled, length-drop 2 octets)

-- items, where each of them does
items_inside : {T : Type 0} (Spells : List ℕ → T → ℕ → Type 0) → ((octets : List ℕ) (item : T) (size : ℕ) → Spells octets item size → size ≤ length octets)
    → (octets : List ℕ) (items : List T) (whole : ℕ) → SpellItems Spells octets items whole → whole ≤ length octets
items_inside Spells one octets [] whole s = omega arith
items_inside Spells one octets (item ∷ items) whole (size, others, first, rest, end) =
    omega (arith, end, one octets item size first, items_inside Spells one (drop size octets) items others rest, length-drop size octets)

-- a Map-Reply
pub reply_inside : (octets : List ℕ) (reply : MapReply) (size : ℕ) → SpellsReply octets reply size → size ≤ length octets
reply_inside octets reply size s =
    omega (arith, s.end, s.head, items_inside SpellsRecord record_inside (drop 12 octets) reply.mappings s.records_octets s.mappings, length-drop 12 octets)

-- a Map-Request
pub request_inside : (octets : List ℕ) (request : MapRequest) (size : ℕ) → SpellsRequest octets request size → size ≤ length octets
request_inside octets request size s =
    let source = source_inside (drop 12 octets) request.source s.source_octets s.source in
    let a : s.source_end ≤ length octets = omega (arith, s.head, s.behind_source, source, length-drop 12 octets) in
    let addrs = items_inside SpellsReplyAddr addr_inside (drop s.source_end octets) request.replies_to s.addrs_octets s.replies_to in
    let b : s.addrs_end ≤ length octets = omega (arith, a, s.behind_addrs, addrs, length-drop s.source_end octets) in
    let eids = items_inside SpellsAskedEid asked_inside (drop s.addrs_end octets) request.eids s.eids_octets s.eids in
    let c : s.eids_end ≤ length octets = omega (arith, b, s.behind_eids, eids, length-drop s.addrs_end octets) in
    let mapping = items_inside SpellsRecord record_inside (drop s.eids_end octets) _ s.record_octets s.piggyback in
    omega (arith, c, s.end, mapping, length-drop s.eids_end octets)
