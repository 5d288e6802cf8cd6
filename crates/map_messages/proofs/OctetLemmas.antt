-- What is written consists of octets.
use Rattle.std.proofs.Common.{inl, inr, ◌≤◌, ◌<◌, ℕ, zero, suc, ◌+◌, ◌*◌, ◌/◌, ◌^◌, Bool, true, false, List, [], ◌∷◌, ◌++◌, length, eqb, Option, Some, None, All, flat_map, sym, subst, arith}
use Rattle.std.specs.Int.{byte_at}
use Rattle.std.specs.Prelude.{is_some, option_to_list}
use Rattle.std.proofs.lemmas.Bool.{and_parts, cases_Bool, leb-true}
use Rattle.std.proofs.lemmas.List.Concat.{flat_map-cons}
use Rattle.std.proofs.lemmas.List.Elements.{All-cons, All-head, All-nil, All-tail}
use Rattle.std.proofs.lemmas.Nat.{mod_below}
use Rattle.octets.specs.Numbers.{big_octets, flag}
use Rattle.ip_headers.specs.Addr.{width}
use Rattle.ip_headers.specs.Udp.{addr_octets}
use Rattle.ip_headers.specs.declared.addr.Addr.{Addr}
use Rattle.ip_headers.specs.declared.addr.Addr.TheVariants.{V4, V6}
use Rattle.mapping_records.specs.Address.{afi_of, canonical_addr, octets_of}
use Rattle.mapping_records.specs.Eid.{canonical_eid, canonical_lcaf}
use Rattle.mapping_records.specs.Locator.{canonical_locator, canonical_locators, AreLocators, InRangeLocator}
use Rattle.mapping_records.specs.Record.{canonical_record, IsLawful}
use Rattle.mapping_records.specs.declared.eid.Eid.{Eid}
use Rattle.mapping_records.specs.declared.record.Locator.{Locator}
use Rattle.mapping_records.specs.declared.record.Record.{Record}
use Rattle.map_messages.specs.Range.{IsLawfulReply, IsLawfulRequest}
use Rattle.map_messages.specs.Reply.{canonical_reply}
use Rattle.map_messages.specs.Request.{canonical_asked_eid, canonical_request, canonical_source}
use Rattle.map_messages.specs.declared.message.MapReply.{MapReply}
use Rattle.map_messages.specs.declared.message.MapRequest.{MapRequest}
use Rattle.map_messages.proofs.WrittenRequest.{all_option}

-- each number is below 256
abbrev AreOctets : List ℕ → Type 0
AreOctets [] = Unit {0}
AreOctets (octet ∷ octets) = (octet < 256) × AreOctets octets

-- octets behind octets
join : (front back : List ℕ) → AreOctets front → AreOctets back → AreOctets (front ++ back)
join [] back a b = b
join (octet ∷ front) back a b = (a.0, join front back a.1 b)

-- each of them is below 256
all_below : (octets : List ℕ) → AreOctets octets → All (λ octet. octet < 256) octets
all_below [] are = All-nil (λ octet. octet < 256)
all_below (octet ∷ octets) are = All-cons (λ octet. octet < 256) octet octets are.0 (all_below octets are.1)

-- one octet of a number, and all
byte_below : (n x : ℕ) → byte_at n x < 256
byte_below zero x = mod_below x 256 (omega arith)
byte_below (suc n) x = mod_below (x / 256 ^ suc n) 256 (omega arith)

-- the octets of a number
number : (n x : ℕ) → AreOctets (big_octets n x)
number zero x = tt
number (suc n) x = (byte_below n x, number n x)

-- the octets of items, one after another
flat : {T : Type 0} (P : T → Type 0) (canonical : T → List ℕ) → ((item : T) → P item → AreOctets (canonical item)) → (items : List T) → All P items → AreOctets (flat_map canonical items)
flat P canonical one [] all = tt
flat P canonical one (item ∷ items) all =
    subst AreOctets (sym (flat_map-cons canonical item items))
    (join (canonical item) (flat_map canonical items) (one item (All-head P item items all)) (flat P canonical one items (All-tail P item items all)))

-- an address
addr : (a : Addr) → AreOctets (addr_octets a)
addr (V4 n) = number 4 n
addr (V6 n) = number 16 n

-- an address behind its AFI
with_afi : (a : Addr) → AreOctets (canonical_addr a)
with_afi a = join (big_octets 2 (afi_of a)) (addr_octets a) (number 2 (afi_of a)) (addr a)

-- an address in an LCAF
lcaf : (iid : ℕ) (a : Addr) → AreOctets (canonical_lcaf iid a)
lcaf iid a =
    let size : List ℕ = big_octets 2 (6 + octets_of a) in
    let rest : List ℕ = big_octets 4 iid ++ canonical_addr a in
    let all : AreOctets (size ++ rest) = join size rest (number 2 (6 + octets_of a)) (join (big_octets 4 iid) (canonical_addr a) (number 4 iid) (with_afi a)) in
    (omega arith, (omega arith, (omega arith, (omega arith, (omega arith, (omega arith, all))))))

-- an EID
eid : (iid : ℕ) (a : Addr) → AreOctets (canonical_eid iid (Some a))
eid iid a =
    elim (cases_Bool (eqb iid 0)) [
      | inl none ↦ rw none (with_afi a)
      | inr some ↦ rw some (lcaf iid a)
    ]

-- a Source EID
source : (held : Option (ℕ × Addr)) → AreOctets (canonical_source held)
source (Some held) = eid held.0 held.1
source None = (omega arith, (omega arith, tt))

-- a flag is at most its weight
flag_le : (set : Bool) (weight : ℕ) → flag set weight ≤ weight
flag_le true weight = omega arith
flag_le false weight = omega arith

-- a locator
locator : (l : Locator) → InRangeLocator l → AreOctets (canonical_locator l)
locator l range =
    let flags = flag l.local 4 + flag l.probed 2 + flag l.reachable 1 in
    (range.priority, (range.weight, (range.m_priority, (range.m_weight, (omega arith, (omega (arith, flag_le l.local 4, flag_le l.probed 2, flag_le l.reachable 1), with_afi l.addr))))))

-- locators
locators : (ls : List Locator) → AreLocators ls → AreOctets (canonical_locators ls)
locators [] range = tt
locators (l ∷ ls) range =
    subst AreOctets (sym (flat_map-cons canonical_locator l ls)) (join (canonical_locator l) (canonical_locators ls) (locator l range.0) (locators ls range.1))

-- a mask length
width_le : (a : Addr) → width a ≤ 128
width_le (V4 n) = omega arith
width_le (V6 n) = omega arith

-- a mask length
mask : (e : Eid) → e.prefix.len < 256
mask e =
    let fits : e.prefix.len ≤ width e.prefix.addr = leb-true _ _ (and_parts _ _ e.prefix.lawful).0 in
    omega (arith, fits, width_le e.prefix.addr)

-- a record
mapping : (m : Record) → IsLawful m → AreOctets (canonical_record m)
mapping m lawful =
    let host : List ℕ = canonical_eid m.eid.iid (Some m.eid.prefix.addr) in
    let rest : List ℕ = host ++ canonical_locators m.locators in
    let all : AreOctets rest = join host (canonical_locators m.locators) (eid m.eid.iid m.eid.prefix.addr) (locators m.locators lawful.each) in
    let behind : List ℕ = length m.locators ∷ m.eid.prefix.len ∷ (m.action * 32 + flag m.authoritative 16) ∷ 0 ∷ (big_octets 2 m.version ++ rest) in
    let all_behind : AreOctets behind =
    (omega (arith, lawful.range.count), (mask m.eid, (omega (arith, lawful.range.action, flag_le m.authoritative 16), (omega arith, join (big_octets 2 m.version) rest (number 2 m.version) all)))) in
    join (big_octets 4 m.ttl) behind (number 4 m.ttl) all_behind

-- an EID record
asked : (e : Eid) → AreOctets (canonical_asked_eid e)
asked e = (omega arith, (mask e, eid e.iid e.prefix.addr))

-- a Map-Reply
reply_are : (reply : MapReply) → IsLawfulReply reply → AreOctets (canonical_reply reply)
reply_are reply lawful =
    let records : List ℕ = flat_map canonical_record reply.mappings in
    let nonce : AreOctets (big_octets 8 reply.nonce ++ records) =
    join (big_octets 8 reply.nonce) records (number 8 reply.nonce) (flat IsLawful canonical_record mapping reply.mappings lawful.mappings) in
    (omega (arith, flag_le reply.probe 8), (omega arith, (omega arith, (omega (arith, lawful.range.count), nonce))))

-- a Map-Request
request_are : (request : MapRequest) → IsLawfulRequest request → AreOctets (canonical_request request)
request_are request lawful =
    let from : List ℕ = canonical_source request.source in
    let addrs : List ℕ = flat_map canonical_addr request.replies_to in
    let eids : List ℕ = flat_map canonical_asked_eid request.eids in
    let records : List ℕ = flat_map canonical_record (option_to_list request.piggyback) in
    let all_records : AreOctets records = flat IsLawful canonical_record mapping (option_to_list request.piggyback) (all_option IsLawful request.piggyback lawful.piggyback) in
    let all_eids : AreOctets eids = flat (λ e. Unit {0}) canonical_asked_eid (λ e _. asked e) request.eids (λ k d below. tt) in
    let all_addrs : AreOctets addrs = flat (λ a. Unit {0}) canonical_addr (λ a _. with_afi a) request.replies_to (λ k d below. tt) in
    let parts : AreOctets (from ++ (addrs ++ (eids ++ records))) =
    join from (addrs ++ (eids ++ records)) (source request.source) (join addrs (eids ++ records) all_addrs (join eids records all_eids all_records)) in
    let nonce : AreOctets (big_octets 8 request.nonce ++ (from ++ (addrs ++ (eids ++ records)))) =
    join (big_octets 8 request.nonce) (from ++ (addrs ++ (eids ++ records))) (number 8 request.nonce) parts in
    (omega (arith, flag_le (is_some request.piggyback) 4, flag_le request.probe 2, flag_le request.smr 1), (omega (arith, flag_le request.invoked 64), (omega (arith, lawful.range.most), (omega (arith, lawful.range.count), nonce))))

-- the octets of a Map-Reply are below 256
pub reply_octets : (reply : MapReply) → IsLawfulReply reply → All (λ octet. octet < 256) (canonical_reply reply)
reply_octets reply lawful = all_below (canonical_reply reply) (reply_are reply lawful)

-- the octets of a Map-Request are below 256
pub request_octets : (request : MapRequest) → IsLawfulRequest request → All (λ octet. octet < 256) (canonical_request request)
request_octets request lawful = all_below (canonical_request request) (request_are request lawful)
