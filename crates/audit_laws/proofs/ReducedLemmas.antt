-- Addresses as their octets hold them, and what is written of them, which is the same.
use Rattle.std.proofs.Common.{◌≡◌, ◌<◌, ◌≤◌, ◌+◌, ◌-◌, ◌*◌, ◌/◌, ◌%◌, ◌^◌, ◌==◌, ℕ, true, cond, IfSome, IsTrue, List, [], ◌∷◌, ◌++◌, length, map, flat_map, eqb, leb, Option, Some, None, All, refl, ap, ap₂, ◌∙◌, arith}
use Rattle.std.proofs.lemmas.Bool.{and_parts, eqb-true, eq-eqb, leb-true}
use Rattle.std.proofs.lemmas.List.{length-map}
use Rattle.std.proofs.lemmas.List.Elements.{All-map}
use Rattle.std.proofs.lemmas.Nat.{mod-mul-add, mod-pow-add, mod_below, pow_pos}
use Rattle.octets.specs.Numbers.{big_octets}
use Rattle.ip_headers.specs.Addr.{is_prefix, width, IsAddr}
use Rattle.ip_headers.specs.Checksum.{checksum, ones_sum}
use Rattle.ip_headers.specs.Udp.{addr_octets, canonical_udp, datagram, nonzero, pseudo_header, udp_sum}
use Rattle.ip_headers.specs.declared.addr.Addr.{Addr}
use Rattle.ip_headers.specs.declared.addr.Addr.TheVariants.{V4, V6}
use Rattle.mapping_records.specs.Address.{canonical_addr}
use Rattle.mapping_records.specs.Eid.{canonical_eid}
use Rattle.mapping_records.specs.declared.eid.Eid.{Eid}
use Rattle.map_messages.specs.Control.{control_header, control_packet}
use Rattle.map_messages.specs.Range.{InRangeRequest, IsLawfulRequest}
use Rattle.map_messages.specs.Request.{canonical_asked_eid, canonical_request, canonical_source}
use Rattle.map_messages.specs.declared.message.MapRequest.{MapRequest}
use Rattle.router_model.specs.Emits.{message_packet}

same-octet : (a b : ℕ) (xs ys : List ℕ) → a ≡ b → xs ≡ ys → a ∷ xs ≡ b ∷ ys
same-octet a b xs ys first rest = ap₂ (λ (octet : ℕ) (octets : List ℕ). octet ∷ octets) first rest

four : (n : ℕ) → big_octets 4 (n % 2 ^ 32) ≡ big_octets 4 n
four n = (same-octet _ _ _ _ (omega arith) (same-octet _ _ _ _ (omega arith) (same-octet _ _ _ _ (omega arith) (same-octet _ _ _ _ (omega arith) refl))))

sixteen : (n : ℕ) → big_octets 16 (n % 2 ^ 128) ≡ big_octets 16 n
sixteen n = (same-octet _ _ _ _ (omega arith) (same-octet _ _ _ _ (omega arith) (same-octet _ _ _ _ (omega arith) (same-octet _ _ _ _ (omega arith) (same-octet _ _ _ _ (omega arith) (same-octet _ _ _ _ (omega arith) (same-octet _ _ _ _ (omega arith) (same-octet _ _ _ _ (omega arith) (same-octet _ _ _ _ (omega arith) (same-octet _ _ _ _ (omega arith) (same-octet _ _ _ _ (omega arith) (same-octet _ _ _ _ (omega arith) (same-octet _ _ _ _ (omega arith) (same-octet _ _ _ _ (omega arith) (same-octet _ _ _ _ (omega arith) (same-octet _ _ _ _ (omega arith) refl))))))))))))))))

-- an address with as many bits as its family has
abbrev pub reduced : Addr → Addr
reduced (V4 n) = V4 (n % 2 ^ 32)
reduced (V6 n) = V6 (n % 2 ^ 128)

pub reduced-fits : (a : Addr) → IsAddr (reduced a)
reduced-fits (V4 n) = omega arith
reduced-fits (V6 n) = omega arith

pub reduced-width : (a : Addr) → width (reduced a) ≡ width a
reduced-width (V4 n) = refl
reduced-width (V6 n) = refl

-- one that fits stays
pub reduced-stays : (a : Addr) → IsAddr a → reduced a ≡ a
reduced-stays (V4 n) fits = ap V4 (omega (arith, fits))
reduced-stays (V6 n) fits = ap V6 (omega (arith, fits))

octets-reduced : (a : Addr) → addr_octets (reduced a) ≡ addr_octets a
octets-reduced (V4 n) = four n
octets-reduced (V6 n) = sixteen n

addr-reduced : (a : Addr) → canonical_addr (reduced a) ≡ canonical_addr a
addr-reduced (V4 n) = ap (λ (octets : List ℕ). big_octets 2 1 ++ octets) (four n)
addr-reduced (V6 n) = ap (λ (octets : List ℕ). big_octets 2 2 ++ octets) (sixteen n)

-- an address in an LCAF, by what is written of it
abbrev lcaf_with : ℕ → ℕ → List ℕ → List ℕ
lcaf_with iid size addr = big_octets 2 16387 ++ (0 ∷ 0 ∷ 2 ∷ 0 ∷ (big_octets 2 (6 + size) ++ (big_octets 4 iid ++ addr)))

eid-reduced : (iid : ℕ) (a : Addr) → canonical_eid iid (Some (reduced a)) ≡ canonical_eid iid (Some a)
eid-reduced iid (V4 n) = ap (λ (addr : List ℕ). cond (iid == 0) addr (lcaf_with iid 4 addr)) (addr-reduced (V4 n))
eid-reduced iid (V6 n) = ap (λ (addr : List ℕ). cond (iid == 0) addr (lcaf_with iid 16 addr)) (addr-reduced (V6 n))

-- ### an EID

rest-reduced : (n len bits : ℕ) → len ≤ bits → n % 2 ^ (bits - len) ≡ 0 → n % 2 ^ bits % 2 ^ (bits - len) ≡ 0
rest-reduced n len bits fits none =
    let k = bits - len in
    let split : bits ≡ len + k = omega (arith, fits) in
    let sum : n % 2 ^ bits ≡ n / 2 ^ k % 2 ^ len * 2 ^ k + n % 2 ^ k = ap (λ (b : ℕ). n % 2 ^ b) split ∙ mod-pow-add n len k in
    let positive : 0 < 2 ^ k = pow_pos k in
    ap (λ (m : ℕ). m % 2 ^ k) sum ∙ mod-mul-add (n / 2 ^ k % 2 ^ len) (2 ^ k) (n % 2 ^ k) (mod_below n (2 ^ k) positive) ∙ none

pub prefix-reduced : (a : Addr) (len : ℕ) → IsTrue (is_prefix a len) → IsTrue (is_prefix (reduced a) len)
prefix-reduced (V4 n) len is =
    let parts = and_parts (leb len 32) (eqb (n % 2 ^ (32 - len)) 0) is in
    rw (parts.0, eq-eqb (n % 2 ^ 32 % 2 ^ (32 - len)) 0 (rest-reduced n len 32 (leb-true len 32 parts.0) (eqb-true (n % 2 ^ (32 - len)) 0 parts.1))) refl
prefix-reduced (V6 n) len is =
    let parts = and_parts (leb len 128) (eqb (n % 2 ^ (128 - len)) 0) is in
    rw (parts.0, eq-eqb (n % 2 ^ 128 % 2 ^ (128 - len)) 0 (rest-reduced n len 128 (leb-true len 128 parts.0) (eqb-true (n % 2 ^ (128 - len)) 0 parts.1))) refl

abbrev pub reduced_eid : Eid → Eid
reduced_eid eid = record {
  iid = eid.iid;
  prefix = record { addr = reduced eid.prefix.addr; len = eid.prefix.len; lawful = prefix-reduced eid.prefix.addr eid.prefix.len eid.prefix.lawful };
  in_range = eid.in_range;
}

-- ### a Map-Request

abbrev pub reduced_source : Option (ℕ × Addr) → Option (ℕ × Addr)
reduced_source None = None
reduced_source (Some source) = Some (source.0, reduced source.1)

-- its addresses reduced, and without a record
abbrev pub reduced_request : MapRequest → MapRequest
reduced_request request = record request {
  source = reduced_source request.source;
  replies_to = map reduced request.replies_to;
  eids = map reduced_eid request.eids;
  piggyback = None;
}

source-reduced : (source : Option (ℕ × Addr)) → canonical_source (reduced_source source) ≡ canonical_source source
source-reduced None = refl
source-reduced (Some source) = eid-reduced source.0 source.1

addrs-reduced : (addrs : List Addr) → flat_map canonical_addr (map reduced addrs) ≡ flat_map canonical_addr addrs
addrs-reduced [] = refl
addrs-reduced (a ∷ addrs) = ap₂ (λ (front rest : List ℕ). front ++ rest) (addr-reduced a) (addrs-reduced addrs)

eids-reduced : (eids : List Eid) → flat_map canonical_asked_eid (map reduced_eid eids) ≡ flat_map canonical_asked_eid eids
eids-reduced [] = refl
eids-reduced (eid ∷ eids) = ap₂ (λ (front rest : List ℕ). (0 ∷ eid.prefix.len ∷ front) ++ rest) (eid-reduced eid.iid eid.prefix.addr) (eids-reduced eids)

pub request-reduced : (request : MapRequest) → request.piggyback ≡ None → canonical_request (reduced_request request) ≡ canonical_request request
request-reduced request alone =
    let addrs : length (map reduced request.replies_to) ≡ length request.replies_to = length-map request.replies_to reduced in
    let eids : length (map reduced_eid request.eids) ≡ length request.eids = length-map request.eids reduced_eid in
    rw (addrs, eids, source-reduced request.source, addrs-reduced request.replies_to, eids-reduced request.eids, alone) refl

replies-fit : (addrs : List Addr) → All IsAddr (map reduced addrs)
replies-fit addrs = All-map IsAddr reduced addrs (λ k d below. reduced-fits _)

eids-fit : (eids : List Eid) → All (λ (eid : Eid). IsAddr eid.prefix.addr) (map reduced_eid eids)
eids-fit eids = All-map (λ (eid : Eid). IsAddr eid.prefix.addr) reduced_eid eids (λ k d below. reduced-fits _)

source-fits : (source : Option (ℕ × Addr)) → IfSome (reduced_source source) (λ source. IsAddr source.1)
source-fits None = tt
source-fits (Some source) = reduced-fits source.1

source-range : (source : Option (ℕ × Addr)) → IfSome source (λ source. source.0 < 2 ^ 24) → IfSome (reduced_source source) (λ source. source.0 < 2 ^ 24)
source-range None range = tt
source-range (Some source) range = range

-- its numbers fit their fields
pub request-lawful : (request : MapRequest) → InRangeRequest request → request.nonce < 2 ^ 64 → IsLawfulRequest (reduced_request request)
request-lawful request range nonce =
    let addrs : length (map reduced request.replies_to) ≡ length request.replies_to = length-map request.replies_to reduced in
    let eids : length (map reduced_eid request.eids) ≡ length request.eids = length-map request.eids reduced_eid in
    let some = range.some in
    let most = range.most in
    let count = range.count in
    record {
      range = record {
        instance = source-range request.source range.instance;
        some = omega (arith, addrs, some);
        most = omega (arith, addrs, most);
        count = omega (arith, eids, count);
        each = tt;
      };
      nonce = nonce;
      source = source-fits request.source;
      replies_to = replies-fit request.replies_to;
      eids = eids-fit request.eids;
      piggyback = tt;
    }

-- ### a control packet

-- an IPv4 header by the octets of its addresses
abbrev v4_with : ℕ → List ℕ → List ℕ → ℕ → List ℕ
v4_with size source dest sum =
    69 ∷ 0 ∷ (big_octets 2 (20 + size) ++ (big_octets 2 0 ++ (big_octets 2 16384 ++ 64 ∷ 17 ∷ (big_octets 2 sum ++ (source ++ dest)))))

-- and an IPv6 header
abbrev v6_with : ℕ → List ℕ → List ℕ → List ℕ
v6_with size source dest = big_octets 4 (6 * 2 ^ 28 + 0 * 2 ^ 20 + 0) ++ (big_octets 2 size ++ 17 ∷ 64 ∷ source ++ dest)

header-reduced : (from to : Addr) (size : ℕ) → width from ≡ width to → control_header (reduced from) (reduced to) size ≡ control_header from to size
unfolding control_header
header-reduced (V4 a) (V4 b) size same = ap₂ (λ (s d : List ℕ). v4_with size s d (checksum (v4_with size s d 0))) (four a) (four b)
header-reduced (V6 a) (V6 b) size same = ap₂ (λ (s d : List ℕ). v6_with size s d) (sixteen a) (sixteen b)
header-reduced (V4 a) (V6 b) size same = absurd (omega (arith, same))
header-reduced (V6 a) (V4 b) size same = absurd (omega (arith, same))

pseudo-reduced : (from to : Addr) (size : ℕ) → pseudo_header (reduced from) (reduced to) size ≡ pseudo_header from to size
pseudo-reduced (V4 a) to size = ap₂ (λ (s d : List ℕ). s ++ (d ++ 0 ∷ 17 ∷ big_octets 2 size)) (four a) (octets-reduced to)
pseudo-reduced (V6 a) to size = ap₂ (λ (s d : List ℕ). s ++ (d ++ (big_octets 4 size ++ 0 ∷ 0 ∷ 0 ∷ 17 ∷ []))) (sixteen a) (octets-reduced to)

sum-reduced : (from to : Addr) (octets : List ℕ) → udp_sum (reduced from) (reduced to) octets ≡ udp_sum from to octets
sum-reduced from to octets = ap (λ (header : List ℕ). ones_sum (header ++ octets)) (pseudo-reduced from to (length octets))

udp-reduced : (from to : Addr) (source dest : ℕ) (payload : List ℕ) → canonical_udp (reduced from) (reduced to) source dest payload true ≡ canonical_udp from to source dest payload true
udp-reduced from to source dest payload =
    ap (λ (sum : ℕ). datagram source dest (nonzero (65535 - sum)) payload) (sum-reduced from to (datagram source dest 0 payload))

-- a packet between addresses of one family
pub packet-reduced : (from to : Addr) (port : ℕ) (payload : List ℕ) → width from ≡ width to → message_packet (reduced from) (reduced to) port payload ≡ message_packet from to port payload
packet-reduced from to port payload same =
    ap₂ (λ (front behind : List ℕ). front ++ behind) (header-reduced from to (8 + length payload) same) (udp-reduced from to 4342 port payload)

pub control-reduced : (from to : Addr) (port : ℕ) (payload : List ℕ) → width from ≡ width to → control_packet (reduced from) (reduced to) port payload ≡ control_packet from to port payload
unfolding control_packet
control-reduced from to port payload same =
    ap₂ (λ (front behind : List ℕ). front ++ behind) (header-reduced from to (8 + length payload) same) (udp-reduced from to port 4342 payload)
