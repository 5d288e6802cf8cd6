-- What is sent consists of octets.
use Rattle.std.proofs.Common.{◌≡◌, ◌<◌, ◌≤◌, ◌+◌, ◌-◌, ◌*◌, ◌/◌, ◌%◌, ◌^◌, ℕ, zero, suc, Bool, true, false, List, [], ◌∷◌, ◌++◌, length, take, drop, slice_index, refl, arith, cond}
use Rattle.std.specs.Int.{byte_at}
use Rattle.std.specs.List.{All}
use Rattle.std.specs.Prelude.{is_some, nat_lt, slice_set}
use Rattle.std.proofs.lemmas.Bool.Decides.{nat_tests}
use Rattle.std.proofs.lemmas.List.{get_or_past}
use Rattle.std.proofs.lemmas.List.Elements.{All-append, All-cons, All-drop, All-from_recursion, All-get_or, All-nil, All-set, All-take}
use Rattle.std.proofs.lemmas.Nat.{mod_below}
use Rattle.octets.specs.Numbers.{big_octets, flag}
use Rattle.ip_headers.specs.Canonical.{canonical_v4, canonical_v6}
use Rattle.ip_headers.specs.Checksum.{checksum}
use Rattle.ip_headers.specs.Ip.{class_of, header_at, header_len, is_v4, ttl_of}
use Rattle.ip_headers.specs.Udp.{datagram, udp_octets}
use Rattle.ip_headers.specs.declared.header.V4Header.{V4Header}
use Rattle.ip_headers.specs.declared.header.V6Header.{V6Header}
use Rattle.lisp_header.specs.Header.{canonical, flags_of, instance_and_status, nonce_or_versions}
use Rattle.lisp_header.specs.declared.header.LispHeader.{LispHeader}
use Rattle.encap.specs.Forwarded.{forwarded, forwarded_v4, forwarded_v6, lowered, renewed}
use Rattle.decap.specs.Delivered.{marked, v4_marked, v4_with, v6_marked}

abbrev pub AreOctets : List ℕ → Type 0
AreOctets octets = All (λ octet. octet < 256) octets

pub none : AreOctets []
none = All-nil (λ octet. octet < 256)

pub one : (octet : ℕ) (octets : List ℕ) → octet < 256 → AreOctets octets → AreOctets (octet ∷ octets)
one octet octets fits are = All-cons (λ octet. octet < 256) octet octets fits are

pub join : (front back : List ℕ) → AreOctets front → AreOctets back → AreOctets (front ++ back)
join front back a b = All-append (λ octet. octet < 256) front back a b

front : (n : ℕ) (octets : List ℕ) → AreOctets octets → AreOctets (take n octets)
front n octets are = All-take (λ octet. octet < 256) n octets are

pub behind : (n : ℕ) (octets : List ℕ) → AreOctets octets → AreOctets (drop n octets)
behind n octets are = All-drop (λ octet. octet < 256) n octets are

set : (octets : List ℕ) (at octet : ℕ) → octet < 256 → AreOctets octets → AreOctets (slice_set octets at octet)
set octets at octet fits are = All-set (λ octet. octet < 256) octets at octet fits are

-- an octet at a place, 0 past the end
pub octet-at : (octets : List ℕ) (i : ℕ) → AreOctets octets → slice_index octets i < 256
octet-at octets i are = by (nat_lt i (length octets)) refl
  where
    below : nat_lt i (length octets) ≡ true → i < length octets
    below is = grind (arith, nat_tests)

    past : nat_lt i (length octets) ≡ false → length octets ≤ i
    past is = grind (arith, nat_tests)

    by : (b : Bool) → nat_lt i (length octets) ≡ b → slice_index octets i < 256
    by true is = All-get_or (λ octet. octet < 256) octets i 0 (below is) are
    by false is = rw (get_or_past octets i 0 (past is)) (let zero_below : 0 < 256 = omega arith in zero_below)

-- the octets of a number
byte_below : (n x : ℕ) → byte_at n x < 256
byte_below zero x = mod_below x 256 (omega arith)
byte_below (suc n) x = mod_below (x / 256 ^ suc n) 256 (omega arith)

pub number : (n x : ℕ) → AreOctets (big_octets n x)
number zero x = none
number (suc n) x = one (byte_at n x) (big_octets n x) (byte_below n x) (number n x)

-- a header that is written
pub v4-octets : (h : V4Header) → h.tos < 256 → h.ttl < 256 → h.protocol < 256 → AreOctets (canonical_v4 h)
v4-octets h tos ttl protocol =
    All-from_recursion (λ octet. octet < 256) (canonical_v4 h)
    (omega arith, (tos, (omega arith, (omega arith, (omega arith, (omega arith, (omega arith, (omega arith, (ttl, (protocol, (omega arith, (omega arith, (omega arith, (omega arith, (omega arith, (omega arith, (omega arith, (omega arith, (omega arith, (omega arith, tt))))))))))))))))))))

pub v6-octets : (h : V6Header) → h.next < 256 → h.hops < 256 → AreOctets (canonical_v6 h)
v6-octets h next hops =
    All-from_recursion (λ octet. octet < 256) (canonical_v6 h)
    (omega arith, (omega arith, (omega arith, (omega arith, (omega arith, (omega arith, (next, (hops, (omega arith, (omega arith, (omega arith, (omega arith, (omega arith, (omega arith, (omega arith, (omega arith, (omega arith, (omega arith, (omega arith, (omega arith, (omega arith, (omega arith, (omega arith, (omega arith, (omega arith, (omega arith, (omega arith, (omega arith, (omega arith, (omega arith, (omega arith, (omega arith, (omega arith, (omega arith, (omega arith, (omega arith, (omega arith, (omega arith, (omega arith, (omega arith, tt))))))))))))))))))))))))))))))))))))))))

-- a datagram
pub datagram-octets : (source dest sum : ℕ) (payload : List ℕ) → AreOctets payload → AreOctets (datagram source dest sum payload)
datagram-octets source dest sum payload are =
    let header : AreOctets (udp_octets source dest (8 + length payload) sum) =
    All-from_recursion (λ octet. octet < 256) (udp_octets source dest (8 + length payload) sum)
    (omega arith, (omega arith, (omega arith, (omega arith, (omega arith, (omega arith, (omega arith, (omega arith, tt)))))))) in
    join (udp_octets source dest (8 + length payload) sum) payload header are

-- a LISP header
pub flag_le : (is : Bool) (weight : ℕ) → flag is weight ≤ weight
flag_le true weight = omega arith
flag_le false weight = omega arith

pub lisp-octets : (h : LispHeader) → h.key ≤ 3 → AreOctets (canonical h)
lisp-octets h key =
    let first : flags_of h < 256 =
    omega (arith, key, flag_le (is_some h.nonce) 128, flag_le (is_some h.status) 64, flag_le h.echo 32, flag_le (is_some h.versions) 16, flag_le (is_some h.instance) 8) in
    let middle : List ℕ = big_octets 3 (nonce_or_versions h.nonce h.versions) in
    let last : List ℕ = big_octets 4 (instance_and_status h.instance h.status) in
    one (flags_of h) (middle ++ last) first
    (join middle last (number 3 (nonce_or_versions h.nonce h.versions)) (number 4 (instance_and_status h.instance h.status)))

-- a packet one hop further
lowered-octets : (header : List ℕ) (sum : ℕ) → AreOctets header → AreOctets (lowered header sum)
lowered-octets header sum are =
    let rest : List ℕ = big_octets 2 sum ++ drop 12 header in
    join (take 8 header) ((slice_index header 8 - 1) ∷ slice_index header 9 ∷ rest) (front 8 header are)
    (one (slice_index header 8 - 1) (slice_index header 9 ∷ rest) (omega (arith, octet-at header 8 are))
    (one (slice_index header 9) rest (octet-at header 9 are) (join (big_octets 2 sum) (drop 12 header) (number 2 sum) (behind 12 header are))))

renewed-octets : (header : List ℕ) → AreOctets header → AreOctets (renewed header)
unfolding renewed
renewed-octets header are = lowered-octets header (checksum (lowered header 0)) are

pub forwarded-octets : (packet : List ℕ) → AreOctets packet → AreOctets (forwarded packet)
forwarded-octets packet are = by (is_v4 packet)
  where
    by : (four : Bool) → AreOctets (cond four (forwarded_v4 packet) (forwarded_v6 packet))
    by true =
        join (renewed (take (header_len packet) packet)) (drop (header_len packet) packet)
        (renewed-octets (take (header_len packet) packet) (front (header_len packet) packet are)) (behind (header_len packet) packet are)
    by false =
        join (take 7 packet) ((slice_index packet 7 - 1) ∷ drop 8 packet) (front 7 packet are)
        (one (slice_index packet 7 - 1) (drop 8 packet) (omega (arith, octet-at packet 7 are)) (behind 8 packet are))

-- a packet with other marks
v4_with-octets : (packet : List ℕ) (class ttl sum : ℕ) → class < 256 → ttl < 256 → sum ≤ 65535 → AreOctets packet → AreOctets (v4_with packet class ttl sum)
v4_with-octets packet class ttl sum class_fits ttl_fits small are =
    set (slice_set (slice_set (slice_set packet 1 class) 8 ttl) 10 (sum / 256)) 11 (sum % 256) (omega arith)
    (set (slice_set (slice_set packet 1 class) 8 ttl) 10 (sum / 256) (omega (arith, small))
    (set (slice_set packet 1 class) 8 ttl ttl_fits (set packet 1 class class_fits are)))

v4_marked-octets : (packet : List ℕ) (class ttl : ℕ) → class < 256 → ttl < 256 → AreOctets packet → AreOctets (v4_marked packet class ttl)
unfolding v4_marked
v4_marked-octets packet class ttl class_fits ttl_fits are =
    v4_with-octets packet class ttl (checksum (take (header_len packet) (v4_with packet class ttl 0))) class_fits ttl_fits (omega arith) are

v6_marked-octets : (packet : List ℕ) (class hops : ℕ) → class < 256 → hops < 256 → AreOctets packet → AreOctets (v6_marked packet class hops)
unfolding v6_marked
v6_marked-octets packet class hops class_fits hops_fits are =
    let second = class % 16 * 16 + slice_index packet 1 % 16 in
    set (slice_set (slice_set packet 1 second) 0 (6 * 16 + class / 16)) 7 hops hops_fits
    (set (slice_set packet 1 second) 0 (6 * 16 + class / 16) (omega (arith, class_fits)) (set packet 1 second (omega arith) are))

pub marked-octets : (packet : List ℕ) (class ttl : ℕ) → class < 256 → ttl < 256 → AreOctets packet → AreOctets (marked packet class ttl)
marked-octets packet class ttl class_fits ttl_fits are = by (is_v4 packet)
  where
    by : (four : Bool) → AreOctets (cond four (v4_marked packet class ttl) (v6_marked packet class ttl))
    by true = v4_marked-octets packet class ttl class_fits ttl_fits are
    by false = v6_marked-octets packet class ttl class_fits ttl_fits are

-- class and TTL of octets
pub class-octet : (octets : List ℕ) → AreOctets octets → class_of (header_at octets) < 256
class-octet octets are = by (is_v4 octets) refl
  where
    by : (four : Bool) → is_v4 octets ≡ four → class_of (header_at octets) < 256
    by true is = rw is (octet-at octets 1 are)
    by false is = rw is (omega arith)

pub ttl-octet : (octets : List ℕ) → AreOctets octets → ttl_of (header_at octets) < 256
ttl-octet octets are = by (is_v4 octets) refl
  where
    by : (four : Bool) → is_v4 octets ≡ four → ttl_of (header_at octets) < 256
    by true is = rw is (octet-at octets 8 are)
    by false is = rw is (octet-at octets 7 are)
