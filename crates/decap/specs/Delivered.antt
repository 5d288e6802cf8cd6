-- A packet as it leaves its tunnel: RFC 9300 section 5.3, RFC 6040 section 4.2.
use Rattle.std.specs.Prelude.{ℕ, ◌+◌, ◌-◌, ◌*◌, ◌/◌, ◌%◌, min, nat_lt, Bool, List, [], ◌∷◌, take, slice_index, slice_set, is_some, unwrap_or, if◌then◌else◌}
use Rattle.ip_headers.specs.Checksum.{checksum}
use Rattle.ip_headers.specs.Ip.{header_at, header_len, is_v4, ttl_of}
use Rattle.ip_headers.specs.declared.header.IpHeader.{IpHeader}
use Rattle.decap.specs.Ecn.{dscp, ecn, ecn_of}
use Rattle.decap.specs.declared.fault.DecapDrop.{DecapDrop}
use Rattle.decap.specs.declared.fault.DecapDrop.TheVariants as drop

-- an IPv4 packet with that TOS, TTL and checksum
abbrev pub v4_with : List ℕ → ℕ → ℕ → ℕ → List ℕ
v4_with packet class ttl sum =
    slice_set (slice_set (slice_set (slice_set packet 1 class) 8 ttl) 10 (sum / 256)) 11 (sum % 256)

-- an IPv4 packet with that TOS and TTL, and with the checksum over its header, computed with 0 in its place
unfoldable pub v4_marked : List ℕ → ℕ → ℕ → List ℕ
v4_marked packet class ttl =
    v4_with packet class ttl (checksum (take (header_len packet) (v4_with packet class ttl 0)))

-- an IPv6 packet with that Hop Limit and Traffic Class, which stands before the flow label
unfoldable pub v6_marked : List ℕ → ℕ → ℕ → List ℕ
v6_marked packet class hops =
    let second = class % 16 * 16 + slice_index packet 1 % 16 in
    slice_set (slice_set (slice_set packet 1 second) 0 (6 * 16 + class / 16)) 7 hops

-- a packet with that DSCP and ECN, and that TTL or Hop Limit
abbrev pub marked : List ℕ → ℕ → ℕ → List ℕ
marked packet class ttl =
    if is_v4 packet then v4_marked packet class ttl else v6_marked packet class ttl

-- the DSCP of the outer header, and ECN by the table of RFC 6040
abbrev pub new_class : IpHeader → IpHeader → ℕ
new_class inner outer = dscp outer * 4 + unwrap_or (ecn_of (ecn inner) (ecn outer)) 0

-- the lesser TTL or Hop Limit of both headers
abbrev pub lesser_ttl : IpHeader → IpHeader → ℕ
lesser_ttl inner outer = min (ttl_of inner) (ttl_of outer)

-- the packet `inner` as it leaves a tunnel with that outer header
abbrev pub delivered : List ℕ → IpHeader → List ℕ
delivered inner outer =
    let header = header_at inner in
    marked inner (new_class header outer) (lesser_ttl header outer - 1)

-- why a packet isn't delivered
pub data Undelivered : Type 0 where
  CongestionMark : Undelivered
  TtlExpired : Undelivered

-- the drop of a packet that isn't delivered
abbrev pub decap_drop : Undelivered → DecapDrop
decap_drop CongestionMark = drop.CongestionMark
decap_drop TtlExpired = drop.TtlExpired

-- the rules of delivery: there is an outgoing ECN mark, and the TTL stays above 0 when it falls by one
abbrev pub deliver_rules : List ℕ → IpHeader → List (Bool × Undelivered)
deliver_rules inner outer =
    (is_some (ecn_of (ecn (header_at inner)) (ecn outer)), CongestionMark)
    ∷ (nat_lt 1 (lesser_ttl (header_at inner) outer), TtlExpired)
    ∷ []
