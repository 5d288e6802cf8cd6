-- The one spelling of an IP header: no options, ignored bits 0, the computed checksum.
use Rattle.std.specs.Prelude.{ℕ, ◌+◌, ◌*◌, ◌<◌, ◌^◌, ◌≡◌, List, ◌∷◌, ◌++◌}
use Rattle.octets.specs.Numbers.{big_octets, flag}
use Rattle.ip_headers.specs.Checksum.{checksum}
use Rattle.ip_headers.specs.declared.header.V4Header.{V4Header}
use Rattle.ip_headers.specs.declared.header.V6Header.{V6Header}

-- the flags and the fragment offset
abbrev pub v4_flags : V4Header → ℕ
v4_flags header = flag header.dont_fragment 16384 + flag header.more 8192 + header.offset

-- an IPv4 header of 20 octets with that checksum
abbrev pub spelled_v4 : V4Header → ℕ → List ℕ
spelled_v4 header sum =
    0x45 ∷ header.tos
    ∷ (big_octets 2 header.total
    ++ (big_octets 2 header.id
    ++ (big_octets 2 (v4_flags header)
    ++ header.ttl ∷ header.protocol
    ∷ (big_octets 2 sum ++ (big_octets 4 header.source ++ big_octets 4 header.dest)))))

-- an IPv4 header with the checksum over it, computed with 0 in its place
abbrev pub canonical_v4 : V4Header → List ℕ
canonical_v4 header = spelled_v4 header (checksum (spelled_v4 header 0))

-- the version, the class and the flow label in one word
abbrev pub v6_first : V6Header → ℕ
v6_first header = 6 * 2 ^ 28 + header.class * 2 ^ 20 + header.flow

-- an IPv6 header of 40 octets
abbrev pub canonical_v6 : V6Header → List ℕ
canonical_v6 header =
    big_octets 4 (v6_first header)
    ++ (big_octets 2 header.payload
    ++ header.next ∷ header.hops ∷ big_octets 16 header.source ++ big_octets 16 header.dest)

-- the fields of an IPv4 header fit, and there are no options
pub record InRangeV4 (header : V4Header) : Type 0 where
  pub source : header.source < 2 ^ 32
  pub dest : header.dest < 2 ^ 32
  pub tos : header.tos < 2 ^ 8
  pub total : header.total < 2 ^ 16
  pub id : header.id < 2 ^ 16
  pub offset : header.offset < 2 ^ 13
  pub ttl : header.ttl < 2 ^ 8
  pub protocol : header.protocol < 2 ^ 8
  pub plain : header.header_len ≡ 20

-- the fields of an IPv6 header fit
pub record InRangeV6 (header : V6Header) : Type 0 where
  pub source : header.source < 2 ^ 128
  pub dest : header.dest < 2 ^ 128
  pub class : header.class < 2 ^ 8
  pub flow : header.flow < 2 ^ 20
  pub payload : header.payload < 2 ^ 16
  pub next : header.next < 2 ^ 8
  pub hops : header.hops < 2 ^ 8
