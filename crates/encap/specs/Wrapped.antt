-- A packet in its tunnel: RFC 9300 section 5.3, RFC 6040 section 4.1.
use Rattle.std.specs.Prelude.{◌≡◌, ℕ, ◌+◌, ◌-◌, true, false, List, ◌++◌, length, drop, None}
use Rattle.octets.specs.Rules.{first_failing}
use Rattle.ip_headers.specs.Addr.{number}
use Rattle.ip_headers.specs.Canonical.{canonical_v4, canonical_v6}
use Rattle.ip_headers.specs.Ip.{class_of, ip_rules, header_at, packet_len, payload_place, protocol_of, source_of, dest_of, ttl_of}
use Rattle.ip_headers.specs.Udp.{canonical_udp, udp_at, udp_rules}
use Rattle.ip_headers.specs.declared.addr.Addr.{Addr}
use Rattle.ip_headers.specs.declared.header.IpHeader.{IpHeader}
use Rattle.ip_headers.specs.declared.header.IpHeader.TheVariants.{V4, V6}
use Rattle.ip_headers.specs.declared.header.UdpHeader.{UdpHeader}
use Rattle.ip_headers.specs.declared.header.V4Header.{V4Header}
use Rattle.ip_headers.specs.declared.header.V6Header.{V6Header}
use Rattle.ip_headers.specs.declared.addr.Addr.TheVariants as family
use Rattle.lisp_header.specs.Header.{canonical}
use Rattle.lisp_header.specs.declared.header.LispHeader.{LispHeader}
use Rattle.lisp_header.specs.Header.{header_at as lisp_header_at}
use Rattle.encap.specs.Forwarded.{forwarded, Forwarded}

-- the outer IPv4 header
abbrev pub outer_v4 : List ℕ → ℕ → ℕ → V4Header
outer_v4 inner source dest = record {
  source = source;
  dest = dest;
  tos = class_of (header_at inner);
  total = 36 + length inner;
  id = 0;
  dont_fragment = true;
  more = false;
  offset = 0;
  ttl = ttl_of (header_at inner) - 1;
  protocol = 17;
  header_len = 20;
}

-- the outer IPv6 header
abbrev pub outer_v6 : List ℕ → ℕ → ℕ → V6Header
outer_v6 inner source dest = record {
  source = source;
  dest = dest;
  class = class_of (header_at inner);
  flow = 0;
  payload = 16 + length inner;
  next = 17;
  hops = ttl_of (header_at inner) - 1;
}

-- the octets of the outer IP header, between addresses of one family
unfoldable pub outer_header : List ℕ → Addr → Addr → List ℕ
outer_header inner (family.V4 source) to = canonical_v4 (outer_v4 inner source (number to))
outer_header inner (family.V6 source) to = canonical_v6 (outer_v6 inner source (number to))

-- the tunnel packet: outer IP header, UDP header without checksum, LISP header, the packet one hop
-- further
abbrev pub wrapped : List ℕ → Addr → Addr → ℕ → LispHeader → List ℕ
wrapped inner from to port lisp =
    outer_header inner from to
    ++ canonical_udp from to port 4341 (canonical lisp ++ forwarded inner) false

-- an IPv4 header without options, of a packet that is no fragment and may not become one
pub record IsPlainV4 (header : V4Header) : Type 0 where
  pub no_options : header.header_len ≡ 20
  pub id : header.id ≡ 0
  pub dont_fragment : header.dont_fragment ≡ true
  pub more : header.more ≡ false
  pub offset : header.offset ≡ 0

-- a header whose only values of its own are addresses, class, length, TTL and protocol
abbrev pub IsPlain : IpHeader → Type 0
IsPlain (V4 header) = IsPlainV4 header
IsPlain (V6 header) = header.flow ≡ 0

-- the UDP header of a tunnel packet: to the LISP data port, without a checksum
abbrev pub tunnel_udp : ℕ → ℕ → ℕ → UdpHeader
tunnel_udp port length at =
    record { source = port; dest = 4341; length = length; checksum = 0; at = at }

-- where the UDP header of a tunnel packet stands
abbrev pub udp_place : List ℕ → ℕ
udp_place outer = payload_place (header_at outer)

-- `outer` carries the packet `inner` through the tunnel from one locator to another
pub record Wrapped (inner : List ℕ) (from to : Addr) (port : ℕ) (lisp : LispHeader)
    (outer : List ℕ) : Type 0 where
  pub lawful : (base : ℕ) → first_failing (ip_rules base outer) ≡ None
  pub exact : length outer ≡ packet_len (header_at outer)
  pub source : source_of (header_at outer) ≡ from
  pub dest : dest_of (header_at outer) ≡ to
  pub class : class_of (header_at outer) ≡ class_of (header_at inner)
  pub ttl : ttl_of (header_at outer) + 1 ≡ ttl_of (header_at inner)
  pub protocol : protocol_of (header_at outer) ≡ 17
  pub plain : IsPlain (header_at outer)
  pub udp_lawful : (base : ℕ) → first_failing (udp_rules base (udp_place outer) outer) ≡ None
  pub udp : udp_at (udp_place outer) outer ≡ tunnel_udp port (16 + length inner) (udp_place outer)
  pub lisp_header : lisp_header_at (drop (udp_place outer + 8) outer) ≡ lisp
  pub payload : Forwarded inner (drop (udp_place outer + 16) outer)
