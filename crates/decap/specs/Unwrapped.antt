-- What decapsulation makes of a packet, field by field: RFC 9300 section 5.3, RFC 6040 section 4.2.
use Rattle.std.specs.Prelude.{◌≡◌, ℕ, ◌+◌, ◌%◌, ◌==◌, ◌||◌, Bool, true, false, List, length, slice_index, Some, None, if◌then◌else◌}
use Rattle.octets.specs.Numbers.{big}
use Rattle.octets.specs.Rules.{first_failing}
use Rattle.ip_headers.specs.Ip.{header_sum, ip_rules, is_v4, header_at, packet_len, ttl_of, version}
use Rattle.ip_headers.specs.declared.header.IpHeader.{IpHeader}
use Rattle.decap.specs.Delivered.{lesser_ttl}
use Rattle.decap.specs.Ecn.{dscp, ecn, ecn_of}

-- the places of TOS, TTL and checksum, or those of Traffic Class and Hop Limit
abbrev pub changes_at : List ℕ → ℕ → Bool
changes_at packet k =
    if is_v4 packet then k == 1 || k == 8 || k == 10 || k == 11 else k == 0 || k == 1 || k == 7

-- the flow label of an IPv6 packet
abbrev pub flow_label : List ℕ → ℕ
flow_label packet = big 4 packet 0 % 1048576

-- the packet `out` is the packet `inner` that left a tunnel with that outer header
pub record Unwrapped (outer : IpHeader) (inner out : List ℕ) : Type 0 where
  pub same_length : length out ≡ length inner
  pub ttl : ttl_of (header_at out) + 1 ≡ lesser_ttl (header_at inner) outer
  pub dscp : dscp (header_at out) ≡ dscp outer
  pub ecn : Some (ecn (header_at out)) ≡ ecn_of (ecn (header_at inner)) (ecn outer)
  pub version : version out ≡ version inner
  pub flow_label : is_v4 inner ≡ false → flow_label out ≡ flow_label inner
  pub others : (k : ℕ) → changes_at inner k ≡ false → slice_index out k ≡ slice_index inner k
  pub checksum : is_v4 out ≡ true → header_sum out ≡ 65535
  pub lawful : (base : ℕ) → first_failing (ip_rules base out) ≡ None
  pub exact : length out ≡ packet_len (header_at out)
