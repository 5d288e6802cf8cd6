-- What marks change in a packet, and what they leave.
use Rattle.std.proofs.Common.{◌≡◌, ℕ, false, true, List, length, take, slice_index, None}
use Rattle.octets.specs.Rules.{first_failing}
use Rattle.ip_headers.specs.Checksum.{ones_sum}
use Rattle.ip_headers.specs.Ip.{class_of, header_at, header_len, ip_rules, is_v4, packet_len, ttl_of, version}
use Rattle.decap.specs.Unwrapped.{changes_at, flow_label}

-- the packet `out` is the packet `packet` with that class and TTL
pub record Marks (packet : List ℕ) (class ttl : ℕ) (out : List ℕ) : Type 0 where
  pub same_length : length out ≡ length packet
  pub class_is : class_of (header_at out) ≡ class
  pub ttl_is : ttl_of (header_at out) ≡ ttl
  pub version : version out ≡ version packet
  pub flow_label : is_v4 packet ≡ false → flow_label out ≡ flow_label packet
  pub others : (k : ℕ) → changes_at packet k ≡ false → slice_index out k ≡ slice_index packet k
  pub checksum : is_v4 out ≡ true → ones_sum (take (header_len out) out) ≡ 65535
  pub lawful : (base : ℕ) → first_failing (ip_rules base out) ≡ None
  pub exact : length out ≡ packet_len (header_at out)
