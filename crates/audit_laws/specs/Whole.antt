-- Octets that are exactly one IP packet: RFC 791 and RFC 8200.
use Rattle.std.specs.Prelude.{◌≡◌, ℕ, ◌≤◌, List, length, None}
use Rattle.octets.specs.Rules.{first_failing}
use Rattle.ip_headers.specs.Ip.{header_at, ip_rules, packet_len}

-- the octets obey the rules of IP, and are as many as the header names, at most 65,575
pub record IsWhole (packet : List ℕ) : Type 0 where
  pub lawful : first_failing (ip_rules 0 packet) ≡ None
  pub exact : length packet ≡ packet_len (header_at packet)
  pub short : length packet ≤ 65575
