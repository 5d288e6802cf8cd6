-- The rules by which a packet isn't sent.
use Rattle.std.specs.Prelude.{ℕ, ◌+◌, nat_le, nat_lt, Bool, List, [], ◌∷◌, length}
use Rattle.ip_headers.specs.Ip.{header_at, ttl_of}
use Rattle.ip_headers.specs.declared.addr.Addr.{Addr}
use Rattle.ip_headers.specs.declared.addr.Addr.TheVariants.{V4, V6}
use Rattle.encap.specs.Limits.{most_tunnel_octets}
use Rattle.encap.specs.declared.fault.EncapDrop.{EncapDrop}
use Rattle.encap.specs.declared.fault.EncapDrop.TheVariants as drop

-- why a packet isn't sent
pub data Unsent : Type 0 where
  TtlExpired : Unsent
  TooBig : Unsent

-- the drop of a packet that isn't sent
abbrev pub encap_drop : Unsent → EncapDrop
encap_drop TtlExpired = drop.TtlExpired
encap_drop TooBig = drop.TooBig

-- the rule of forwarding: the TTL or Hop Limit stays above 0 when it falls by one
abbrev pub forward_rules : List ℕ → List (Bool × Unsent)
forward_rules inner = (nat_lt 1 (ttl_of (header_at inner)), TtlExpired) ∷ []

-- the octets of outer IP header, UDP header and LISP header
abbrev pub outer_len : Addr → ℕ
outer_len (V4 source) = 36
outer_len (V6 source) = 56

-- the rules of a tunnel: that of forwarding, and the tunnel packet isn't too long
abbrev pub encap_rules : List ℕ → Addr → List (Bool × Unsent)
encap_rules inner from =
    (nat_lt 1 (ttl_of (header_at inner)), TtlExpired)
    ∷ (nat_le (outer_len from + length inner) most_tunnel_octets, TooBig)
    ∷ []
