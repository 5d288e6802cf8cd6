-- The first rule that drops a packet.
use Rattle.std.proofs.Common.{◌≡◌, ◌≤◌, ◌<◌, ◌+◌, ℕ, List, length, Some, None, arith, ltb-true}
use Rattle.std.proofs.lemmas.Grind.{common_steps}
use Rattle.std.proofs.lemmas.Bool.{leb-true}
use Rattle.octets.proofs.RuleLemmas.{all_hold}
use Rattle.octets.specs.Rules.{first_failing}
use Rattle.ip_headers.specs.Ip.{ttl_of, header_at}
use Rattle.ip_headers.specs.declared.addr.Addr.{Addr}
use Rattle.encap.specs.Limits.{most_tunnel_octets}
use Rattle.encap.specs.Rules.{encap_rules, forward_rules, outer_len, TtlExpired, TooBig}

pub expired : (inner : List ℕ) (from : Addr) → ttl_of (header_at inner) ≤ 1 → first_failing (encap_rules inner from) ≡ Some TtlExpired
expired inner from ttl = grind (arith, common_steps)

pub too_big : (inner : List ℕ) (from : Addr) → 1 < ttl_of (header_at inner) → most_tunnel_octets < outer_len from + length inner → first_failing (encap_rules inner from) ≡ Some TooBig
too_big inner from ttl size = grind (arith, common_steps)

pub passes : (inner : List ℕ) (from : Addr) → 1 < ttl_of (header_at inner) → outer_len from + length inner ≤ most_tunnel_octets → first_failing (encap_rules inner from) ≡ None
passes inner from ttl size = grind (arith, common_steps)

pub passed : (inner : List ℕ) (from : Addr) → first_failing (encap_rules inner from) ≡ None → (1 < ttl_of (header_at inner)) × (outer_len from + length inner ≤ most_tunnel_octets)
passed inner from none =
    let all = all_hold (encap_rules inner from) none in
    (ltb-true _ _ all.0, leb-true _ _ all.1.0)

pub forward_expired : (inner : List ℕ) → ttl_of (header_at inner) ≤ 1 → first_failing (forward_rules inner) ≡ Some TtlExpired
forward_expired inner ttl = grind (arith, common_steps)

pub forward_passes : (inner : List ℕ) → 1 < ttl_of (header_at inner) → first_failing (forward_rules inner) ≡ None
forward_passes inner ttl = grind (arith, common_steps)
