-- Clearing the last bits of an address makes a prefix.
use Rattle.std.proofs.Common.{ℕ, ◌≤◌, ◌-◌, ◌^◌, ◌/◌, arith, IsTrue}
use Rattle.std.proofs.lemmas.Grind.{common_steps}
use Rattle.std.proofs.Math.Nat.{mul-mod_left}
use Rattle.ip_headers.specs.Addr.{is_prefix, width, cleared}
use Rattle.ip_headers.specs.declared.addr.Addr.{Addr}
use Rattle.ip_headers.specs.declared.addr.Addr.TheVariants.{V4, V6}

pub is_prefix-cleared : (a : Addr) (len : ℕ) → len ≤ width a → IsTrue (is_prefix (cleared a len) len)
is_prefix-cleared (V4 n) len h = grind (arith, common_steps, mul-mod_left (n / 2 ^ (32 - len)) (2 ^ (32 - len)))
is_prefix-cleared (V6 n) len h = grind (arith, common_steps, mul-mod_left (n / 2 ^ (128 - len)) (2 ^ (128 - len)))
