-- The size above which a packet is split (RFC 9300, section 7.1).
use Rattle.std.specs.Prelude.{ℕ, ◌-◌, Bool, true, false, List, if◌then◌else◌}
use Rattle.std.specs.List.{list_any}
use Rattle.encap.specs.Limits.{most_tunnel_octets}
use Rattle.encap.specs.Rules.{outer_len}
use Rattle.ip_headers.specs.declared.addr.Addr.{Addr}
use Rattle.ip_headers.specs.declared.addr.Addr.TheVariants.{V4, V6}
use Rattle.lisp_settings.specs.declared.settings.OwnLocator.{OwnLocator}
use Rattle.lisp_settings.specs.declared.settings.Settings.{Settings}

-- the address is an IPv6 one
abbrev pub is_v6 : Addr → Bool
is_v6 (V4 n) = false
is_v6 (V6 n) = true

-- an own locator, up or not, is an IPv6 address
abbrev pub has_v6 : List OwnLocator → Bool
has_v6 locators = list_any (λ own. is_v6 own.addr) locators

-- the most octets of a packet that isn't split: with the longest outer headers that the own locators,
-- up or not, may have, it is as long as a tunnel packet may be (this router's choice)
abbrev pub split_size : Settings → ℕ
split_size settings =
    most_tunnel_octets - (if has_v6 settings.locators then outer_len (V6 0) else outer_len (V4 0))

-- the size above which a packet is split, where an own locator is an IPv6 address: no shorter packet is split
abbrev pub least_split_size : ℕ
least_split_size = most_tunnel_octets - outer_len (V6 0)

-- the most that a fragment offset is, in units of eight octets (RFC 791, section 3.1)
abbrev pub most_offset : ℕ
most_offset = 8191
