-- The size of tunnel packets.
use Rattle.std.specs.Prelude.{ℕ}

-- octets of a tunnel packet with its outer headers, at most (this router's choice)
abbrev pub most_tunnel_octets : ℕ
most_tunnel_octets = 1500
