-- The limits of the messages that are written, and of the packets in which they go.
use Rattle.std.specs.Prelude.{ℕ}

-- the most octets of a message that is written (this router's choice)
abbrev pub most_message_octets : ℕ
most_message_octets = 65000

-- the TTL or Hop Limit of the packets that this router makes (this router's choice)
abbrev pub control_hops : ℕ
control_hops = 64
