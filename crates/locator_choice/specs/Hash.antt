-- FNV-1a of 32 bits: the hash of octets, the hash of a flow, and the source port by a hash.
use Rattle.std.specs.Prelude.{ℕ, ◌+◌, ◌-◌, ◌*◌, ◌%◌, ◌^◌, List, ◌∷◌, ◌++◌, fold, bit_xor}
use Rattle.octets.specs.Numbers.{big_octets}
use Rattle.ip_headers.specs.Udp.{addr_octets}
use Rattle.ip_headers.specs.declared.tuple.FiveTuple.{FiveTuple}
use Rattle.locator_choice.specs.Limits.{first_port}

-- a hash with one octet more
abbrev pub hashed : ℕ → ℕ → ℕ
hashed hash octet = bit_xor hash octet * 0x01000193 % 2 ^ 32

-- the hash of octets
abbrev pub octets_hash : List ℕ → ℕ
octets_hash octets = fold hashed 0x811c9dc5 octets

-- the octets of a flow that are hashed: addresses, protocol and ports
abbrev pub flow_octets : FiveTuple → List ℕ
flow_octets tuple =
    addr_octets tuple.source
    ++ (addr_octets tuple.dest
    ++ (tuple.protocol ∷ (big_octets 2 tuple.source_port ++ big_octets 2 tuple.dest_port)))

-- the hash of a flow (this router's choice)
abbrev pub flow_hash : FiveTuple → ℕ
flow_hash tuple = octets_hash (flow_octets tuple)

-- the source port of a tunnel packet by the hash of its flow: one of the ports from the first on (this router's choice)
abbrev pub source_port : ℕ → ℕ
source_port hash = first_port + hash % (2 ^ 16 - first_port)
