-- The limits of pcapng captures (this router's choice).
use Rattle.std.specs.Prelude.{ℕ, ◌*◌, ◌^◌}

-- octets of a section header, an interface or a packet block, at most
abbrev pub most_block_octets : ℕ
most_block_octets = 1048576

-- interfaces of a section, at most
abbrev pub most_interfaces : ℕ
most_interfaces = 4095

-- blocks of a file, at most, so that every place is below 2^64
abbrev pub most_blocks : ℕ
most_blocks = 4000000000

-- the greatest k of an if_tsresol of 10 to the minus k seconds
abbrev pub most_decimal : ℕ
most_decimal = 19

-- the greatest k of an if_tsresol of 2 to the minus k seconds
abbrev pub most_binary : ℕ
most_binary = 63

-- the first moment that is too late for a frame, in nanoseconds: 2^32 seconds
abbrev pub end_of_moments : ℕ
end_of_moments = 2 ^ 32 * 1000000000
