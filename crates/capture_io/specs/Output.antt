-- The captures that are written: little-endian, with nanoseconds, and raw IP packets.
use Rattle.std.specs.Prelude.{ℕ, ◌/◌, ◌%◌, List, ◌++◌, length}
use Rattle.octets.specs.Numbers.{little_octets}
use Rattle.capture_io.specs.Limits.{most_frame_octets}

-- the header of a written capture: magic number, version 2.4, zone, accuracy, snap length (the most octets of a
-- record), link type
abbrev pub out_header : List ℕ
out_header =
    little_octets 4 0xa1b23c4d ++ (little_octets 2 2 ++ (little_octets 2 4
    ++ (little_octets 4 0 ++ (little_octets 4 0
    ++ (little_octets 4 most_frame_octets ++ little_octets 4 101)))))

-- the header of a record: seconds, nanoseconds, kept and original length
abbrev pub record_header : ℕ → ℕ → List ℕ
record_header moment size =
    little_octets 4 (moment / 1000000000) ++ (little_octets 4 (moment % 1000000000)
    ++ (little_octets 4 size ++ little_octets 4 size))

-- the record of a packet, with its moment in nanoseconds
abbrev pub packet_record : ℕ → List ℕ → List ℕ
packet_record moment packet = record_header moment (length packet) ++ packet
