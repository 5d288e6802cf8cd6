-- The five numbers by which packets of one flow are known.
use Rattle.std.specs.Prelude.{ℕ, ◌+◌, ◌==◌, ◌||◌, ◌&&◌, nat_le, Bool, List, length, not, if◌then◌else◌}
use Rattle.octets.specs.Numbers.{big}
use Rattle.ip_headers.specs.Ip.{is_fragment, source_of, dest_of, protocol_of, payload_place}
use Rattle.ip_headers.specs.declared.header.IpHeader.{IpHeader}
use Rattle.ip_headers.specs.declared.tuple.FiveTuple.{FiveTuple}

-- whether TCP or UDP follows the IP header directly, in no fragment, and both ports are there
abbrev pub has_ports : IpHeader → List ℕ → Bool
has_ports header octets =
    (protocol_of header == 6 || protocol_of header == 17)
    && not (is_fragment header)
    && nat_le (payload_place header + 4) (length octets)

-- the port at a place, or 0
abbrev pub port_at : IpHeader → List ℕ → ℕ → ℕ
port_at header octets at = if has_ports header octets then big 2 octets at else 0

-- the five numbers of a packet with that header
abbrev pub five_tuple_of : IpHeader → List ℕ → FiveTuple
five_tuple_of header octets = record {
  source = source_of header;
  dest = dest_of header;
  protocol = protocol_of header;
  source_port = port_at header octets (payload_place header);
  dest_port = port_at header octets (payload_place header + 2);
}
