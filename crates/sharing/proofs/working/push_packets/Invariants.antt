use Rattle.std.proofs.Common.{◌≡◌, ◌+◌, ◌++◌, map, take}
use Rattle.capture_events.specs.Events.{records_of}
use Rattle.forwarders.specs.Rounding.{packet_seen}
use Rattle.sharing.proofs.working.push_packets.Given as goal

abbrev pub invariant-loop-packet : goal.invariant-loop-packet
invariant-loop-packet l = record {
  lines : l.output.lines ≡ l.fn.output.lines;
  records : l.output.records ≡ l.fn.output.records ++ records_of (map packet_seen (take l.packet-index l.packets));
  written : l.output.written ≡ l.fn.output.written + l.packet-index;
}
