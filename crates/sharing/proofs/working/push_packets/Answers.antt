use Rattle.std.proofs.Common.{◌∙◌, ◌++◌, ap, ap₂, sym, arith, append_assoc, map, take, List, ℕ}
use Rattle.capture_io.specs.Output.{packet_record}
use Rattle.capture_events.specs.Events.{records_of}
use Rattle.forwarders.specs.Rounding.{packet_seen}
use Rattle.sharing.proofs.RoundLemmas.{records-more}
use Rattle.sharing.proofs.working.push_packets.Goals as goal

pub loop-packet-preserved : goal.loop-packet-preserved
loop-packet-preserved c =
    let inv = c.loop-packet.invariant in
    let packets = c.args.packets.now in
    let i = c.loop-packet.packet-index in
    let one = c.packet-item.result in
    let old = c.args.output.now.records in
    let done = c.in_ok-push_packet.ensures in
    let more = records-more packets i one c.loop-packet-test.true c.packet-item.is in
    record {
      lines = done.lines ∙ inv.lines;
      records = done.records ∙ ap₂ (λ (a b : List ℕ). a ++ packet_record one.moment b) inv.records c.as_slice.ensures
          ∙ append_assoc old (records_of (map packet_seen (take i packets))) (packet_record one.moment one.octets) ∙ ap (λ (r : List ℕ). old ++ r) (sym more);
      written = omega (arith, done.written, inv.written);
    }
