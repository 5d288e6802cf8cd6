use Rattle.std.proofs.Common.{◌≡◌, ◌++◌, map, take, All}
use Rattle.router_model.specs.Plain.{emit_packets}
use Rattle.router_model.specs.Standing.{standing_by}
use Rattle.forwarders.specs.Gathering.{IsFit, packet_gathered}
use Rattle.forwarders.proofs.sending.push_emits.Given as goal

abbrev pub invariant-loop-emit : goal.invariant-loop-emit
invariant-loop-emit l = record {
  items : l.items.items ≡ l.fn.items.items ++ map packet_gathered (emit_packets (standing_by l.settings l.own) l.moment (take l.emit-index l.emits));
  fits : All IsFit l.fn.items.items → All IsFit l.items.items;
}
