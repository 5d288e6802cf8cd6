use Rattle.std.proofs.Common.{◌≡◌, ◌<◌, ◌^◌, List, length, IsTrue}
use Rattle.desk.specs.World.{shown}
use Rattle.capture_events.specs.Events.{Packet, records_of}
use Rattle.auditing.specs.Holding.{IsOpen}
use Rattle.auditing.proofs.HoldingLemmas.{Reached}
use Rattle.auditing.proofs.holding.Holding.expect_all.Given as goal

abbrev pub invariant-loop-rest : goal.invariant-loop-rest
invariant-loop-rest g l = record {
  open_still : IsOpen l.self;
  id : l.self.sent.id ≡ l.fn.self.sent.id;
  short : length l.rest < 2 ^ 32;
  reached : (packets : List Packet) → l.records ≡ records_of packets → Reached packets l.rest l.fn.self (g.D.Desk.told l.fn.desk) l.self (g.D.Desk.told l.desk);
  shown : shown (g.D.Desk.told l.desk) ≡ shown (g.D.Desk.told l.fn.desk);
  given : g.D.Desk.given l.desk ≡ g.D.Desk.given l.fn.desk;
  steady : IsTrue (g.D.Desk.steady l.fn.desk) → IsTrue (g.D.Desk.steady l.desk);
  faults : g.D.Desk.faults l.desk ≡ g.D.Desk.faults l.fn.desk;
}

abbrev pub decreases-loop-rest : goal.decreases-loop-rest
decreases-loop-rest g l = length l.rest
