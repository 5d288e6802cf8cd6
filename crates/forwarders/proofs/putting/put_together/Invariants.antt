use Rattle.std.proofs.Common.{◌≡◌, ◌++◌, length}
use Rattle.forwarders.specs.Gathering.{left_in, lines_in, packets_in}
use Rattle.forwarders.proofs.putting.put_together.Given as goal

abbrev pub invariant-loop-gathered : goal.invariant-loop-gathered
invariant-loop-gathered l = record {
  left : left_in l.items.items ≡ length l.ruled.items;
  lines : l.done.lines ++ lines_in l.items.items l.ruled.items ≡ l.fn.done.lines ++ lines_in l.fn.items.items l.fn.ruled.items;
  packets : l.done.written ++ packets_in l.items.items l.ruled.items ≡ l.fn.done.written ++ packets_in l.fn.items.items l.fn.ruled.items;
}

abbrev pub decreases-loop-gathered : goal.decreases-loop-gathered
decreases-loop-gathered l = length l.items.items
