use Rattle.std.proofs.Common.{◌≡◌, ◌≤◌, ℕ, ◌++◌, List, map}
use Rattle.capture_io.specs.Frame.{Frame}
use Rattle.capture_events.specs.Events.{Event, Tick, ticks}
use Rattle.capture_events.specs.Seconds.{AreBetween}
use Rattle.forwarders.specs.Gathering.{Writes}
use Rattle.forwarders.proofs.writing.write_seconds.Given as goal

abbrev pub invariant-loop-second : goal.invariant-loop-second
invariant-loop-second l = record {
  now : (reached : ℕ) × ((l.table.parts.now ≤ reached) × ((reached ≤ l.moment) × AreBetween reached l.moment l.second-iterator));
  writes : (done : List Event) × ((done ++ map Tick l.second-iterator ≡ ticks l.fn.previous l.moment)
      × ((frames : List Frame) → Writes l.settings frames done l.fn.table.parts l.fn.written l.table.parts l.written));
}
