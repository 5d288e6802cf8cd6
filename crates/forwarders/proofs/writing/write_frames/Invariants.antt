use Rattle.std.proofs.Common.{◌≡◌, ◌≤◌, ◌<◌, ◌+◌, ◌*◌, ◌^◌, Some, take}
use Rattle.capture_events.specs.Events.{events_after, second_of}
use Rattle.router_model.specs.Limits.{most_ticked}
use Rattle.forwarders.specs.Gathering.{Writes}
use Rattle.forwarders.proofs.FrameLemmas.{latest}
use Rattle.forwarders.proofs.writing.write_frames.Given as goal

abbrev pub invariant-loop-place : goal.invariant-loop-place
invariant-loop-place l = record {
  last : l.last ≡ latest l.from (take l.place l.frames);
  early : l.last < 2 ^ 32 * 1000000000;
  now : l.table.parts.now ≤ l.last;
  count : l.table.parts.count ≤ l.fn.table.parts.count + most_ticked * (l.place + second_of l.last);
  writes : Writes l.settings l.frames (events_after (Some l.from) (take l.place l.frames)) l.fn.table.parts l.fn.written l.table.parts l.written;
}
