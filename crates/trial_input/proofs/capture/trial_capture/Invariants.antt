use Rattle.std.proofs.Common.{◌≡◌, ◌++◌, map}
use Rattle.std.specs.List.{range_with_len}
use Rattle.capture_io.specs.Output.{out_header}
use Rattle.capture_events.specs.Events.{records_of}
use Rattle.trial_input.specs.Trial.{trial_packet}
use Rattle.trial_input.proofs.capture.trial_capture.Given as goal

-- the header, and the records up to here
abbrev pub invariant-loop-j : goal.invariant-loop-j
invariant-loop-j l = l.file ≡ out_header ++ records_of (map (trial_packet l.n) (range_with_len 0 l.j))
