-- What a frame adds to a show.
use Rattle.std.proofs.Common.{◌≡◌, ◌++◌, sym, ◌∙◌, arith}
use Rattle.std.proofs.lemmas.List.{append-nil}
use Rattle.capture_io.specs.Frame.{Frame}
use Rattle.capture_events.specs.Events.{Arrival}
use Rattle.playback.specs.Playing.{Gathers}
use Rattle.playback.specs.declared.output.Output.{Output}
use Rattle.replay.specs.Show.{shown_frame, showing}

-- the lines of a frame were gathered, and nothing else
pub lines_gathered : (frame : Frame) (old new : Output)
    → new.lines ≡ old.lines ++ shown_frame frame → new.records ≡ old.records → new.written ≡ old.written
    → Gathers (showing tt (Arrival frame)) old new
lines_gathered frame old new lines records written = record {
  lines = lines;
  records = records ∙ sym (append-nil old.records);
  written = omega (arith, written);
}
