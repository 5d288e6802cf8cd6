use Rattle.std.proofs.Common.{None}
use Rattle.capture_events.proofs.EventLemmas.{arrivals-events}
use Rattle.capture_events.proofs.laws.events_keep_the_frames.Goals as goal

pub returns : goal.returns
returns c frames = arrivals-events None frames
