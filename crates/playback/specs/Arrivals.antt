-- Frames that were read to be played, whatever the capture's format and octets.
use Rattle.std.specs.Prelude.{◌≤◌, List, length}
use Rattle.std.specs.List.{All}
use Rattle.capture_io.specs.Frame.{Frame}
use Rattle.capture_io.specs.Run.{AreLater}
use Rattle.capture_events.specs.Came.{IsRead}
use Rattle.playback.specs.Limits.{most_frames}

-- frames that were read: each is one that a capture may have, moments don't fall, and they are at most `most_frames`
pub record Arrived (frames : List Frame) : Type 0 where
  pub read : All IsRead frames
  pub later : AreLater 0 frames
  pub few : length frames ≤ most_frames
