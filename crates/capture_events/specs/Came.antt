-- Frames that were read from a capture, whatever its format and its octets are.
use Rattle.std.specs.Prelude.{ℕ, ◌*◌, ◌^◌, ◌<◌, ◌≤◌, List, length}
use Rattle.std.specs.List.{All}
use Rattle.capture_io.specs.Frame.{Frame}
use Rattle.capture_io.specs.Limits.{most_records}
use Rattle.capture_io.specs.Run.{AreLater}

-- facts of a frame that was read, whatever its file holds: its moment in nanoseconds is in a second below 2^32, and it
-- is of octets
pub record IsRead (f : Frame) : Type 0 where
  pub moment : f.moment < 2 ^ 32 * 1000000000
  pub octets : All (λ octet. octet < 256) f.octets

-- frames that came from a capture: each was read, their moments don't fall, and they are no more than a capture may
-- have
pub record Came (frames : List Frame) : Type 0 where
  pub read : All IsRead frames
  pub later : AreLater 0 frames
  pub few : length frames ≤ most_records
