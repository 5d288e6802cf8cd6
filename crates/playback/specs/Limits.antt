-- The limits of a play.
use Rattle.std.specs.Prelude.{ℕ, ◌+◌, ◌*◌}
use Rattle.capture_io.specs.Limits.{most_frame_octets, most_records}
pub use Rattle.capture_io.specs.Limits.{most_frame_octets, most_records}

-- the most octets of a frame as it is played: those that a capture keeps, and a VLAN tag that may be put in
abbrev pub most_arrival_octets : ℕ
most_arrival_octets = most_frame_octets + 4

-- the most frames of a play: those of a capture, each in at most two parts
abbrev pub most_frames : ℕ
most_frames = 2 * most_records

-- the octets of gathered lines, or of gathered records, that make a piece to be handed on (this router's choice)
abbrev pub piece_octets : ℕ
piece_octets = 65536
