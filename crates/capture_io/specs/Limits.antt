-- The limits of captures (this router's choice).
use Rattle.std.specs.Prelude.{ℕ}

-- records of a capture, at most
abbrev pub most_records : ℕ
most_records = 1000000000

-- octets that a record keeps of its frame, at most; a capture that is written states them
abbrev pub most_frame_octets : ℕ
most_frame_octets = 262144

-- nanoseconds from the greatest moment so far to that of a record, at most: 1,000,000 seconds
abbrev pub longest_span : ℕ
longest_span = 1000000000000000
