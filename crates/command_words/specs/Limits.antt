-- The limits of the numbers among the words (this router's choice).
use Rattle.std.specs.Prelude.{ℕ}

-- forwarders that decide data packets beside each other, at most
abbrev pub most_workers : ℕ
most_workers = 16

-- frames that are handed to forwarders at once, at most
abbrev pub most_round_frames : ℕ
most_round_frames = 4096

-- frames that are handed to forwarders at once, where no word gives their number
abbrev pub default_round_frames : ℕ
default_round_frames = 256

-- mappings of a trial, at most
abbrev pub most_trial_mappings : ℕ
most_trial_mappings = 50000
