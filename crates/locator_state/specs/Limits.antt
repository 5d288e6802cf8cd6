-- The limits and times of probes, echoes and solicitations. Each is this router's choice.
use Rattle.std.specs.Prelude.{ℕ, ◌*◌}

-- ### probes (RFC 9301, section 7.1)

-- probes in one second, at most (this router's choice)
abbrev pub most_targets : ℕ
most_targets = 16

-- the seconds for which a probe counts (this router's choice)
abbrev pub probe_seconds : ℕ
probe_seconds = 600

-- the seconds after which a probe without an answer is judged (this router's choice)
abbrev pub judged_seconds : ℕ
judged_seconds = 3

-- the seconds that a locator rests between two probes (this router's choice)
abbrev pub rest_seconds : ℕ
rest_seconds = 60

-- probes that count at once, at most: those of all seconds for which one counts
abbrev pub most_probes : ℕ
most_probes = most_targets * probe_seconds

-- ### echoes (RFC 9300, section 10.1)

-- the seconds for which a requested echo counts (this router's choice)
abbrev pub start_seconds : ℕ
start_seconds = 60

-- the seconds for which each packet to a locator requests the echo (this router's choice)
abbrev pub echo_seconds : ℕ
echo_seconds = 10

-- the seconds for which a wanted echo counts (this router's choice)
abbrev pub wish_seconds : ℕ
wish_seconds = 2

-- requested echoes that count, at most (this router's choice)
abbrev pub most_starts : ℕ
most_starts = 4096

-- wanted echoes that count, at most (this router's choice)
abbrev pub most_wishes : ℕ
most_wishes = 4096

-- ### solicitations (RFC 9301, section 6.1)

-- the seconds for which a solicitation counts (this router's choice)
abbrev pub solicit_seconds : ℕ
solicit_seconds = 10

-- solicitations that count, at most (this router's choice)
abbrev pub most_solicits : ℕ
most_solicits = 4096

-- ### room

-- items of a kind for which room is made at once, at most (this router's choice)
abbrev pub most_reserved : ℕ
most_reserved = 65536
