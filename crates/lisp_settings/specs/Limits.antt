-- The limits of a settings file (this router's choice).
use Rattle.std.specs.Prelude.{ℕ}
pub use Rattle.mapping_records.specs.Limits.{default_minutes, most_locators, most_mappings}

-- the most octets of a settings file
abbrev pub most_text_octets : ℕ
most_text_octets = 16777216

-- the most nonces that a settings file may list
abbrev pub most_nonces : ℕ
most_nonces = 4096

-- the most attachments: one for each VLAN
abbrev pub most_attachments : ℕ
most_attachments = 4096

-- the most EID prefixes of the site
abbrev pub most_databases : ℕ
most_databases = 64

-- the most changes of own locators
abbrev pub most_changes : ℕ
most_changes = 256

-- the greatest second of a change, because seconds have 32 bits
abbrev pub greatest_second : ℕ
greatest_second = 4294967295

-- the most limits of instances that a settings file may state
abbrev pub most_limits : ℕ
most_limits = 4096

-- the most requests for EIDs of one instance that are open at once
abbrev pub most_requests : ℕ
most_requests = 1024

-- the most requests that are open at once, whatever their instances
abbrev pub most_open : ℕ
most_open = 16384
