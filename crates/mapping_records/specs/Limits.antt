-- The limits of mappings, and the default of their TTL.
use Rattle.std.specs.Prelude.{ℕ}

-- the most locators of one mapping (this router's choice; RFC 9301 section 5.4 has room for 255)
abbrev pub most_locators : ℕ
most_locators = 32

-- the most mappings that are kept or set (this router's choice)
abbrev pub most_mappings : ℕ
most_mappings = 65536

-- the minutes for which a mapping holds whose record leaves its TTL to the receiver
-- (RFC 9301 section 5.4; this router's choice)
abbrev pub default_minutes : ℕ
default_minutes = 1440
