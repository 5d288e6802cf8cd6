-- The limits and times of Map-Requests (RFC 9301, section 5.3). Each is this router's choice.
use Rattle.std.specs.Prelude.{ℕ}
pub use Rattle.lisp_settings.specs.Limits.{most_open, most_requests}

-- requests for which room is made at once, at most (this router's choice)
abbrev pub most_reserved : ℕ
most_reserved = 16384

-- the seconds for which a request is open (this router's choice)
abbrev pub request_seconds : ℕ
request_seconds = 7

-- the seconds after the first transmission at which a request is sent again (this router's choice)
abbrev pub first_retry_seconds : ℕ
first_retry_seconds = 1

-- the seconds after the first transmission at which a request is sent again the second time (this router's choice)
abbrev pub last_retry_seconds : ℕ
last_retry_seconds = 3

-- how often a request is sent again, at most (this router's choice)
abbrev pub most_retries : ℕ
most_retries = 2
