-- The limits of a router, numbers that follow from them, and the ports of LISP.
use Rattle.std.specs.Prelude.{ℕ, ◌+◌, ◌*◌}
pub use Rattle.lisp_settings.specs.Limits.{most_changes, most_databases, most_open}
pub use Rattle.map_cache.specs.Limits.{most_locators, most_mappings}
pub use Rattle.request_queue.specs.Limits.{most_retries}
pub use Rattle.locator_state.specs.Limits.{most_probes, most_solicits, most_starts, most_targets, most_wishes}

-- the UDP port of packets in tunnels (RFC 9300, section 5.3)
abbrev pub data_port : ℕ
data_port = 4341

-- the UDP port of control messages (RFC 9301, section 5)
abbrev pub control_port : ℕ
control_port = 4342

-- the greatest Map-Version (RFC 9302, section 6: 12 bits)
abbrev pub most_version : ℕ
most_version = 4095

-- records of a Map-Reply or of a Map-Request, at most (RFC 9301, sections 5.2 and 5.4: a count of 8 bits)
abbrev pub most_message_records : ℕ
most_message_records = 255

-- entries that come of a message, and emits, at most: of a Map-Reply its answer, and each of its records
abbrev pub most_heard : ℕ
most_heard = 1 + most_message_records

-- locators that get SMRs for changes of own locators in one second, at most (this router's choice)
abbrev pub most_told : ℕ
most_told = 64

-- entries that come of a second, at most: one for each change, for each database prefix of each locator that gets SMRs,
-- for each request that is sent again, and for each locator that is probed
abbrev pub most_ticked : ℕ
most_ticked = most_changes + (most_told * most_databases + (most_open + most_targets))

-- notices of a decision, at most
abbrev pub most_notices : ℕ
most_notices = 5

-- entries that come of an event, at most, which is no sharp bound
abbrev pub most_entries : ℕ
most_entries = 32768

-- octets of a round's frames (16 MiB) past which the round is closed, by the frame that brings it there
abbrev pub most_round_octets : ℕ
most_round_octets = 16777216

-- packets that are sent for an event, at most, which is no sharp bound; packets are therefore counted in 64 bits
abbrev pub most_event_packets : ℕ
most_event_packets = 32768
