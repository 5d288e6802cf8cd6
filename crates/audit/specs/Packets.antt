-- The packet in a record of a capture: RFC 791 and RFC 8200, behind the link's header.
use Rattle.std.specs.Prelude.{List, [], ℕ, Option, Some, None}
use Rattle.octets.specs.declared.refused.Refused.{Refused}
use Rattle.capture_io.specs.Frame.{Frame}
use Rattle.router_model.specs.Course.{frame_packet, frame_refusal}

-- octets, or no octets where a rule fails
abbrev pub unless_refused : Option Refused → List ℕ → List ℕ
unless_refused None octets = octets
unless_refused (Some refused) octets = []

-- the packet of a record without its padding, empty where a rule of link or IP fails
unfoldable pub record_packet : Frame → List ℕ
record_packet frame = unless_refused (frame_refusal frame) (frame_packet frame).octets
