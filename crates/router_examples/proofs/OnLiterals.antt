-- One name for all that a computation of the router opens.
use Rattle.std.specs.Prelude.{⊤}
use Rattle.std.specs.Fmt.{digits}
use Rattle.encap.specs.Forwarded.{renewed}
use Rattle.encap.specs.Wrapped.{outer_header}
use Rattle.decap.specs.Opened.{opened_rules}
use Rattle.decap.specs.Delivered.{v4_marked, v6_marked}
use Rattle.decap.specs.Ecn.{ecn_of}
use Rattle.map_messages.specs.Request.{addrs_place, eids_place, record_place, request_size, request_rules}
use Rattle.map_messages.specs.Control.{datagram_rules, carried_rules, ecm_rules, ecm_size, control_header, control_packet}
use Rattle.lisp_settings.specs.AddressText.{prefix_with_length}
use Rattle.router_log.specs.Numbers.{four_groups, named}
use Rattle.router_model.specs.Course.{arriving, packet_course}
use Rattle.router_model.specs.Decide.{decide_by, routed}
use Rattle.router_model.specs.Emits.{emit_packet}
use Rattle.router_model.specs.Hear.{datagram_heard, payload_heard, reply_heard, requested}
use Rattle.router_model.specs.Note.{noted}
use Rattle.router_model.specs.Proper.{fits}
use Rattle.router_model.specs.Received.{message_in}
use Rattle.router_model.specs.Tick.{after_changes, first_told, ticked}
use Rattle.router_model.specs.View.{view}

-- what an answer unfolds to compute the router on literals
unfoldable pub router_on_literals : ⊤
unfolding digits renewed outer_header opened_rules v4_marked v6_marked ecn_of addrs_place eids_place record_place request_size request_rules datagram_rules carried_rules ecm_rules ecm_size control_header control_packet prefix_with_length four_groups named arriving packet_course decide_by routed emit_packet datagram_heard payload_heard reply_heard requested noted fits message_in after_changes first_told ticked view
router_on_literals = tt
