-- The packet of an emit is exactly one packet, where there is an address to send it from, and a reply isn't too long.
use Rattle.std.proofs.Common.{◌≤◌, ◌+◌, ℕ, true, false, IsTrue, List, length, Option, Some, None, arith}
use Rattle.std.specs.Prelude.{is_some, option_and_then}
use Rattle.ip_headers.specs.Addr.{number}
use Rattle.ip_headers.specs.Udp.{datagram, udp_checksum}
use Rattle.ip_headers.specs.declared.addr.Addr.{Addr}
use Rattle.ip_headers.specs.declared.addr.Addr.TheVariants.{V4, V6}
use Rattle.ip_headers.proofs.DatagramLemmas.{length-datagram}
use Rattle.map_messages.specs.Control.{canonical_ecm, control_header, control_v4, control_v6}
use Rattle.map_messages.specs.Message.{canonical_message}
use Rattle.map_messages.specs.Request.{canonical_request}
use Rattle.map_messages.specs.declared.message.MapRequest.{MapRequest}
use Rattle.map_messages.specs.declared.message.Message.{Message}
use Rattle.map_messages.specs.declared.message.Message.TheVariants as message
use Rattle.lisp_settings.specs.declared.settings.Settings.{Settings}
use Rattle.router_log.specs.declared.emit.Emit.{Emit}
use Rattle.router_log.specs.declared.emit.Emit.TheVariants.{Request, Probe, Solicit, Reply}
use Rattle.router_model.specs.Emits.{ecm_for, emit_packet, message_packet, packet_from, packet_to, request_for, source_eid, to_resolver}
use Rattle.router_model.specs.Site.{ours}
use Rattle.router_core.specs.Site.{IsSite}
use Rattle.router_core.proofs.WritableLemmas.{ecm-short, request-short}
use Rattle.audit_laws.specs.Sent.{CanBeMade}
use Rattle.audit_laws.specs.Whole.{IsWhole}
use Rattle.audit_laws.proofs.HeaderLemmas.{v4-whole, v6-whole}

-- the nonce of an emit
abbrev pub emit_nonce : Emit → Option ℕ
emit_nonce (Request eid source invoked nonce) = Some nonce
emit_nonce (Probe to eid nonce) = Some nonce
emit_nonce (Solicit to eid nonce) = Some nonce
emit_nonce (Reply from to port reply) = None

-- a message in its packet
message-whole : (from to : Addr) (port : ℕ) (payload : List ℕ) → length payload ≤ 65000 → IsWhole (message_packet from to port payload)
unfolding control_header
message-whole (V4 source) to port payload short =
    let behind : List ℕ = datagram 4342 port (udp_checksum (V4 source) to 4342 port payload) payload in
    let size = length-datagram 4342 port (udp_checksum (V4 source) to 4342 port payload) payload in
    v4-whole (control_v4 source (number to) (8 + length payload)) behind (omega arith) (omega arith) (omega arith) (omega (arith, short)) (omega (arith, size))
message-whole (V6 source) to port payload short =
    let behind : List ℕ = datagram 4342 port (udp_checksum (V6 source) to 4342 port payload) payload in
    let size = length-datagram 4342 port (udp_checksum (V6 source) to 4342 port payload) payload in
    v6-whole (control_v6 source (number to) (8 + length payload)) behind (omega arith) (omega arith) (omega (arith, short)) size

-- the same from ours
from-whole : (from : Option Addr) (to : Addr) (told : Message) → IsTrue (is_some from) → length (canonical_message told) ≤ 65000 → IsWhole (packet_from from to told)
from-whole None to told sender short = cc
from-whole (Some from) to told sender short = message-whole from to 4342 (canonical_message told) short

to-whole : (settings : Settings) (to : Addr) (told : Message) → IsTrue (is_some (ours settings.locators to)) → length (canonical_message told) ≤ 65000 → IsWhole (packet_to settings to told)
to-whole settings to told sender short = from-whole (ours settings.locators to) to told sender short

-- and to the resolver, which is reached
resolver-whole : (settings : Settings) (resolver : Option Addr) (told : Message) → IsTrue (is_some (option_and_then (ours settings.locators) resolver)) → length (canonical_message told) ≤ 65000 → IsWhole (to_resolver settings resolver told)
resolver-whole settings None told reaches short = cc
resolver-whole settings (Some resolver) told reaches short = to-whole settings resolver told reaches short

pub emit-whole : (settings : Settings) (emit : Emit) → IsSite settings → CanBeMade settings emit → IsWhole (emit_packet settings emit)
unfolding emit_packet
emit-whole settings (Request eid source invoked nonce) site made =
    let request : MapRequest = request_for settings false false invoked nonce (source_eid eid source) eid in
    let short : length (canonical_request request) ≤ 650 = request-short settings site false false invoked nonce (source_eid eid source) eid in
    let whole : length (canonical_ecm (ecm_for settings eid request)) ≤ 702 = ecm-short settings eid request short in
    resolver-whole settings settings.resolver (message.Control (ecm_for settings eid request)) made (omega (arith, whole))
emit-whole settings (Probe to eid nonce) site made =
    let request : MapRequest = request_for settings true false false nonce None eid in
    let short : length (canonical_request request) ≤ 650 = request-short settings site true false false nonce None eid in
    to-whole settings to (message.Request request) made (omega (arith, short))
emit-whole settings (Solicit to eid nonce) site made =
    let source = source_eid eid (Some eid.prefix.addr) in
    let request : MapRequest = request_for settings false true false nonce source eid in
    let short : length (canonical_request request) ≤ 650 = request-short settings site false true false nonce source eid in
    to-whole settings to (message.Request request) made (omega (arith, short))
emit-whole settings (Reply from to port reply) site made = message-whole from to port (canonical_message (message.Reply reply)) made
