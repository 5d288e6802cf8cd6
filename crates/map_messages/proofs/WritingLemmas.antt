-- Octets that were appended one after another, and their length.
use Rattle.std.proofs.Common.{◌≡◌, ◌≤◌, ℕ, ◌+◌, List, ◌++◌, length, true, ◌∙◌, append_assoc, arith, length-append}
use Rattle.ip_headers.specs.Udp.{canonical_udp, udp_checksum}
use Rattle.ip_headers.specs.declared.addr.Addr.{Addr}
use Rattle.ip_headers.proofs.DatagramLemmas.{length-datagram}
use Rattle.map_messages.specs.Control.{canonical_carried, canonical_ecm, control_header, control_packet}
use Rattle.map_messages.specs.Limits.{most_message_octets}
use Rattle.map_messages.specs.declared.message.Ecm.{Ecm}

-- five runs of octets behind others
pub five_runs : (out a b c d e : List ℕ) → ((((out ++ a) ++ b) ++ c) ++ d) ++ e ≡ out ++ (a ++ (b ++ (c ++ (d ++ e))))
five_runs out a b c d e =
    append_assoc (((out ++ a) ++ b) ++ c) d e ∙ append_assoc ((out ++ a) ++ b) c (d ++ e)
    ∙ append_assoc (out ++ a) b (c ++ (d ++ e)) ∙ append_assoc out a (b ++ (c ++ (d ++ e)))

-- the octets of a control packet
pub length-control_packet : (from to : Addr) (port : ℕ) (payload : List ℕ)
    → length (control_packet from to port payload) ≡ length (control_header from to (8 + length payload)) + (8 + length payload)
unfolding control_packet
length-control_packet from to port payload =
    omega (arith, length-append (control_header from to (8 + length payload)) (canonical_udp from to port 4342 payload true), length-datagram port 4342 (udp_checksum from to port 4342 payload) payload)

-- what is carried is no longer than the whole
pub carried_short : (ecm : Ecm) → length (canonical_ecm ecm) ≤ most_message_octets → length (canonical_carried ecm.request ecm.reply) ≤ most_message_octets
carried_short ecm short =
    let payload : List ℕ = canonical_carried ecm.request ecm.reply in
    omega (arith, short, length-control_packet ecm.source ecm.dest ecm.source_port payload)
