-- The lines of a message that octets spell.
use Rattle.replay.specs.Show.{control_text, unless_refused}
use Rattle.ip_headers.specs.declared.header.UdpHeader.{UdpHeader}
use Rattle.ip_headers.specs.Udp.{payload_in, sum_rules}
use Rattle.router_model.specs.Course.{FramePacket}
use Rattle.octets.specs.declared.refused.Refused.{Refused}
use Rattle.octets.specs.Rules.{first_failing}
use Rattle.std.proofs.Common.{◌≡◌, ap₂, ℕ, ◌++◌, List, [], ◌∷◌, length, drop, flat_map, Option, Some, None, refl, sym, ap, ◌∙◌, eq-eqb, ne_eqb, suc, zero, Bool, true, false, cond, ◌+◌, arith}
use Rattle.std.specs.Prelude.{codes}
use Rattle.mapping_records.specs.Locator.{locators_at}
use Rattle.mapping_records.specs.Record.{IsRecordAt, locator_count, locators_place, record_size}
use Rattle.mapping_records.specs.declared.eid.Eid.{Eid}
use Rattle.mapping_records.specs.declared.record.Record.{Record}
use Rattle.map_messages.specs.Control.{Carries, inner_payload}
use Rattle.map_messages.specs.Items.{EachAt}
use Rattle.map_messages.specs.Message.{IsMessageAt, left_over, message_rules, message_size}
use Rattle.map_messages.specs.Plain.{IsPlainAt}
use Rattle.map_messages.specs.Reply.{IsReplyAt}
use Rattle.map_messages.specs.Request.{IsAskedEid, IsRequestAt, asked_eid_size, eids_place}
use Rattle.map_messages.specs.Words.{is_ecm, is_request, kind}
use Rattle.map_messages.specs.declared.message.MapReply.{MapReply}
use Rattle.map_messages.specs.declared.message.MapRequest.{MapRequest}
use Rattle.map_messages.specs.declared.message.Message.{Message}
use Rattle.map_messages.specs.declared.message.Message.TheVariants.{Request, Reply, Control}
use Rattle.replay.specs.Messages.{eid_line_at, eid_lines_at, line_of_eid, line_of_record, lines_of_carried, lines_of_message, lines_of_reply, lines_of_request, message_at, plain_at, record_line_at, record_lines_at, reply_at, request_at}

eid_line-at : (octets : List ℕ) (eid : Eid) → IsAskedEid octets eid → line_of_eid eid ≡ eid_line_at octets
eid_line-at octets eid is = rw (is.instance, is.addr, is.len) refl

-- the EID records
eid_lines-at : (octets : List ℕ) (eids : List Eid) → EachAt IsAskedEid asked_eid_size octets eids → flat_map line_of_eid eids ≡ eid_lines_at (length eids) octets
eid_lines-at octets [] each = refl
eid_lines-at octets (eid ∷ eids) (first, others) = ap₂ (λ (a : List ℕ) (b : List ℕ). a ++ b) (eid_line-at octets eid first) (eid_lines-at (drop (asked_eid_size octets) octets) eids others)

length-locators_at : (count : ℕ) (octets : List ℕ) → length (locators_at count octets) ≡ count
length-locators_at zero octets = refl
length-locators_at (suc count) octets = ap suc (length-locators_at count _)

record_line-at : (octets : List ℕ) (mapping : Record) → IsRecordAt octets mapping → line_of_record mapping ≡ record_line_at octets
record_line-at octets mapping is =
    let count : length mapping.locators ≡ locator_count octets = ap length is.locators ∙ length-locators_at (locator_count octets) (drop (locators_place octets) octets) in
    rw (is.eid.instance, is.eid.addr, is.eid.len, is.ttl, is.action, is.version, count) refl

-- the records
record_lines-at : (octets : List ℕ) (mappings : List Record) → EachAt IsRecordAt record_size octets mappings → flat_map line_of_record mappings ≡ record_lines_at (length mappings) octets
record_lines-at octets [] each = refl
record_lines-at octets (mapping ∷ mappings) (first, others) = ap₂ (λ (a : List ℕ) (b : List ℕ). a ++ b) (record_line-at octets mapping first) (record_lines-at (drop (record_size octets) octets) mappings others)

lines_of_request-at : (octets : List ℕ) (left : ℕ) (request : MapRequest) → IsRequestAt octets request → lines_of_request left request ≡ request_at left octets
lines_of_request-at octets left request is =
    rw (is.nonce, is.probe, is.smr, eid_lines-at (drop (eids_place octets) octets) request.eids is.eids.each, is.eids.number) refl

lines_of_reply-at : (octets : List ℕ) (left : ℕ) (reply : MapReply) → IsReplyAt octets reply → lines_of_reply left reply ≡ reply_at left octets
lines_of_reply-at octets left reply is =
    rw (is.nonce, is.probe, record_lines-at (drop 12 octets) reply.mappings is.mappings.each, is.mappings.number) refl

chosen_true : {A : Type 0} (test : Bool) (a b : A) → test ≡ true → cond test a b ≡ a
chosen_true true a b is = refl
chosen_true false a b is = cc

chosen_false : {A : Type 0} (test : Bool) (a b : A) → test ≡ false → cond test a b ≡ b
chosen_false true a b is = cc
chosen_false false a b is = refl

request-plain : (octets : List ℕ) (left : ℕ) (request : MapRequest) → IsRequestAt octets request → lines_of_request left request ≡ plain_at left octets
request-plain octets left request is =
    lines_of_request-at octets left request is ∙ sym (chosen_true (is_request octets) (request_at left octets) (reply_at left octets) (eq-eqb (kind octets) 1 is.message_type))

reply-plain : (octets : List ℕ) (left : ℕ) (reply : MapReply) → IsReplyAt octets reply → lines_of_reply left reply ≡ plain_at left octets
reply-plain octets left reply is =
    let other : kind octets ≡ 1 → ⊥ = λ one. cc (one, is.message_type) in
    lines_of_reply-at octets left reply is ∙ sym (chosen_false (is_request octets) (request_at left octets) (reply_at left octets) (ne_eqb (kind octets) 1 other))

carried-plain : (octets : List ℕ) (left : ℕ) (request : Option MapRequest) (reply : Option MapReply) → Carries (IsPlainAt octets) request reply → lines_of_carried left request reply ≡ plain_at left octets
carried-plain octets left (Some request) None is = request-plain octets left request is
carried-plain octets left None (Some reply) is = reply-plain octets left reply is
carried-plain octets left (Some request) (Some reply) is = absurd is
carried-plain octets left None None is = absurd is

-- the lines of a message that isn't encapsulated, and of one that is
plain_first : (octets lines : List ℕ) → (kind octets ≡ 8 → ⊥) → lines ≡ plain_at (left_over octets) octets → lines ≡ message_at octets
plain_first octets lines other is =
    is ∙ sym (chosen_false (is_ecm octets) (codes "ecm " ++ plain_at (left_over octets) (inner_payload octets)) (plain_at (left_over octets) octets) (ne_eqb (kind octets) 8 other))

ecm_first : (octets lines : List ℕ) → kind octets ≡ 8 → lines ≡ codes "ecm " ++ plain_at (left_over octets) (inner_payload octets) → lines ≡ message_at octets
ecm_first octets lines eight is =
    is ∙ sym (chosen_true (is_ecm octets) (codes "ecm " ++ plain_at (left_over octets) (inner_payload octets)) (plain_at (left_over octets) octets) (eq-eqb (kind octets) 8 eight))

-- the lines of the message at the front
pub lines_of_message-at : (octets : List ℕ) (message : Message) → IsMessageAt octets message → lines_of_message (left_over octets) message ≡ message_at octets
lines_of_message-at octets (Request request) is = plain_first octets _ (λ eight. cc (eight, is.message_type)) (request-plain octets (left_over octets) request is)
lines_of_message-at octets (Reply reply) is = plain_first octets _ (λ eight. cc (eight, is.message_type)) (reply-plain octets (left_over octets) reply is)
lines_of_message-at octets (Control ecm) is =
    ecm_first octets _ is.message_type (ap (λ (lines : List ℕ). codes "ecm " ++ lines) (carried-plain (inner_payload octets) (left_over octets) ecm.request ecm.reply is.carried))

-- what is shown of a message that was read
pub control_text-message : (packet : FramePacket) (udp : UdpHeader) (message : Message) (left : ℕ)
    → None ≡ first_failing (sum_rules packet.base packet.header packet.octets udp false)
    → first_failing (message_rules (packet.base + udp.at + 8) (payload_in packet.octets udp)) ≡ None → IsMessageAt (payload_in packet.octets udp) message
    → message_size (payload_in packet.octets udp) + left ≡ length (payload_in packet.octets udp) → lines_of_message left message ≡ control_text packet udp
unfolding control_text
control_text-message packet udp message left sum rules is size =
    let payload = payload_in packet.octets udp in
    let left_is : left ≡ left_over payload = omega arith in
    ap (λ (n : ℕ). lines_of_message n message) left_is ∙ lines_of_message-at payload message is
    ∙ sym (ap (λ (o : Option Refused). unless_refused o (unless_refused (first_failing (message_rules (packet.base + udp.at + 8) payload)) (message_at payload))) (sym sum)
    ∙ ap (λ (o : Option Refused). unless_refused o (message_at payload)) rules)
