-- Octets that spell a message have it as their message.
use Rattle.std.proofs.Common.{◌≡◌, ℕ, List, [], ◌∷◌, length, drop, slice_index, Option, Some, None, refl, sym, ap, ◌∙◌, option_map}
use Rattle.std.specs.Option.{option_and_then}
use Rattle.std.specs.Prelude.{option_to_list}
use Rattle.ip_headers.specs.Addr.{cleared, is_prefix}
use Rattle.ip_headers.specs.declared.addr.Addr.{Addr}
use Rattle.ip_headers.specs.declared.prefix.Prefix.{Prefix}
use Rattle.mapping_records.specs.Eid.{eid_addr, instance_at}
use Rattle.mapping_records.specs.Record.{record_size, IsEidPrefix, IsRecordAt}
use Rattle.mapping_records.specs.declared.eid.Eid.{Eid}
use Rattle.mapping_records.specs.declared.record.Record.{Record}
use Rattle.mapping_records.proofs.WholeRecord.{same_at}
use Rattle.map_messages.specs.Control.{inner_payload, Carries, IsEcmAt}
use Rattle.map_messages.specs.Items.{AreItems, EachAt}
use Rattle.map_messages.specs.Message.{IsMessageAt}
use Rattle.map_messages.specs.Plain.{IsPlainAt}
use Rattle.map_messages.specs.Reply.{mapping_count, IsReplyAt}
use Rattle.map_messages.specs.Request.{addr_count, addrs_place, asked_eid_size, eid_count, eids_place, record_count, record_place, reply_addr_size, IsAskedEid, IsReplyAddr, IsRequestAt}
use Rattle.map_messages.specs.declared.message.Ecm.{Ecm}
use Rattle.map_messages.specs.declared.message.MapReply.{MapReply}
use Rattle.map_messages.specs.declared.message.MapRequest.{MapRequest}
use Rattle.map_messages.specs.declared.message.Message.{Message}
use Rattle.map_messages.specs.declared.message.Message.TheVariants.{Request, Reply, Control}
use Rattle.map_messages.proofs.ReplyLaws.{same_reply}
use Rattle.map_messages.proofs.RequestLaws.{same_request}
use Rattle.map_messages.proofs.SpelledEcm.{same_ecm}
use Rattle.lisp_settings.specs.AddressText.{lawful_prefix, prefix_with_length}
use Rattle.lisp_settings.specs.Settings.{eid_of}
use Rattle.lisp_settings.proofs.EidLemmas.{eid_of-parts}
use Rattle.lisp_settings.proofs.PrefixLemmas.{some_if-true}
use Rattle.router_model.specs.Received.{asked_eid_in, ecm_in, ecm_of_reply, ecm_of_request, eid_prefix_in, head_of, items_in, message_in, record_in, reply_addr_in, reply_in, request_in}

-- the prefix with those parts
prefix-made : (addr : Addr) (len : ℕ) (p : Prefix) → p.addr ≡ cleared addr len → p.len ≡ len → prefix_with_length addr len ≡ Some p
unfolding prefix_with_length
prefix-made addr len p addr_is len_is =
    ap (λ (a : Addr). lawful_prefix a len) (sym addr_is)
    ∙ ap (lawful_prefix p.addr) (sym len_is)
    ∙ some_if-true (is_prefix p.addr p.len) _ p.lawful

-- an EID at the front
eid_prefix_in-is : (octets : List ℕ) (mask : ℕ) (eid : Eid) → IsEidPrefix octets mask eid → eid_prefix_in octets mask ≡ Some eid
eid_prefix_in-is octets mask eid is =
    ap (option_and_then (eid_of (instance_at octets))) (prefix-made (eid_addr octets) mask eid.prefix is.addr is.len)
    ∙ ap (λ (iid : ℕ). eid_of iid eid.prefix) (sym is.instance)
    ∙ eid_of-parts eid

-- items, where each of them is read
items_in-each : {T : Type 0} (Is : List ℕ → T → Type 0) (size : List ℕ → ℕ) (read : List ℕ → Option T)
    → ((octets : List ℕ) (item : T) → Is octets item → read octets ≡ Some item)
    → (octets : List ℕ) (items : List T) → EachAt Is size octets items → items_in read size (length items) octets ≡ Some items
items_in-each Is size read one octets [] each = refl
items_in-each Is size read one octets (item ∷ items) each =
    ap (option_and_then (λ first. option_map (λ others. first ∷ others) (items_in read size (length items) (drop (size octets) octets)))) (one octets item each.0)
    ∙ ap (option_map (λ others. item ∷ others)) (items_in-each Is size read one (drop (size octets) octets) items each.1)

-- so many items
items_in-is : {T : Type 0} (Is : List ℕ → T → Type 0) (size : List ℕ → ℕ) (read : List ℕ → Option T)
    → ((octets : List ℕ) (item : T) → Is octets item → read octets ≡ Some item)
    → (count : ℕ) (octets : List ℕ) (items : List T) → AreItems Is size count octets items → items_in read size count octets ≡ Some items
items_in-is Is size read one count octets items are =
    ap (λ (n : ℕ). items_in read size n octets) (sym are.number) ∙ items_in-each Is size read one octets items are.each

-- a record at the front
record_in-is : (octets : List ℕ) (mapping : Record) → IsRecordAt octets mapping → record_in octets ≡ Some mapping
record_in-is octets mapping is =
    rw (eid_prefix_in-is (drop 10 octets) (slice_index octets 5) mapping.eid is.eid)
    (ap Some (same_at octets _ mapping (record { ttl = refl; action = refl; authoritative = refl; version = refl; eid = is.eid; locators = refl }) is))

-- an ITR-RLOC at the front
reply_addr_in-is : (octets : List ℕ) (addr : Addr) → IsReplyAddr octets addr → reply_addr_in octets ≡ Some addr
reply_addr_in-is octets addr is = ap Some (sym is)

-- an EID record at the front
asked_eid_in-is : (octets : List ℕ) (eid : Eid) → IsAskedEid octets eid → asked_eid_in octets ≡ Some eid
asked_eid_in-is octets eid is = eid_prefix_in-is (drop 2 octets) (slice_index octets 1) eid is

-- a Map-Reply at the front
reply_in-is : (octets : List ℕ) (reply : MapReply) → IsReplyAt octets reply → reply_in octets ≡ Some reply
reply_in-is octets reply is =
    rw (items_in-is IsRecordAt record_size record_in record_in-is (mapping_count octets) (drop 12 octets) reply.mappings is.mappings)
    (ap Some (same_reply octets _ reply (record { message_type = is.message_type; probe = refl; nonce = refl; mappings = is.mappings }) is))

-- the record of a Map-Request, if one follows
head_of-list : (option : Option Record) → head_of (option_to_list option) ≡ option
head_of-list None = refl
head_of-list (Some mapping) = refl

-- a Map-Request at the front
request_in-is : (octets : List ℕ) (request : MapRequest) → IsRequestAt octets request → request_in octets ≡ Some request
request_in-is octets request is =
    let addrs = items_in-is IsReplyAddr reply_addr_size reply_addr_in reply_addr_in-is (addr_count octets) (drop (addrs_place octets) octets) request.replies_to is.replies_to in
    let eids = items_in-is IsAskedEid asked_eid_size asked_eid_in asked_eid_in-is (eid_count octets) (drop (eids_place octets) octets) request.eids is.eids in
    let mappings = items_in-is IsRecordAt record_size record_in record_in-is (record_count octets) (drop (record_place octets) octets) (option_to_list request.piggyback) is.piggyback in
    rw (addrs, eids, mappings, head_of-list request.piggyback)
    (ap Some
    (same_request octets _ request
    (record {
      message_type = is.message_type;
      probe = refl;
      smr = refl;
      invoked = refl;
      nonce = refl;
      source = refl;
      replies_to = is.replies_to;
      eids = is.eids;
      piggyback = is.piggyback;
    }) is))

-- an Encapsulated Control Message by what it carries
carried-is : (octets : List ℕ) (ecm : Ecm) (request : Option MapRequest) (reply : Option MapReply) → Carries (IsPlainAt (inner_payload octets)) request reply
    → IsEcmAt octets ecm → ecm_in octets ≡ Some ecm
carried-is octets ecm (Some request) None is at =
    rw (is.message_type, request_in-is (inner_payload octets) request is)
    (ap Some
    (same_ecm octets (ecm_of_request octets request) ecm
    (record { message_type = at.message_type; source = refl; dest = refl; source_port = refl; carried = is }) at))
carried-is octets ecm None (Some reply) is at =
    rw (is.message_type, reply_in-is (inner_payload octets) reply is)
    (ap Some
    (same_ecm octets (ecm_of_reply octets reply) ecm
    (record { message_type = at.message_type; source = refl; dest = refl; source_port = refl; carried = is }) at))
carried-is octets ecm (Some request) (Some reply) is at = absurd is
carried-is octets ecm None None is at = absurd is

-- an Encapsulated Control Message at the front
ecm_in-is : (octets : List ℕ) (ecm : Ecm) → IsEcmAt octets ecm → ecm_in octets ≡ Some ecm
ecm_in-is octets ecm is = carried-is octets ecm ecm.request ecm.reply is.carried is

-- a message at the front
pub message_in_is : (octets : List ℕ) (message : Message) → IsMessageAt octets message → message_in octets ≡ Some message
unfolding message_in
message_in_is octets (Request request) is = rw is.message_type (ap (option_map Request) (request_in-is octets request is))
message_in_is octets (Reply reply) is = rw is.message_type (ap (option_map Reply) (reply_in-is octets reply is))
message_in_is octets (Control ecm) is = rw is.message_type (ap (option_map Control) (ecm_in-is octets ecm is))
