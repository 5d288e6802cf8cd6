-- The lines that show control messages (RFC 9301 section 5).
use Rattle.std.specs.Prelude.{ℕ, zero, suc, ◌/◌, ◌%◌, Bool, true, false, List, [], ◌∷◌, ◌++◌, codes, drop, flat_map, length, Option, Some, None, slice_index, if◌then◌else◌}
use Rattle.std.specs.Fmt.{decimal}
use Rattle.octets.specs.Numbers.{big}
use Rattle.ip_headers.specs.Addr.{cleared}
use Rattle.ip_headers.specs.declared.addr.Addr.{Addr}
use Rattle.mapping_records.specs.Eid.{eid_addr, instance_at}
use Rattle.mapping_records.specs.Record.{locator_count, record_size}
use Rattle.map_messages.specs.Control.{inner_payload}
use Rattle.map_messages.specs.Message.{left_over}
use Rattle.map_messages.specs.Reply.{mapping_count}
use Rattle.map_messages.specs.Request.{asked_eid_size, eid_count, eids_place}
use Rattle.map_messages.specs.declared.message.MapReply.{MapReply}
use Rattle.map_messages.specs.declared.message.MapRequest.{MapRequest}
use Rattle.map_messages.specs.declared.message.Message.{Message}
use Rattle.map_messages.specs.declared.message.Message.TheVariants.{Request, Reply, Control}
use Rattle.mapping_records.specs.declared.eid.Eid.{Eid}
use Rattle.mapping_records.specs.declared.record.Record.{Record}
use Rattle.map_messages.specs.Words.{bit, is_ecm, is_request, nonce_at}
use Rattle.router_log.specs.Numbers.{address_text, hex_16, named}

-- 1 for a flag that is set, and 0
abbrev pub flag_text : Bool → List ℕ
flag_text true = 49 ∷ []
flag_text false = 48 ∷ []

-- the text of an EID: instance, address and mask length
unfoldable pub eid_text : ℕ → Addr → ℕ → List ℕ
eid_text iid addr len = decimal iid ++ (32 ∷ (address_text addr ++ (47 ∷ decimal len)))

-- the end of a message's line: how many EIDs or records there are, and how many octets are left over
unfoldable pub counts_text : ℕ → ℕ → List ℕ
counts_text records left =
    named (codes " records=") records ++ (named (codes " left=") left ++ 10 ∷ [])

-- the line of a Map-Request: nonce, flags P and S, and its counts
unfoldable pub request_line : ℕ → Bool → Bool → ℕ → ℕ → List ℕ
request_line nonce probe smr records left =
    codes "request nonce="
    ++ (hex_16 nonce
    ++ (codes " p=" ++ (flag_text probe ++ (codes " s=" ++ (flag_text smr ++ counts_text records left)))))

-- the line of a Map-Reply: nonce, flag P, and its counts
unfoldable pub reply_line : ℕ → Bool → ℕ → ℕ → List ℕ
reply_line nonce probe records left =
    codes "reply nonce="
    ++ (hex_16 nonce ++ (codes " p=" ++ (flag_text probe ++ counts_text records left)))

-- the line of an EID that a Map-Request asks for
abbrev pub eid_line : ℕ → Addr → ℕ → List ℕ
eid_line iid addr len = codes " eid " ++ (eid_text iid addr len ++ 10 ∷ [])

-- the details of a record: TTL in minutes, action, Map-Version, and the number of locators
unfoldable pub details_text : ℕ → ℕ → ℕ → ℕ → List ℕ
details_text ttl action version locators =
    named (codes " ttl=") ttl
    ++ (named (codes " action=") action
    ++ (named (codes " version=") version ++ (named (codes " locators=") locators ++ 10 ∷ [])))

-- the line of a record: its EID and its details
abbrev pub record_line : ℕ → Addr → ℕ → List ℕ → List ℕ
record_line iid addr len details = codes " record " ++ (eid_text iid addr len ++ details)

-- ### the same, of octets

-- the line of the EID at the front of octets of a Map-Request
abbrev pub eid_line_at : List ℕ → List ℕ
eid_line_at octets =
    let mask = slice_index octets 1 in
    eid_line (instance_at (drop 2 octets)) (cleared (eid_addr (drop 2 octets)) mask) mask

-- the lines of so many EIDs at the front of octets of a Map-Request
abbrev pub eid_lines_at : ℕ → List ℕ → List ℕ
eid_lines_at zero octets = []
eid_lines_at (suc count) octets =
    eid_line_at octets ++ eid_lines_at count (drop (asked_eid_size octets) octets)

-- the line of the record at the front of octets of a Map-Reply
abbrev pub record_line_at : List ℕ → List ℕ
record_line_at octets =
    let mask = slice_index octets 5 in
    record_line (instance_at (drop 10 octets)) (cleared (eid_addr (drop 10 octets)) mask) mask
    (details_text (big 4 octets 0) (slice_index octets 6 / 32) (big 2 octets 8 % 4096)
    (locator_count octets))

-- the lines of so many records at the front of octets of a Map-Reply
abbrev pub record_lines_at : ℕ → List ℕ → List ℕ
record_lines_at zero octets = []
record_lines_at (suc count) octets =
    record_line_at octets ++ record_lines_at count (drop (record_size octets) octets)

-- the lines of the Map-Request at the front of octets, with the number of octets left over
abbrev pub request_at : ℕ → List ℕ → List ℕ
request_at left octets =
    request_line (nonce_at octets) (bit 2 (slice_index octets 0)) (bit 1 (slice_index octets 0))
    (eid_count octets) left
    ++ eid_lines_at (eid_count octets) (drop (eids_place octets) octets)

-- the lines of the Map-Reply at the front of octets, with the number of octets left over
abbrev pub reply_at : ℕ → List ℕ → List ℕ
reply_at left octets =
    reply_line (nonce_at octets) (bit 8 (slice_index octets 0)) (mapping_count octets) left
    ++ record_lines_at (mapping_count octets) (drop 12 octets)

-- the lines of the Map-Request or Map-Reply at the front of octets, with the number of octets left over
abbrev pub plain_at : ℕ → List ℕ → List ℕ
plain_at left octets = if is_request octets then request_at left octets else reply_at left octets

-- the lines of the message at the front of octets; an encapsulated one is shown behind `ecm`, with the octets left over
-- of the whole
abbrev pub message_at : List ℕ → List ℕ
message_at octets =
    if is_ecm octets then codes "ecm " ++ plain_at (left_over octets) (inner_payload octets)
    else plain_at (left_over octets) octets

-- ### the same, of values

-- the line of an EID that a Map-Request asks for, by its value
abbrev pub line_of_eid : Eid → List ℕ
line_of_eid eid = eid_line eid.iid eid.prefix.addr eid.prefix.len

-- the line of a record, by its value
abbrev pub line_of_record : Record → List ℕ
line_of_record mapping =
    record_line mapping.eid.iid mapping.eid.prefix.addr mapping.eid.prefix.len
    (details_text mapping.ttl mapping.action mapping.version (length mapping.locators))

-- the lines of a Map-Request, by its value: its own line and those of its EIDs
abbrev pub lines_of_request : ℕ → MapRequest → List ℕ
lines_of_request left request =
    request_line request.nonce request.probe request.smr (length request.eids) left
    ++ flat_map line_of_eid request.eids

-- the lines of a Map-Reply, by its value: its own line and those of its records
abbrev pub lines_of_reply : ℕ → MapReply → List ℕ
lines_of_reply left reply =
    reply_line reply.nonce reply.probe (length reply.mappings) left
    ++ flat_map line_of_record reply.mappings

-- the lines of an encapsulated message, a Map-Request or a Map-Reply
abbrev pub lines_of_carried : ℕ → Option MapRequest → Option MapReply → List ℕ
lines_of_carried left (Some request) reply = lines_of_request left request
lines_of_carried left None (Some reply) = lines_of_reply left reply
lines_of_carried left None None = []

-- the lines of a control message, by its value, with the number of octets left over
abbrev pub lines_of_message : ℕ → Message → List ℕ
lines_of_message left (Request request) = lines_of_request left request
lines_of_message left (Reply reply) = lines_of_reply left reply
lines_of_message left (Control ecm) = codes "ecm " ++ lines_of_carried left ecm.request ecm.reply
