-- Messages that can be written: numbers that fit their fields.
use Rattle.std.specs.Prelude.{◌≡◌, ◌≤◌, ◌<◌, ◌^◌, length, All, IfSome}
use Rattle.ip_headers.specs.Addr.{width, IsAddr}
use Rattle.mapping_records.specs.Record.{InRange as InRangeRecord, IsLawful as IsLawfulRecord}
use Rattle.map_messages.specs.Limits.{most_message_octets}
use Rattle.map_messages.specs.Message.{canonical_message}
use Rattle.map_messages.specs.declared.message.Ecm.{Ecm}
use Rattle.map_messages.specs.declared.message.MapReply.{MapReply}
use Rattle.map_messages.specs.declared.message.MapRequest.{MapRequest}
use Rattle.map_messages.specs.declared.message.Message.{Message}
use Rattle.map_messages.specs.declared.message.Message.TheVariants.{Request, Reply, Control}
use Rattle.map_messages.specs.declared.plain.Plain.{Plain}
use Rattle.map_messages.specs.declared.plain.Plain.TheVariants as plain

-- a Map-Request that can be written: an instance of 24 bits, 1 to 32 ITR-RLOCs, at most 255 EIDs
pub record InRangeRequest (request : MapRequest) : Type 0 where
  pub instance : IfSome request.source (λ source. source.0 < 2 ^ 24)
  pub some : 1 ≤ length request.replies_to
  pub most : length request.replies_to ≤ 32
  pub count : length request.eids ≤ 255
  pub each : IfSome request.piggyback InRangeRecord

-- a Map-Reply that can be written: at most 255 records
pub record InRangeReply (reply : MapReply) : Type 0 where
  pub count : length reply.mappings ≤ 255
  pub each : All InRangeRecord reply.mappings

-- a Map-Request or a Map-Reply that can be written
abbrev pub InRangePlain : Plain → Type 0
InRangePlain (plain.Request request) = InRangeRequest request
InRangePlain (plain.Reply reply) = InRangeReply reply

-- an Encapsulated Control Message that can be written: its addresses are of one family
pub record InRangeEcm (ecm : Ecm) : Type 0 where
  pub family : width ecm.source ≡ width ecm.dest
  pub requests : IfSome ecm.request InRangeRequest
  pub replies : IfSome ecm.reply InRangeReply

-- a message that can be written, if it isn't too long
abbrev pub InRange : Message → Type 0
InRange (Request request) = InRangeRequest request
InRange (Reply reply) = InRangeReply reply
InRange (Control ecm) = InRangeEcm ecm

-- a Map-Request whose numbers fit their fields
pub record IsLawfulRequest (request : MapRequest) : Type 0 where
  pub range : InRangeRequest request
  pub nonce : request.nonce < 2 ^ 64
  pub source : IfSome request.source (λ source. IsAddr source.1)
  pub replies_to : All IsAddr request.replies_to
  pub eids : All (λ eid. IsAddr eid.prefix.addr) request.eids
  pub piggyback : IfSome request.piggyback IsLawfulRecord

-- a Map-Reply whose numbers fit their fields
pub record IsLawfulReply (reply : MapReply) : Type 0 where
  pub range : InRangeReply reply
  pub nonce : reply.nonce < 2 ^ 64
  pub mappings : All IsLawfulRecord reply.mappings

-- an Encapsulated Control Message whose numbers fit their fields
pub record IsLawfulEcm (ecm : Ecm) : Type 0 where
  pub range : InRangeEcm ecm
  pub source : IsAddr ecm.source
  pub dest : IsAddr ecm.dest
  pub source_port : ecm.source_port < 2 ^ 16
  pub request : IfSome ecm.request IsLawfulRequest
  pub reply : IfSome ecm.reply IsLawfulReply

-- a message that can be written and whose numbers fit their fields
abbrev pub HasLawfulParts : Message → Type 0
HasLawfulParts (Request request) = IsLawfulRequest request
HasLawfulParts (Reply reply) = IsLawfulReply reply
HasLawfulParts (Control ecm) = IsLawfulEcm ecm

-- a message that can be written, in at most 65,000 octets
pub record IsLawful (message : Message) : Type 0 where
  pub parts : HasLawfulParts message
  pub short : length (canonical_message message) ≤ most_message_octets
