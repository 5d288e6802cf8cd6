-- The effect of a control message on the journal, and the answer to it (RFC 9301, sections 5 to 8).
use Rattle.std.specs.Prelude.{ℕ, ◌+◌, ◌-◌, ◌==◌, ◌&&◌, not, Bool, true, false, List, [], ◌∷◌, ◌++◌, filter, filter_map, length, map, option_to_list, take, Option, Some, None, is_some, if◌then◌else◌}
use Rattle.std.specs.List.{list_any}
use Rattle.octets.specs.Rules.{first_failing}
use Rattle.octets.specs.declared.refused.Refused.{Refused}
use Rattle.ip_headers.specs.Addr.{width}
use Rattle.ip_headers.specs.Ip.{dest_of, source_of}
use Rattle.ip_headers.specs.Udp.{payload_in, sum_rules}
use Rattle.ip_headers.specs.declared.addr.Addr.{Addr}
use Rattle.capture_io.specs.Frame.{Frame}
use Rattle.mapping_records.specs.Eids.{covers_eid, same_address, same_eid}
use Rattle.mapping_records.specs.declared.eid.Eid.{Eid}
use Rattle.mapping_records.specs.declared.record.Locator.{Locator}
use Rattle.mapping_records.specs.declared.record.Record.{Record}
use Rattle.map_messages.specs.Message.{message_rules}
use Rattle.map_messages.specs.declared.message.MapReply.{MapReply}
use Rattle.map_messages.specs.declared.message.MapRequest.{MapRequest}
use Rattle.map_messages.specs.declared.message.Message.{Message}
use Rattle.map_messages.specs.declared.message.Message.TheVariants as message
use Rattle.lisp_settings.specs.declared.settings.Database.{Database}
use Rattle.lisp_settings.specs.declared.settings.LimitItem.{LimitItem}
use Rattle.lisp_settings.specs.declared.settings.OwnLocator.{OwnLocator}
use Rattle.lisp_settings.specs.declared.settings.Settings.{Settings}
use Rattle.router_log.specs.declared.emit.Emit.TheVariants as emit
use Rattle.router_log.specs.declared.entry.Entry.TheVariants as entry
use Rattle.router_log.specs.declared.verdict.Done.{Done}
use Rattle.router_log.specs.declared.verdict.Done.TheVariants.{Answered, Learned, ProbeReply, Solicited}
use Rattle.router_log.specs.declared.verdict.Reason.{Reason}
use Rattle.router_log.specs.declared.verdict.Reason.TheVariants as reason
use Rattle.router_log.specs.declared.verdict.Reason.TheVariants.{Foreign, NoReplyPath, NotOurs, NotTunnel, Unsolicited, Unfit, Unexpected}
use Rattle.router_log.specs.declared.verdict.Verdict.{Verdict}
use Rattle.router_log.specs.declared.verdict.Verdict.TheVariants as outcome
use Rattle.router_log.specs.declared.verdict.Verdict.TheVariants.{Drop}
use Rattle.request_queue.specs.Queue.{with_nonce}
use Rattle.request_queue.specs.declared.request.Request.{Request}
use Rattle.router_model.specs.Changes.{Change, Ledger, asked, each, emitted, entered, has_room, journal, limits_of, may_ask, seen, unchanged}
use Rattle.router_model.specs.Course.{Course, Control, Datagram, course_of}
use Rattle.router_model.specs.Journal.{Journal}
use Rattle.router_model.specs.Limits.{most_locators}
use Rattle.router_model.specs.Mappings.{Held, force}
use Rattle.router_model.specs.Received.{message_in}
use Rattle.router_model.specs.Site.{database_of, ours}
use Rattle.router_model.specs.Standing.{standing}
use Rattle.router_model.specs.View.{View}

-- the route of a message: the address and port that it came from, and the own locator that it came to
pub record Route : Type 0 where
  pub from : Addr
  pub dest : Addr
  pub port : ℕ

-- the route of the message in a datagram
abbrev pub route_of : Datagram → Route
route_of d = record { from = source_of d.packet.header; dest = dest_of d.packet.header; port = d.udp.source }

-- a message that was heard: its verdict, and the change
pub record Heard (S : Type 0) : Type 0 where
  pub verdict : Verdict
  pub change : Change S

-- a message that is dropped, which leaves the change as it is
abbrev pub drops : {S : Type 0} → Reason → Change S → Heard S
drops why change = record { verdict = Drop why; change = change }

-- a message that was taken, with its effect in the verdict
abbrev pub takes : {S : Type 0} → Done → Change S → Heard S
takes done change = record { verdict = outcome.Control done; change = change }

-- ### what a Map-Request is answered with

-- the asker of a Map-Request: the own locator that it came to, the port that it came from, and whether it is a probe
pub record Asker : Type 0 where
  pub dest : Addr
  pub port : ℕ
  pub probe : Bool

-- an own locator in a record of a Map-Reply; p marks the one that a probe came to
abbrev pub own_locator : Option Addr → OwnLocator → Locator
own_locator probed own = record {
  addr = own.addr;
  priority = own.priority;
  weight = own.weight;
  m_priority = 255;
  m_weight = 0;
  local = true;
  probed = list_any (λ addr. same_address addr own.addr) (option_to_list probed);
  reachable = own.up;
}

-- the record of a database prefix in a Map-Reply
abbrev pub own_record : Settings → Option Addr → Database → Record
own_record settings probed database = record {
  ttl = settings.ttl;
  action = 0;
  authoritative = true;
  version = database.version;
  eid = database.eid;
  locators = map (own_locator probed) settings.locators;
}

-- whether a database prefix answers EIDs: it lies within the longest one that covers one of them
abbrev pub answers : List Database → List Eid → Database → Bool
answers databases eids database =
    list_any (λ hit. covers_eid hit.eid database.eid) (filter_map (database_of databases) eids)

-- the database prefixes that answer EIDs: the longest that covers each, and all that lie within one of these
abbrev pub answering : List Database → List Eid → List Database
answering databases eids = filter (answers databases eids) databases

-- the path of a Map-Reply: the addresses between which it goes
pub record Path : Type 0 where
  pub from : Addr
  pub to : Addr

-- the path from an own locator, if there is one, to an address
abbrev pub path_from : Option Addr → Addr → Option Path
path_from None to = None
path_from (Some from) to = Some (record { from = from; to = to })

-- the path to the first address of whose family an own locator is up
abbrev pub first_path : List OwnLocator → List Addr → Option Path
first_path locators [] = None
first_path locators (to ∷ others) =
    if is_some (ours locators to) then path_from (ours locators to) to else first_path locators others

-- the path from an address to the first one of its family
abbrev pub path_back : Addr → List Addr → Option Path
path_back from [] = None
path_back from (to ∷ others) =
    if width to == width from then Some (record { from = from; to = to }) else path_back from others

-- the path of the reply to a Map-Request; a probe is answered from the address that it came to
abbrev pub reply_path : Settings → Asker → MapRequest → Option Path
reply_path settings asker request =
    if asker.probe then path_back asker.dest request.replies_to else first_path settings.locators request.replies_to

-- the reply to a Map-Request with the records of database prefixes
abbrev pub reply_of : Settings → Asker → MapRequest → List Database → MapReply
reply_of settings asker request databases = record {
  probe = asker.probe;
  nonce = request.nonce;
  mappings = map (own_record settings (if asker.probe then Some asker.dest else None)) databases;
}

-- a reply is sent along its path; without one the Map-Request is dropped
abbrev pub replied : {S : Type 0} → Asker → MapReply → Option Path → Change S → Heard S
replied asker reply None change = drops NoReplyPath change
replied asker reply (Some path) change =
    takes (Answered (length reply.mappings)) (emitted (emit.Reply path.from path.to asker.port reply) change)

-- a Map-Request for mappings of the site is answered; without a prefix for its EIDs it is dropped
abbrev pub answered : {S : Type 0} → Settings → Asker → MapRequest → Change S → Heard S
answered settings asker request change =
    let databases = answering settings.databases request.eids in
    if length databases == 0 then drops NotOurs change
    else replied asker (reply_of settings asker request databases) (reply_path settings asker request) change

-- ### what an SMR makes the router ask for

-- a prefix of an instance
pub record Range : Type 0 where
  pub iid : ℕ
  pub addr : Addr
  pub len : ℕ

-- the ranges of an SMR: its Source EID as a host, then its EIDs
abbrev pub ranges_of : MapRequest → List Range
ranges_of request =
    map (λ source. record { iid = source.0; addr = source.1; len = width source.1 }) (option_to_list request.source)
    ++ map (λ eid. record { iid = eid.iid; addr = eid.prefix.addr; len = eid.prefix.len }) request.eids

-- the EID of a mapping in force that was learned and may be requested anew
abbrev pub renewable : Settings → List LimitItem → View → Option Held → Option Eid
renewable settings limits v None = None
renewable settings limits v (Some held) =
    if not held.fixed && may_ask settings limits v held.eid then Some held.eid else None

-- ### what a Map-Reply teaches

-- whether a record of a Map-Reply covers the requested EID
abbrev pub is_fit : Eid → List Record → Bool
is_fit asked mappings = list_any (λ mapping. covers_eid mapping.eid asked) mappings

-- whether a record of a Map-Reply lies within one of its records that covers the requested EID
abbrev pub is_asked_for : Eid → List Record → Record → Bool
is_asked_for asked mappings mapping =
    list_any (λ wider. covers_eid wider.eid asked && covers_eid wider.eid mapping.eid) mappings

-- whether the EID of a record is that of a static mapping
abbrev pub is_static : Settings → Record → Bool
is_static settings mapping = list_any (λ fixed. same_eid fixed.eid mapping.eid) settings.mappings

-- a record with its first locators, as many as a mapping may have (this router's choice)
abbrev pub shortened : Record → Record
shortened mapping = record mapping { locators = take most_locators mapping.locators }

module _ {S : Type 0} (ledger : Ledger S) (settings : Settings) (m : ℕ) where
  -- a Map-Request for an EID, if there is one, is sent anew, as invoked by an SMR
  abbrev pub asked_again : Option Eid → Change S → Change S
  asked_again None change = change
  asked_again (Some eid) change = asked ledger settings m eid None true change

  -- the mapping in force for a range is requested anew, where it may be
  abbrev pub renewed : Range → Change S → Change S
  renewed range change =
      asked_again
      (renewable settings (limits_of ledger settings m change) (seen ledger settings m change)
      (force (seen ledger settings m change).mappings range.iid range.addr range.len)) change

  -- an SMR that was taken, with the number of Map-Requests that it led to
  abbrev pub counted : Change S → Heard S
  counted change = takes (Solicited (length change.entries)) change

  -- a Map-Request is heard: an SMR, or a question for mappings of the site
  unfoldable pub requested : Asker → MapRequest → Change S → Heard S
  requested asker request change =
      if request.smr && not asker.probe then counted (each renewed (ranges_of request) change)
      else answered settings asker request change

  -- a record of a Map-Reply is learned, or passed over
  abbrev pub taught : Eid → List Record → Record → Change S → Change S
  taught asked mappings mapping change =
      if is_asked_for asked mappings mapping
      && (not (is_static settings mapping)
      && has_room (limits_of ledger settings m change) (seen ledger settings m change) mapping)
      then entered ledger settings m (entry.Learned m (shortened mapping) false) change else change

  -- a Map-Reply that was taken, with how many records were learned (entries beside Answered) and how many weren't
  abbrev pub tallied : MapReply → Change S → Heard S
  tallied reply change =
      takes (Learned (length change.entries - 1) (length reply.mappings + 1 - length change.entries)) change

  -- a Map-Reply is heard, by the open request with its nonce, if there is one
  abbrev pub replied_to : MapReply → Option Request → Change S → Heard S
  replied_to reply None change = drops Unsolicited change
  replied_to reply (Some request) change =
      if is_fit request.eid reply.mappings
      then tallied reply
      (each (taught request.eid reply.mappings) reply.mappings (entered ledger settings m (entry.Answered m reply.nonce) change))
      else drops Unfit change

  -- an answer from an address is heard, by the locator of the open probe, if any, which must be that address
  abbrev pub probe_replied : Addr → MapReply → Option Addr → Change S → Heard S
  probe_replied from reply None change = drops Unsolicited change
  probe_replied from reply (Some rloc) change =
      if same_address rloc from then takes ProbeReply (entered ledger settings m (entry.ProbeAnswered m reply.nonce) change)
      else drops Foreign change

  -- a Map-Reply from an address is heard
  unfoldable pub reply_heard : Addr → MapReply → Change S → Heard S
  reply_heard from reply change =
      if reply.probe then probe_replied from reply ((seen ledger settings m change).probe_open reply.nonce) change
      else replied_to reply (with_nonce (seen ledger settings m change).requests reply.nonce) change

  -- an encapsulated message is heard: only a Map-Request counts, with the port inside, and as no probe
  abbrev pub carried : Addr → ℕ → Option MapRequest → Change S → Heard S
  carried dest port None change = drops Unexpected change
  carried dest port (Some request) change = requested (record { dest = dest; port = port; probe = false }) request change

  -- a message is heard, from an address and a port, at an own locator
  abbrev pub message_heard : Route → Message → Change S → Heard S
  message_heard route (message.Request request) change =
      requested (record { dest = route.dest; port = route.port; probe = request.probe }) request change
  message_heard route (message.Reply reply) change = reply_heard route.from reply change
  message_heard route (message.Control ecm) change = carried route.dest ecm.source_port ecm.request change

  -- the message that was read from octets is heard; octets without one are dropped as `Unexpected`
  abbrev pub read_heard : Route → Option Message → Change S → Heard S
  read_heard route None change = drops Unexpected change
  read_heard route (Some read) change = message_heard route read change

  -- the drop of a refusal, or else the message heard as given
  abbrev pub unless_refused : Option Refused → Change S → Heard S → Heard S
  unless_refused None change others = others
  unless_refused (Some refused) change others = drops (reason.Refused refused) change

  -- the payload of a control message is heard, from its place in the frame on
  unfoldable pub payload_heard : Route → ℕ → List ℕ → Change S → Heard S
  payload_heard route base payload change =
      unless_refused (first_failing (message_rules base payload)) change (read_heard route (message_in payload) change)

  -- a datagram of a control message is heard, whose checksum must be there and right
  unfoldable pub datagram_heard : Datagram → Change S → Heard S
  datagram_heard d change =
      unless_refused (first_failing (sum_rules d.packet.base d.packet.header d.packet.octets d.udp false)) change
      (payload_heard (route_of d) (d.packet.base + d.udp.at + 8) (payload_in d.packet.octets d.udp) change)

  -- a frame is heard by its course: a control message; no other frame is heard
  abbrev pub course_heard : Course → Change S → Heard S
  course_heard (Control d) change = datagram_heard d change
  course_heard _ change = drops NotTunnel change

  -- a frame is heard
  abbrev pub hear_by : Frame → Change S → Heard S
  hear_by frame change = course_heard (course_of settings frame) change

-- a control message heard at m by a journal, with the settings that stand by it
abbrev pub hear : Settings → Journal → ℕ → Frame → Heard Journal
hear settings before m frame = hear_by journal (standing settings before) m frame (unchanged before)
