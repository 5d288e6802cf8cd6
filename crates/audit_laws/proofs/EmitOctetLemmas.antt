-- What the router makes itself consists of octets.
use Rattle.std.proofs.Common.{◌≡◌, ◌<◌, ◌≤◌, ◌+◌, ◌-◌, ◌*◌, ◌==◌, ℕ, Bool, true, false, cond, List, [], ◌∷◌, ◌++◌, length, map, flat_map, Option, Some, None, All, arith}
use Rattle.std.proofs.lemmas.Bool.{and_parts, leb-true}
use Rattle.std.proofs.lemmas.List.{length-map}
use Rattle.std.proofs.lemmas.List.Elements.{All-head, All-tail}
use Rattle.octets.specs.Numbers.{big_octets, flag}
use Rattle.ip_headers.specs.Addr.{number as number_of, width}
use Rattle.ip_headers.specs.Canonical.{canonical_v4, canonical_v6}
use Rattle.ip_headers.specs.Udp.{addr_octets, datagram, udp_checksum}
use Rattle.ip_headers.specs.declared.addr.Addr.{Addr}
use Rattle.ip_headers.specs.declared.addr.Addr.TheVariants.{V4, V6}
use Rattle.mapping_records.specs.Address.{afi_of, canonical_addr, octets_of}
use Rattle.mapping_records.specs.Eid.{canonical_eid, canonical_lcaf}
use Rattle.mapping_records.specs.Locator.{canonical_locator, canonical_locators}
use Rattle.mapping_records.specs.Record.{canonical_record}
use Rattle.mapping_records.specs.declared.eid.Eid.{Eid}
use Rattle.mapping_records.specs.declared.record.Locator.{Locator}
use Rattle.mapping_records.specs.declared.record.Record.{Record}
use Rattle.map_messages.specs.Control.{canonical_ecm, control_header, control_packet, control_v4, control_v6}
use Rattle.map_messages.specs.Message.{canonical_message}
use Rattle.map_messages.specs.Reply.{canonical_reply}
use Rattle.map_messages.specs.Request.{canonical_asked_eid, canonical_request, canonical_source}
use Rattle.map_messages.specs.declared.message.MapRequest.{MapRequest}
use Rattle.map_messages.specs.declared.message.Message.{Message}
use Rattle.map_messages.specs.declared.message.Message.TheVariants as message
use Rattle.lisp_settings.specs.declared.settings.Database.{Database}
use Rattle.lisp_settings.specs.declared.settings.OwnLocator.{OwnLocator}
use Rattle.lisp_settings.specs.declared.settings.Settings.{Settings}
use Rattle.router_log.specs.declared.emit.Emit.{Emit}
use Rattle.router_log.specs.declared.emit.Emit.TheVariants.{Request, Probe, Solicit, Reply}
use Rattle.router_model.specs.Emits.{ecm_for, emit_packet, message_packet, packet_from, request_for, source_eid, to_resolver}
use Rattle.router_model.specs.Hear.{Asker, answering, own_locator, own_record, reply_of}
use Rattle.router_model.specs.Site.{ours, up_locators}
use Rattle.router_core.specs.Site.{IsSite}
use Rattle.router_core.proofs.AnsweringLemmas.{reply-range}
use Rattle.audit_laws.specs.Drawn.{IsInRange}
use Rattle.audit_laws.proofs.OctetLemmas.{AreOctets, datagram-octets, flag_le, join, none, number, one, v4-octets, v6-octets}

-- ### addresses

address-octets : (a : Addr) → AreOctets (addr_octets a)
address-octets (V4 n) = number 4 n
address-octets (V6 n) = number 16 n

addr-octets : (a : Addr) → AreOctets (canonical_addr a)
addr-octets a = join (big_octets 2 (afi_of a)) (addr_octets a) (number 2 (afi_of a)) (address-octets a)

lcaf-octets : (iid : ℕ) (a : Addr) → AreOctets (canonical_lcaf iid a)
lcaf-octets iid a =
    let behind : List ℕ = big_octets 4 iid ++ canonical_addr a in
    let rest : List ℕ = big_octets 2 (6 + octets_of a) ++ behind in
    let all : AreOctets rest = join (big_octets 2 (6 + octets_of a)) behind (number 2 (6 + octets_of a)) (join (big_octets 4 iid) (canonical_addr a) (number 4 iid) (addr-octets a)) in
    join (big_octets 2 16387) (0 ∷ 0 ∷ 2 ∷ 0 ∷ rest) (number 2 16387)
    (one 0 (0 ∷ 2 ∷ 0 ∷ rest) (omega arith) (one 0 (2 ∷ 0 ∷ rest) (omega arith) (one 2 (0 ∷ rest) (omega arith) (one 0 rest (omega arith) all))))

eid-octets : (iid : ℕ) (a : Addr) → AreOctets (canonical_eid iid (Some a))
eid-octets iid a = by (iid == 0)
  where
    by : (b : Bool) → AreOctets (cond b (canonical_addr a) (canonical_lcaf iid a))
    by true = addr-octets a
    by false = lcaf-octets iid a

source-octets : (source : Option (ℕ × Addr)) → AreOctets (canonical_source source)
source-octets None = one 0 (0 ∷ []) (omega arith) (one 0 [] (omega arith) none)
source-octets (Some source) = eid-octets source.0 source.1

width_le : (a : Addr) → width a ≤ 128
width_le (V4 n) = omega arith
width_le (V6 n) = omega arith

mask-octet : (e : Eid) → e.prefix.len < 256
mask-octet e =
    let fits : e.prefix.len ≤ width e.prefix.addr = leb-true _ _ (and_parts _ _ e.prefix.lawful).0 in
    omega (arith, fits, width_le e.prefix.addr)

asked-octets : (e : Eid) → AreOctets (canonical_asked_eid e)
asked-octets e =
    let host : List ℕ = canonical_eid e.iid (Some e.prefix.addr) in
    one 0 (e.prefix.len ∷ host) (omega arith) (one e.prefix.len host (mask-octet e) (eid-octets e.iid e.prefix.addr))

-- items one after another
flat-octets : {T : Type 0} (P : T → Type 0) (canonical : T → List ℕ) → ((item : T) → P item → AreOctets (canonical item)) → (items : List T) → All P items → AreOctets (flat_map canonical items)
flat-octets P canonical each [] all = none
flat-octets P canonical each (item ∷ items) all =
    join (canonical item) (flat_map canonical items) (each item (All-head P item items all)) (flat-octets P canonical each items (All-tail P item items all))

-- ### messages

request-octets : (request : MapRequest) → length request.replies_to ≤ 32 → length request.eids ≤ 1 → AreOctets (canonical_request (record request { piggyback = None }))
request-octets request few single =
    let from : List ℕ = canonical_source request.source in
    let addrs : List ℕ = flat_map canonical_addr request.replies_to in
    let eids : List ℕ = flat_map canonical_asked_eid request.eids in
    let all_addrs : AreOctets addrs = flat-octets (λ a. Unit {0}) canonical_addr (λ a any. addr-octets a) request.replies_to (λ k d below. tt) in
    let all_eids : AreOctets eids = flat-octets (λ e. Unit {0}) canonical_asked_eid (λ e any. asked-octets e) request.eids (λ k d below. tt) in
    let rest : List ℕ = from ++ (addrs ++ (eids ++ [])) in
    let all : AreOctets rest = join from (addrs ++ (eids ++ [])) (source-octets request.source) (join addrs (eids ++ []) all_addrs (join eids [] all_eids none)) in
    let behind : List ℕ = big_octets 8 request.nonce ++ rest in
    let first = 16 + 0 + flag request.probe 2 + flag request.smr 1 in
    let addr_count = length request.replies_to - 1 in
    one first (flag request.invoked 64 ∷ addr_count ∷ length request.eids ∷ behind) (omega (arith, flag_le request.probe 2, flag_le request.smr 1))
    (one (flag request.invoked 64) (addr_count ∷ length request.eids ∷ behind) (omega (arith, flag_le request.invoked 64))
    (one addr_count (length request.eids ∷ behind) (omega (arith, few))
    (one (length request.eids) behind (omega (arith, single)) (join (big_octets 8 request.nonce) rest (number 8 request.nonce) all))))

-- no more are up than there are
up-few : (locators : List OwnLocator) → length (up_locators locators) ≤ length locators
up-few [] = omega arith
up-few (own ∷ others) = by own.up (up-few others)
  where
    by : (b : Bool) → length (up_locators others) ≤ length others → length (cond b (own ∷ up_locators others) (up_locators others)) ≤ length (own ∷ others)
    by true few = omega (arith, few)
    by false few = omega (arith, few)

module _ (settings : Settings) (site : IsSite settings) where
  pub for-octets : (probe smr invoked : Bool) (nonce : ℕ) (source : Option (ℕ × Addr)) (eid : Eid) → AreOctets (canonical_request (request_for settings probe smr invoked nonce source eid))
  for-octets probe smr invoked nonce source eid =
      let up : List OwnLocator = up_locators settings.locators in
      let same : length (map (λ (own : OwnLocator). own.addr) up) ≡ length up = length-map up _ in
      request-octets (request_for settings probe smr invoked nonce source eid) (omega (arith, same, up-few settings.locators, site.few_locators)) (omega arith)

  locator-octets : (probed : Option Addr) (own : OwnLocator) → IsInRange own → AreOctets (canonical_locator (own_locator probed own))
  locator-octets probed own has =
      let l : Locator = own_locator probed own in
      let addr : List ℕ = canonical_addr own.addr in
      let flags = flag l.local 4 + flag l.probed 2 + flag l.reachable 1 in
      one own.priority (own.weight ∷ 255 ∷ 0 ∷ 0 ∷ flags ∷ addr) has.priority
      (one own.weight (255 ∷ 0 ∷ 0 ∷ flags ∷ addr) has.weight
      (one 255 (0 ∷ 0 ∷ flags ∷ addr) (omega arith)
      (one 0 (0 ∷ flags ∷ addr) (omega arith)
      (one 0 (flags ∷ addr) (omega arith) (one flags addr (omega (arith, flag_le l.probed 2, flag_le l.reachable 1)) (addr-octets own.addr))))))

  locators-octets : (probed : Option Addr) (owns : List OwnLocator) → All IsInRange owns → AreOctets (canonical_locators (map (own_locator probed) owns))
  locators-octets probed [] all = none
  locators-octets probed (own ∷ owns) all =
      join (canonical_locator (own_locator probed own)) (canonical_locators (map (own_locator probed) owns)) (locator-octets probed own (All-head IsInRange own owns all)) (locators-octets probed owns (All-tail IsInRange own owns all))

  record-octets : All IsInRange settings.locators → (probed : Option Addr) (database : Database) → AreOctets (canonical_record (own_record settings probed database))
  record-octets all probed database =
      let locators : List Locator = map (own_locator probed) settings.locators in
      let same : length locators ≡ length settings.locators = length-map settings.locators _ in
      let eid : Eid = database.eid in
      let host : List ℕ = canonical_eid eid.iid (Some eid.prefix.addr) in
      let rest : List ℕ = host ++ canonical_locators locators in
      let behind : List ℕ = big_octets 2 database.version ++ rest in
      let all_rest : AreOctets rest = join host (canonical_locators locators) (eid-octets eid.iid eid.prefix.addr) (locators-octets probed settings.locators all) in
      let all_behind : AreOctets behind = join (big_octets 2 database.version) rest (number 2 database.version) all_rest in
      join (big_octets 4 settings.ttl) (length locators ∷ eid.prefix.len ∷ (0 * 32 + 16) ∷ 0 ∷ behind) (number 4 settings.ttl)
      (one (length locators) (eid.prefix.len ∷ (0 * 32 + 16) ∷ 0 ∷ behind) (omega (arith, same, site.few_locators))
      (one eid.prefix.len ((0 * 32 + 16) ∷ 0 ∷ behind) (mask-octet eid) (one (0 * 32 + 16) (0 ∷ behind) (omega arith) (one 0 behind (omega arith) all_behind))))

  records-octets : All IsInRange settings.locators → (probed : Option Addr) (databases : List Database) → AreOctets (flat_map canonical_record (map (own_record settings probed) databases))
  records-octets all probed [] = none
  records-octets all probed (database ∷ databases) =
      join (canonical_record (own_record settings probed database)) (flat_map canonical_record (map (own_record settings probed) databases)) (record-octets all probed database) (records-octets all probed databases)

  pub reply-octets : All IsInRange settings.locators → (asker : Asker) (request : MapRequest) → AreOctets (canonical_reply (reply_of settings asker request (answering settings.databases request.eids)))
  reply-octets all asker request =
      let databases : List Database = answering settings.databases request.eids in
      let probed : Option Addr = cond asker.probe (Some asker.dest) None in
      let mappings : List Record = map (own_record settings probed) databases in
      let few = (reply-range settings site asker request).count in
      let records : List ℕ = flat_map canonical_record mappings in
      let behind : List ℕ = big_octets 8 request.nonce ++ records in
      one (32 + flag asker.probe 8) (0 ∷ 0 ∷ length mappings ∷ behind) (omega (arith, flag_le asker.probe 8))
      (one 0 (0 ∷ length mappings ∷ behind) (omega arith)
      (one 0 (length mappings ∷ behind) (omega arith)
      (one (length mappings) behind (omega (arith, few)) (join (big_octets 8 request.nonce) records (number 8 request.nonce) (records-octets all probed databases)))))

-- ### packets

-- a control header and a datagram
packet-octets : (from to : Addr) (source dest sum size : ℕ) (payload : List ℕ) → AreOctets payload → AreOctets (control_header from to size ++ datagram source dest sum payload)
unfolding control_header
packet-octets (V4 a) to source dest sum size payload are =
    let h = control_v4 a (number_of to) size in
    join (canonical_v4 h) (datagram source dest sum payload) (v4-octets h (omega arith) (omega arith) (omega arith)) (datagram-octets source dest sum payload are)
packet-octets (V6 a) to source dest sum size payload are =
    let h = control_v6 a (number_of to) size in
    join (canonical_v6 h) (datagram source dest sum payload) (v6-octets h (omega arith) (omega arith)) (datagram-octets source dest sum payload are)

message-octets : (from to : Addr) (port : ℕ) (payload : List ℕ) → AreOctets payload → AreOctets (message_packet from to port payload)
message-octets from to port payload are = packet-octets from to 4342 port (udp_checksum from to 4342 port payload) (8 + length payload) payload are

from-octets : (from : Option Addr) (to : Addr) (told : Message) → AreOctets (canonical_message told) → AreOctets (packet_from from to told)
from-octets None to told are = none
from-octets (Some from) to told are = message-octets from to 4342 (canonical_message told) are

resolver-octets : (settings : Settings) (resolver : Option Addr) (told : Message) → AreOctets (canonical_message told) → AreOctets (to_resolver settings resolver told)
resolver-octets settings None told are = none
resolver-octets settings (Some resolver) told are = from-octets (ours settings.locators resolver) resolver told are

pub ecm-octets : (settings : Settings) (eid : Eid) (request : MapRequest) → AreOctets (canonical_request request) → AreOctets (canonical_ecm (ecm_for settings eid request))
unfolding control_packet
ecm-octets settings eid request are =
    let e = ecm_for settings eid request in
    let payload : List ℕ = canonical_request request in
    let packet : List ℕ = control_packet e.source e.dest 4342 payload in
    one 128 (0 ∷ 0 ∷ 0 ∷ packet) (omega arith)
    (one 0 (0 ∷ 0 ∷ packet) (omega arith)
    (one 0 (0 ∷ packet) (omega arith)
    (one 0 packet (omega arith) (packet-octets e.source e.dest 4342 4342 (udp_checksum e.source e.dest 4342 4342 payload) (8 + length payload) payload are))))

-- a reply that was made of octets
abbrev pub IsMade : Emit → Type 0
IsMade (Request eid source invoked nonce) = Unit {0}
IsMade (Probe to eid nonce) = Unit {0}
IsMade (Solicit to eid nonce) = Unit {0}
IsMade (Reply from to port reply) = AreOctets (canonical_reply reply)

pub emit-octets : (settings : Settings) (emit : Emit) → IsSite settings → IsMade emit → AreOctets (emit_packet settings emit)
unfolding emit_packet
emit-octets settings (Request eid source invoked nonce) site made =
    let request : MapRequest = request_for settings false false invoked nonce (source_eid eid source) eid in
    resolver-octets settings settings.resolver (message.Control (ecm_for settings eid request)) (ecm-octets settings eid request (for-octets settings site false false invoked nonce (source_eid eid source) eid))
emit-octets settings (Probe to eid nonce) site made =
    from-octets (ours settings.locators to) to (message.Request (request_for settings true false false nonce None eid)) (for-octets settings site true false false nonce None eid)
emit-octets settings (Solicit to eid nonce) site made =
    let source = source_eid eid (Some eid.prefix.addr) in
    from-octets (ours settings.locators to) to (message.Request (request_for settings false true false nonce source eid)) (for-octets settings site false true false nonce source eid)
emit-octets settings (Reply from to port reply) site made = message-octets from to port (canonical_reply reply) made
