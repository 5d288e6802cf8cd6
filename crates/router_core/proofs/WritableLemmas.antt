-- The Map-Requests of a router with lawful settings can be written.
use Rattle.std.proofs.Common.{◌≡◌, ◌≤◌, ◌<◌, ◌^◌, ℕ, ◌+◌, ◌*◌, inl, inr, Bool, true, false, IsTrue, IfSome, cond, List, [], ◌∷◌, ◌++◌, length, map, flat_map, eqb, Option, Some, None, refl, ap, ◌∙◌, arith}
use Rattle.std.specs.Prelude.{is_some, unwrap_or, ◌==◌, ◌&&◌}
use Rattle.std.proofs.lemmas.Bool.{cases_Bool, eqb-true}
use Rattle.std.proofs.lemmas.List.{length-append, length-map}
use Rattle.std.proofs.lemmas.List.Concat.{flat_map-cons}
use Rattle.ip_headers.specs.Addr.{width}
use Rattle.ip_headers.specs.Udp.{canonical_udp, udp_checksum}
use Rattle.ip_headers.specs.declared.addr.Addr.{Addr}
use Rattle.ip_headers.specs.declared.addr.Addr.TheVariants.{V4, V6}
use Rattle.ip_headers.proofs.CutPacket.{both_hold}
use Rattle.ip_headers.proofs.DatagramLemmas.{length-datagram}
use Rattle.mapping_records.specs.Address.{canonical_addr}
use Rattle.mapping_records.specs.Eid.{canonical_eid}
use Rattle.mapping_records.specs.declared.eid.Eid.{Eid}
use Rattle.map_messages.specs.Control.{canonical_ecm, control_header}
use Rattle.map_messages.specs.Range.{InRangeEcm, InRangeRequest}
use Rattle.map_messages.specs.Request.{canonical_asked_eid, canonical_request, canonical_source}
use Rattle.map_messages.proofs.WritingLemmas.{length-control_packet}
use Rattle.map_messages.specs.declared.message.MapRequest.{MapRequest}
use Rattle.lisp_settings.specs.declared.settings.Database.{Database}
use Rattle.lisp_settings.specs.declared.settings.OwnLocator.{OwnLocator}
use Rattle.lisp_settings.specs.declared.settings.Settings.{Settings}
use Rattle.router_model.specs.Emits.{database_address, ecm_for, inner_source, message_packet, no_address, request_for, source_eid}
use Rattle.router_model.specs.Site.{ours, up_locators}
use Rattle.router_core.specs.Site.{IsSite}

filter-most : (up : Bool) (own : OwnLocator) (others : List OwnLocator) (n : ℕ) → length others ≤ n → length (cond up (own ∷ others) others) ≤ n + 1
filter-most true own others n most = omega (arith, most)
filter-most false own others n most = omega (arith, most)

-- where an own address is, a locator is up
up-some : (locators : List OwnLocator) (to : Addr) → IsTrue (is_some (ours locators to)) → 1 ≤ length (up_locators locators)
up-some [] to is = cc
up-some (own ∷ others) to is =
    elim (cases_Bool own.up) [
      | inl up ↦ rw up (omega arith)
      | inr down ↦ rw down (up-some others to (rw down at is))
    ]

-- no more are up than there are
up-few : (locators : List OwnLocator) → length (up_locators locators) ≤ length locators
up-few [] = omega arith
up-few (own ∷ others) = omega (arith, filter-most own.up own (up_locators others) (length others) (up-few others))

-- an own address is of the family
ours-family : (locators : List OwnLocator) (to : Addr) → IfSome (ours locators to) (λ own. width own ≡ width to)
ours-family [] to = tt
ours-family (own ∷ others) to =
    elim (cases_Bool (own.up && (width own.addr == width to))) [
      | inl found ↦ rw found (eqb-true _ _ (both_hold own.up _ found).1)
      | inr other ↦ rw other (ours-family others to)
    ]

-- so is the address of one of the site's prefixes
database-family : (databases : List Database) (eid : Eid) → IfSome (database_address databases eid) (λ addr. width addr ≡ width eid.prefix.addr)
database-family [] eid = tt
database-family (database ∷ others) eid =
    elim (cases_Bool ((database.eid.iid == eid.iid) && (width database.eid.prefix.addr == width eid.prefix.addr))) [
      | inl found ↦ rw found (eqb-true _ _ (both_hold (eqb database.eid.iid eid.iid) _ found).1)
      | inr other ↦ rw other (database-family others eid)
    ]

-- and so is the address of no host
no_address-family : (addr : Addr) → width (no_address addr) ≡ width addr
no_address-family (V4 n) = refl
no_address-family (V6 n) = refl

-- a fact of an option and of what stands in for it
unwrap_or-has : (P : Addr → Type 0) (option : Option Addr) (other : Addr) → IfSome option P → P other → P (unwrap_or option other)
unwrap_or-has P None other some none = none
unwrap_or-has P (Some addr) other some none = some

-- the inner packet goes between addresses of one family
inner_source-family : (settings : Settings) (eid : Eid) → width (inner_source settings eid) ≡ width eid.prefix.addr
inner_source-family settings eid =
    let addr = eid.prefix.addr in
    let Same : Addr → Type 0 = λ (from : Addr). width from ≡ width addr in
    unwrap_or-has Same (ours settings.locators addr) _ (ours-family settings.locators addr)
    (unwrap_or-has Same (database_address settings.databases eid) (no_address addr) (database-family settings.databases eid) (no_address-family addr))

-- a Source EID has the instance of the EID
pub source_eid-range : (eid : Eid) (source : Option Addr) → IfSome (source_eid eid source) (λ held. held.0 < 2 ^ 24)
source_eid-range eid None = tt
source_eid-range eid (Some addr) = eid.in_range

-- an address behind its AFI
addr-short : (addr : Addr) → length (canonical_addr addr) ≤ 18
addr-short (V4 n) = omega arith
addr-short (V6 n) = omega arith

-- an EID
pub eid-short : (iid : ℕ) (addr : Addr) → length (canonical_eid iid (Some addr)) ≤ 30
eid-short iid addr =
    elim (cases_Bool (eqb iid 0)) [
      | inl none ↦ rw none (omega (arith, addr-short addr))
      | inr some ↦ rw some (omega (arith, addr-short addr))
    ]

-- a Source EID
source-short : (source : Option (ℕ × Addr)) → length (canonical_source source) ≤ 30
source-short None = omega arith
source-short (Some source) = eid-short source.0 source.1

-- addresses
addrs-short : (addrs : List Addr) → length (flat_map canonical_addr addrs) ≤ 18 * length addrs
addrs-short [] = omega arith
addrs-short (addr ∷ addrs) =
    let split : length (flat_map canonical_addr (addr ∷ addrs)) ≡ length (canonical_addr addr) + length (flat_map canonical_addr addrs) =
    ap (λ (t : List ℕ). length t) (flat_map-cons canonical_addr addr addrs) ∙ length-append (canonical_addr addr) (flat_map canonical_addr addrs) in
    omega (arith, split, addr-short addr, addrs-short addrs)

-- the EID that is asked for
asked-short : (eid : Eid) → length (flat_map canonical_asked_eid (eid ∷ [])) ≤ 32
asked-short eid =
    let one : length (flat_map canonical_asked_eid (eid ∷ [])) ≡ length (canonical_asked_eid eid) + 0 =
    ap (λ (t : List ℕ). length t) (flat_map-cons canonical_asked_eid eid []) ∙ length-append (canonical_asked_eid eid) [] in
    omega (arith, one, eid-short eid.iid eid.prefix.addr)

-- the header of a control packet
header-short : (from to : Addr) (size : ℕ) → length (control_header from to size) ≤ 40
unfolding control_header
header-short (V4 from) to size = omega arith
header-short (V6 from) to size = omega arith

-- a control packet
pub length-message_packet : (from to : Addr) (port : ℕ) (payload : List ℕ) → length (message_packet from to port payload) ≤ 48 + length payload
length-message_packet from to port payload =
    let header : List ℕ = control_header from to (8 + length payload) in
    omega (
      arith,
      header-short from to (8 + length payload),
      length-append header (canonical_udp from to 4342 port payload true),
      length-datagram 4342 port (udp_checksum from to 4342 port payload) payload,
    )

module _ (settings : Settings) (lawful : IsSite settings) (probe smr invoked : Bool) (nonce : ℕ) where
  -- a Map-Request for one EID is in range
  pub request-range : (source : Option (ℕ × Addr)) (eid : Eid) (to : Addr) → IfSome source (λ held. held.0 < 2 ^ 24) → IsTrue (is_some (ours settings.locators to))
      → InRangeRequest (request_for settings probe smr invoked nonce source eid)
  request-range source eid to instance sender =
      let up : List OwnLocator = up_locators settings.locators in
      let same : length (map (λ (own : OwnLocator). own.addr) up) ≡ length up = length-map up _ in
      record {
        instance = instance;
        some = omega (arith, same, up-some settings.locators to sender);
        most = omega (arith, same, up-few settings.locators, lawful.few_locators);
        count = omega arith;
        each = tt;
      }

  -- and isn't long
  pub request-short : (source : Option (ℕ × Addr)) (eid : Eid) → length (canonical_request (request_for settings probe smr invoked nonce source eid)) ≤ 650
  request-short source eid =
      let up : List OwnLocator = up_locators settings.locators in
      let addrs : List Addr = map (λ (own : OwnLocator). own.addr) up in
      let same : length addrs ≡ length up = length-map up _ in
      let replies : List ℕ = flat_map canonical_addr addrs in
      let eids : List ℕ = flat_map canonical_asked_eid (eid ∷ []) in
      omega (
        arith,
        source-short source,
        addrs-short addrs,
        asked-short eid,
        same,
        up-few settings.locators,
        lawful.few_locators,
        length-append (canonical_source source) (replies ++ (eids ++ [])),
        length-append replies (eids ++ []),
        length-append eids [],
      )

-- an encapsulated one is in range
pub ecm-range : (settings : Settings) (eid : Eid) (request : MapRequest) → InRangeRequest request → InRangeEcm (ecm_for settings eid request)
ecm-range settings eid request range = record { family = inner_source-family settings eid; requests = range; replies = tt }

-- and isn't long
pub ecm-short : (settings : Settings) (eid : Eid) (request : MapRequest) → length (canonical_request request) ≤ 650 → length (canonical_ecm (ecm_for settings eid request)) ≤ 702
ecm-short settings eid request short =
    let from = inner_source settings eid in
    let to = eid.prefix.addr in
    let payload : List ℕ = canonical_request request in
    omega (arith, short, length-control_packet from to 4342 payload, header-short from to (8 + length payload))
