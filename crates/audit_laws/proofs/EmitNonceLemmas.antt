-- The nonce of what the router makes itself is lifted out of its packet, and a Map-Reply has none.
use Rattle.std.proofs.Common.{◌≡◌, ◌<◌, ◌≤◌, ◌^◌, ◌==◌, ◌&&◌, ℕ, Bool, true, false, cond, IfSome, IsTrue, List, [], ◌∷◌, ◌++◌, length, Option, Some, None, All, refl, sym, ap, subst, ◌∙◌, arith}
use Rattle.std.specs.Prelude.{is_some, option_and_then}
use Rattle.std.proofs.lemmas.Bool.{and_parts, eq-eqb, eqb-true, or_left, or_right}
use Rattle.std.proofs.lemmas.List.{append-nil}
use Rattle.std.proofs.lemmas.List.Elements.{All-head, All-tail}
use Rattle.octets.specs.Rules.{first_failing}
use Rattle.ip_headers.specs.Addr.{number, same_address, width, IsAddr}
use Rattle.ip_headers.specs.declared.addr.Addr.{Addr}
use Rattle.mapping_records.specs.declared.eid.Eid.{Eid}
use Rattle.map_messages.specs.Control.{canonical_ecm, control_packet}
use Rattle.map_messages.specs.Message.{canonical_message, message_rules}
use Rattle.map_messages.specs.Range.{InRangeRequest, IsLawful as IsLawfulMessage}
use Rattle.map_messages.specs.Request.{canonical_request}
use Rattle.map_messages.specs.declared.message.Ecm.{Ecm}
use Rattle.map_messages.specs.declared.message.MapRequest.{MapRequest}
use Rattle.map_messages.specs.declared.message.Message.{Message}
use Rattle.map_messages.specs.declared.message.Message.TheVariants as message
use Rattle.map_messages.proofs.MessageLaws.{written_message}
use Rattle.lisp_settings.specs.declared.settings.OwnLocator.{OwnLocator}
use Rattle.lisp_settings.specs.declared.settings.Settings.{Settings}
use Rattle.router_log.specs.declared.emit.Emit.{Emit}
use Rattle.router_log.specs.declared.emit.Emit.TheVariants.{Request, Probe, Solicit, Reply}
use Rattle.router_model.specs.Emits.{ecm_for, emit_packet, inner_source, message_packet, packet_from, packet_to, request_for, source_eid, to_resolver}
use Rattle.router_model.specs.Received.{message_in}
use Rattle.router_model.specs.Site.{is_own, ours}
use Rattle.router_model.proofs.ReceivedLemmas.{message_in_is}
use Rattle.router_core.specs.Site.{IsSite}
use Rattle.router_core.proofs.WritableLemmas.{ecm-range, ecm-short, request-range, request-short, source_eid-range}
use Rattle.audit.specs.Requests.{nonce_of}
use Rattle.audit_laws.specs.Sent.{CanBeMade}
use Rattle.audit_laws.proofs.CourseLemmas.{message-arrives, IsMessage}
use Rattle.audit_laws.proofs.EmitLemmas.{emit_nonce}
use Rattle.audit_laws.proofs.EmitOctetLemmas.{ecm-octets, for-octets}
use Rattle.audit_laws.proofs.NonceLemmas.{message-nonce, packet_nonce, reply-none}
use Rattle.audit_laws.proofs.OctetLemmas.{AreOctets}
use Rattle.audit_laws.proofs.ReducedLemmas.{control-reduced, packet-reduced, reduced, reduced-fits, reduced-stays, reduced-width, reduced_request, request-lawful, request-reduced}

-- ### ours

-- they are addresses
abbrev pub DoFit : List OwnLocator → Type 0
DoFit locators = All (λ (own : OwnLocator). IsAddr own.addr) locators

same-self : (a : Addr) → same_address a a ≡ true
same-self a = rw (eq-eqb (width a) (width a) refl, eq-eqb (number a) (number a) refl) refl

-- an own address that is found is own
ours-own : (locators : List OwnLocator) (to : Addr) → IfSome (ours locators to) (λ from. is_own locators from ≡ true)
ours-own [] to = tt
ours-own (own ∷ others) to = by (own.up && (width own.addr == width to)) (ours others to) (ours-own others to)
  where
    by : (b : Bool) (o : Option Addr) → IfSome o (λ from. is_own others from ≡ true) → IfSome (cond b (Some own.addr) o) (λ from. is_own (own ∷ others) from ≡ true)
    by true o rest = or_left (same_address own.addr own.addr) (is_own others own.addr) (same-self own.addr)
    by false None rest = tt
    by false (Some from) rest = or_right (same_address own.addr from) (is_own others from) rest

-- and fits its family
ours-fits : (locators : List OwnLocator) (to : Addr) → DoFit locators → IfSome (ours locators to) IsAddr
ours-fits [] to fit = tt
ours-fits (own ∷ others) to fit = by (own.up && (width own.addr == width to)) (ours-fits others to (All-tail (λ (own : OwnLocator). IsAddr own.addr) own others fit))
  where
    by : (b : Bool) → IfSome (ours others to) IsAddr → IfSome (cond b (Some own.addr) (ours others to)) IsAddr
    by true rest = All-head (λ (own : OwnLocator). IsAddr own.addr) own others fit
    by false rest = rest

-- and is of the family
ours-family : (locators : List OwnLocator) (to : Addr) → IfSome (ours locators to) (λ from. width from ≡ width to)
ours-family [] to = tt
ours-family (own ∷ others) to = by (own.up && (width own.addr == width to)) refl (ours-family others to)
  where
    by : (b : Bool) → (own.up && (width own.addr == width to)) ≡ b → IfSome (ours others to) (λ from. width from ≡ width to) → IfSome (cond b (Some own.addr) (ours others to)) (λ from. width from ≡ width to)
    by true is rest = eqb-true (width own.addr) (width to) (and_parts own.up _ is).1
    by false is rest = rest

-- ### a message to an address

-- a message that is written is read again
record ReadsAgain (read : Message) : Type 0 where
  pub pass : (base : ℕ) → first_failing (message_rules base (canonical_message read)) ≡ None
  pub value : message_in (canonical_message read) ≡ Some read

read-again : (read : Message) → IsLawfulMessage read → ReadsAgain read
read-again read lawful =
    let again = written_message read [] lawful in
    let all : canonical_message read ++ [] ≡ canonical_message read = append-nil (canonical_message read) in
    record {
      pass = λ base. subst (λ (octets : List ℕ). first_failing (message_rules base octets) ≡ None) all (again.pass base);
      value = subst (λ (octets : List ℕ). message_in octets ≡ Some read) all (message_in_is (canonical_message read ++ []) read again.value);
    }

module _ (settings : Settings) (fit : DoFit settings.locators) (told read : Message) (same : canonical_message read ≡ canonical_message told) (lawful : IsLawfulMessage read) (are : AreOctets (canonical_message told)) where
  from-nonce : (to : Addr) (from : Option Addr) → IsTrue (is_some from) → IfSome from (λ own. width own ≡ width to) → IfSome from (λ own. is_own settings.locators own ≡ true) → IfSome from IsAddr
      → packet_nonce settings.locators (packet_from from to told) ≡ nonce_of read
  from-nonce to None sender family own fits = cc
  from-nonce to (Some from) sender family own fits =
      let payload : List ℕ = canonical_message read in
      let short = lawful.short in
      let there : message_packet from (reduced to) 4342 payload ≡ packet_from (Some from) to told =
      ap (λ (a : Addr). message_packet a (reduced to) 4342 payload) (sym (reduced-stays from fits)) ∙ packet-reduced from to 4342 payload family ∙ ap (message_packet from to 4342) same in
      let is : IsMessage from 4342 payload (message_packet from (reduced to) 4342 payload) =
      message-arrives from (reduced to) 4342 payload (family ∙ sym (reduced-width to)) fits (reduced-fits to) (omega arith) (omega (arith, short)) in
      let again = read-again read lawful in
      ap (packet_nonce settings.locators) (sym there) ∙ message-nonce settings.locators from payload (message_packet from (reduced to) 4342 payload) read is own (subst AreOctets (sym same) are) again.pass again.value

  to-nonce : (to : Addr) → IsTrue (is_some (ours settings.locators to)) → packet_nonce settings.locators (packet_to settings to told) ≡ nonce_of read
  to-nonce to sender = from-nonce to (ours settings.locators to) sender (ours-family settings.locators to) (ours-own settings.locators to) (ours-fits settings.locators to fit)

  resolver-nonce : (resolver : Option Addr) → IsTrue (is_some (option_and_then (ours settings.locators) resolver)) → packet_nonce settings.locators (to_resolver settings resolver told) ≡ nonce_of read
  resolver-nonce None reaches = cc
  resolver-nonce (Some resolver) reaches = to-nonce resolver reaches

-- ### Map-Requests

-- one that isn't encapsulated
plain-lawful : (request : MapRequest) → InRangeRequest request → request.nonce < 2 ^ 64 → request.piggyback ≡ None → length (canonical_request request) ≤ 650 → IsLawfulMessage (message.Request (reduced_request request))
plain-lawful request range nonce alone short = record {
  parts = request-lawful request range nonce;
  short = let same = ap (λ (octets : List ℕ). length octets) (request-reduced request alone) in omega (arith, same, short);
}

-- one that is, with its addresses reduced
abbrev reduced_ecm : Settings → Eid → MapRequest → Ecm
reduced_ecm settings eid request = record {
  source = reduced (inner_source settings eid);
  dest = reduced eid.prefix.addr;
  source_port = 4342;
  request = Some (reduced_request request);
  reply = None;
  one = refl;
}

module _ (settings : Settings) (eid : Eid) (request : MapRequest) (range : InRangeRequest request) (alone : request.piggyback ≡ None) where
  family : width (inner_source settings eid) ≡ width eid.prefix.addr
  family = (ecm-range settings eid request range).family

  ecm-same : canonical_ecm (reduced_ecm settings eid request) ≡ canonical_ecm (ecm_for settings eid request)
  ecm-same =
      ap (λ (rest : List ℕ). 128 ∷ 0 ∷ 0 ∷ 0 ∷ rest)
      (control-reduced (inner_source settings eid) eid.prefix.addr 4342 (canonical_request (reduced_request request)) family
      ∙ ap (control_packet (inner_source settings eid) eid.prefix.addr 4342) (request-reduced request alone))

  ecm-lawful : request.nonce < 2 ^ 64 → length (canonical_request request) ≤ 650 → IsLawfulMessage (message.Control (reduced_ecm settings eid request))
  ecm-lawful nonce short =
      let lawful = request-lawful request range nonce in
      record {
        parts = record {
          range = record { family = reduced-width (inner_source settings eid) ∙ family ∙ sym (reduced-width eid.prefix.addr); requests = lawful.range; replies = tt };
          source = reduced-fits (inner_source settings eid);
          dest = reduced-fits eid.prefix.addr;
          source_port = omega arith;
          request = lawful;
          reply = tt;
        };
        short =
            let same = ap (λ (octets : List ℕ). length octets) ecm-same in
            let whole = ecm-short settings eid request short in
            omega (arith, same, whole);
      }

-- ### any emit

module _ (settings : Settings) (site : IsSite settings) (fit : DoFit settings.locators) where
  resolver-sender : (resolver : Option Addr) → IsTrue (is_some (option_and_then (ours settings.locators) resolver)) → (to : Addr) × IsTrue (is_some (ours settings.locators to))
  resolver-sender None reaches = absurd (cc)
  resolver-sender (Some resolver) reaches = (resolver, reaches)

  pub emit-nonce : (emit : Emit) → CanBeMade settings emit → IfSome (emit_nonce emit) (λ nonce. nonce < 2 ^ 64) → packet_nonce settings.locators (emit_packet settings emit) ≡ emit_nonce emit
  unfolding emit_packet
  emit-nonce (Request eid source invoked nonce) made fits =
      let request : MapRequest = request_for settings false false invoked nonce (source_eid eid source) eid in
      let sender = resolver-sender settings.resolver made in
      let range : InRangeRequest request = request-range settings site false false invoked nonce (source_eid eid source) eid sender.0 (source_eid-range eid source) sender.1 in
      let short : length (canonical_request request) ≤ 650 = request-short settings site false false invoked nonce (source_eid eid source) eid in
      resolver-nonce settings fit (message.Control (ecm_for settings eid request)) (message.Control (reduced_ecm settings eid request)) (ecm-same settings eid request range refl)
      (ecm-lawful settings eid request range refl fits short) (ecm-octets settings eid request (for-octets settings site false false invoked nonce (source_eid eid source) eid)) settings.resolver made
  emit-nonce (Probe to eid nonce) made fits =
      let request : MapRequest = request_for settings true false false nonce None eid in
      let range : InRangeRequest request = request-range settings site true false false nonce None eid to tt made in
      let short : length (canonical_request request) ≤ 650 = request-short settings site true false false nonce None eid in
      to-nonce settings fit (message.Request request) (message.Request (reduced_request request)) (request-reduced request refl)
      (plain-lawful request range fits refl short) (for-octets settings site true false false nonce None eid) to made
  emit-nonce (Solicit to eid nonce) made fits =
      let source = source_eid eid (Some eid.prefix.addr) in
      let request : MapRequest = request_for settings false true false nonce source eid in
      let range : InRangeRequest request = request-range settings site false true false nonce source eid to (source_eid-range eid (Some eid.prefix.addr)) made in
      let short : length (canonical_request request) ≤ 650 = request-short settings site false true false nonce source eid in
      to-nonce settings fit (message.Request request) (message.Request (reduced_request request)) (request-reduced request refl)
      (plain-lawful request range fits refl short) (for-octets settings site false true false nonce source eid) to made
  emit-nonce (Reply from to port reply) made fits = reply-none settings.locators from to port reply made
