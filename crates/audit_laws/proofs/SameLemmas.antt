-- The records of packets, each exactly one, are those packets.
use Rattle.std.proofs.Common.{◌≡◌, ◌-◌, ◌+◌, ◌≤◌, ℕ, suc, nat_eq, Bool, true, cond, List, [], ◌∷◌, filter_map, length, map, take, Option, refl, sym, ap, ap₂, ◌∙◌, arith}
use Rattle.std.specs.List.{All, cons_option, IsDistinct}
use Rattle.std.proofs.lemmas.Slice.Eq.{bytes_eq-Decides}
use Rattle.std.specs.Str.{bytes_eq}
use Rattle.std.proofs.lemmas.List.{take_all}
use Rattle.std.proofs.lemmas.List.Elements.{All-head, All-tail}
use Rattle.octets.specs.Rules.{first_failing}
use Rattle.octets.specs.declared.refused.Refused.{Refused}
use Rattle.ip_headers.specs.Ip.{ip_rules, packet_in}
use Rattle.capture_io.specs.Frame.{Frame}
use Rattle.capture_io.specs.declared.link.Link.TheVariants.{Raw}
use Rattle.lisp_settings.specs.declared.settings.Settings.{Settings}
use Rattle.capture_events.specs.Events.{Packet}
use Rattle.playback.specs.Written.{frames_from, frames_of}
use Rattle.router_model.specs.Journal.{Journal, drawn}
use Rattle.audit.specs.Compared.{compared_behind, first_difference}
use Rattle.audit.specs.declared.outcome.Outcome.{Outcome}
use Rattle.audit.specs.declared.outcome.Outcome.TheVariants.{Differs, Same}
use Rattle.audit.specs.Lifted.{each_once, lifted}
use Rattle.audit.specs.Limits.{most_lifted}
use Rattle.audit.specs.Packets.{record_packet, unless_refused}
use Rattle.audit.specs.Requests.{sent_nonce}
use Rattle.audit_laws.specs.Drawn.{first_nonces}
use Rattle.audit_laws.specs.Whole.{IsWhole}
use Rattle.audit_laws.proofs.SoundLemmas.{AreDrawn}
use Rattle.audit_laws.proofs.DrawnLemmas.{distinct-once, length-first_nonces}
use Rattle.audit_laws.proofs.NonceLemmas.{record-nonce}
use Rattle.audit_laws.proofs.PlayLemmas.{nonces_in}

-- the packet of a record that is exactly one
record-whole : (number moment : ℕ) (octets : List ℕ) → IsWhole octets → record_packet (record { number = number; moment = moment; link = Raw; octets = octets }) ≡ octets
unfolding record_packet
record-whole number moment octets whole =
    let none : length octets - length octets ≡ 0 = omega arith in
    ap (λ (base : ℕ). unless_refused (first_failing (ip_rules base octets)) (packet_in octets)) none
    ∙ ap (λ (refusal : Option Refused). unless_refused refusal (packet_in octets)) whole.lawful
    ∙ ap (λ (n : ℕ). take n octets) (sym whole.exact)
    ∙ take_all (length octets) octets (omega arith)

pub length-frames : (count : ℕ) (packets : List Packet) → length (frames_from count packets) ≡ length packets
length-frames count [] = refl
length-frames count (packet ∷ packets) = ap (λ (n : ℕ). suc n) (length-frames (count + 1) packets)

-- so they compare as the same
pub compared-own : (n count : ℕ) (packets : List Packet) → All (λ (packet : Packet). IsWhole packet.octets) packets → compared_behind n (map (λ (packet : Packet). packet.octets) packets) (frames_from count packets) ≡ Same (n + length packets)
compared-own n count [] whole = ap Same (omega arith)
compared-own n count (packet ∷ packets) whole =
    let P : Packet → Type 0 = λ (packet : Packet). IsWhole packet.octets in
    let frame : Frame = record { number = count + 1; moment = packet.moment; link = Raw; octets = packet.octets } in
    let is : record_packet frame ≡ packet.octets = record-whole (count + 1) packet.moment packet.octets (All-head P packet packets whole) in
    let same : bytes_eq packet.octets (record_packet frame) ≡ true = (bytes_eq-Decides packet.octets (record_packet frame)).1 (sym is) in
    let rest : Outcome = compared_behind (n + 1) (map (λ (packet : Packet). packet.octets) packets) (frames_from (count + 1) packets) in
    ap (λ (test : Bool). cond test rest (Differs (n + 1) (first_difference packet.octets (record_packet frame)))) same
    ∙ compared-own (n + 1) (count + 1) packets (All-tail P packet packets whole) ∙ ap Same (omega arith)

-- and the nonces that are lifted out of them are those of the packets
pub records-nonces : (settings : Settings) (count : ℕ) (packets : List Packet) → All (λ (packet : Packet). IsWhole packet.octets) packets → filter_map (sent_nonce settings) (frames_from count packets) ≡ nonces_in settings packets
records-nonces settings count [] whole = refl
records-nonces settings count (packet ∷ packets) whole =
    let P : Packet → Type 0 = λ (packet : Packet). IsWhole packet.octets in
    ap₂ (λ (o : Option ℕ) (rest : List ℕ). cons_option o rest)
    (record-nonce settings (count + 1) packet.moment packet.octets (All-head P packet packets whole))
    (records-nonces settings (count + 1) packets (All-tail P packet packets whole))

-- nonces that differ, and are no more than are lifted, are lifted as they were drawn
pub drawn-lifted : (settings : Settings) (packets : List Packet) (journal : Journal) → All (λ (packet : Packet). IsWhole packet.octets) packets → AreDrawn settings (nonces_in settings packets) journal
    → IsDistinct nat_eq (first_nonces settings (drawn journal)) → drawn journal ≤ most_lifted → lifted settings (frames_of packets) ≡ first_nonces settings (drawn journal)
drawn-lifted settings packets journal whole are apart few =
    ap (λ (nonces : List ℕ). take most_lifted (each_once nonces)) (records-nonces settings 0 packets whole)
    ∙ ap (λ (once : List ℕ). take most_lifted once) (are ∙ distinct-once (first_nonces settings (drawn journal)) apart)
    ∙ take_all most_lifted (first_nonces settings (drawn journal)) (omega (arith, few, length-first_nonces settings (drawn journal)))
