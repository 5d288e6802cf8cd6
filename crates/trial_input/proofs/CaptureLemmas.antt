-- The capture of a trial is read as its packets.
use Rattle.std.proofs.Common.{◌≡◌, ◌≤◌, ◌+◌, ◌*◌, ℕ, zero, suc, List, [], ◌∷◌, ◌++◌, map, length, Option, Some, None, refl, sym, ap, subst, ◌∙◌, append_assoc, append-nil, length-append, arith}
use Rattle.std.proofs.lemmas.Bool.{le-leb}
use Rattle.std.proofs.lemmas.List.Concat.{flat_map-append}
use Rattle.std.proofs.lemmas.List.FromFn.{length-map-range_with_len}
use Rattle.std.specs.List.{range_with_len}
use Rattle.capture_io.specs.Limits.{longest_span, most_records}
use Rattle.capture_io.specs.Output.{out_header, packet_record}
use Rattle.mapping_records.specs.Limits.{most_mappings}
use Rattle.capture_events.specs.Events.{Packet, records_of}
use Rattle.playback.specs.Written.{AreInOrder, MayFollow}
use Rattle.trial_input.specs.Trial.{packet_to, trial_packet, trial_packets}

-- the record of a packet
abbrev record_of : Packet → List ℕ
record_of packet = packet_record packet.moment packet.octets

-- a file with the record of one packet more
pub records-more : (packets : List Packet) (packet : Packet) (file : List ℕ) → file ≡ out_header ++ records_of packets → file ++ packet_record packet.moment packet.octets ≡ out_header ++ records_of (packets ++ packet ∷ [])
records-more packets packet file is =
    let written : List ℕ = packet_record packet.moment packet.octets in
    ap (λ (octets : List ℕ). octets ++ written) is
    ∙ append_assoc out_header (records_of packets) written
    ∙ ap (λ (octets : List ℕ). out_header ++ octets) (ap (λ (octets : List ℕ). records_of packets ++ octets) (sym (append-nil written)) ∙ sym (flat_map-append record_of packets (packet ∷ [])))

-- none, or a moment at most a second before that of packet j
abbrev IsJustBefore : Option ℕ → ℕ → Type 0
IsJustBefore None j = Unit {0}
IsJustBefore (Some m) j = (m ≤ (packet_to 0 j).moment) × ((packet_to 0 j).moment ≤ m + 1000000000)

-- so its packet may follow
follows : (previous : Option ℕ) (dest j : ℕ) → IsJustBefore previous j → j ≤ most_mappings → MayFollow previous (packet_to dest j)
follows None dest j before few = record { later = omega arith; span = refl; moment = omega (arith, few); size = omega arith }
follows (Some m) dest j before few = record {
  later = before.0;
  span = le-leb (1700000000 * 1000000000 + j * 1000) (m + longest_span) (omega (arith, before.1));
  moment = omega (arith, few);
  size = omega arith;
}

-- packets from j on, and the last one
in_order : (n j count last : ℕ) (previous : Option ℕ) → IsJustBefore previous j → j + count ≡ last → last ≤ most_mappings → AreInOrder previous (map (trial_packet n) (range_with_len j count) ++ packet_to 0x15000001 last ∷ [])
in_order n j zero last previous before is few = (follows previous 0x15000001 last (subst (IsJustBefore previous) (omega (arith, is)) before) few, tt)
in_order n j (suc count) last previous before is few =
    (follows previous _ j before (omega (arith, is, few)), in_order n (j + 1) count last _ (omega arith, omega arith) (omega (arith, is)) few)

-- a capture may hold the packets of a trial, in their order
pub trial_packets-in_order : (n : ℕ) → n ≤ most_mappings → AreInOrder None (trial_packets n)
trial_packets-in_order n few = in_order n 0 n n None tt (omega arith) few

-- one for each mapping, and the last one
pub trial_packets-length : (n : ℕ) → n ≤ most_mappings → length (trial_packets n) ≤ most_records
trial_packets-length n few =
    omega (arith, few, length-append (map (trial_packet n) (range_with_len 0 n)) (packet_to 0x15000001 n ∷ []), length-map-range_with_len (trial_packet n) 0 n)
