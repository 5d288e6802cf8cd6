-- A capture that was written and has no fault holds the packets that were written.
use Rattle.std.proofs.Common.{◌≡◌, ◌≤◌, ◌<◌, ◌+◌, ◌*◌, ◌^◌, ◌/◌, ◌%◌, ℕ, List, [], ◌∷◌, ◌++◌, length, Option, Some, None, Ok, Err, unwrap_or, refl, sym, ap, subst, ◌∙◌, arith}
use Rattle.std.proofs.lemmas.Bool.{le-leb, ltb-true}
use Rattle.std.proofs.lemmas.List.{drop_at}
use Rattle.octets.specs.Numbers.{little, little_octets}
use Rattle.octets.specs.Rules.{first_failing}
use Rattle.octets.proofs.RuleLemmas.{all_hold}
use Rattle.capture_io.specs.Answers.{unless}
use Rattle.capture_io.specs.Capture.{advanced, begin, body, fraction, frame, header_rules, in_span, kept, moment, outcome, record_rules, running, seconds}
use Rattle.capture_io.specs.Frames.{capture, opened, read_on, rest}
use Rattle.capture_io.specs.Limits.{most_records}
use Rattle.capture_io.specs.Output.{out_header, packet_record}
use Rattle.capture_io.specs.Run.{Run, ended, goes_on}
use Rattle.capture_io.specs.declared.fault.CaptureFault.{CaptureFault}
use Rattle.capture_io.specs.declared.position.Position.{Position}
use Rattle.capture_io.proofs.Runs.{read_on-fault, read_step}
use Rattle.capture_events.specs.Events.{Packet, records_of}
use Rattle.playback.specs.Written.{AreInOrder, MayFollow, frames_of, out_format}
use Rattle.playback.proofs.WrittenLemmas.{capture-records}
use Rattle.audit_laws.specs.Sent.{written}
use Rattle.audit_laws.proofs.PlayLemmas.{AreSent}

-- a number of four octets is read as it was written
little_back : (x : ℕ) (behind : List ℕ) → x < 2 ^ 32 → little 4 (little_octets 4 x ++ behind) 0 ≡ x
little_back x behind fits = omega (arith, fits)

-- so are the moment of a record and how many octets it keeps
moment-back : (m : ℕ) (octets behind : List ℕ) → m < 2 ^ 32 * 1000000000 → moment out_format (packet_record m octets ++ behind) ≡ m
moment-back m octets behind early =
    let whole : seconds out_format (packet_record m octets ++ behind) ≡ m / 1000000000 = little_back (m / 1000000000) [] (omega (arith, early)) in
    let part : fraction out_format (packet_record m octets ++ behind) ≡ m % 1000000000 = little_back (m % 1000000000) [] (omega arith) in
    omega (arith, whole, part)

kept-back : (m : ℕ) (octets behind : List ℕ) → length octets ≤ 65575 → kept out_format (packet_record m octets ++ behind) ≡ length octets
kept-back m octets behind short = little_back (length octets) [] (omega (arith, short))

-- what is left of a run behind a frame has its fault
abbrev without_fault : Run CaptureFault → Type 0
without_fault run = run.fault ≡ None

module _ (packet : Packet) (packets : List Packet) (at : Position) (sent : AreSent (unwrap_or at.greatest 0) (packet ∷ packets)) where
  -- the record of a packet, and those behind it
  abbrev left : List ℕ
  left = packet_record packet.moment packet.octets ++ records_of packets

  -- none of its rules failed
  rules-pass : (o : Option CaptureFault) → first_failing (record_rules out_format at left) ≡ o → without_fault (read_on out_format at left) → o ≡ None
  rules-pass None is none = refl
  rules-pass (Some fault) is none =
      let answers : Err fault ≡ outcome out_format at left = sym (ap (λ o. unless o (Some (frame out_format at left (body out_format left)))) is) in
      let ends : read_on out_format at left ≡ ended (Some fault) = read_on-fault out_format at left fault answers in
      sym (ap (λ (run : Run CaptureFault). run.fault) ends) ∙ none

  -- so it may follow, and there is room
  record-follows : first_failing (record_rules out_format at left) ≡ None → MayFollow at.greatest packet × (at.count < most_records)
  record-follows is =
      let all = all_hold (record_rules out_format at left) is in
      let short = sent.1.1.0.short in (
        record {
          later = sent.0;
          span = ap (in_span at.greatest) (sym (moment-back packet.moment packet.octets (records_of packets) sent.1.0)) ∙ all.1.1.1.1.1.0;
          moment = sent.1.0;
          size = omega (arith, short);
        },
        ltb-true at.count most_records all.0,
      )

  -- where the rest is read from
  next-moment : running out_format at left ≡ packet.moment
  next-moment =
      let is = moment-back packet.moment packet.octets (records_of packets) sent.1.0 in
      let later = sent.0 in
      omega (arith, is, later)

  next-left : rest out_format left ≡ records_of packets
  next-left =
      let size = kept-back packet.moment packet.octets (records_of packets) sent.1.1.0.short in
      drop_at (packet_record packet.moment packet.octets) (records_of packets) (16 + kept out_format left) (omega (arith, size))

  -- and the rest has no fault
  rest-passes : first_failing (record_rules out_format at left) ≡ None → without_fault (read_on out_format at left) → without_fault (read_on out_format (advanced out_format at left) (records_of packets))
  rest-passes is none =
      let run : Run CaptureFault = read_on out_format (advanced out_format at left) (rest out_format left) in
      let step : read_on out_format at left ≡ goes_on (Ok (Some (frame out_format at left (body out_format left)))) run =
      read_step out_format at left ∙ ap (λ o. goes_on (unless o (Some (frame out_format at left (body out_format left)))) run) is in
      subst (λ (octets : List ℕ). without_fault (read_on out_format (advanced out_format at left) octets)) next-left
      (sym (ap (λ (r : Run CaptureFault). r.fault) step) ∙ none)

-- records without a fault are in order, and no more than may be
in-order : (packets : List Packet) (at : Position) → AreSent (unwrap_or at.greatest 0) packets → at.count ≤ most_records → without_fault (read_on out_format at (records_of packets))
    → AreInOrder at.greatest packets × (at.count + length packets ≤ most_records)
in-order [] at sent few none = (tt, omega (arith, few))
in-order (packet ∷ packets) at sent few none =
    let is = rules-pass packet packets at sent (first_failing (record_rules out_format at (left packet packets at sent))) refl none in
    let follows = record-follows packet packets at sent is in
    let now = next-moment packet packets at sent in
    let room = follows.1 in
    let others = in-order packets (advanced out_format at (left packet packets at sent))
    (subst (λ (m : ℕ). AreSent m packets) (sym now) sent.1.1.1) (omega (arith, room)) (rest-passes packet packets at sent is none) in
    let count = others.1 in (
      (follows.0, subst (λ (m : ℕ). AreInOrder (Some m) packets) now others.0),
      omega (arith, count),
    )

-- the header that is written breaks no rule
header-passes : (behind : List ℕ) → first_failing (header_rules (out_header ++ behind)) ≡ None
header-passes behind = rw (le-leb 24 (length (out_header ++ behind)) (omega arith)) refl

file-read : (packets : List Packet) → written packets ≡ read_on out_format begin (records_of packets)
unfolding capture
file-read packets = ap (λ o. opened o (read_on out_format begin (records_of packets))) (header-passes (records_of packets))

pub written-frames : (packets : List Packet) → AreSent 0 packets → (written packets).fault ≡ None → (written packets).frames ≡ frames_of packets
written-frames packets sent none =
    let order = in-order packets begin sent (omega arith) (subst without_fault (file-read packets) none) in
    let few = order.1 in
    ap (λ (run : Run CaptureFault). run.frames) (capture-records packets order.0 (omega (arith, few)))
