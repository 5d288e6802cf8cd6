-- A capture that is written, read record by record.
use Rattle.std.proofs.Common.{◌≡◌, ◌≤◌, ◌<◌, ◌+◌, ◌*◌, ◌^◌, ◌/◌, ◌%◌, max, ℕ, List, [], ◌∷◌, ◌++◌, length, Some, None, Ok, unwrap_or, refl, sym, ap, ◌∙◌, arith}
use Rattle.std.proofs.lemmas.Bool.{le-leb, lt-ltb}
use Rattle.std.proofs.lemmas.List.{drop_at, take_at}
use Rattle.octets.specs.Numbers.{little, little_octets}
use Rattle.octets.specs.Rules.{first_failing}
use Rattle.octets.proofs.RuleLemmas.{none_fails}
use Rattle.capture_io.specs.Answers.{unless}
use Rattle.capture_io.specs.Capture.{begin, body, fraction, frame, header_rules, in_span, kept, moment, outcome, record_rules, seconds}
use Rattle.capture_io.specs.Frame.{Frame}
use Rattle.capture_io.specs.Frames.{capture, opened, read_on}
use Rattle.capture_io.specs.Run.{before}
use Rattle.capture_io.specs.Output.{out_header, packet_record}
use Rattle.capture_io.specs.Reading.{passed}
use Rattle.capture_io.specs.declared.link.Link.TheVariants.{Raw}
use Rattle.capture_io.specs.declared.position.Position.{Position}
use Rattle.capture_io.proofs.Runs.{read_on-end, read_on-frame}
use Rattle.capture_events.specs.Events.{Packet, records_of}
use Rattle.playback.specs.Limits.{most_frame_octets, most_records}
use Rattle.playback.specs.Written.{AreInOrder, MayFollow, frames_from, frames_of, out_format}

-- a number of four octets is read as it was written
little-little_octets : (x : ℕ) (rest : List ℕ) → x < 2 ^ 32 → little 4 (little_octets 4 x ++ rest) 0 ≡ x
little-little_octets x rest fits = omega (arith, fits)

-- the fraction of a second that a packet's record names
fraction-record : (m : ℕ) (octets rest : List ℕ) → fraction out_format (packet_record m octets ++ rest) ≡ m % 1000000000
fraction-record m octets rest = little-little_octets (m % 1000000000) [] (omega arith)

-- the moment that it names
moment-record : (m : ℕ) (octets rest : List ℕ) → m < 2 ^ 32 * 1000000000 → moment out_format (packet_record m octets ++ rest) ≡ m
moment-record m octets rest early =
    let whole : seconds out_format (packet_record m octets ++ rest) ≡ m / 1000000000 = little-little_octets (m / 1000000000) [] (omega (arith, early)) in
    omega (arith, whole, fraction-record m octets rest)

-- how many octets it keeps
kept-record : (m : ℕ) (octets rest : List ℕ) → length octets ≤ most_frame_octets → kept out_format (packet_record m octets ++ rest) ≡ length octets
kept-record m octets rest short = little-little_octets (length octets) [] (omega (arith, short))

-- and which
body-record : (m : ℕ) (octets rest : List ℕ) → length octets ≤ most_frame_octets → body out_format (packet_record m octets ++ rest) ≡ octets
body-record m octets rest short = take_at octets rest _ (sym (kept-record m octets rest short))

-- the frame of a packet behind so many
abbrev frame_after : ℕ → Packet → Frame
frame_after count packet = record { number = count + 1; moment = packet.moment; link = Raw; octets = packet.octets }

-- its record breaks no rule
passes : (at : Position) (packet : Packet) (rest : List ℕ) → MayFollow at.greatest packet → at.count < most_records
    → first_failing (record_rules out_format at (packet_record packet.moment packet.octets ++ rest)) ≡ None
passes at packet rest may room =
    let m = packet.moment in
    let octets = packet.octets in
    let left : List ℕ = packet_record m octets ++ rest in
    let size = kept-record m octets rest may.size in
    let count = lt-ltb at.count most_records room in
    let head = le-leb 16 (length left) (omega arith) in
    let part = lt-ltb (fraction out_format left) 1000000000 (omega (arith, fraction-record m octets rest)) in
    let short = le-leb (kept out_format left) most_frame_octets (omega (arith, size, may.size)) in
    let whole = le-leb (kept out_format left) (length (body out_format left)) (omega (arith, size, ap length (body-record m octets rest may.size))) in
    let span = ap (in_span at.greatest) (moment-record m octets rest may.moment) ∙ may.span in
    none_fails (record_rules out_format at left) (count, (head, (part, (short, (whole, (span, tt))))))

-- and gives its frame
frame-record : (at : Position) (packet : Packet) (rest : List ℕ) → MayFollow at.greatest packet
    → frame out_format at (packet_record packet.moment packet.octets ++ rest) (body out_format (packet_record packet.moment packet.octets ++ rest)) ≡ frame_after at.count packet
frame-record at packet rest may =
    let when = moment-record packet.moment packet.octets rest may.moment in
    let greatest : max (unwrap_or at.greatest 0) packet.moment ≡ packet.moment = omega (arith, may.later) in
    rw (when, greatest, body-record packet.moment packet.octets rest may.size) refl

-- so it is the frame that is next
frame-next : (at : Position) (packet : Packet) (rest : List ℕ) → MayFollow at.greatest packet → at.count < most_records
    → Ok (Some (frame_after at.count packet)) ≡ outcome out_format at (packet_record packet.moment packet.octets ++ rest)
frame-next at packet rest may room =
    let left : List ℕ = packet_record packet.moment packet.octets ++ rest in
    sym (ap (λ o. unless o (Some (frame out_format at left (body out_format left)))) (passes at packet rest may room)
    ∙ ap (λ (f : Frame). Ok (Some f)) (frame-record at packet rest may))

-- the records of packets, behind others
pub read_on-records : (packets : List Packet) (at : Position) → AreInOrder at.greatest packets → at.count + length packets ≤ most_records
    → read_on out_format at (records_of packets) ≡ record { frames = frames_from at.count packets; fault = None }
read_on-records [] at may few = read_on-end out_format at [] refl
read_on-records (packet ∷ packets) at may few =
    let f = frame_after at.count packet in
    let rest : List ℕ = records_of packets in
    let written : List ℕ = packet_record packet.moment packet.octets in
    read_on-frame out_format at (written ++ rest) f (frame-next at packet rest may.0 (omega (arith, few)))
    ∙ ap (λ (left : List ℕ). before f (read_on out_format (passed at f) left)) (drop_at written rest (16 + length packet.octets) (omega arith))
    ∙ ap (before f) (read_on-records packets (passed at f) may.1 (omega (arith, few)))

-- the header that is written breaks no rule
header-passes : (rest : List ℕ) → first_failing (header_rules (out_header ++ rest)) ≡ None
header-passes rest = rw (le-leb 24 (length (out_header ++ rest)) (omega arith)) refl

-- a whole capture
pub capture-records : (packets : List Packet) → AreInOrder None packets → length packets ≤ most_records
    → capture (out_header ++ records_of packets) ≡ record { frames = frames_of packets; fault = None }
unfolding capture
capture-records packets may few =
    let records : List ℕ = records_of packets in
    ap (λ o. opened o (read_on out_format begin records)) (header-passes records) ∙ read_on-records packets begin may (omega (arith, few))
