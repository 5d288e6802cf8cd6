-- A classic capture of given frames, read record by record.
use Rattle.std.proofs.Common.{◌≡◌, ◌≤◌, ◌<◌, ◌+◌, ◌*◌, ◌^◌, ◌/◌, ◌%◌, max, ℕ, IsTrue, List, [], ◌∷◌, ◌++◌, length, Option, Some, None, Ok, unwrap_or, refl, sym, ap, ◌∙◌, arith}
use Rattle.std.proofs.lemmas.Bool.{le-leb, lt-ltb}
use Rattle.std.proofs.lemmas.List.{drop_at, take_at}
use Rattle.octets.specs.Numbers.{little, little_octets}
use Rattle.octets.specs.Rules.{first_failing}
use Rattle.octets.proofs.RuleLemmas.{none_fails}
use Rattle.capture_io.specs.Answers.{unless}
use Rattle.capture_io.specs.Capture.{begin, body, fraction, frame, header_rules, format_of, in_span, kept, moment, outcome, record_rules, seconds}
use Rattle.capture_io.specs.Frame.{Frame}
use Rattle.capture_io.specs.Frames.{capture, opened, read_on}
use Rattle.capture_io.specs.Run.{before}
use Rattle.capture_io.specs.Limits.{most_frame_octets, most_records}
use Rattle.capture_io.specs.Output.{packet_record}
use Rattle.capture_io.specs.Reading.{passed}
use Rattle.capture_io.specs.declared.format.Format.{Format}
use Rattle.capture_io.specs.declared.format.Fraction.TheVariants.{Nanoseconds}
use Rattle.capture_io.specs.declared.link.Link.{Link}
use Rattle.capture_io.specs.declared.link.Link.TheVariants.{Ethernet, Raw}
use Rattle.capture_io.specs.declared.order.Order.TheVariants.{Little}
use Rattle.capture_io.specs.declared.position.Position.{Position}
use Rattle.capture_io.proofs.Runs.{read_on-end, read_on-frame}
use Rattle.capture_ng.specs.Classic.{classic, classic_header, records_of}
use Rattle.capture_ng.specs.Limits.{end_of_moments}

-- how such a capture spells its records
abbrev pub classic_format : Link → Format
classic_format link = record { order = Little; fraction = Nanoseconds; link = link }

-- a frame that a capture of a link may hold behind so many and behind a moment
pub record MayFollow (link : Link) (count : ℕ) (greatest : Option ℕ) (f : Frame) : Type 0 where
  pub number : f.number ≡ count + 1
  pub room : count < most_records
  pub later : unwrap_or greatest 0 ≤ f.moment
  pub span : IsTrue (in_span greatest f.moment)
  pub moment : f.moment < end_of_moments
  pub seen : f.link ≡ link
  pub size : length f.octets ≤ most_frame_octets

-- frames each of which may follow the one before
abbrev pub AreInOrder : Link → ℕ → Option ℕ → List Frame → Type 0
AreInOrder link count greatest [] = Unit {0}
AreInOrder link count greatest (f ∷ frames) = MayFollow link count greatest f × AreInOrder link f.number (Some f.moment) frames

-- a number of four octets is read as it was written
little-little_octets : (x : ℕ) (rest : List ℕ) → x < 2 ^ 32 → little 4 (little_octets 4 x ++ rest) 0 ≡ x
little-little_octets x rest fits = omega (arith, fits)

-- the fraction of a second that a frame's record names
fraction-record : (link : Link) (m : ℕ) (octets rest : List ℕ) → fraction (classic_format link) (packet_record m octets ++ rest) ≡ m % 1000000000
fraction-record link m octets rest = little-little_octets (m % 1000000000) [] (omega arith)

-- the moment that it names
moment-record : (link : Link) (m : ℕ) (octets rest : List ℕ) → m < 2 ^ 32 * 1000000000 → moment (classic_format link) (packet_record m octets ++ rest) ≡ m
moment-record link m octets rest early =
    let whole : seconds (classic_format link) (packet_record m octets ++ rest) ≡ m / 1000000000 = little-little_octets (m / 1000000000) [] (omega (arith, early)) in
    omega (arith, whole, fraction-record link m octets rest)

-- how many octets it keeps
kept-record : (link : Link) (m : ℕ) (octets rest : List ℕ) → length octets ≤ most_frame_octets → kept (classic_format link) (packet_record m octets ++ rest) ≡ length octets
kept-record link m octets rest short = little-little_octets (length octets) [] (omega (arith, short))

-- and which
body-record : (link : Link) (m : ℕ) (octets rest : List ℕ) → length octets ≤ most_frame_octets → body (classic_format link) (packet_record m octets ++ rest) ≡ octets
body-record link m octets rest short = take_at octets rest _ (sym (kept-record link m octets rest short))

-- its record breaks no rule
passes : (link : Link) (at : Position) (f : Frame) (rest : List ℕ) → MayFollow link at.count at.greatest f
    → first_failing (record_rules (classic_format link) at (packet_record f.moment f.octets ++ rest)) ≡ None
passes link at f rest may =
    let m = f.moment in
    let octets = f.octets in
    let format = classic_format link in
    let left : List ℕ = packet_record m octets ++ rest in
    let size = kept-record link m octets rest may.size in
    let count = lt-ltb at.count most_records may.room in
    let head = le-leb 16 (length left) (omega arith) in
    let part = lt-ltb (fraction format left) 1000000000 (omega (arith, fraction-record link m octets rest)) in
    let short = le-leb (kept format left) most_frame_octets (omega (arith, size, may.size)) in
    let whole = le-leb (kept format left) (length (body format left)) (omega (arith, size, ap length (body-record link m octets rest may.size))) in
    let span = ap (in_span at.greatest) (moment-record link m octets rest may.moment) ∙ may.span in
    none_fails (record_rules format at left) (count, (head, (part, (short, (whole, (span, tt))))))

-- the same frame, by its fields
same_frame : (f : Frame) (count : ℕ) (link : Link) → f.number ≡ count + 1 → f.link ≡ link → record { number = count + 1; moment = f.moment; link = link; octets = f.octets } ≡ f
same_frame f count link number same = rw (sym number, sym same) refl

-- and gives the frame
frame-record : (link : Link) (at : Position) (f : Frame) (rest : List ℕ) → MayFollow link at.count at.greatest f
    → frame (classic_format link) at (packet_record f.moment f.octets ++ rest) (body (classic_format link) (packet_record f.moment f.octets ++ rest)) ≡ f
frame-record link at f rest may =
    let when = moment-record link f.moment f.octets rest may.moment in
    let greatest : max (unwrap_or at.greatest 0) f.moment ≡ f.moment = omega (arith, may.later) in
    rw (when, greatest, body-record link f.moment f.octets rest may.size) (same_frame f at.count link may.number may.seen)

-- so it is the frame that is next
frame-next : (link : Link) (at : Position) (f : Frame) (rest : List ℕ) → MayFollow link at.count at.greatest f
    → Ok (Some f) ≡ outcome (classic_format link) at (packet_record f.moment f.octets ++ rest)
frame-next link at f rest may =
    let left : List ℕ = packet_record f.moment f.octets ++ rest in
    sym (ap (λ o. unless o (Some (frame (classic_format link) at left (body (classic_format link) left)))) (passes link at f rest may)
    ∙ ap (λ (g : Frame). Ok (Some g)) (frame-record link at f rest may))

-- the records of frames, behind others
read_on-records : (link : Link) (frames : List Frame) (at : Position) → AreInOrder link at.count at.greatest frames
    → read_on (classic_format link) at (records_of frames) ≡ record { frames = frames; fault = None }
read_on-records link [] at may = read_on-end (classic_format link) at [] refl
read_on-records link (f ∷ frames) at may =
    let rest : List ℕ = records_of frames in
    let written : List ℕ = packet_record f.moment f.octets in
    read_on-frame (classic_format link) at (written ++ rest) f (frame-next link at f rest may.0)
    ∙ ap (λ (left : List ℕ). before f (read_on (classic_format link) (passed at f) left)) (drop_at written rest (16 + length f.octets) (omega arith))
    ∙ ap (before f) (read_on-records link frames (passed at f) may.1)

-- a capture of a link breaks no rule of the header
header-passes : (link : Link) (rest : List ℕ) → first_failing (header_rules (classic_header link ++ rest)) ≡ None
header-passes Ethernet rest = rw (le-leb 24 (length (classic_header Ethernet ++ rest)) (omega arith)) refl
header-passes Raw rest = rw (le-leb 24 (length (classic_header Raw ++ rest)) (omega arith)) refl

-- and says its link
format_of-classic : (link : Link) (rest : List ℕ) → format_of (classic_header link ++ rest) ≡ classic_format link
format_of-classic Ethernet rest = refl
format_of-classic Raw rest = refl

-- the frames of a whole capture
pub capture-classic : (link : Link) (frames : List Frame) → AreInOrder link 0 None frames → capture (classic link frames) ≡ record { frames = frames; fault = None }
unfolding capture
capture-classic link frames may =
    let records : List ℕ = records_of frames in
    ap (λ o. opened o (read_on (format_of (classic link frames)) begin records)) (header-passes link records)
    ∙ ap (λ (format : Format). read_on format begin records) (format_of-classic link records)
    ∙ read_on-records link frames begin may
