-- Captures: the header of a file, and its records (pcap-savefile, version 2.4).
use Rattle.std.specs.Prelude.{ℕ, ◌+◌, ◌*◌, ◌%◌, ◌^◌, ◌==◌, ◌&&◌, ◌||◌, nat_le, nat_lt, max, Bool, true, List, [], ◌∷◌, ◌++◌, length, take, drop, Option, Some, None, Result, Ok, unwrap_or, if◌then◌else◌}
use Rattle.octets.specs.Numbers.{little, big}
use Rattle.octets.specs.Rules.{first_failing}
use Rattle.capture_io.specs.Answers.{unless}
use Rattle.capture_io.specs.Frame.{Frame}
use Rattle.capture_io.specs.Limits.{longest_span, most_frame_octets, most_records}
use Rattle.capture_io.specs.declared.order.Order.{Order}
use Rattle.capture_io.specs.declared.order.Order.TheVariants.{Little, Big}
use Rattle.capture_io.specs.declared.link.Link.{Link}
use Rattle.capture_io.specs.declared.link.Link.TheVariants.{Ethernet, Raw}
use Rattle.capture_io.specs.declared.format.Fraction.{Fraction}
use Rattle.capture_io.specs.declared.format.Fraction.TheVariants.{Microseconds, Nanoseconds}
use Rattle.capture_io.specs.declared.format.Format.{Format}
use Rattle.capture_io.specs.declared.position.Position.{Position}
use Rattle.capture_io.specs.declared.fault.CaptureFault.{CaptureFault}
use Rattle.capture_io.specs.declared.fault.CaptureFault.TheVariants.{CutHeader, BadMagic, BadVersion, BadLink, TooManyRecords, CutRecord, BadFraction, TooLong, SpanTooLong}

-- the number in the n octets at a place, in that byte order
abbrev pub number : Order → ℕ → List ℕ → ℕ → ℕ
number Little n octets at = little n octets at
number Big n octets at = big n octets at

-- whether a number is the magic number of microseconds or of nanoseconds
abbrev pub is_magic : ℕ → Bool
is_magic m = m == 0xa1b2c3d4 || m == 0xa1b23c4d

-- the byte order of a file: little-endian where it begins with a magic number in that order, else big-endian
abbrev pub order_of : List ℕ → Order
order_of file = if is_magic (little 4 file 0) then Little else Big

-- the unit of the fractions in a file's records, by its magic number
abbrev pub fraction_of : List ℕ → Fraction
fraction_of file =
    if number (order_of file) 4 file 0 == 0xa1b23c4d then Nanoseconds else Microseconds

-- the number of a file's link type: the low 16 bits of the field in its header
abbrev pub link_type : List ℕ → ℕ
link_type file = number (order_of file) 4 file 20 % 2 ^ 16

-- the link type of a file's frames: Ethernet (1), else raw IP
abbrev pub link_of : List ℕ → Link
link_of file = if link_type file == 1 then Ethernet else Raw

-- the format of a file's records, by the file's header
abbrev pub format_of : List ℕ → Format
format_of file = record { order = order_of file; fraction = fraction_of file; link = link_of file }

-- the rules of a file's header; zone, accuracy and snap length may be any
abbrev pub header_rules : List ℕ → List (Bool × CaptureFault)
header_rules file =
    (nat_le 24 (length file), CutHeader (length file))
    ∷ (is_magic (number (order_of file) 4 file 0), BadMagic)
    ∷ (number (order_of file) 2 file 4 == 2 && number (order_of file) 2 file 6 == 4, BadVersion)
    ∷ (link_type file == 1 || link_type file == 101, BadLink)
    ∷ []

-- how many of the unit of a fraction make a second
abbrev pub per_second : Fraction → ℕ
per_second Microseconds = 1000000
per_second Nanoseconds = 1000000000

-- how many nanoseconds the unit of a fraction has
abbrev pub nanoseconds : Fraction → ℕ
nanoseconds Microseconds = 1000
nanoseconds Nanoseconds = 1

-- the seconds in a record's header
abbrev pub seconds : Format → List ℕ → ℕ
seconds format left = number format.order 4 left 0

-- the fraction in a record's header, in the file's unit
abbrev pub fraction : Format → List ℕ → ℕ
fraction format left = number format.order 4 left 4

-- how many octets of its frame a record keeps
abbrev pub kept : Format → List ℕ → ℕ
kept format left = number format.order 4 left 8

-- the moment in a record's header, in nanoseconds since 1970
abbrev pub moment : Format → List ℕ → ℕ
moment format left =
    seconds format left * 1000000000 + fraction format left * nanoseconds format.fraction

-- whether a moment is no more than the longest span past the greatest so far
abbrev pub in_span : Option ℕ → ℕ → Bool
in_span None m = true
in_span (Some greatest) m = nat_le m (greatest + longest_span)

-- the rules of a record's header
abbrev pub head_rules : Format → Position → List ℕ → List (Bool × CaptureFault)
head_rules format at left =
    (nat_lt at.count most_records, TooManyRecords)
    ∷ (nat_le 16 (length left), CutRecord at.place)
    ∷ (nat_lt (fraction format left) (per_second format.fraction), BadFraction at.place)
    ∷ (nat_le (kept format left) most_frame_octets, TooLong at.place (kept format left))
    ∷ []

-- the octets that a record keeps, as far as they are there
abbrev pub body : Format → List ℕ → List ℕ
body format left = take (kept format left) (drop 16 left)

-- the rules of a record behind those of its header: its octets are there, and its moment is in the span
abbrev pub body_rules : Format → Position → List ℕ → List ℕ → List (Bool × CaptureFault)
body_rules format at head octets =
    (nat_le (kept format head) (length octets), CutRecord at.place)
    ∷ (in_span at.greatest (moment format head), SpanTooLong (at.count + 1))
    ∷ []

-- the rules of a record: those of its header, then those of its octets and its span
abbrev pub record_rules : Format → Position → List ℕ → List (Bool × CaptureFault)
record_rules format at left =
    head_rules format at left ++ body_rules format at left (body format left)

-- the moment of a record, or the greatest moment before it where that is greater
abbrev pub running : Format → Position → List ℕ → ℕ
running format at head = max (unwrap_or at.greatest 0) (moment format head)

-- the frame of a record, with the octets that were read
abbrev pub frame : Format → Position → List ℕ → List ℕ → Frame
frame format at head octets = record {
  number = at.count + 1;
  moment = running format at head;
  link = format.link;
  octets = octets;
}

-- the position behind the header of a file
abbrev pub begin : Position
begin = record { count = 0; greatest = None; place = 24 }

-- the position behind a record
abbrev pub advanced : Format → Position → List ℕ → Position
advanced format at left = record {
  count = at.count + 1;
  greatest = Some (running format at left);
  place = at.place + 16 + kept format left;
}

-- the answer with these octets left: None at the end, a frame, or the fault of the first rule that the next record
-- breaks
abbrev pub outcome : Format → Position → List ℕ → Result (Option Frame) CaptureFault
outcome format at [] = Ok None
outcome format at (x ∷ left) =
    unless (first_failing (record_rules format at (x ∷ left)))
    (Some (frame format at (x ∷ left) (body format (x ∷ left))))

-- how many octets an answer took: those of its frame and the 16 of the record's header, 0 at the end
abbrev pub taken : Option Frame → ℕ
taken None = 0
taken (Some f) = 16 + length f.octets
