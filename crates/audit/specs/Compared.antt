-- Packets that were due, compared with the records of a capture.
use Rattle.std.specs.Prelude.{ℕ, suc, ◌+◌, ◌==◌, Bool, List, [], ◌∷◌, Option, Some, None, if◌then◌else◌}
use Rattle.std.specs.Str.{bytes_eq}
use Rattle.capture_io.specs.Frame.{Frame}
use Rattle.audit.specs.Packets.{record_packet}
use Rattle.audit.specs.declared.outcome.Outcome.{Outcome}
use Rattle.audit.specs.declared.outcome.Outcome.TheVariants.{Same, Differs, Missing, Extra}

-- the first offset at which two lists differ, or the length of the shorter one
abbrev pub first_difference : List ℕ → List ℕ → ℕ
first_difference [] others = 0
first_difference (octet ∷ octets) [] = 0
first_difference (octet ∷ octets) (other ∷ others) =
    if octet == other then suc (first_difference octets others) else 0

-- the outcome of packets and records that stand behind n packets that are the same
abbrev pub compared_behind : ℕ → List (List ℕ) → List Frame → Outcome
compared_behind n [] [] = Same n
compared_behind n [] (frame ∷ frames) = Extra (n + 1)
compared_behind n (packet ∷ packets) [] = Missing (n + 1)
compared_behind n (packet ∷ packets) (frame ∷ frames) =
    if bytes_eq packet (record_packet frame) then compared_behind (n + 1) packets frames
    else Differs (n + 1) (first_difference packet (record_packet frame))

-- the outcome of a comparison of packets with records
abbrev pub compared : List (List ℕ) → List Frame → Outcome
compared packets frames = compared_behind 0 packets frames

-- ### one by one

-- the outcome of a packet and its record, if it has one, behind n packets that are the same
abbrev pub judged : ℕ → List ℕ → Option Frame → Outcome
judged n packet None = Missing (n + 1)
judged n packet (Some frame) =
    if bytes_eq packet (record_packet frame) then Same (n + 1)
    else Differs (n + 1) (first_difference packet (record_packet frame))

-- the outcome so far with one packet more and its record, if it has one; the first departure stays
abbrev pub expected : Outcome → List ℕ → Option Frame → Outcome
expected (Same n) packet sent = judged n packet sent
expected (Differs position place) packet sent = Differs position place
expected (Missing position) packet sent = Missing position
expected (Extra position) packet sent = Extra position

-- the outcome so far with these packets more, each with the record at its place, if there is one
abbrev pub all_expected : Outcome → List (List ℕ) → List Frame → Outcome
all_expected outcome [] frames = outcome
all_expected outcome (packet ∷ packets) [] =
    all_expected (expected outcome packet None) packets []
all_expected outcome (packet ∷ packets) (frame ∷ frames) =
    all_expected (expected outcome packet (Some frame)) packets frames

-- the outcome behind the last packet; `more` is whether there is a further record
abbrev pub finished : Outcome → Bool → Outcome
finished (Same n) more = if more then Extra (n + 1) else Same n
finished (Differs position place) more = Differs position place
finished (Missing position) more = Missing position
finished (Extra position) more = Extra position

-- a fact P of the number of packets, where all were the same so far
abbrev pub IfSame : Outcome → (ℕ → Type 0) → Type 0
IfSame (Same n) P = P n
IfSame (Differs position place) P = Unit {0}
IfSame (Missing position) P = Unit {0}
IfSame (Extra position) P = Unit {0}
