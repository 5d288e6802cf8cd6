-- A packet that is split in two: RFC 791, sections 2.3 and 3.1; RFC 9300, section 7.1.
use Rattle.std.specs.Prelude.{◌≡◌, ℕ, suc, ◌≤◌, ◌<◌, ◌+◌, ◌-◌, ◌*◌, ◌/◌, ◌%◌, ◌==◌, ◌&&◌, not, nat_le, nat_lt, Bool, List, All, [], ◌∷◌, ◌++◌, length, take, drop, slice_index, Option, Some, None, is_none, if◌then◌else◌}
use Rattle.std.specs.List.{flat_map}
use Rattle.octets.specs.Numbers.{big, big_octets}
use Rattle.octets.specs.Rules.{first_failing}
use Rattle.ip_headers.specs.Checksum.{checksum}
use Rattle.ip_headers.specs.Ip.{header_len, is_v4, v4_at}
use Rattle.capture_io.specs.Frame.{Frame}
use Rattle.lisp_settings.specs.declared.settings.Settings.{Settings}
use Rattle.router_model.specs.Course.{Course, FramePacket, Leaving, course_of}
use Rattle.router_model.specs.Decide.{site_cases}
use Rattle.split_v4.specs.declared.cutting.Cut.{Cut}
use Rattle.split_v4.specs.Limits.{most_offset, split_size}
use Rattle.split_v4.specs.Options.{are_options, copied_in, padded}

-- ### a packet

-- the options in the header of a packet
abbrev pub option_octets : List ℕ → List ℕ
option_octets packet = take (header_len packet - 20) (drop 20 packet)

-- the copied options of a packet, with zeros that lead to the next place of four octets
abbrev pub copied_options : List ℕ → List ℕ
copied_options packet = padded (copied_in (option_octets packet))

-- the payload of a packet
abbrev pub payload_of : List ℕ → List ℕ
payload_of packet = drop (header_len packet) packet

-- half of the payload, in units of eight octets, rounded up
abbrev pub first_eighths : List ℕ → ℕ
first_eighths packet = (length (payload_of packet) + 15) / 16

-- the octets of the payload that go into the first half
abbrev pub first_size : List ℕ → ℕ
first_size packet = 8 * first_eighths packet

-- the word with the flags and the fragment offset
abbrev pub flags_of : List ℕ → ℕ
flags_of packet = big 2 packet 6

-- More Fragments is set in that word
abbrev pub has_more : ℕ → Bool
has_more flags = flags / 8192 % 2 == 1

-- that word with More Fragments set
abbrev pub with_more : ℕ → ℕ
with_more flags = if has_more flags then flags else flags + 8192

-- the first 20 octets of the header of a part of a packet: its own length, flags and checksum, and as
-- many words as its options make; all else is the packet's
abbrev pub front_with : List ℕ → ℕ → ℕ → ℕ → ℕ → List ℕ
front_with packet words total flags sum =
    (64 + words) ∷ slice_index packet 1
    ∷ (big_octets 2 total
    ++ slice_index packet 4 ∷ slice_index packet 5
    ∷ (big_octets 2 flags
    ++ slice_index packet 8 ∷ slice_index packet 9
    ∷ (big_octets 2 sum
    ++ slice_index packet 12 ∷ slice_index packet 13 ∷ slice_index packet 14 ∷ slice_index packet 15
    ∷ slice_index packet 16 ∷ slice_index packet 17 ∷ slice_index packet 18 ∷ slice_index packet 19 ∷ [])))

-- a header with its checksum, computed with 0 in its place
unfoldable pub summed : List ℕ → List ℕ
summed header = take 10 header ++ (big_octets 2 (checksum header) ++ drop 12 header)

-- the header of a part of a packet, with these options, before that many octets
abbrev pub header_with : List ℕ → List ℕ → ℕ → ℕ → List ℕ
header_with packet options size flags =
    summed (front_with packet ((20 + length options) / 4) (20 + length options + size) flags 0 ++ options)

-- a part of a packet: its header, with these options and flags, and its payload
abbrev pub part_of : List ℕ → List ℕ → ℕ → List ℕ → List ℕ
part_of packet options flags payload = header_with packet options (length payload) flags ++ payload

-- the first half: the whole header with More Fragments set, and the first eighths
abbrev pub first_half : List ℕ → List ℕ
first_half packet =
    part_of packet (option_octets packet) (with_more (flags_of packet)) (take (first_size packet) (payload_of packet))

-- the second half: the header with the copied options, an offset that is more by the first eighths, and
-- what is left
abbrev pub second_half : List ℕ → List ℕ
second_half packet =
    part_of packet (copied_options packet) (flags_of packet + first_eighths packet) (drop (first_size packet) (payload_of packet))

-- the packet has more octets than those, and is an IPv4 packet that may be split
abbrev pub may_split_above : ℕ → List ℕ → Bool
may_split_above most packet =
    nat_lt most (length packet)
    && (is_v4 packet
    && (not (v4_at packet).dont_fragment
    && (nat_le ((v4_at packet).offset + first_eighths packet) most_offset
    && are_options (option_octets packet))))

-- the packet is so large that it is split, and is an IPv4 packet that may be
abbrev pub may_split : Settings → List ℕ → Bool
may_split settings packet = may_split_above (split_size settings) packet

-- where a packet is cut
abbrev pub cut_in : List ℕ → Cut
cut_in packet = record {
  header_len = header_len packet;
  copied_len = length (copied_options packet);
  eighths = first_eighths packet;
}

-- where a packet is cut that has more octets than those, and may be
abbrev pub cut_above : ℕ → List ℕ → Option Cut
cut_above most packet = if may_split_above most packet then Some (cut_in packet) else None

-- ### a frame

-- the packet of a course that goes into a tunnel, or natively past it, by the settings
abbrev pub leaving_of : Settings → Course → Option FramePacket
leaving_of settings (Leaving iid packet) =
    if is_none (first_failing (site_cases settings iid packet.header)) then Some packet else None
leaving_of settings _ = None

-- the packet of a frame that goes into a tunnel, or natively past it, by the settings
abbrev pub leaving_packet : Settings → Frame → Option FramePacket
leaving_packet settings frame = leaving_of settings (course_of settings frame)

-- the frame with another packet in the place of its own, and no padding behind it
abbrev pub with_packet : Frame → ℕ → List ℕ → Frame
with_packet frame base packet = record frame { octets = take base frame.octets ++ packet }

-- the frame with either half of its packet, where that may be split
abbrev pub halves_of : Settings → Frame → Option FramePacket → Option (Frame × Frame)
halves_of settings frame None = None
halves_of settings frame (Some packet) =
    if may_split settings packet.octets
    then Some (
      with_packet frame packet.base (first_half packet.octets),
      with_packet frame packet.base (second_half packet.octets),
    )
    else None

-- the frame with either half of its packet, where that leaves the site and may be split
unfoldable pub halves : Settings → Frame → Option (Frame × Frame)
halves settings frame = halves_of settings frame (leaving_packet settings frame)

-- each half has the frame's number, moment and link
abbrev pub AreKept : Frame → Frame × Frame → Type 0
AreKept frame both =
    ((both.0.number ≡ frame.number) × ((both.0.moment ≡ frame.moment) × (both.0.link ≡ frame.link)))
    × ((both.1.number ≡ frame.number) × ((both.1.moment ≡ frame.moment) × (both.1.link ≡ frame.link)))

-- each half has no more octets than the frame
abbrev pub AreNoLonger : Frame → Frame × Frame → Type 0
AreNoLonger frame both =
    (length both.0.octets ≤ length frame.octets) × (length both.1.octets ≤ length frame.octets)

-- each half has octets
abbrev pub HaveOctets : Frame × Frame → Type 0
HaveOctets both = All (λ octet. octet < 256) both.0.octets × All (λ octet. octet < 256) both.1.octets

-- ### a capture

-- two halves, or the frame alone
abbrev pub parts_or : Frame → Option (Frame × Frame) → List Frame
parts_or frame None = frame ∷ []
parts_or frame (Some both) = both.0 ∷ both.1 ∷ []

-- a frame as its halves, or alone
abbrev pub parts_of : Settings → Frame → List Frame
parts_of settings frame = parts_or frame (halves settings frame)

-- the frames with numbers from n on
abbrev pub numbered : ℕ → List Frame → List Frame
numbered n [] = []
numbered n (frame ∷ frames) = record frame { number = n } ∷ numbered (suc n) frames

-- each frame as its halves or alone, with numbers from n on
abbrev pub split_from : Settings → ℕ → List Frame → List Frame
split_from settings n frames = numbered n (flat_map (parts_of settings) frames)

-- each frame as its halves or alone, with numbers from 1 on
abbrev pub split_all : Settings → List Frame → List Frame
split_all settings frames = split_from settings 1 frames
