-- The classic capture, little-endian and with nanoseconds, that holds given frames of one link type.
use Rattle.std.specs.Prelude.{ℕ, List, [], ◌∷◌, ◌++◌}
use Rattle.octets.specs.Numbers.{little_octets}
use Rattle.capture_io.specs.Frame.{Frame}
use Rattle.capture_io.specs.Limits.{most_frame_octets}
use Rattle.capture_io.specs.Output.{packet_record}
use Rattle.capture_io.specs.declared.link.Link.{Link}
use Rattle.capture_io.specs.declared.link.Link.TheVariants.{Ethernet, Raw}

-- the number of a link type
abbrev pub link_type : Link → ℕ
link_type Ethernet = 1
link_type Raw = 101

-- the header of a classic capture: magic number, version 2.4, zone, accuracy, snap length, link type
abbrev pub classic_header : Link → List ℕ
classic_header link =
    little_octets 4 0xa1b23c4d ++ (little_octets 2 2 ++ (little_octets 2 4
    ++ (little_octets 4 0 ++ (little_octets 4 0
    ++ (little_octets 4 most_frame_octets ++ little_octets 4 (link_type link))))))

-- the octets of frames as records of a classic capture, one after another
abbrev pub records_of : List Frame → List ℕ
records_of [] = []
records_of (f ∷ frames) = packet_record f.moment f.octets ++ records_of frames

-- the classic capture that holds frames of that link type
abbrev pub classic : Link → List Frame → List ℕ
classic link frames = classic_header link ++ records_of frames
