-- The packets of the examples, and frames of them.
use Rattle.std.specs.Prelude.{ℕ, ◌+◌, ◌*◌, ◌-◌, ◌/◌, ◌%◌, List, [], ◌∷◌, ◌++◌, codes, replicate, unwrap_or}
use Rattle.capture_io.specs.Frame.{Frame}
use Rattle.capture_io.specs.declared.link.Link.TheVariants.{Ethernet, Raw}
use Rattle.lisp_settings.specs.Hex.{octets_in}

-- the moment n tenths of a second after the begin, which is second 1,700,000,000; `seconds` is n seconds after it
abbrev pub tenths : ℕ → ℕ
tenths n = 1700000000000000000 + n * 100000000

abbrev pub seconds : ℕ → ℕ
seconds n = 1700000000000000000 + n * 1000000000

-- the moment one nanosecond before a moment
abbrev pub just_before : ℕ → ℕ
just_before moment = moment - 1

-- two moments: one nanosecond before n seconds after the begin, and n seconds after it
abbrev pub around : ℕ → List ℕ
around n = just_before (seconds n) ∷ seconds n ∷ []

-- the octets that hexadecimal digits spell
abbrev pub hex : List ℕ → List ℕ
hex text = unwrap_or (octets_in text) []

-- a frame of raw IP, with that number and moment
abbrev pub raw : ℕ → ℕ → List ℕ → Frame
raw number moment octets = record { number = number; moment = moment; link = Raw; octets = octets }

-- a frame of Ethernet, as many tenths of a second after the begin as its number
abbrev pub wired : ℕ → List ℕ → Frame
wired number octets = record { number = number; moment = tenths number; link = Ethernet; octets = octets }

-- an Ethernet header for IPv4, and octets behind it
abbrev pub framed : List ℕ → List ℕ
framed octets = hex (codes "0200000000010200000000ff0800") ++ octets

-- an Ethernet header for IPv4, the 28 octets of a packet, and 18 octets of padding
abbrev pub padded : List ℕ → List ℕ
padded octets = framed (octets ++ replicate 18 0)

-- ### from the site

-- the packet of the examples: from 10.1.0.5 to 10.2.0.9, UDP 1000 to 2000, TTL 64
abbrev pub packet : List ℕ
packet = hex (codes "4500001c00000000401166c10a0100050a02000903e807d000080000")

-- the packet with TTL 1; `two_hops` has TTL 2
abbrev pub one_hop : List ℕ
one_hop = hex (codes "4500001c000000000111a5c10a0100050a02000903e807d000080000")

abbrev pub two_hops : List ℕ
two_hops = hex (codes "4500001c000000000211a4c10a0100050a02000903e807d000080000")

-- the packet with its TTL one less, as it is forwarded
abbrev pub forwarded : List ℕ
forwarded = hex (codes "4500001c000000003f1167c10a0100050a02000903e807d000080000")

-- a packet of 1,444 octets; `octets_1445`, `octets_1464` and `octets_1465` have as many octets as their names state
abbrev pub octets_1444 : List ℕ
octets_1444 = hex (codes "450005a400000000400161490a0100050a020009") ++ replicate 1424 0

abbrev pub octets_1445 : List ℕ
octets_1445 = hex (codes "450005a500000000400161480a0100050a020009") ++ replicate 1425 0

abbrev pub octets_1464 : List ℕ
octets_1464 = hex (codes "450005b800000000400161350a0100050a020009") ++ replicate 1444 0

abbrev pub octets_1465 : List ℕ
octets_1465 = hex (codes "450005b900000000400161340a0100050a020009") ++ replicate 1445 0

-- ### in a tunnel from the site

-- the packet in its tunnel without an instance; `encapsulated_in_100` is the packet in its tunnel of instance 100
abbrev pub encapsulated : List ℕ
encapsulated = hex (codes "45000040000040003f114f71c0000201c6336407fc0710f5002c000040000000000000014500001c000000003f1167c10a0100050a02000903e807d000080000")

abbrev pub encapsulated_in_100 : List ℕ
encapsulated_in_100 = hex (codes "45000040000040003f114f71c0000201c6336407fc0710f5002c000048000000000064014500001c000000003f1167c10a0100050a02000903e807d000080000")

-- the packet with TTL 2, in its tunnel
abbrev pub encapsulated_last : List ℕ
encapsulated_last = hex (codes "450000400000400001118d71c0000201c6336407fc0710f5002c000040000000000000014500001c000000000111a5c10a0100050a02000903e807d000080000")

-- the packet in its tunnel, with a LISP header of these digits
abbrev pub outward : List ℕ → List ℕ
outward header =
    hex (codes "45000040000040003f114f71c0000201c6336407fc0710f5002c0000") ++ (hex header ++ forwarded)

-- the packet in its tunnel from 192.0.2.2, with a LISP header of these digits
abbrev pub outward_from_the_next : List ℕ → List ℕ
outward_from_the_next header =
    hex (codes "45000040000040003f114f70c0000202c6336407fc0710f5002c0000") ++ (hex header ++ forwarded)

-- ### in a tunnel to the site

-- a tunnel packet from 10.2.0.9 to 10.1.0.5, outside with TTL 10, DSCP 46 and ECT(1), inside with TTL 64 and ECT(0);
-- `delivered` is its packet as it leaves the tunnel
abbrev pub marked : List ℕ
marked = hex (codes "45b90040000000000a11c3b8c6336407c0000201c35010f5002c000000000000000000004502001c00000000401166bf0a0200090a01000503e807d000080000")

abbrev pub delivered : List ℕ
delivered = hex (codes "45b9001c0000000009119d080a0200090a01000503e807d000080000")

-- the tunnel packet `marked`, but for its UDP source port, with a LISP header of these octets; `inward` takes the
-- header in digits, `with_versions` the versions of source and destination
abbrev pub behind : List ℕ → List ℕ
behind header =
    hex (codes "45b90040000000000a11c3b8c6336407c0000201fc0710f5002c0000")
    ++ (header ++ hex (codes "4502001c00000000401166bf0a0200090a01000503e807d000080000"))

abbrev pub inward : List ℕ → List ℕ
inward header = behind (hex header)

abbrev pub with_versions : ℕ → ℕ → List ℕ
with_versions source dest =
    behind (0x10 ∷ (source / 16) ∷ ((source % 16) * 16 + dest / 256) ∷ (dest % 256) ∷ replicate 4 0)

-- the tunnel packet `inward` from 198.51.100.8, with a LISP header of these digits
abbrev pub inward_of_another : List ℕ → List ℕ
inward_of_another header =
    hex (codes "45b90040000000000a11c3b7c6336408c0000201fc0710f5002c0000")
    ++ (hex header ++ hex (codes "4502001c00000000401166bf0a0200090a01000503e807d000080000"))

-- a tunnel packet with outer CE and inner Not-ECT, and a LISP header of these digits; `at_its_end_with` has outer TTL 1
-- instead
abbrev pub congested_with : List ℕ → List ℕ
congested_with header =
    hex (codes "45bb0040000000000a11c3b6c6336407c0000201fc0710f5002c0000")
    ++ (hex header ++ hex (codes "4500001c00000000401166c10a0200090a01000503e807d000080000"))

abbrev pub at_its_end_with : List ℕ → List ℕ
at_its_end_with header =
    hex (codes "45b90040000000000111ccb8c6336407c0000201fc0710f5002c0000")
    ++ (hex header ++ hex (codes "4502001c00000000401166bf0a0200090a01000503e807d000080000"))

-- a tunnel packet for 10.9.0.1, which isn't of the site, with a LISP header of these digits
abbrev pub for_another_with : List ℕ → List ℕ
for_another_with header =
    hex (codes "45b90040000000000a11c3b8c6336407c0000201fc0710f5002c0000")
    ++ (hex header ++ hex (codes "4502001c00000000401166bb0a0200090a09000103e807d000080000"))

-- a tunnel packet with the key bits 01
abbrev pub encrypted : List ℕ
encrypted = hex (codes "450000400000000040118e71c6336407c0000201c35010f5002c000001000000000000004500001c00000000401166c10a0200090a01000503e807d000080000")

-- a tunnel packet for 10.9.0.1, which isn't of the site
abbrev pub for_another : List ℕ
for_another = hex (codes "450000400000000040118e71c6336407c0000201c35010f5002c000000000000000000004500001c00000000401166bd0a0200090a09000103e807d000080000")

-- a tunnel packet with outer CE and inner Not-ECT
abbrev pub congested : List ℕ
congested = hex (codes "450300400000000040118e6ec6336407c0000201c35010f5002c000000000000000000004500001c00000000401166c10a0200090a01000503e807d000080000")

-- a tunnel packet with outer TTL 1 and inner TTL 2
abbrev pub at_its_end : List ℕ
at_its_end = hex (codes "45000040000000000111cd71c6336407c0000201c35010f5002c000000000000000000004500001c000000000211a4c10a0200090a01000503e807d000080000")

-- a tunnel packet of instance 100 with the status bits 01111111
abbrev pub told : List ℕ
told = hex (codes "450000400000000040118e71c6336407c0000201c35010f5002c0000480000000000647f4500001c00000000401166c10a0200090a01000503e807d000080000")

-- ### at the link of the router

-- a frame of ARP
abbrev pub arp : List ℕ
arp = hex (codes "ffffffffffff0200000000ff080600010800060400010200000000ff0a0100050000000000000a010001")

-- a tunnel packet of instance 100 from 10.2.0.9 to 10.1.0.5; `inbound_delivered` is its packet as it leaves the tunnel
abbrev pub inbound : List ℕ
inbound = hex (codes "450000400000000040118e71c6336407c0000201c35010f5002c000048000000000064014500001c00000000401166c10a0200090a01000503e807d000080000")

abbrev pub inbound_delivered : List ℕ
inbound_delivered = hex (codes "4500001c000000003f1167c10a0200090a01000503e807d000080000")
