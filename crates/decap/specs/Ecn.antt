-- Explicit congestion notification, RFC 3168 section 5, and behind a tunnel, RFC 6040 section 4.2.
use Rattle.std.specs.Prelude.{ℕ, ◌/◌, ◌%◌, ◌==◌, Option, Some, None, if◌then◌else◌}
use Rattle.ip_headers.specs.Ip.{class_of}
use Rattle.ip_headers.specs.declared.header.IpHeader.{IpHeader}

-- the first six bits of TOS or Traffic Class, RFC 2474 section 3
abbrev pub dscp : IpHeader → ℕ
dscp header = class_of header / 4

-- the last two bits of TOS or Traffic Class
abbrev pub ecn : IpHeader → ℕ
ecn header = class_of header % 4

-- Not-ECT: the ends of the packet's transport don't use ECN
abbrev pub not_ect : ℕ
not_ect = 0

-- ECT(0): the ends use ECN
abbrev pub ect_0 : ℕ
ect_0 = 2

-- ECT(1): as ECT(0)
abbrev pub ect_1 : ℕ
ect_1 = 1

-- CE: congestion was experienced
abbrev pub ce : ℕ
ce = 3

-- one of four values, by an ECN mark, in the order Not-ECT, ECT(0), ECT(1), CE
abbrev pub by_mark : {T : Type 0} → ℕ → T → T → T → T → T
by_mark mark a b c d =
    if mark == not_ect then a else if mark == ect_0 then b else if mark == ect_1 then c else d

-- the outgoing ECN mark by the inner one, a row each, and the outer one; None where the packet is dropped
unfoldable pub ecn_of : ℕ → ℕ → Option ℕ
ecn_of inner outer =
    by_mark inner
    (by_mark outer (Some not_ect) (Some not_ect) (Some not_ect) None)
    (by_mark outer (Some ect_0) (Some ect_0) (Some ect_1) (Some ce))
    (by_mark outer (Some ect_1) (Some ect_1) (Some ect_1) (Some ce))
    (by_mark outer (Some ce) (Some ce) (Some ce) (Some ce))
