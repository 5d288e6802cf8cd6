-- Interfaces: LinkType, SnapLen and options, which determine how a packet's Timestamp is read.
use Rattle.std.specs.Prelude.{ℕ, zero, suc, ◌+◌, ◌-◌, ◌*◌, ◌/◌, ◌^◌, ◌==◌, ◌&&◌, ◌||◌, nat_le, nat_lt, Bool, true, List, [], ◌∷◌, length, take, drop, slice_index, Option, Some, None, if◌then◌else◌}
use Rattle.std.specs.List.{list_all}
use Rattle.capture_io.specs.declared.link.Link.{Link}
use Rattle.capture_io.specs.declared.link.Link.TheVariants.{Ethernet, Raw}
use Rattle.capture_ng.specs.Limits.{most_binary, most_decimal}
use Rattle.capture_io.specs.Capture.{number}
use Rattle.capture_io.specs.declared.order.Order.{Order}
use Rattle.capture_ng.specs.declared.head.Head.{Head}
use Rattle.capture_ng.specs.declared.interface.Added.{Added}
use Rattle.capture_ng.specs.declared.interface.Added.TheVariants.{Later, Earlier}
use Rattle.capture_ng.specs.declared.interface.Clock.{Clock}
use Rattle.capture_ng.specs.declared.interface.Interface.{Interface}

-- an option: its code and its value
pub record NgOption : Type 0 where
  pub code : ℕ
  pub value : List ℕ

-- the length of an option's value with the padding up to a multiple of four octets
abbrev pub padded : ℕ → ℕ
padded size = (size + 3) / 4 * 4

-- the code of the option at the front
abbrev pub code_in : Order → List ℕ → ℕ
code_in order octets = number order 2 octets 0

-- the length of the value of the option at the front
abbrev pub size_in : Order → List ℕ → ℕ
size_in order octets = number order 2 octets 2

-- whether no option is left: code 0 (opt_endofopt), or fewer than four octets
abbrev pub ends_options : Order → List ℕ → Bool
ends_options order octets = nat_lt (length octets) 4 || code_in order octets == 0

-- the octets behind the option at the front, and behind its padding
abbrev pub behind_option : Order → List ℕ → List ℕ
behind_option order octets = drop (4 + padded (size_in order octets)) octets

-- the option at the front
abbrev pub first_option : Order → List ℕ → NgOption
first_option order octets = record {
  code = code_in order octets;
  value = take (size_in order octets) (drop 4 octets);
}

-- the options in octets before their end, at most n
unfoldable pub options_within : ℕ → Order → List ℕ → List NgOption
options_within zero order octets = []
options_within (suc n) order octets =
    if ends_options order octets then []
    else first_option order octets ∷ options_within n order (behind_option order octets)

-- the options in octets before their end
abbrev pub options_in : Order → List ℕ → List NgOption
options_in order octets = options_within (length octets) order octets

-- whether each of the first n options has a value that fits in the octets
unfoldable pub fit_within : ℕ → Order → List ℕ → Bool
fit_within zero order octets = true
fit_within (suc n) order octets =
    ends_options order octets || (nat_le (4 + size_in order octets) (length octets)
    && fit_within n order (behind_option order octets))

-- whether each option has a value that fits in the octets
abbrev pub options_fit : Order → List ℕ → Bool
options_fit order octets = fit_within (length octets) order octets

-- whether an octet is an if_tsresol that is read: the low seven bits are k, at most 19, or with the top bit set at most
-- 63
abbrev pub is_unit : ℕ → Bool
is_unit x = if nat_lt x 128 then nat_le x most_decimal else nat_le (x - 128) most_binary

-- how many units of an if_tsresol make a second: 10 to the k, or with the top bit set 2 to the k, where k is the low
-- seven bits
abbrev pub per_second : ℕ → ℕ
per_second x = if nat_lt x 128 then 10 ^ x else 2 ^ (x - 128)

-- whether an option is proper: if_tsresol (code 9) has one octet, a unit that is read, and if_tsoffset (code 14) has
-- eight octets; others may be any
abbrev pub is_proper : Order → NgOption → Bool
is_proper order option =
    if option.code == 9 then length option.value == 1 && is_unit (slice_index option.value 0)
    else if option.code == 14 then length option.value == 8
    else true

-- the seconds of an if_tsoffset, a signed number, from its 64 bits
abbrev pub added_of : ℕ → Added
added_of x = if nat_lt x (2 ^ 63) then Later x else Earlier (2 ^ 64 - x)

-- the clock of an interface without options: microseconds, and no added seconds
abbrev pub plain_clock : Clock
plain_clock = record { units = 1000000; added = Later 0 }

-- the clock as an option sets it: if_tsresol (9) its unit, if_tsoffset (14) its added seconds
abbrev pub set_by : Order → NgOption → Clock → Clock
set_by order option clock =
    if option.code == 9 then record clock { units = per_second (slice_index option.value 0) }
    else if option.code == 14 then record clock { added = added_of (number order 8 option.value 0) }
    else clock

-- the clock after options, of which the last of each code counts
abbrev pub clock_after : Order → Clock → List NgOption → Clock
clock_after order clock [] = clock
clock_after order clock (option ∷ options) = clock_after order (set_by order option clock) options

-- whether the options in octets fit, and each is proper
abbrev pub are_options : Order → List ℕ → Bool
are_options order octets =
    options_fit order octets && list_all (is_proper order) (options_in order octets)

-- the clock after the options in octets, or None where one of them doesn't fit or isn't proper
abbrev pub clock_on : Order → Clock → List ℕ → Option Clock
clock_on order clock octets =
    if are_options order octets then Some (clock_after order clock (options_in order octets)) else None

-- the link type of a LinkType field: Ethernet (1), raw IP (101), or None for any other
abbrev pub link_of : ℕ → Option Link
link_of type = if type == 1 then Some Ethernet else if type == 101 then Some Raw else None

-- the octets of the options in an interface description block
abbrev pub option_octets : Head → List ℕ → List ℕ
option_octets head left = take (head.length - 20) (drop 16 left)

-- the interface in an interface description block
abbrev pub interface_in : Head → List ℕ → Interface
interface_in head left = record {
  link = link_of (number head.order 2 left 8);
  snap = number head.order 4 left 12;
  clock = clock_after head.order plain_clock (options_in head.order (option_octets head left));
}
