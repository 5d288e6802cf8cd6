-- Echoed nonces (RFC 9300, section 10.1). The times are this router's choice.
use Rattle.std.specs.Prelude.{ℕ, ◌==◌, ◌&&◌, nat_lt, not, Bool, false, true, List, [], ◌∷◌, ◌++◌, count_by, filter, map, Option, Some, None, is_none, is_some, option_map, if◌then◌else◌}
use Rattle.std.specs.List.{list_any}
use Rattle.ip_headers.specs.declared.addr.Addr.{Addr}
use Rattle.mapping_records.specs.Eids.{same_address}
use Rattle.router_log.specs.Moments.{younger}
use Rattle.router_log.specs.declared.kept.EchoOut.{EchoOut}
use Rattle.router_log.specs.declared.kept.EchoOut.TheVariants.{Plain, Answer, Ask}
use Rattle.router_log.specs.declared.kept.EchoStart.{EchoStart}
use Rattle.router_log.specs.declared.kept.EchoWish.{EchoWish}
use Rattle.locator_state.specs.Limits.{echo_seconds, most_starts, most_wishes, start_seconds, wish_seconds}
use Rattle.locator_state.specs.Lists.{last_where, only_if}

-- whether a requested echo still counts: for so many seconds
abbrev pub start_counts : ℕ → EchoStart → Bool
start_counts now start = younger now start_seconds start.moment

-- whether a wanted echo still counts: for so many seconds
abbrev pub wish_counts : ℕ → EchoWish → Bool
wish_counts now wish = younger now wish_seconds wish.moment

-- whether each packet to the locator requests the echo: for some seconds, and until it is heard
abbrev pub is_on : ℕ → EchoStart → Bool
is_on now start = younger now echo_seconds start.moment && not start.heard

-- whether packets came from the locator behind the requests, and none with the echo, while the echo counts
abbrev pub is_deaf : ℕ → EchoStart → Bool
is_deaf now start = not (younger now echo_seconds start.moment) && (younger now start_seconds start.moment && (not start.heard && start.came))

-- a requested echo, heard where it is of that locator
abbrev pub hear_from : Addr → EchoStart → EchoStart
hear_from rloc start = if same_address start.rloc rloc then record start { heard = true } else start

-- a requested echo behind a packet from a locator
abbrev pub come_from : Addr → EchoStart → EchoStart
come_from rloc start = if same_address start.rloc rloc then record start { came = true } else start

-- ### lists of these, the oldest first

-- the last echo requested of a locator
abbrev pub last_start : List EchoStart → Addr → Option EchoStart
last_start starts rloc = last_where (λ start. same_address start.rloc rloc) starts

-- the nonce of the echo that is requested of a locator
abbrev pub echo_on : ℕ → List EchoStart → Addr → Option ℕ
echo_on now starts rloc = option_map (λ start. start.nonce) (only_if (is_on now) (last_start starts rloc))

-- whether an echo is requested of a locator, and no packet came from it since
abbrev pub data_due : ℕ → List EchoStart → Addr → Bool
data_due now starts rloc = is_some (only_if (λ start. is_on now start && not start.came) (last_start starts rloc))

-- whether the last requested echo of a locator leaves it usable
abbrev pub echo_up : ℕ → List EchoStart → Addr → Bool
echo_up now starts rloc = is_none (only_if (is_deaf now) (last_start starts rloc))

-- the nonce that a locator wants echoed: its last one, while that counts
abbrev pub echo_wanted : ℕ → List EchoWish → Addr → Option ℕ
echo_wanted now wishes rloc =
    option_map (λ wish. wish.nonce) (only_if (wish_counts now) (last_where (λ wish. same_address wish.rloc rloc) wishes))

-- whether an echo may be requested of a locator: none of it counts, it wants none, and there is room
abbrev pub may_start : ℕ → List EchoStart → List EchoWish → Addr → Bool
may_start now starts wishes rloc =
    not (list_any (λ start. same_address start.rloc rloc && start_counts now start) starts)
    && (is_none (echo_wanted now wishes rloc) && nat_lt (count_by (start_counts now) starts) most_starts)

-- whether a nonce differs from the wanted one
abbrev pub is_other : ℕ → Option ℕ → Bool
is_other nonce None = true
is_other nonce (Some wanted) = not (wanted == nonce)

-- whether it may be noted that a locator wants this nonce: another one or none counts, and there is room
abbrev pub may_want : ℕ → List EchoWish → Addr → ℕ → Bool
may_want now wishes rloc nonce =
    is_other nonce (echo_wanted now wishes rloc) && nat_lt (count_by (wish_counts now) wishes) most_wishes

-- an echo is requested where one is on
abbrev pub ask_or_plain : Option ℕ → EchoOut
ask_or_plain (Some nonce) = Ask nonce
ask_or_plain None = Plain

-- a wanted echo is answered, before all else
abbrev pub answer_or : EchoOut → Option ℕ → EchoOut
answer_or other (Some nonce) = Answer nonce
answer_or other None = other

-- how a header to a locator deals with echoes: an answer goes before a request (this router's choice)
abbrev pub echo_out : ℕ → List EchoStart → List EchoWish → Addr → EchoOut
echo_out now starts wishes rloc = answer_or (ask_or_plain (echo_on now starts rloc)) (echo_wanted now wishes rloc)

-- the requested echoes that still count
abbrev pub counting_starts : ℕ → List EchoStart → List EchoStart
counting_starts now starts = filter (start_counts now) starts

-- the wanted echoes that still count
abbrev pub counting_wishes : ℕ → List EchoWish → List EchoWish
counting_wishes now wishes = filter (wish_counts now) wishes

-- the requested echoes that count, behind one that is requested of a locator
abbrev pub echo_started : ℕ → Addr → ℕ → List EchoStart → List EchoStart
echo_started m rloc nonce starts =
    counting_starts m starts ++ record { moment = m; rloc = rloc; nonce = nonce; heard = false; came = false } ∷ []

-- the requested echoes that count, behind an echo that came from a locator
abbrev pub echo_heard : ℕ → Addr → List EchoStart → List EchoStart
echo_heard m rloc starts = map (hear_from rloc) (counting_starts m starts)

-- the requested echoes that count, behind a packet from a locator
abbrev pub data_from : ℕ → Addr → List EchoStart → List EchoStart
data_from m rloc starts = map (come_from rloc) (counting_starts m starts)

-- the wanted echoes that count, behind one that a locator wants
abbrev pub wanted : ℕ → Addr → ℕ → List EchoWish → List EchoWish
wanted m rloc nonce wishes = counting_wishes m wishes ++ record { moment = m; rloc = rloc; nonce = nonce } ∷ []
