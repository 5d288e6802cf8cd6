-- Solicitations of locators that know an old mapping of the site (RFC 9301, section 6.1).
use Rattle.std.specs.Prelude.{ℕ, ◌&&◌, nat_lt, not, Bool, List, [], ◌∷◌, ◌++◌, count_by, filter}
use Rattle.std.specs.List.{list_any}
use Rattle.ip_headers.specs.declared.addr.Addr.{Addr}
use Rattle.mapping_records.specs.Eids.{same_address, same_eid}
use Rattle.mapping_records.specs.declared.eid.Eid.{Eid}
use Rattle.router_log.specs.Moments.{younger}
use Rattle.locator_state.specs.Limits.{most_solicits, solicit_seconds}
use Rattle.router_log.specs.declared.kept.Solicitation.{Solicitation}

-- whether a solicitation still counts: for so many seconds
abbrev pub solicit_counts : ℕ → Solicitation → Bool
solicit_counts now old = younger now solicit_seconds old.moment

-- whether a solicitation is of that locator for that EID
abbrev pub is_of : Addr → Eid → Solicitation → Bool
is_of rloc eid old = same_address old.rloc rloc && same_eid old.eid eid

-- ### lists of solicitations, the oldest first

-- whether a locator may be solicited for an EID: no such solicitation counts, and there is room
abbrev pub may_solicit : ℕ → List Solicitation → Addr → Eid → Bool
may_solicit now solicits rloc eid =
    not (list_any (λ old. is_of rloc eid old && solicit_counts now old) solicits)
    && nat_lt (count_by (solicit_counts now) solicits) most_solicits

-- the solicitations that still count
abbrev pub counting_solicits : ℕ → List Solicitation → List Solicitation
counting_solicits now solicits = filter (solicit_counts now) solicits

-- the solicitations that count, behind one of a locator for an EID
abbrev pub solicited : ℕ → Addr → Eid → List Solicitation → List Solicitation
solicited m rloc eid solicits = counting_solicits m solicits ++ record { moment = m; rloc = rloc; eid = eid } ∷ []
