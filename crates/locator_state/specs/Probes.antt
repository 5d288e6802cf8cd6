-- Probes of locators (RFC 9301, section 7.1).
use Rattle.std.specs.Prelude.{ℕ, ◌==◌, ◌||◌, ◌&&◌, not, Bool, true, false, List, [], ◌∷◌, ◌++◌, count_by, filter, map, Option, Some, None, option_map, if◌then◌else◌}
use Rattle.ip_headers.specs.declared.addr.Addr.{Addr}
use Rattle.mapping_records.specs.Eids.{same_address}
use Rattle.router_log.specs.Moments.{younger}
use Rattle.router_log.specs.declared.kept.Probe.{Probe}
use Rattle.router_log.specs.declared.kept.ProbeState.{ProbeState}
use Rattle.router_log.specs.declared.kept.ProbeState.TheVariants.{Open, Answered, Lost}
use Rattle.locator_state.specs.Limits.{judged_seconds, probe_seconds}
use Rattle.locator_state.specs.Lists.{last_where, only_if}

-- whether a probe still counts: for so many seconds
abbrev pub probe_counts : ℕ → Probe → Bool
probe_counts now probe = younger now probe_seconds probe.moment

-- whether a probe was answered
abbrev pub is_answered : Probe → Bool
is_answered probe = elim probe.state [ Open ↦ false | Answered ↦ true | Lost ↦ false ]

-- whether a probe is judged: it was answered, or has waited for so many seconds
abbrev pub is_judged : ℕ → Probe → Bool
is_judged now probe = is_answered probe || not (younger now judged_seconds probe.moment)

-- whether a locator may be used by its last judged probe: there is none, it was answered, or it counts no longer
abbrev pub up_by : ℕ → Option Probe → Bool
up_by now None = true
up_by now (Some probe) = is_answered probe || not (younger now probe_seconds probe.moment)

-- the state of a probe once an open one gets another state
abbrev pub settled : ProbeState → ProbeState → ProbeState
settled state Open = state
settled state Answered = Answered
settled state Lost = Lost

abbrev pub settle : ProbeState → Probe → Probe
settle state probe = record probe { state = settled state probe.state }

-- a probe, which gets another state where it is open and has the nonce
abbrev pub settle_with : ProbeState → ℕ → Probe → Probe
settle_with state nonce probe = if probe.nonce == nonce then settle state probe else probe

-- ### lists of probes, the oldest first

-- whether a locator may be used, as far as its probes show: by the last one that is judged
abbrev pub probe_up : ℕ → List Probe → Addr → Bool
probe_up now probes rloc = up_by now (last_where (λ probe. same_address probe.rloc rloc && is_judged now probe) probes)

-- the locator of the open probe with that nonce: the last one, if it isn't judged
abbrev pub probe_open : ℕ → List Probe → ℕ → Option Addr
probe_open now probes nonce =
    option_map (λ probe. probe.rloc)
    (only_if (λ probe. not (is_judged now probe)) (last_where (λ probe. probe.nonce == nonce) probes))

-- the moment of the locator's last probe, if that one counts
abbrev pub last_probe : ℕ → List Probe → Addr → Option ℕ
last_probe now probes rloc =
    option_map (λ probe. probe.moment)
    (only_if (λ probe. younger now probe_seconds probe.moment) (last_where (λ probe. same_address probe.rloc rloc) probes))

-- how many probes count
abbrev pub probe_count : ℕ → List Probe → ℕ
probe_count now probes = count_by (λ probe. younger now probe_seconds probe.moment) probes

-- the probes that still count
abbrev pub counting_probes : ℕ → List Probe → List Probe
counting_probes now probes = filter (probe_counts now) probes

-- probes, of which the open ones with that nonce get another state
abbrev pub settle_nonce : ProbeState → ℕ → List Probe → List Probe
settle_nonce state nonce probes = map (settle_with state nonce) probes

-- the probes that count, behind a new one: open probes with its nonce are lost
abbrev pub probed : ℕ → Addr → ℕ → List Probe → List Probe
probed m rloc nonce probes =
    settle_nonce Lost nonce (counting_probes m probes) ++ record { moment = m; rloc = rloc; nonce = nonce; state = Open } ∷ []

-- the probes that count, behind an answer: open probes with its nonce are answered
abbrev pub probe_answered : ℕ → ℕ → List Probe → List Probe
probe_answered m nonce probes = settle_nonce Answered nonce (counting_probes m probes)
