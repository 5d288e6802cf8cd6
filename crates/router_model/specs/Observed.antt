-- Locators in the journal: probes (RFC 9301, section 7.1), echoed nonces (RFC 9300, section 10.1), SMRs that were sent
-- (RFC 9301, section 6.1).
use Rattle.std.specs.Prelude.{ℕ, ◌==◌, Bool, false, List, [], ◌∷◌, ◌++◌, Option, Some, None, if◌then◌else◌}
use Rattle.std.specs.List.{list_any}
use Rattle.ip_headers.specs.declared.addr.Addr.{Addr}
use Rattle.mapping_records.specs.Eids.{same_address}
use Rattle.locator_state.specs.Echoes.{come_from, hear_from, start_counts, wish_counts}
use Rattle.locator_state.specs.Observed.{Observed}
use Rattle.locator_state.specs.Probes.{probe_counts, settle}
use Rattle.locator_state.specs.Solicits.{solicit_counts}
use Rattle.router_log.specs.declared.entry.Entry.{Entry}
use Rattle.router_log.specs.declared.entry.Entry.TheVariants.{Probed, ProbeAnswered, EchoStarted, EchoHeard, DataFrom, EchoWanted, Solicited}
use Rattle.router_log.specs.declared.kept.EchoStart.{EchoStart}
use Rattle.router_log.specs.declared.kept.EchoWish.{EchoWish}
use Rattle.router_log.specs.declared.kept.Probe.{Probe}
use Rattle.router_log.specs.declared.kept.ProbeState.{ProbeState}
use Rattle.router_log.specs.declared.kept.ProbeState.TheVariants.{Open, Answered, Lost}
use Rattle.router_log.specs.declared.kept.Solicitation.{Solicitation}
use Rattle.router_model.specs.Journal.{Journal}
use Rattle.router_model.specs.Kept.{Kind, absorb, last_put}

-- the state of a probe with a nonce by the entries after it, the oldest first: the first answer with the nonce, or the
-- first further probe with it, settles the state
abbrev pub state_after : ℕ → List Entry → ProbeState
state_after nonce [] = Open
state_after nonce (ProbeAnswered moment answered ∷ later) = if answered == nonce then Answered else state_after nonce later
state_after nonce (Probed moment rloc probed ∷ later) = if probed == nonce then Lost else state_after nonce later
state_after nonce (_ ∷ later) = state_after nonce later

-- the probes in a journal, the oldest first; `later` are the entries after the journal, the oldest first
abbrev pub probes : List Entry → Journal → List Probe
probes later [] = []
probes later (Probed moment rloc nonce ∷ before) =
    probes (Probed moment rloc nonce ∷ later) before
    ++ record { moment = moment; rloc = rloc; nonce = nonce; state = state_after nonce later } ∷ []
probes later (entry ∷ before) = probes (entry ∷ later) before

-- whether an entry marks the echo requested of a locator as heard
abbrev pub is_heard : Addr → Entry → Bool
is_heard rloc (EchoHeard moment from) = same_address rloc from
is_heard rloc _ = false

-- whether an entry marks that a packet came from a locator
abbrev pub has_come : Addr → Entry → Bool
has_come rloc (DataFrom moment from) = same_address rloc from
has_come rloc _ = false

-- the echoes requested in a journal, the oldest first; `later` are the entries after the journal
abbrev pub starts : List Entry → Journal → List EchoStart
starts later [] = []
starts later (EchoStarted moment rloc nonce ∷ before) =
    starts (EchoStarted moment rloc nonce ∷ later) before
    ++ record { moment = moment; rloc = rloc; nonce = nonce; heard = list_any (is_heard rloc) later; came = list_any (has_come rloc) later } ∷ []
starts later (entry ∷ before) = starts (entry ∷ later) before

-- the echoes that locators wanted in a journal, the oldest first
abbrev pub wishes : Journal → List EchoWish
wishes [] = []
wishes (EchoWanted moment rloc nonce ∷ before) = wishes before ++ record { moment = moment; rloc = rloc; nonce = nonce } ∷ []
wishes (_ ∷ before) = wishes before

-- the SMRs that were sent in a journal, the oldest first
abbrev pub solicits : Journal → List Solicitation
solicits [] = []
solicits (Solicited moment rloc eid nonce ∷ before) = solicits before ++ record { moment = moment; rloc = rloc; eid = eid } ∷ []
solicits (_ ∷ before) = solicits before

-- all probes, requested echoes, wanted echoes and SMRs in a journal
abbrev pub observed : Journal → Observed
observed journal = record {
  probes = probes [] journal;
  starts = starts [] journal;
  wishes = wishes journal;
  solicits = solicits journal;
}

-- ### what a table keeps

-- the probe that an entry begins
abbrev pub begun_probe : Entry → Option Probe
begun_probe (Probed moment rloc nonce) = Some (record { moment = moment; rloc = rloc; nonce = nonce; state = Open })
begun_probe _ = None

-- a probe behind an entry: an open one is lost or answered where the entry has its nonce
abbrev pub probe_step : Entry → Probe → Option Probe
probe_step (Probed moment rloc nonce) probe = Some (if probe.nonce == nonce then settle Lost probe else probe)
probe_step (ProbeAnswered moment nonce) probe = Some (if probe.nonce == nonce then settle Answered probe else probe)
probe_step _ probe = Some probe

abbrev pub probe_kind : Kind Entry Probe
probe_kind = record { begins = begun_probe; step = probe_step; put = last_put }

-- the requested echo that an entry begins
abbrev pub begun_start : Entry → Option EchoStart
begun_start (EchoStarted moment rloc nonce) =
    Some (record { moment = moment; rloc = rloc; nonce = nonce; heard = false; came = false })
begun_start _ = None

-- a requested echo behind an entry
abbrev pub start_step : Entry → EchoStart → Option EchoStart
start_step (EchoHeard moment from) start = Some (hear_from from start)
start_step (DataFrom moment from) start = Some (come_from from start)
start_step _ start = Some start

abbrev pub start_kind : Kind Entry EchoStart
start_kind = record { begins = begun_start; step = start_step; put = last_put }

-- the wanted echo that an entry begins
abbrev pub begun_wish : Entry → Option EchoWish
begun_wish (EchoWanted moment rloc nonce) = Some (record { moment = moment; rloc = rloc; nonce = nonce })
begun_wish _ = None

-- wanted echoes as a kind of kept item, which no entry changes
abbrev pub wish_kind : Kind Entry EchoWish
wish_kind = record { begins = begun_wish; step = λ entry wish. Some wish; put = last_put }

-- the solicitation that an entry begins
abbrev pub begun_solicit : Entry → Option Solicitation
begun_solicit (Solicited moment rloc eid nonce) = Some (record { moment = moment; rloc = rloc; eid = eid })
begun_solicit _ = None

-- solicitations as a kind of kept item, which no entry changes
abbrev pub solicit_kind : Kind Entry Solicitation
solicit_kind = record { begins = begun_solicit; step = λ entry solicit. Some solicit; put = last_put }

-- the four lists of items behind an entry: those that still count at its moment, with its effect
abbrev pub observing : ℕ → Entry → Observed → Observed
observing now entry o = record {
  probes = absorb probe_kind (probe_counts now) entry o.probes;
  starts = absorb start_kind (start_counts now) entry o.starts;
  wishes = absorb wish_kind (wish_counts now) entry o.wishes;
  solicits = absorb solicit_kind (solicit_counts now) entry o.solicits;
}
