-- Outcomes of captures for the plain router, and the captures and journals of the examples.
use Rattle.std.specs.Prelude.{ℕ, ◌+◌, Bool, true, false, List, [], ◌∷◌, ◌++◌, codes, filter_map, flat_map, map, replicate, Option, Some, None}
use Rattle.ip_headers.specs.declared.addr.Addr.{Addr}
use Rattle.ip_headers.specs.declared.addr.Addr.TheVariants.{V4}
use Rattle.capture_io.specs.Frame.{Frame}
use Rattle.mapping_records.specs.declared.record.Locator.{Locator}
use Rattle.mapping_records.specs.declared.record.Record.{Record}
use Rattle.lisp_settings.specs.declared.settings.OwnLocator.{OwnLocator}
use Rattle.lisp_settings.specs.declared.settings.Settings.{Settings}
use Rattle.locator_choice.specs.Choice.{chosen}
use Rattle.locator_state.specs.Probes.{probe_up}
use Rattle.capture_events.specs.Events.{Outcome, Packet, events, events_after, played}
use Rattle.request_queue.specs.Queue.{due}
use Rattle.router_log.specs.Lines.{verdict_text}
use Rattle.router_log.specs.declared.entry.Entry.{Entry}
use Rattle.router_log.specs.declared.entry.Entry.TheVariants.{Asked, DataFrom, EchoHeard, EchoStarted, EchoWanted, Learned, Probed, ProbeAnswered, Retried, Solicited}
use Rattle.router_log.specs.declared.kept.EchoStart.{EchoStart}
use Rattle.router_log.specs.declared.kept.EchoWish.{EchoWish}
use Rattle.router_log.specs.declared.kept.Solicitation.{Solicitation}
use Rattle.router_log.specs.declared.notice.Notice.{Notice}
use Rattle.router_model.specs.Changes.{Change}
use Rattle.router_model.specs.Decide.{decide}
use Rattle.router_model.specs.Hear.{hear, own_record}
use Rattle.router_model.specs.Journal.{Journal, statics}
use Rattle.router_model.specs.Observed.{observed}
use Rattle.router_model.specs.Plain.{Router, plain, started}
use Rattle.router_model.specs.Rounds.{ends, rounds}
use Rattle.router_model.specs.Standing.{standing}
use Rattle.router_model.specs.Tenants.{heard_instance}
use Rattle.router_model.specs.Tick.{tick}
use Rattle.router_model.specs.View.{view}
use Rattle.router_examples.specs.Frames.{arp, encapsulated_in_100, framed, inbound, inbound_delivered, inward, just_before, packet, raw, seconds, tenths, wired, with_versions}
use Rattle.router_examples.specs.Messages.{asked, first_answer, reply, reply_of_version_7, second_answer}
use Rattle.router_examples.specs.Sites.{asking_site, echoing_site, far, far_off, home_of_0, host, locator, mapping, narrow_of_0, next_of_0, probing_site, site_of_versions, site_probing, wide, wide_of_0}

-- the outcome of a capture for the plain router
abbrev pub replayed : Settings → List Frame → Outcome (Router Journal)
replayed settings frames = played plain (started settings) (events frames)

-- the lines that are reported of a capture
abbrev pub said : Settings → List Frame → List ℕ
said settings frames = (replayed settings frames).lines

-- the packets that are sent in a replay of a capture
abbrev pub sent : Settings → List Frame → List Packet
sent settings frames = (replayed settings frames).packets

-- the journal at the end of a capture, its newest entry first
abbrev pub kept : Settings → List Frame → Journal
kept settings frames = (replayed settings frames).after.memory

-- the outcome of a capture in rounds of a size; `ns` has for each round the lengths of the journal by which its data
-- packets are decided
abbrev pub shared : Settings → List Frame → ℕ → List (List ℕ) → Outcome (Router Journal)
shared settings frames size ns = rounds settings frames size ns

-- the lines that are reported of a capture in rounds; `sent_in_rounds` has the packets, `kept_in_rounds` the journal
abbrev pub said_in_rounds : Settings → List Frame → ℕ → List (List ℕ) → List ℕ
said_in_rounds settings frames size ns = (shared settings frames size ns).lines

abbrev pub sent_in_rounds : Settings → List Frame → ℕ → List (List ℕ) → List Packet
sent_in_rounds settings frames size ns = (shared settings frames size ns).packets

abbrev pub kept_in_rounds : Settings → List Frame → ℕ → List (List ℕ) → Journal
kept_in_rounds settings frames size ns = (shared settings frames size ns).after.memory

-- the ends of a round of these frames behind a frame of the moment `previous`, by the journal before the round: the
-- lengths of the journal by which data packets may be decided
abbrev pub ends_of : Settings → Journal → ℕ → List Frame → List ℕ
ends_of settings before previous frames = ends settings before (events_after (Some previous) frames)

-- the text of a report: these lines, each with a line feed behind it
abbrev pub report : List (List ℕ) → List ℕ
report lines = flat_map (λ line. line ++ 10 ∷ []) lines

-- a packet that is sent at a moment
abbrev pub packet_at : ℕ → List ℕ → Packet
packet_at moment octets = record { moment = moment; octets = octets }

-- raw frames of these packets, one at each tenth of a second from tenth n on; `frames` begins at tenth 0
abbrev pub frames_from : ℕ → List (List ℕ) → List Frame
frames_from n [] = []
frames_from n (octets ∷ others) = raw (n + 1) (tenths n) octets ∷ frames_from (n + 1) others

abbrev pub frames : List (List ℕ) → List Frame
frames packets = frames_from 0 packets

-- the instance of the request that a packet answers, a tenth of a second after `asking_site` made one for `packet`
abbrev pub answered_by : List ℕ → Option ℕ
answered_by octets = heard_instance asking_site (view (kept asking_site (frames (packet ∷ []))) (tenths 1)) (raw 2 (tenths 1) octets)

-- the text of the verdict on the first packet of a capture
abbrev pub verdict_on : List ℕ → Settings → List ℕ
verdict_on octets settings =
    verdict_text (decide settings (statics settings) (tenths 0) (raw 1 (tenths 0) octets)).verdict

-- the notices of a tunnel packet with a LISP header of these digits; `told_by_packet` has those of `packet` behind a
-- journal
abbrev pub told_by : Settings → List ℕ → List Notice
told_by settings header = (decide settings (statics settings) (tenths 0) (raw 1 (tenths 0) (inward header))).notices

abbrev pub told_by_packet : Settings → Journal → List Notice
told_by_packet settings before = (decide settings before (tenths 0) (raw 1 (tenths 0) packet)).notices

-- the verdict on a tunnel packet, by its destination version and the version of the site's prefix
abbrev pub to_version : ℕ × ℕ → List ℕ
to_version versions = verdict_on (with_versions 0 versions.0) (site_of_versions versions.1 0)

-- the verdict on a tunnel packet, by its source version and the version of the mapping for its source
abbrev pub from_version : ℕ × ℕ → List ℕ
from_version versions = verdict_on (with_versions versions.0 0) (site_of_versions 0 versions.1)

-- a journal with a Map-Request; in `asked_twice` it was sent again after one second, in `waiting` also after three
abbrev pub asked_once : Journal
asked_once = Asked (seconds 0) host (Some (V4 0x0a010005)) false 0x0102030405060708 ∷ []

abbrev pub asked_twice : Journal
asked_twice = Retried (seconds 1) 0x0102030405060708 ∷ asked_once

abbrev pub waiting : Journal
waiting = Retried (seconds 3) 0x0102030405060708 ∷ asked_twice

-- the verdict on the Map-Reply that comes at a moment behind the journal `waiting`
abbrev pub reply_at : ℕ → List ℕ
reply_at moment = verdict_text (hear asking_site waiting moment (raw 2 moment reply)).verdict

-- whether each open request of a journal is to be sent again at a moment
abbrev pub due_at : Journal → ℕ → List Bool
due_at before moment = map (due moment) (view before moment).requests

-- the change of a journal by the second that begins n seconds after the begin
abbrev pub second : Settings → Journal → ℕ → Change Journal
second settings before n = tick settings before (1700000000 + n)

-- the locator that an entry probes, or None
abbrev pub probed_in : Entry → Option Addr
probed_in (Probed moment rloc nonce) = Some rloc
probed_in _ = None

-- the locators that are probed at the second n, in order
abbrev pub probed_at : Settings → Journal → ℕ → List Addr
probed_at settings before n = filter_map probed_in (second settings before n).entries

-- the nonce of the request that an entry marks as sent again, or None; `retried_at` has those of the second n, in order
abbrev pub retried_in : Entry → Option ℕ
retried_in (Retried moment nonce) = Some nonce
retried_in _ = None

abbrev pub retried_at : Settings → Journal → ℕ → List ℕ
retried_at settings before n = filter_map retried_in (second settings before n).entries

-- a journal with two open requests, the later of which has the lesser nonce
abbrev pub two_asked : Journal
two_asked = Asked (seconds 1) wide None true 2 ∷ Asked (seconds 0) host (Some (V4 0x0a010005)) false 5 ∷ []

-- the locators that are probed at the begin, by a site with these own locators and a mapping to these locators
abbrev pub probes_of : List OwnLocator → List Locator → List Addr
probes_of own locators = probed_at (site_probing own locators) (statics (site_probing own locators)) 0

-- a journal with a mapping that was learned for a minute
abbrev pub learned_for_a_minute : Journal
learned_for_a_minute = Learned (seconds 0) (mapping 1 wide_of_0 (locator far ∷ [])) false ∷ []

-- a journal with three mappings that name 198.51.100.7, two of them 198.51.100.8 too; that of the least EID names the
-- first with priority 255
abbrev pub shared_locators : Journal
shared_locators =
    Learned (seconds 0) (mapping 60 narrow_of_0 (locator far ∷ [])) false
    ∷ Learned (seconds 0) (mapping 60 wide_of_0 (record (locator far) { priority = 255 } ∷ locator (far_off 8) ∷ [])) false
    ∷ Learned (seconds 0) (mapping 60 next_of_0 (locator far ∷ locator (far_off 8) ∷ [])) false
    ∷ []

-- the static mappings of a site, and probes behind them, each by its second and its locator, the last first
abbrev pub probed_before : Settings → List (ℕ × Addr) → Journal
probed_before settings probes = map (λ probe. Probed (seconds probe.0) probe.1 0) probes ++ statics settings

-- a journal with an open probe of 198.51.100.7; in `probed_twice` a second probe follows after a minute
abbrev pub probed_once : Journal
probed_once = Probed (seconds 0) far 0x0102030405060708 ∷ []

abbrev pub probed_twice : Journal
probed_twice = Probed (seconds 60) far 0x1112131415161718 ∷ probed_once

-- the journal `probed_once` with its probe answered after a second; in `probed_again` a second probe follows after a
-- minute
abbrev pub answered_once : Journal
answered_once = ProbeAnswered (seconds 1) 0x0102030405060708 ∷ probed_once

abbrev pub probed_again : Journal
probed_again = Probed (seconds 60) far 0x1112131415161718 ∷ answered_once

-- a journal with an echo that is requested; behind it `data_came` has data without the echo, `echo_came` the echo, and
-- `echo_asked_and_wanted` a wanted echo
abbrev pub echo_asked : Journal
echo_asked = EchoStarted (seconds 0) far 0xaa ∷ []

abbrev pub data_came : Journal
data_came = DataFrom (seconds 2) far ∷ echo_asked

abbrev pub echo_came : Journal
echo_came = EchoHeard (seconds 2) far ∷ echo_asked

abbrev pub echo_asked_and_wanted : Journal
echo_asked_and_wanted = EchoWanted (seconds 1) far 0x2a ∷ echo_asked

-- the journal of a site that requests echoes, after `packet`, with which it requests one, and a second frame at a
-- moment
abbrev pub after_asking : ℕ → List ℕ → Journal
after_asking moment octets = kept echoing_site (raw 1 (seconds 0) packet ∷ raw 2 moment octets ∷ [])

-- a journal with an echo that is wanted
abbrev pub echo_wanted : Journal
echo_wanted = EchoWanted (seconds 0) far 0x2a ∷ []

-- a journal with an SMR that was sent
abbrev pub solicited_once : Journal
solicited_once = Solicited (seconds 0) far home_of_0 1 ∷ []

-- n echoes that are requested; `wishes_of` has n wanted echoes, `solicits_of` n SMRs that were sent
abbrev pub starts_of : ℕ → List EchoStart
starts_of n =
    replicate n (record { moment = seconds 0; rloc = far; nonce = 0xaa; heard = false; came = false })

abbrev pub wishes_of : ℕ → List EchoWish
wishes_of n = replicate n (record { moment = seconds 0; rloc = far; nonce = 0x2a })

abbrev pub solicits_of : ℕ → List Solicitation
solicits_of n = replicate n (record { moment = seconds 0; rloc = far; eid = home_of_0 })

-- whether no probe of a journal counts against 198.51.100.7 at a moment
abbrev pub up_at : Journal → ℕ → Bool
up_at before moment = probe_up moment (observed before).probes far

-- the verdict on the answer `first_answer` at a moment behind a journal
abbrev pub answer_at : Journal → ℕ → List ℕ
answer_at before moment = verdict_text (hear probing_site before moment (raw 2 moment first_answer)).verdict

-- the candidates that flow hashes choose among usable ones of priority 1, by their weights
abbrev pub choices : List ℕ → List ℕ → List (Option ℕ)
choices weights hashes =
    map (chosen (map (λ weight. record { usable = true; priority = 1; weight = weight }) weights)) hashes

-- ### captures

-- `packet` without a mapping, the Map-Reply to the request for one, and `packet` again
abbrev pub exchange : List (List ℕ)
exchange = packet ∷ reply ∷ packet ∷ []

-- `packet` five times without a mapping, the Map-Reply to the request for one, and `packet` twice more
abbrev pub busy_exchange : List (List ℕ)
busy_exchange = packet ∷ packet ∷ packet ∷ packet ∷ packet ∷ reply ∷ packet ∷ packet ∷ []

-- for each round of four of `busy_exchange` the lengths of the journal by which its data packets are decided: all at
-- its begin; in `all_late` all at its end, in `mixed` some of both
abbrev pub all_early : List (List ℕ)
all_early = (0 ∷ 0 ∷ 0 ∷ 0 ∷ []) ∷ (1 ∷ 1 ∷ 1 ∷ []) ∷ []

abbrev pub all_late : List (List ℕ)
all_late = (0 ∷ 0 ∷ 0 ∷ 0 ∷ []) ∷ (3 ∷ 3 ∷ 3 ∷ []) ∷ []

abbrev pub mixed : List (List ℕ)
mixed = (0 ∷ 0 ∷ 0 ∷ 0 ∷ []) ∷ (3 ∷ 1 ∷ 3 ∷ []) ∷ []

-- for each round of one of `busy_exchange` the length of the journal by which its data packet is decided; none for the
-- Map-Reply
abbrev pub by_ones : List (List ℕ)
by_ones =
    (0 ∷ []) ∷ (1 ∷ []) ∷ (1 ∷ []) ∷ (1 ∷ []) ∷ (1 ∷ []) ∷ [] ∷ (3 ∷ []) ∷ (3 ∷ []) ∷ []

-- the journal of `busy_exchange` after its first round of four
abbrev pub after_the_first : Journal
after_the_first = Asked (tenths 3) host (Some (V4 0x0a010005)) false 0x0102030405060708 ∷ []

-- the packets of `exchange` at the router's link, with an ARP frame, the packets that the router sends, a tunnel
-- packet, and the packet that leaves it
abbrev pub at_the_link : List Frame
at_the_link =
    wired 1 arp ∷ wired 2 (framed packet) ∷ wired 3 (framed asked) ∷ wired 4 (framed reply)
    ∷ wired 5 (framed packet) ∷ wired 6 (framed encapsulated_in_100) ∷ wired 7 (framed inbound)
    ∷ wired 8 (framed inbound_delivered) ∷ []

-- `packet` without a mapping, and the Map-Reply at a moment
abbrev pub replied_at : ℕ → List Frame
replied_at moment = raw 1 (seconds 0) packet ∷ raw 2 moment reply ∷ []

-- a packet before a probe, one while the probe is open and one after that; then a packet, the answer to the next probe,
-- and a packet
abbrev pub around_probes : List Frame
around_probes =
    raw 1 (tenths 5) packet ∷ raw 2 (tenths 39) packet ∷ raw 3 (seconds 4) packet ∷ raw 4 (tenths 614) packet
    ∷ raw 5 (tenths 615) second_answer ∷ raw 6 (tenths 616) packet ∷ []

-- a packet before a probe, an answer to the probe, and a packet three seconds after the probe
abbrev pub around_answer : List ℕ → List Frame
around_answer answer = raw 1 (tenths 5) packet ∷ raw 2 (tenths 15) answer ∷ raw 3 (seconds 4) packet ∷ []

-- packets from the site at 0, 1, 10 and 60 s, and at 2 s a tunnel packet with a LISP header of these digits
abbrev pub around_echo : List ℕ → List Frame
around_echo header =
    raw 1 (seconds 0) packet ∷ raw 2 (seconds 1) packet ∷ raw 3 (seconds 2) (inward header)
    ∷ raw 4 (seconds 10) packet ∷ raw 5 (seconds 60) packet ∷ []

-- a tunnel packet that wants an echo, and packets to its locator
abbrev pub around_wish : List Frame
around_wish =
    raw 1 (seconds 0) (inward (codes "a000002a00000000")) ∷ raw 2 (seconds 1) packet
    ∷ raw 3 (just_before (seconds 2)) packet ∷ raw 4 (seconds 2) packet ∷ []

-- packets while an echo is requested, and among them a tunnel packet that wants another echo
abbrev pub around_both : List Frame
around_both =
    raw 1 (seconds 0) packet ∷ raw 2 (seconds 1) packet ∷ raw 3 (tenths 15) (inward (codes "a000002a00000000"))
    ∷ raw 4 (tenths 16) packet ∷ raw 5 (tenths 35) packet ∷ raw 6 (seconds 10) packet ∷ []

-- tunnel packets with the destination version 6, twice with 4, and with none
abbrev pub to_versions : List Frame
to_versions =
    raw 1 (seconds 0) (with_versions 0 6) ∷ raw 2 (seconds 1) (with_versions 0 4)
    ∷ raw 3 (seconds 2) (with_versions 0 4) ∷ raw 4 (seconds 3) (with_versions 0 0) ∷ []

-- tunnel packets with the destination version 4, for ten seconds
abbrev pub to_version_4 : List Frame
to_version_4 =
    raw 1 (seconds 0) (with_versions 0 4) ∷ raw 2 (just_before (seconds 10)) (with_versions 0 4)
    ∷ raw 3 (seconds 10) (with_versions 0 4) ∷ []

-- a packet without a mapping, the Map-Reply with a mapping of version 7, then tunnel packets of instance 100 with the
-- source versions 8 and 6
abbrev pub from_versions : List (List ℕ)
from_versions =
    packet ∷ reply_of_version_7 ∷ inward (codes "1800800000006400") ∷ inward (codes "1800600000006400") ∷ []

-- a packet without a mapping, a Map-Reply at 0.1 s with a mapping for a minute, and packets a nanosecond before its end
-- and at its end
abbrev pub at_the_end_of : List ℕ → List Frame
at_the_end_of reply =
    raw 1 (tenths 0) packet ∷ raw 2 (tenths 1) reply
    ∷ raw 3 1700000060099999999 packet ∷ raw 4 1700000060100000000 packet ∷ []

-- `packet` at 0 s and at 2 s
abbrev pub twice : List Frame
twice = raw 1 (seconds 0) packet ∷ raw 2 (seconds 2) packet ∷ []

-- the locator that gets the SMR of an entry, or None; `told_at` has those of the second n, in order
abbrev pub told_in : Entry → Option Addr
told_in (Solicited moment rloc eid nonce) = Some rloc
told_in _ = None

abbrev pub told_at : Settings → Journal → ℕ → List Addr
told_at settings before n = filter_map told_in (second settings before n).entries

-- the records of the site's prefixes behind a journal, as a Map-Reply has them; `versions_after` has their versions,
-- `reachable_after` whether each of their locators is reachable
abbrev pub records_after : Settings → Journal → List Record
records_after settings before = map (own_record (standing settings before) None) (standing settings before).databases

abbrev pub versions_after : Settings → Journal → List ℕ
versions_after settings before = map (λ (mapping : Record). mapping.version) (records_after settings before)

abbrev pub reachable_after : Settings → Journal → List Bool
reachable_after settings before =
    flat_map (λ (mapping : Record). map (λ (l : Locator). l.reachable) mapping.locators) (records_after settings before)
