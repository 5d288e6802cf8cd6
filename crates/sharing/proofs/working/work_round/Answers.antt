use Rattle.std.proofs.Common.{◌∙◌, ◌+◌, ◌++◌, List, ap, length, map, arith}
use Rattle.forwarders.specs.Rounding.{line_seen, packet_seen}
use Rattle.forwarders.specs.declared.round_done.Line.{Line}
use Rattle.forwarders.specs.declared.round_done.Packet.{Packet}
use Rattle.capture_events.specs.Events.{records_of}
use Rattle.router_model.specs.Rounds.{lines_text}
use Rattle.sharing.specs.Gathering.{state_of}
use Rattle.sharing.proofs.RoundLemmas.{on_ok_three, ready-worked, round-gathers, round-left}
use Rattle.sharing.proofs.working.work_round.Goals as goal

pub run_round-requires-clause-count : goal.run_round-requires-clause-count
run_round-requires-clause-count g c =
    let router = c.args.router.now in
    let room = round-left router.settings.now router.table.parts router.published (state_of router)
    router.octets c.args.output.now.written c.args.progress c.requires.ready c.requires.some in
    omega (arith, room.0)

pub push_packets-requires-clause-room : goal.push_packets-requires-clause-room
push_packets-requires-clause-room g c =
    let router = c.args.router.now in
    let room = round-left router.settings.now router.table.parts router.published (state_of router)
    router.octets c.args.output.now.written c.args.progress c.requires.ready c.requires.some in
    let few = rw c.as_slice.ensures.value at c.in_ok-done.ensures.packets.few in
    let number = ap (λ (l : List Packet). length l) c.as_slice-4.ensures in
    omega (arith, room.1, few, number)

pub returns-clause-gathers : goal.returns-clause-gathers
returns-clause-gathers g c =
    let router = c.args.router.now in
    let done = c.in_ok-done.done in
    let old = c.args.output.now in
    let round = rw c.as_slice.ensures.value at c.in_ok-done.ensures.round in
    let said = c.in_ok-push_lines.ensures ∙ ap (λ (l : List Line). old.lines ++ lines_text (map line_seen l)) c.as_slice-3.ensures in
    on_ok_three c.push_packets.result c.push_packets.ensures.lines c.push_packets.ensures.records c.push_packets.ensures.written (λ lines records written.
    rw (c.clear.ensures.items, c.closing_moment.ensures, c.as_slice-2.ensures.value)
    (round-gathers router.settings.now router.published c.run_round.new.published router.size router.previous router.frames.items c.run_round.new.table.parts done old c.push_packets.new.output round
    (lines ∙ said) (records ∙ ap (λ (l : List Packet). old.records ++ records_of (map packet_seen l)) c.as_slice-4.ensures) (written ∙ ap (λ (l : List Packet). old.written + length l) c.as_slice-4.ensures)))

pub returns-clause-ready : goal.returns-clause-ready
returns-clause-ready g c =
    let router = c.args.router.now in
    let done = c.in_ok-done.done in
    let old = c.args.output.now in
    let ensured = c.in_ok-done.ensures in
    let round = rw c.as_slice.ensures.value at ensured.round in
    let entered = rw c.as_slice.ensures.value at ensured.entered in
    let few = rw c.as_slice.ensures.value at ensured.packets.few in
    let number = ap (λ (l : List Packet). length l) c.as_slice-4.ensures in
    on_ok_three c.push_packets.result c.push_packets.ensures.written c.push_packets.ensures.written c.push_packets.ensures.written (λ written same still.
    rw (c.clear.ensures.items, c.closing_moment.ensures, c.as_slice-2.ensures.value)
    (ready-worked router.settings.now router.published c.run_round.new.published router.table.parts c.run_round.new.table.parts router.size router.previous router.frames.items router.octets old.written c.push_packets.new.output.written
    c.args.progress done c.requires.ready c.requires.some round ensured.published entered (omega (arith, written, number, few))))
