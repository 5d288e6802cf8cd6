use Rattle.std.proofs.Common.{◌≡◌, ◌++◌, ◌+◌, map, sym, ap, ◌∙◌, subst, arith}
use Rattle.std.proofs.lemmas.List.FromFn.{map-range_with_len_more}
use Rattle.std.specs.List.{range_with_len}
use Rattle.octets.specs.Rules.{first_failing}
use Rattle.capture_io.specs.Capture.{header_rules}
use Rattle.capture_io.specs.Frames.{capture}
use Rattle.capture_io.specs.Output.{out_header, packet_record}
use Rattle.capture_events.specs.Events.{records_of}
use Rattle.trial_input.specs.Trial.{packet_to, trial_packet, trial_packets}
use Rattle.trial_input.proofs.CaptureLemmas.{records-more, trial_packets-in_order, trial_packets-length}
use Rattle.trial_input.proofs.capture.trial_capture.Goals as goal

pub loop-j-preserved : goal.loop-j-preserved
loop-j-preserved c =
    let n = c.args.n in
    let j = c.loop-j.j in
    let pushed = subst (λ addr. c.push_packet.new.file ≡ c.loop-j.file ++ packet_record (packet_to (addr + 1) j).moment (packet_to (addr + 1) j).octets) c.prefix_addr.ensures.addr c.in_ok-push_packet.ensures in
    pushed
    ∙ records-more (map (trial_packet n) (range_with_len 0 j)) (trial_packet n j) c.loop-j.file c.loop-j.invariant
    ∙ ap (λ packets. out_header ++ records_of packets) (sym (map-range_with_len_more (trial_packet n) 0 j j (omega arith)))

pub returns-clause-file : goal.returns-clause-file
returns-clause-file c =
    let n = c.args.n in
    let whole : c.loop-j.j ≡ n = omega arith in
    let before : c.loop-j.file ≡ out_header ++ records_of (map (trial_packet n) (range_with_len 0 n)) =
    c.loop-j.invariant ∙ ap (λ j. out_header ++ records_of (map (trial_packet n) (range_with_len 0 j))) whole in
    c.in_ok-push_packet-2.ensures ∙ records-more (map (trial_packet n) (range_with_len 0 n)) (packet_to 0x15000001 n) c.loop-j.file before

pub returns-clause-read : goal.returns-clause-read
returns-clause-read c =
    ap capture (returns-clause-file c)
    ∙ c.what_is_written_is_read.ensures.frames (trial_packets c.args.n) (trial_packets-in_order c.args.n c.requires) (trial_packets-length c.args.n c.requires)

pub returns-clause-header : goal.returns-clause-header
returns-clause-header c =
    ap (λ file. first_failing (header_rules file)) (returns-clause-file c)
    ∙ c.what_is_written_is_read.ensures.header (records_of (trial_packets c.args.n))
