use Rattle.std.proofs.Common.{◌≡◌, ◌++◌, ℕ, List, OnOk, subst, ◌∙◌}
use Rattle.capture_io.specs.Output.{packet_record}
use Rattle.trial_input.specs.Trial.{packet_to}
use Rattle.trial_input.proofs.capture.push_packet.Goals as goal

pub returns : goal.returns
returns c =
    subst (λ (octets : List ℕ). OnOk c.write_packet.result (c.write_packet.new.out ≡ c.args.file.now ++ packet_record (packet_to c.args.dest c.args.j).moment octets))
    (c.as_slice.ensures ∙ c.in_ok-datagram.ensures.octets)
    (subst (λ (j : ℕ). OnOk c.write_packet.result (c.write_packet.new.out ≡ c.args.file.now ++ packet_record (packet_to c.args.dest j).moment c.as_slice.result.now))
    c.from.ensures c.write_packet.ensures.ok)
