use Rattle.std.proofs.Common.{List, ℕ, Some, ◌≡◌, ap, subst}
use Rattle.std.proofs.lemmas.Result.{on_ok_weaker}
use Rattle.capture_events.specs.Events.{Packet}
use Rattle.router_model.specs.Plain.{packet_of, packets_of}
use Rattle.replay.specs.Taking.{Sends}
use Rattle.replay.proofs.taking.push_sent.Goals as goal

pub returns-in-Some : goal.returns-in-Some
returns-in-Some c =
    let octets : List ℕ = c.as_slice.result.now in
    let is : Some octets ≡ packet_of c.args.verdict = cc in
    on_ok_weaker c.gather_packet.result (λ sends.
    subst (λ (packets : List Packet). Sends packets c.args.output.now c.gather_packet.new.output) (ap (packets_of c.args.moment) is) sends) c.gather_packet.ensures
