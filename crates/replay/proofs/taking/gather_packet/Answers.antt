use Rattle.replay.proofs.ReplayLemmas.{on_ok_three, sends-one}
use Rattle.replay.proofs.taking.gather_packet.Goals as goal

pub returns : goal.returns
returns c =
    on_ok_three c.push_packet.result c.push_packet.ensures.lines c.push_packet.ensures.records c.push_packet.ensures.written (λ lines records written.
    sends-one c.args.moment c.args.packet.now c.args.output.now c.push_packet.new.self lines records written)
