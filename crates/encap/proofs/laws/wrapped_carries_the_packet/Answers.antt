use Rattle.encap.proofs.Tunnel.{carried}
use Rattle.encap.proofs.laws.wrapped_carries_the_packet.Goals as goal

pub returns : goal.returns
returns c base inner from to port lisp is_packet pass same from_fits to_fits port_fits range =
    carried base inner from to port lisp is_packet pass same from_fits to_fits port_fits range
