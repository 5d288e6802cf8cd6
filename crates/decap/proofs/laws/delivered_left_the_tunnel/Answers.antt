use Rattle.decap.proofs.Leaving.{leaves}
use Rattle.decap.proofs.laws.delivered_left_the_tunnel.Goals as goal

pub returns : goal.returns
returns c base outer inner is_packet fits pass = leaves base outer inner is_packet fits pass
