use Rattle.router_core.proofs.HostLemmas.{host-made}
use Rattle.router_core.proofs.hosts.host_eid.Goals as goal

pub returns-clause-host : goal.returns-clause-host
returns-clause-host c = host-made _ c.args.addr c.host.ensures.addr c.host.ensures.len
