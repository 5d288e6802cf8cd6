use Rattle.desk.proofs.HostLemmas.{given-set}
use Rattle.desk.proofs.host.read_host.Goals as goal

pub returns-clause-given : goal.returns-clause-given
returns-clause-given g c =
    given-set 0 c.args.files.now.items c.args.number c.in_ok-get_mut.field-0.now c.read.new.self c.in_ok-get_mut.ensures.value c.read.ensures.kind
