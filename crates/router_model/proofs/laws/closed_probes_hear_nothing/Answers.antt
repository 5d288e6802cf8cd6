use Rattle.router_model.specs.Changes.{journal, unchanged}
use Rattle.router_model.proofs.ViewLemmas.{probe_heard-foreign, probe_heard-unsolicited}
use Rattle.router_model.proofs.laws.closed_probes_hear_nothing.Goals as goal

pub returns-clause-closed : goal.returns-clause-closed
returns-clause-closed c settings before m from reply probe closed = probe_heard-unsolicited journal settings m from reply (unchanged before) probe closed

pub returns-clause-foreign : goal.returns-clause-foreign
returns-clause-foreign c settings before m from rloc reply probe found other = probe_heard-foreign journal settings m from rloc reply (unchanged before) probe found other
