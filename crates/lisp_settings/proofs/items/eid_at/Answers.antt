use Rattle.toml.specs.View.{table_view}
use Rattle.lisp_settings.proofs.EidLemmas.{eid_in-parts}
use Rattle.lisp_settings.proofs.items.eid_at.Goals as goal

pub returns-clause-ok : goal.returns-clause-ok
returns-clause-ok c = eid_in-parts (table_view c.args.table.now) _ c.in_ok-iid.ensures.ok c.in_ok-prefix.ensures.ok
