use Rattle.std.proofs.Common.{refl}
use Rattle.prefix_table.proofs.insert.put_below.Goals as goal

pub returns : goal.returns
returns g c = c.put_under-name.ensures c.args.value refl
