use Rattle.prefix_table.proofs.TakeLemmas.{never}
use Rattle.prefix_table.proofs.removal.relink.Goals as goal

pub unreachable-requires : goal.unreachable-requires
unreachable-requires g c =
    never c.args.store.now c.args.at c.args.valued c.drop_value.result c.in-Some.field-0 c.requires.live c.requires.valued c.drop_value.ensures.was c.if-valued.false c.in-Some.is
