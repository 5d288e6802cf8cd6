use Rattle.std.proofs.Common.{arith}
use Rattle.router_core.specs.Table.{change_of}
use Rattle.router_core.proofs.SecondLemmas.{made-none, made-one}
use Rattle.router_core.proofs.table.Table.make_change.Goals as goal

pub returns-then-moment_of-m-clause-change : goal.returns-then-moment_of-m-clause-change
returns-then-moment_of-m-clause-change c settings =
    made-none c.args.m settings c.args.change.now (change_of c.args.self.now.parts c.args.entries.now.items _)
    (omega (arith, c.if-moment_of-m.true, c.moment_of.ensures))

pub returns-clause-change : goal.returns-clause-change
returns-clause-change c settings =
    made-one c.args.m settings c.args.change.now c.args.self.now.parts _ c.args.entries.now.items _
    (omega (arith, c.if-moment_of-m.false, c.moment_of.ensures))
    c.enter_change.ensures.parts c.push_reserved.ensures.items
