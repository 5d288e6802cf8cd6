use Rattle.std.proofs.Common.{sym, subst, ◌∙◌, arith}
use Rattle.router_core.specs.Turning.{names_at}
use Rattle.router_core.specs.declared.turns.Covered.TheVariants.{UpTo}
use Rattle.router_core.proofs.NextNameLemmas.{next-fewer}
use Rattle.router_core.proofs.ToldLemmas.{AreTold, told-all, told-few, told-most, told-next, told-none, told-past}
use Rattle.router_core.proofs.table.Table.find_told.Goals as goal

pub loop-covered-init : goal.loop-covered-init
loop-covered-init c =
    (told-none c.args.site.now (names_at c.args.m c.args.self.now.parts.mappings) c.args.told.now.items c.requires.none, c.requires.room)

pub returns-in_default-clause-items : goal.returns-in_default-clause-items
returns-in_default-clause-items c =
    told-all c.args.site.now c.args.self.now.parts c.args.m c.requires.now c.loop-covered.covered c.loop-covered.told.items c.loop-covered.invariant.0 (c.next_name.ensures.none c.in_default.is)

pub returns-in_default-clause-few : goal.returns-in_default-clause-few
returns-in_default-clause-few c =
    let few = told-few c.args.site.now (names_at c.args.m c.args.self.now.parts.mappings) c.loop-covered.covered c.loop-covered.told.items c.loop-covered.invariant.0 in
    omega (arith, few, c.loop-covered.told.ok.0)

pub returns-in_default-clause-reached : goal.returns-in_default-clause-reached
returns-in_default-clause-reached c = c.loop-covered.invariant.0.reached

pub push_reserved-requires : goal.push_reserved-requires
push_reserved-requires c = omega (arith, c.loop-covered-test.true, c.len.ensures, c.loop-covered.invariant.1)

pub loop-covered-smaller-then-is_told : goal.loop-covered-smaller-then-is_told
loop-covered-smaller-then-is_told c =
    next-fewer c.loop-covered.covered (names_at c.args.m c.args.self.now.parts.mappings) _ c.in-Some.ensures.some

pub loop-covered-preserved-then-is_told : goal.loop-covered-preserved-then-is_told
loop-covered-preserved-then-is_told c =
    let names = names_at c.args.m c.args.self.now.parts.mappings in (
      subst (AreTold c.args.site.now names (UpTo c.in-Some.rloc)) (sym c.push_reserved.ensures.items)
          (told-next c.args.site.now names c.loop-covered.covered c.loop-covered.told.items c.loop-covered.invariant.0 _ c.in-Some.ensures.some (sym c.is_told.ensures ∙ c.if-is_told.true) (omega (arith, c.loop-covered-test.true, c.len.ensures, c.loop-covered.told.ok.0))),
      omega (arith, c.push_reserved.ensures.capacity, c.loop-covered.invariant.1),
    )

pub loop-covered-smaller : goal.loop-covered-smaller
loop-covered-smaller c =
    next-fewer c.loop-covered.covered (names_at c.args.m c.args.self.now.parts.mappings) _ c.in-Some.ensures.some

pub loop-covered-preserved : goal.loop-covered-preserved
loop-covered-preserved c =
    let names = names_at c.args.m c.args.self.now.parts.mappings in (
      told-past c.args.site.now names c.loop-covered.covered c.loop-covered.told.items c.loop-covered.invariant.0 _ c.in-Some.ensures.some (sym c.is_told.ensures ∙ c.if-is_told.false),
      c.loop-covered.invariant.1,
    )

pub returns-clause-items : goal.returns-clause-items
returns-clause-items c =
    told-most c.args.site.now c.args.self.now.parts c.args.m c.requires.now c.loop-covered.covered c.loop-covered.told.items c.loop-covered.invariant.0 (omega (arith, c.loop-covered-test.false, c.len.ensures, c.loop-covered.told.ok.0))

pub returns-clause-few : goal.returns-clause-few
returns-clause-few c =
    let few = told-few c.args.site.now (names_at c.args.m c.args.self.now.parts.mappings) c.loop-covered.covered c.loop-covered.told.items c.loop-covered.invariant.0 in
    omega (arith, few, c.loop-covered.told.ok.0)

pub returns-clause-reached : goal.returns-clause-reached
returns-clause-reached c = c.loop-covered.invariant.0.reached
