use Rattle.std.proofs.Common.{◌≡◌, ◌∙◌, None, Some, find, is_none, refl, sym, subst, arith}
use Rattle.std.proofs.lemmas.Bool.{and_parts}
use Rattle.locator_state.specs.Probes.{last_probe}
use Rattle.locator_state.specs.declared.target.Target.{Target}
use Rattle.router_model.specs.Tick.{is_told}
use Rattle.router_core.specs.Turning.{eligible, has_address, names_at}
use Rattle.router_core.specs.declared.turns.Covered.TheVariants.{UpTo}
use Rattle.router_core.proofs.EligibleLemmas.{eligible-last, eligible-named, eligible-told, name-eligible}
use Rattle.router_core.proofs.FreshLemmas.{AreFound, found-next, found-past, fresh-all, fresh-most, fresh-no, fresh-none, fresh-one}
use Rattle.router_core.proofs.NextNameLemmas.{next-fewer}
use Rattle.router_core.proofs.table.Table.find_fresh.Goals as goal

pub loop-covered-init : goal.loop-covered-init
loop-covered-init c =
    let site = c.args.site.now in
    let p = c.args.self.now.parts in
    let m = c.args.m in
    let all = eligible site p m in (
      subst (AreFound 16 all c.args.turns.covered) (sym c.requires.none)
          (fresh-none site m p.observed.probes (names_at m p.mappings) all (eligible-told site p m c.requires.now) (eligible-last site p m c.requires.now) p.own c.args.turns c.requires.own c.requires.walked c.requires.known (eligible-named site p m c.requires.now)),
      omega arith,
    )

pub returns-in_default-clause-fresh : goal.returns-in_default-clause-fresh
returns-in_default-clause-fresh c =
    let site = c.args.site.now in
    let p = c.args.self.now.parts in
    let m = c.args.m in
    fresh-all (eligible site p m) c.loop-covered.first.items c.loop-covered.covered c.loop-covered.invariant.0 (names_at m p.mappings) (eligible-named site p m c.requires.now) (c.next_name.ensures.none c.in_default.is)

pub returns-in_default-clause-capacity : goal.returns-in_default-clause-capacity
returns-in_default-clause-capacity c = c.loop-covered.invariant.1

pub push_reserved-requires : goal.push_reserved-requires
push_reserved-requires c = omega (arith, c.loop-covered-test.true, c.len.ensures, c.requires.room, c.loop-covered.invariant.1)

pub loop-covered-smaller-then-is_fresh : goal.loop-covered-smaller-then-is_fresh
loop-covered-smaller-then-is_fresh c =
    next-fewer c.loop-covered.covered (names_at c.args.m c.args.self.now.parts.mappings) (c.in-Some.rloc, c.in-Some.eid) c.in-Some.ensures.some

pub loop-covered-preserved-then-is_fresh : goal.loop-covered-preserved-then-is_fresh
loop-covered-preserved-then-is_fresh c =
    let site = c.args.site.now in
    let p = c.args.self.now.parts in
    let m = c.args.m in
    let all = eligible site p m in
    let first = c.loop-covered.first.items in
    let rloc = c.in-Some.rloc in
    let eid = c.in-Some.eid in
    let target : Target = record { rloc = rloc; eid = eid; last = None } in
    let parts = and_parts (is_told site rloc) (is_none (last_probe m p.observed.probes rloc)) (sym c.is_fresh.ensures ∙ c.if-is_fresh.true) in
    let found : find (has_address rloc) all ≡ Some target = fresh-one m rloc eid all (last_probe m p.observed.probes rloc) parts.1 (name-eligible site p m c.requires.now rloc eid c.in-Some.ensures.some.first parts.0) in (
      subst (AreFound 16 all (UpTo rloc)) (sym c.push_reserved.ensures.items)
          (found-next 16 all first c.loop-covered.covered c.loop-covered.invariant.0 (names_at m p.mappings) (eligible-named site p m c.requires.now) (rloc, eid) c.in-Some.ensures.some target refl refl found (omega (arith, c.loop-covered-test.true, c.len.ensures, c.loop-covered.first.ok.0))),
      omega (arith, c.push_reserved.ensures.capacity, c.loop-covered.invariant.1),
    )

pub loop-covered-smaller : goal.loop-covered-smaller
loop-covered-smaller c =
    next-fewer c.loop-covered.covered (names_at c.args.m c.args.self.now.parts.mappings) (c.in-Some.rloc, c.in-Some.eid) c.in-Some.ensures.some

pub loop-covered-preserved : goal.loop-covered-preserved
loop-covered-preserved c =
    let site = c.args.site.now in
    let p = c.args.self.now.parts in
    let m = c.args.m in
    let all = eligible site p m in (
      found-past 16 all c.loop-covered.first.items c.loop-covered.covered c.loop-covered.invariant.0 (names_at m p.mappings) (eligible-named site p m c.requires.now) (c.in-Some.rloc, c.in-Some.eid) c.in-Some.ensures.some
          (fresh-no site m p.observed.probes (names_at m p.mappings) all (eligible-told site p m c.requires.now) (eligible-last site p m c.requires.now) c.in-Some.rloc (sym c.is_fresh.ensures ∙ c.if-is_fresh.false)),
      c.loop-covered.invariant.1,
    )

pub returns-clause-fresh : goal.returns-clause-fresh
returns-clause-fresh c =
    fresh-most (eligible c.args.site.now c.args.self.now.parts c.args.m) c.loop-covered.first.items c.loop-covered.covered c.loop-covered.invariant.0 (omega (arith, c.loop-covered-test.false, c.len.ensures, c.loop-covered.first.ok.0))

pub returns-clause-capacity : goal.returns-clause-capacity
returns-clause-capacity c = c.loop-covered.invariant.1
