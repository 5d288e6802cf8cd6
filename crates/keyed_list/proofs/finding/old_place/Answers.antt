use Rattle.std.proofs.Common.{arith}
use Rattle.keyed_list.proofs.AgeLemmas.{all-young, none-old, old-at, old-within}
use Rattle.keyed_list.proofs.finding.old_place.Goals as goal

pub returns-in_err-age-clause-none : goal.returns-in_err-age-clause-none
returns-in_err-age-clause-none g c is =
    none-old g.T.Keyed.marks_of c.args.now c.args.life c.args.list.now.items c.args.index.now.keys c.args.ages.now.keys c.requires c.in_err-age.ensures

pub returns-then-saturating_sub-life-clause-none :
    goal.returns-then-saturating_sub-life-clause-none
returns-then-saturating_sub-life-clause-none g c is =
    all-young g.T.Keyed.marks_of c.args.now c.args.life c.args.list.now.items c.args.index.now.keys c.args.ages.now.keys c.requires c.in_ok-age.age.now c.in_ok-age.ensures c.len.ensures.ascends (omega (arith, c.saturating_sub.ensures, c.if-saturating_sub-life.true))

pub returns-clause-old : goal.returns-clause-old
returns-clause-old g c =
    old-at g.T.Keyed.marks_of c.args.now c.args.life c.args.list.now.items c.args.index.now.keys c.args.ages.now.keys c.requires c.in_ok-age.age.now c.in_ok-age.ensures c.place_of.result c.place_of.ensures (λ young. omega (arith, young, c.saturating_sub.ensures, c.if-saturating_sub-life.false))

pub returns-clause-within : goal.returns-clause-within
returns-clause-within g c =
    old-within g.T.Keyed.marks_of c.args.now c.args.life c.args.list.now.items c.args.index.now.keys c.args.ages.now.keys c.requires c.in_ok-age.age.now c.in_ok-age.ensures c.place_of.result c.place_of.ensures
