use Rattle.std.proofs.Common.{◌≡◌, ◌+◌, ◌==◌, nat_lt, false, cond, count_by, take, ℕ, sym, ap, ◌∙◌, arith, eq-eqb, ne_eqb, le-ltb}
use Rattle.std.proofs.lemmas.Option.{slice_get_within}
use Rattle.map_cache.specs.Indexed.{has_ended_in}
use Rattle.map_cache.proofs.EndedInLemmas.{ended-all, ended-later, ended-next}
use Rattle.map_cache.proofs.endings.ended_in.Goals.{then-ending-iid, else-ending-iid}
use Rattle.map_cache.proofs.endings.ended_in.Goals as goal

pub returns-then-from-ending : goal.returns-then-from-ending
returns-then-from-ending c =
    c.loop-ending.invariant.2
    ∙ ended-later c.args.m c.args.iid c.args.endings.now.keys c.loop-ending.index c.in-Some.ending.now c.len.ensures.ascends (sym c.in-Some.ensures) (omega (arith, c.from.ensures, c.if-from-ending.true))

pub overflow_add-ended : goal.overflow_add-ended
overflow_add-ended c =
    let within = slice_get_within c.args.endings.now.keys c.loop-ending.index c.in-Some.ending.now (sym c.in-Some.ensures) in
    omega (arith, within, c.requires, c.loop-ending.invariant.1)

pub loop-ending-smaller : goal.loop-ending-smaller
loop-ending-smaller c =
    let within = slice_get_within c.args.endings.now.keys c.loop-ending.index c.in-Some.ending.now (sym c.in-Some.ensures) in
    omega (arith, within)

pub loop-ending-preserved : goal.loop-ending-preserved
loop-ending-preserved c =
    let keys = c.args.endings.now.keys in
    let i = c.loop-ending.index in
    let key = c.in-Some.ending.now in
    let within = slice_get_within keys i key (sym c.in-Some.ensures) in
    let over : nat_lt c.args.m key.end ≡ false = le-ltb c.args.m key.end (omega (arith, c.from.ensures, c.if-from-ending.false)) in
    let next : count_by (has_ended_in c.args.m c.args.iid) (take (i + 1) keys) ≡ count_by (has_ended_in c.args.m c.args.iid) (take i keys) + cond (key.eid.iid == c.args.iid) 1 0 = ended-next c.args.m c.args.iid keys i key (sym c.in-Some.ensures) over in
    let so_far = c.loop-ending.invariant in
    elim c.if-ending-iid.branch [
      | then-ending-iid w ↦
          let one : count_by (has_ended_in c.args.m c.args.iid) (take (i + 1) keys) ≡ count_by (has_ended_in c.args.m c.args.iid) (take i keys) + 1 = next ∙ ap (λ b. count_by (has_ended_in c.args.m c.args.iid) (take i keys) + cond {A = ℕ} b 1 0) (eq-eqb key.eid.iid c.args.iid w.if-ending-iid.true) in
          (omega (arith, within), omega (arith, w.ended-is, so_far.1), omega (arith, w.ended-is, one, so_far.2))
      | else-ending-iid w ↦
          let none : count_by (has_ended_in c.args.m c.args.iid) (take (i + 1) keys) ≡ count_by (has_ended_in c.args.m c.args.iid) (take i keys) + 0 = next ∙ ap (λ b. count_by (has_ended_in c.args.m c.args.iid) (take i keys) + cond {A = ℕ} b 1 0) (ne_eqb key.eid.iid c.args.iid w.if-ending-iid.false) in
          (omega (arith, within), omega (arith, w.ended-is, so_far.1), omega (arith, w.ended-is, none, so_far.2))
    ]

pub returns : goal.returns
returns c =
    c.loop-ending.invariant.2
    ∙ ended-all c.args.m c.args.iid c.args.endings.now.keys c.loop-ending.index c.in_default.ensures
