use Rattle.std.proofs.Common.{arith, ◌∙◌}
use Rattle.keyed_list.proofs.FewLemmas.{ages-few, marks-few}
use Rattle.keyed_list.proofs.KeyedLemmas.{keyed-push, other-found, put-items, put-length, put-less}
use Rattle.keyed_list.proofs.list.KeyedList.push.Goals as goal

pub put_marks-before-requires : goal.put_marks-before-requires
put_marks-before-requires g c =
    let few = marks-few _ _ _ _ c.self.invariant.0 c.len.ensures.ascends in
    let room = rw (← c.self.view_is) at c.requires in
    omega (arith, few, room, c.self.invariant.2.keys)

pub add_age-requires : goal.add_age-requires
add_age-requires g c =
    let few = ages-few _ _ _ _ c.self.invariant.0 c.len-2.ensures.ascends in
    let room = rw (← c.self.view_is) at c.requires in
    omega (arith, few, room, c.self.invariant.2.ages)

pub put-requires-clause-first : goal.put-requires-clause-first
put-requires-clause-first g c = c.put_marks-before.ensures.first ∙ c.self.invariant.0.found c.marks-marks.result.key

pub put-requires-clause-second : goal.put-requires-clause-second
put-requires-clause-second g c =
    other-found g.T.Keyed.marks_of c.self.inside.list.items c.self.inside.index.keys c.self.invariant.0.found c.put_marks-before.result.1 c.marks-marks.result.other c.put_marks-before.ensures.second

pub invariant_of-self : goal.invariant_of-self
invariant_of-self g c =
    let more = put-length c.args.item c.self.inside.next c.put_marks-before.result.0 c.put_marks-before.result.1 c.put.new.list.items c.put.ensures.put c.self.invariant.1 in (
      keyed-push _ _ c.self.invariant.0 c.args.item c.self.inside.next c.put_marks-before.result.0 c.put_marks-before.result.1 c.put.new.list.items c.put.ensures.put c.self.invariant.1 c.marks-marks.result c.marks-marks.ensures c.put_marks-before.ensures.first c.put_marks-before.ensures.second c.put_marks-before.ensures.numbers c.add_age.ensures.members,
      put-less c.args.item c.self.inside.next c.put_marks-before.result.0 c.put_marks-before.result.1 c.put.new.list.items c.put.ensures.put c.self.invariant.1,
      record {
        few = omega (arith, more, c.put.ensures.spare, c.self.invariant.2.few);
        keys = omega (arith, more, c.put.ensures.spare, c.put_marks-before.ensures.total, c.self.invariant.2.keys);
        ages = omega (arith, more, c.put.ensures.spare, c.add_age.ensures.total, c.self.invariant.2.ages);
      },
    )

pub returns-clause-items : goal.returns-clause-items
returns-clause-items g c =
    rw (← c.self.view_is) (put-items c.args.item c.self.inside.next c.put_marks-before.result.0 c.put_marks-before.result.1 c.put.new.list.items c.put.ensures.put c.self.invariant.1)
