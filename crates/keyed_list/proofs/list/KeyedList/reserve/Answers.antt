use Rattle.std.proofs.Common.{arith}
use Rattle.keyed_list.proofs.FewLemmas.{ages-few, marks-few}
use Rattle.keyed_list.proofs.list.KeyedList.reserve.Goals as goal

pub overflow_cast-len-2 : goal.overflow_cast-len-2
overflow_cast-len-2 g c =
    let few = marks-few _ _ _ _ c.self.invariant.0 c.len.ensures.ascends in
    omega (arith, few, c.len.ensures.len, c.self.invariant.2.few)

pub overflow_sub-all : goal.overflow_sub-all
overflow_sub-all g c =
    let few = marks-few _ _ _ _ c.self.invariant.0 c.len.ensures.ascends in
    omega (arith, few, c.len.ensures.len, c.len-len.ensures.len)

pub reserve-requires : goal.reserve-requires
reserve-requires g c =
    let few = marks-few _ _ _ _ c.self.invariant.0 c.len.ensures.ascends in
    omega (arith, few, c.len.ensures.len, c.len-len.ensures.len, c.if-n-len.false, c.self.invariant.2.few)

pub overflow_cast-len-3 : goal.overflow_cast-len-3
overflow_cast-len-3 g c =
    let few = ages-few _ _ _ _ c.self.invariant.0 c.len-2.ensures.ascends in
    omega (arith, few, c.len-2.ensures.len, c.self.invariant.2.few)

pub overflow_sub-all-2 : goal.overflow_sub-all-2
overflow_sub-all-2 g c =
    let few = ages-few _ _ _ _ c.self.invariant.0 c.len-2.ensures.ascends in
    omega (arith, few, c.len-2.ensures.len, c.len-len.ensures.len)

pub reserve-requires-2 : goal.reserve-requires-2
reserve-requires-2 g c =
    let few = ages-few _ _ _ _ c.self.invariant.0 c.len-2.ensures.ascends in
    omega (arith, few, c.len-2.ensures.len, c.len-len.ensures.len, c.if-n-len.false, c.self.invariant.2.few)
