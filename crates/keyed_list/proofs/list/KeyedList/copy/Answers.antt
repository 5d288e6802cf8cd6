use Rattle.keyed_list.proofs.list.KeyedList.copy.Goals as goal

pub invariant_of-result : goal.invariant_of-result
invariant_of-result g c =
    rw (c.in_ok-list.ensures, c.in_ok-index.ensures, c.in_ok-ages.ensures) c.self.invariant
