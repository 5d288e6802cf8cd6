use Rattle.std.proofs.Common.{arith}
use Rattle.map_cache.proofs.indexed.Indexed.begin_names.Goals as goal

pub invariant_of-self : goal.invariant_of-self
invariant_of-self c = record {
  indexed = c.self.invariant.indexed;
  few = c.self.invariant.few;
  enough = c.self.invariant.enough;
  most = c.self.invariant.most;
  named = record {
    keys = λ begun. c.in_ok-names.ensures.keys;
    room = λ begun. omega (arith, c.in_ok-names.ensures.places, c.self.invariant.enough, c.len.ensures.len, c.spare.ensures);
  };
}

pub returns-clause-mapping_places : goal.returns-clause-mapping_places
returns-clause-mapping_places c =
    let none = c.is_begun.ensures.none c.if-is_begun.false in
    rw (← c.self.view_is) (omega (arith, none, c.in_ok-names.ensures.places, c.len.ensures.len, c.spare.ensures))
