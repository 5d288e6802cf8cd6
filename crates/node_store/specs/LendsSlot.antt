-- What a slot is once its node that was lent to be changed is given back.
use Rattle.std.specs.Prelude.{Option, Some}
use Rattle.std.specs.Borrow.{Lends, Fml, RattleType, MutBor}
use Rattle.std.specs.contracts.option.Option.{the_row}

module _ (T : RattleType) (slot : MutBor (Option T.Denot)) where
  -- once the borrow r ends, the slot has the node last written through r
  abbrev pub lends_slot : MutBor T.Denot → Fml
  lends_slot r = Lends (the_row T) T slot r (λ node. Some node)
