-- What a list is once an item that was lent to be changed is given back.
use Rattle.std.specs.Prelude.{ℕ, slice_set}
use Rattle.std.specs.Borrow.{Lends, Fml, RattleType, MutBor}
use Rattle.named_list.specs.Named.{Named}
use Rattle.named_list.specs.contracts.list.NamedList.{the_row}

-- the list with another item at a place
abbrev pub with_item : {T : Type 0} → Named T → ℕ → T → Named T
with_item list index item = record list { items = slice_set list.items index item }

module _ (T : RattleType) (list : MutBor (Named T.Denot)) (index : ℕ) where
  -- once the borrow r ends, that place has the item last written through r
  abbrev pub lends_item : MutBor T.Denot → Fml
  lends_item r = Lends (the_row T) T list r (with_item list.now index)
