-- The limit of a list of items, and the names of a ring.
use Rattle.std.specs.Prelude.{ℕ}
pub use Rattle.named_list.specs.Limits.{ring_names}

-- items of a list at most, with those that there is room for (this router's choice)
abbrev pub most_items : ℕ
most_items = 1073741824
