use Rattle.std.proofs.Common.{◌≡◌, length, take, vec_capacity}
use Rattle.prefix_table.proofs.content.copied_contents.Given as goal

abbrev pub invariant-loop-content : goal.invariant-loop-content
invariant-loop-content g l =
    (l.copy.items ≡ take l.content-index l.contents.items) × (vec_capacity l.copy ≡ length l.contents.items)
