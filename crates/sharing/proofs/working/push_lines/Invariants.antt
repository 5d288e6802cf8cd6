use Rattle.std.proofs.Common.{◌≡◌, ◌++◌, map, take}
use Rattle.router_model.specs.Rounds.{lines_text}
use Rattle.forwarders.specs.Rounding.{line_seen}
use Rattle.sharing.proofs.working.push_lines.Given as goal

abbrev pub invariant-loop-line : goal.invariant-loop-line
invariant-loop-line l = l.out ≡ l.fn.out ++ lines_text (map line_seen (take l.line-index l.lines))
