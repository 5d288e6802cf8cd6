use Rattle.std.proofs.Common.{append_assoc}
use Rattle.replay.proofs.last_lines.end_line.Goals as goal

pub returns : goal.returns
returns c =
    rw (c.in_ok-push.ensures.ok, c.in_ok-push_named-3.ensures, c.in_ok-push_named-2.ensures, c.in_ok-push_named.ensures, c.new-line.ensures, c.from.ensures) (simp append_assoc)
