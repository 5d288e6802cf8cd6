use Rattle.std.proofs.Common.{append_assoc}
use Rattle.replay.specs.Trial.{trial_line}
use Rattle.replay.proofs.trying.trial_line.Goals as goal

pub returns : goal.returns
unfolding trial_line
returns c =
    rw (c.in_ok-push.ensures.ok, c.in_ok-push_hash.ensures, c.in_ok-append.ensures.ok, c.in_ok-push_named-4.ensures, c.in_ok-push_named-3.ensures, c.in_ok-push_named-2.ensures, c.in_ok-push_named.ensures, c.new-line.ensures, c.from-2.ensures, c.from.ensures) (simp append_assoc)
