use Rattle.std.proofs.Common.{length, subst, sym}
use Rattle.split_v4.proofs.LeavingLemmas.{course_of-within, LeavesWithin}
use Rattle.split_v4.proofs.splitting.leaving_packet.Goals as goal

pub returns-clause-within : goal.returns-clause-within
returns-clause-within c =
    subst (LeavesWithin (length c.args.frame.now.octets)) (sym c.in-Leaving.ensures.course) (course_of-within c.args.settings.now c.args.frame.now)
