use Rattle.std.proofs.Common.{◌≡◌, fold, take, [], nat_cmp}
use Rattle.lisp_settings.proofs.AscendingLemmas.{entered}
use Rattle.lisp_settings.proofs.InstanceLemmas.{iid_of, named}
use Rattle.lisp_settings.proofs.instances.instances.Given as goal

abbrev pub invariant-loop-attachment : goal.invariant-loop-attachment
invariant-loop-attachment l =
    l.sorted.entries ≡ named (fold (entered iid_of nat_cmp) [] (take l.attachment-index l.attachments))
