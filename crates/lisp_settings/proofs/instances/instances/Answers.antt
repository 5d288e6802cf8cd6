use Rattle.std.proofs.Common.{rules, ◌≡◌, ◌∙◌, ap, sym, [], take, fold, nat_cmp, slice_index_or}
use Rattle.std.proofs.lemmas.List.{take_all}
use Rattle.std.proofs.lemmas.List.Sums.{fold_more}
use Rattle.std.specs.BTreeMap.{insert_entry}
use Rattle.std.specs.Map.{values_of}
use Rattle.lisp_settings.proofs.AscendingLemmas.{entered}
use Rattle.lisp_settings.proofs.InstanceLemmas.{iid_of, named, named-entered, values-entered}
use Rattle.lisp_settings.proofs.instances.instances.Goals as goal

pub loop-attachment-preserved : goal.loop-attachment-preserved
loop-attachment-preserved c =
    let done = fold (entered iid_of nat_cmp) [] (take c.loop-attachment.attachment-index c.args.attachments.now) in
    let next = slice_index_or c.args.attachments.now c.loop-attachment.attachment-index (record { vlan = 0; iid = 0 }) in
    c.in_ok-insert.ensures.entries
    ∙ ap (λ entries. insert_entry nat_cmp entries next.iid next.iid) c.loop-attachment.invariant
    ∙ named-entered done next
    ∙ ap named (sym (fold_more (entered iid_of nat_cmp) [] c.args.attachments.now c.loop-attachment.attachment-index (record { vlan = 0; iid = 0 }) c.loop-attachment-test.true))

pub returns : goal.returns
returns c =
    let collected : c.in_ok-iids.iids.items ≡ values_of c.loop-attachment.sorted.entries = search rules in
    let all = ap (λ done. named (fold (entered iid_of nat_cmp) [] done)) (take_all c.loop-attachment.attachment-index c.args.attachments.now c.loop-attachment-test.false) in
    collected ∙ values-entered c.args.attachments.now c.loop-attachment.sorted.entries (c.loop-attachment.invariant ∙ all)
