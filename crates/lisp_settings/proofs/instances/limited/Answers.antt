use Rattle.std.proofs.Common.{◌≡◌, ◌∙◌, ◌+◌, ◌-◌, List, length, take, ap, arith, count_by, is_none}
use Rattle.std.proofs.lemmas.List.{take_all}
use Rattle.lisp_settings.specs.Instances.{all_mappings, all_requests, instances, stated, unstated}
use Rattle.lisp_settings.specs.Limits.{most_mappings, most_open}
use Rattle.lisp_settings.specs.declared.settings.LimitItem.{LimitItem}
use Rattle.lisp_settings.proofs.InstanceLemmas.{given_limits, instances-few}
use Rattle.lisp_settings.proofs.instances.limited.Goals as goal

pub unstated-count-requires-clause-few : goal.unstated-count-requires-clause-few
unstated-count-requires-clause-few c =
    omega (arith, ap length c.requires.attached, instances-few c.args.settings.now.attachments, c.requires.lawful.few_attachments)

pub returns : goal.returns
returns c =
    let settings = c.args.settings.now in
    let all = take_all c.loop-iid.iid-index c.args.iids.now c.loop-iid-test.false in
    let iids : take c.loop-iid.iid-index c.args.iids.now ≡ instances settings.attachments = all ∙ c.requires.attached in
    let count : c.unstated-count.result ≡ unstated settings =
    c.unstated-count.ensures ∙ ap (λ (limits : List LimitItem). count_by (λ iid. is_none (stated limits iid)) c.args.iids.now) c.as_slice-stated.ensures ∙ ap (count_by (λ iid. is_none (stated settings.limits iid))) c.requires.attached in
    let mappings : c.what_is_left-left.result.mappings ≡ most_mappings - (length settings.mappings + all_mappings settings.limits) =
    c.what_is_left-left.ensures.mappings ∙ ap (λ n. most_mappings - (n + all_mappings c.as_slice-stated.result.now)) c.len.ensures ∙ ap (λ (limits : List LimitItem). most_mappings - (length settings.mappings + all_mappings limits)) c.as_slice-stated.ensures in
    let requests : c.what_is_left-left.result.requests ≡ most_open - all_requests settings.limits =
    c.what_is_left-left.ensures.requests ∙ ap (λ (limits : List LimitItem). most_open - all_requests limits) c.as_slice-stated.ensures in
    c.loop-iid.invariant ∙ given_limits settings c.as_slice-stated.result.now _ _ _ _ c.as_slice-stated.ensures mappings requests count iids
