use Rattle.std.proofs.Common.{◌≡◌, ◌∙◌, ◌+◌, ◌≤◌, sym, subst, length, List}
use Rattle.lisp_settings.specs.Instances.{AreLimits, all_mappings, limit, mappings_in, requests_in}
use Rattle.lisp_settings.specs.Limits.{most_mappings}
use Rattle.lisp_settings.specs.declared.settings.LimitItem.{LimitItem}
use Rattle.lisp_settings.proofs.InstanceLemmas.{limits_in-limits, limits_in-room, mappings_in-limits, requests_in-limits}
use Rattle.lisp_settings.proofs.instances.limits_of.Goals as goal

pub invariant_of-result : goal.invariant_of-result
invariant_of-result c =
    let are = c.from_vec.ensures ∙ c.in_ok-items.ensures in
    subst AreLimits (sym are) (limits_in-limits c.args.settings.now c.requires)

pub returns-clause-mappings : goal.returns-clause-mappings
returns-clause-mappings c iid =
    let are = c.from_vec.ensures ∙ c.in_ok-items.ensures in
    subst (λ (limits : List LimitItem). mappings_in limits iid ≡ (limit c.args.settings.now iid).mappings) (sym are) (mappings_in-limits c.args.settings.now iid)

pub returns-clause-requests : goal.returns-clause-requests
returns-clause-requests c iid =
    let are = c.from_vec.ensures ∙ c.in_ok-items.ensures in
    subst (λ (limits : List LimitItem). requests_in limits iid ≡ (limit c.args.settings.now iid).requests) (sym are) (requests_in-limits c.args.settings.now iid)

pub returns-clause-room : goal.returns-clause-room
returns-clause-room c =
    let are = c.from_vec.ensures ∙ c.in_ok-items.ensures in
    subst (λ (limits : List LimitItem). length c.args.settings.now.mappings + all_mappings limits ≤ most_mappings) (sym are) (limits_in-room c.args.settings.now c.requires)
