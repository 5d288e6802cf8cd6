use Rattle.std.proofs.Common.{rules}
use Rattle.std.proofs.lemmas.List.Sorted.{answers_always}
use Rattle.router_core.proofs.SiteLemmas.{instance_of-absent, instance_of-found}
use Rattle.router_core.proofs.site.instance_of.Goals as goal

pub returns-in-Ok : goal.returns-in-Ok
returns-in-Ok c =
    let by_vlan = c.in-Ok.ensures.position (λ attachment. attachment.vlan) (answers_always _ _ _ (λ f a r g called. search rules)) in
    instance_of-found c.args.attachments.now c.requires c.args.vlan c.in-Ok.at c.in-Ok.ensures.bound by_vlan

pub returns-in-Err : goal.returns-in-Err
returns-in-Err c =
    let by_vlan = c.in-Err.ensures.position (λ attachment. attachment.vlan) (answers_always _ _ _ (λ f a r g called. search rules)) in
    instance_of-absent c.args.attachments.now c.requires c.args.vlan c.in-Err.field-0 by_vlan
