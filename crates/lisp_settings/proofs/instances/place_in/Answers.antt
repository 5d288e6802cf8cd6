use Rattle.std.proofs.Common.{rules}
use Rattle.std.proofs.lemmas.List.Sorted.{answers_always}
use Rattle.lisp_settings.proofs.InstanceLemmas.{stated-absent, stated-found}
use Rattle.lisp_settings.proofs.instances.place_in.Goals as goal

pub returns-in-Ok-clause-found : goal.returns-in-Ok-clause-found
returns-in-Ok-clause-found c =
    let by_instance = c.in-Ok.ensures.position (λ limit. limit.iid) (answers_always _ _ _ (λ f a r g called. search rules)) in
    stated-found c.args.limits.now c.requires c.args.iid c.in-Ok.place c.in-Ok.ensures.bound by_instance

pub returns-in-Err-clause-found : goal.returns-in-Err-clause-found
returns-in-Err-clause-found c =
    let by_instance = c.in-Err.ensures.position (λ limit. limit.iid) (answers_always _ _ _ (λ f a r g called. search rules)) in
    stated-absent c.args.limits.now c.requires c.args.iid c.in-Err.field-0 by_instance
