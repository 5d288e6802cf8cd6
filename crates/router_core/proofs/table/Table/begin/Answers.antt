use Rattle.std.proofs.Common.{List, length, ap, ◌∙◌, arith}
use Rattle.std.proofs.lemmas.Result.{on_ok_weaker}
use Rattle.mapping_records.specs.declared.record.Record.{Record}
use Rattle.lisp_settings.specs.Instances.{all_mappings}
use Rattle.lisp_settings.proofs.InstanceLemmas.{limits_in-room}
use Rattle.router_model.specs.Parts.{Parts, parts_in}
use Rattle.router_core.proofs.StaticLemmas.{journal_of}
use Rattle.router_core.proofs.table.Table.begin.Goals as goal

pub learn_statics-requires-clause-now : goal.learn_statics-requires-clause-now
learn_statics-requires-clause-now c =
    ap (λ (parts : Parts). parts.now) (c.reserve_statics.ensures.parts ∙ c.requires.begins)

pub learn_statics-requires-clause-count : goal.learn_statics-requires-clause-count
learn_statics-requires-clause-count c =
    ap (λ (parts : Parts). parts.count) (c.reserve_statics.ensures.parts ∙ c.requires.begins)

pub learn_statics-requires-clause-none : goal.learn_statics-requires-clause-none
learn_statics-requires-clause-none c =
    ap (λ (parts : Parts). parts.mappings) (c.reserve_statics.ensures.parts ∙ c.requires.begins)

pub learn_statics-requires-clause-few : goal.learn_statics-requires-clause-few
learn_statics-requires-clause-few c =
    let settings = c.args.settings.now in
    let limits = ap (λ (parts : Parts). all_mappings parts.limits) (c.reserve_statics.ensures.parts ∙ c.requires.begins) in
    let mappings = ap (λ (l : List Record). length l) c.as_slice-mappings.ensures in
    let room = limits_in-room settings c.requires.lawful in
    omega (arith, limits, mappings, room)

pub returns : goal.returns
returns c =
    let settings = c.args.settings.now in
    on_ok_weaker c.learn_statics.result
    (λ is. is settings (c.reserve_statics.ensures.parts ∙ c.requires.begins) ∙ ap (λ (l : List Record). parts_in settings (journal_of l)) c.as_slice-mappings.ensures)
    c.learn_statics.ensures
