use Rattle.std.proofs.Common.{◌++◌, ◌∷◌, [], map, ap, sym, ◌∙◌, arith}
use Rattle.std.proofs.lemmas.List.FromFn.{map-range_with_len_more}
use Rattle.std.specs.List.{range_with_len}
use Rattle.trial_input.specs.Trial.{trial_mapping}
use Rattle.trial_input.proofs.settings.mappings.Goals as goal

pub loop-i-preserved : goal.loop-i-preserved
loop-i-preserved c =
    let more = map-range_with_len_more trial_mapping 0 c.loop-i.i c.loop-i.i (omega arith) in
    c.in_ok-push.ensures.ok
    ∙ ap (λ mappings. mappings ++ c.in_ok-mapping.field-0 ∷ []) c.loop-i.invariant
    ∙ ap (λ mapping. map trial_mapping (range_with_len 0 c.loop-i.i) ++ mapping ∷ []) c.in_ok-mapping.ensures
    ∙ sym more
