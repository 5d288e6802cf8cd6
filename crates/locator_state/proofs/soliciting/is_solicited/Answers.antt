use Rattle.std.proofs.Common.{rules, ◌&&◌, ◌∙◌}
use Rattle.keyed_list.specs.Keyed.{is_key}
use Rattle.keyed_list.specs.Keys.{told_key}
use Rattle.keyed_list.specs.Known.{solicit_marks}
use Rattle.locator_state.specs.Solicits.{is_of, solicit_counts}
use Rattle.locator_state.proofs.FoundLemmas.{last-both, solicit-told, some-last}
use Rattle.locator_state.proofs.soliciting.is_solicited.Goals as goal

pub returns : goal.returns
returns c =
    c.is_some.ensures
    ∙ some-last (λ solicit. is_of c.args.rloc.now c.args.eid.now solicit && solicit_counts c.args.now solicit) c.args.solicits.now.items c.last.result
    (rw c.told.ensures at (c.last.ensures (solicit_counts c.args.now) (λ solicit told says. search rules))
    ∙ last-both (is_key solicit_marks (told_key c.args.rloc.now c.args.eid.now)) (is_of c.args.rloc.now c.args.eid.now) (solicit_counts c.args.now) (solicit-told c.args.rloc.now c.args.eid.now) c.args.solicits.now.items)
