use Rattle.std.proofs.Common.{rules, ◌&&◌, sym, ◌∙◌}
use Rattle.keyed_list.specs.Keyed.{is_key}
use Rattle.keyed_list.specs.Keys.{locator_key}
use Rattle.keyed_list.specs.Known.{start_marks}
use Rattle.mapping_records.specs.Eids.{same_address}
use Rattle.locator_state.specs.Echoes.{start_counts}
use Rattle.locator_state.proofs.FoundLemmas.{any-empty, last-both, some-last, start-locator}
use Rattle.locator_state.proofs.echoing.is_asked.Goals as goal

pub returns-then-len-eq0 : goal.returns-then-len-eq0
returns-then-len-eq0 c = any-empty (λ start. same_address start.rloc c.args.rloc.now && start_counts c.args.now start) c.args.starts.now.items (sym c.len.ensures.len ∙ c.if-len-eq0.true)

pub returns : goal.returns
returns c =
    c.is_some.ensures
    ∙ some-last (λ start. same_address start.rloc c.args.rloc.now && start_counts c.args.now start) c.args.starts.now.items c.last.result
    (rw c.locator.ensures at (c.last.ensures (start_counts c.args.now) (λ start told says. search rules))
    ∙ last-both (is_key start_marks (locator_key c.args.rloc.now)) (λ start. same_address start.rloc c.args.rloc.now) (start_counts c.args.now) (start-locator c.args.rloc.now) c.args.starts.now.items)
