use Rattle.std.proofs.Common.{rules, true, sym, ◌∙◌}
use Rattle.keyed_list.specs.Keyed.{is_key}
use Rattle.keyed_list.specs.Keys.{locator_key}
use Rattle.keyed_list.specs.Known.{start_marks}
use Rattle.mapping_records.specs.Eids.{same_address}
use Rattle.locator_state.proofs.FoundLemmas.{last-empty, last-key, start-locator}
use Rattle.locator_state.proofs.echoing.last_start.Goals as goal

pub returns-then-len-eq0 : goal.returns-then-len-eq0
returns-then-len-eq0 c = last-empty (λ start. same_address start.rloc c.args.rloc.now) c.args.starts.now.items (sym c.len.ensures.len ∙ c.if-len-eq0.true)

pub returns : goal.returns
returns c =
    rw c.locator.ensures at (c.last.ensures (λ start. true) (λ start told says. search rules))
    ∙ last-key (is_key start_marks (locator_key c.args.rloc.now)) (λ start. same_address start.rloc c.args.rloc.now) (start-locator c.args.rloc.now) c.args.starts.now.items
