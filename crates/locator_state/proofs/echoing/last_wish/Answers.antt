use Rattle.std.proofs.Common.{rules, true, sym, ◌∙◌}
use Rattle.keyed_list.specs.Keyed.{is_key}
use Rattle.keyed_list.specs.Keys.{locator_key}
use Rattle.keyed_list.specs.Known.{wish_marks}
use Rattle.mapping_records.specs.Eids.{same_address}
use Rattle.locator_state.proofs.FoundLemmas.{last-empty, last-key, wish-locator}
use Rattle.locator_state.proofs.echoing.last_wish.Goals as goal

pub returns-then-len-eq0 : goal.returns-then-len-eq0
returns-then-len-eq0 c = last-empty (λ wish. same_address wish.rloc c.args.rloc.now) c.args.wishes.now.items (sym c.len.ensures.len ∙ c.if-len-eq0.true)

pub returns : goal.returns
returns c =
    rw c.locator.ensures at (c.last.ensures (λ wish. true) (λ wish told says. search rules))
    ∙ last-key (is_key wish_marks (locator_key c.args.rloc.now)) (λ wish. same_address wish.rloc c.args.rloc.now) (wish-locator c.args.rloc.now) c.args.wishes.now.items
