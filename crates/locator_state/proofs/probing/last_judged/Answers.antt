use Rattle.std.proofs.Common.{rules, sym, ◌&&◌, ◌∙◌}
use Rattle.keyed_list.specs.Keyed.{is_key}
use Rattle.keyed_list.specs.Keys.{locator_key}
use Rattle.keyed_list.specs.Known.{probe_marks}
use Rattle.mapping_records.specs.Eids.{same_address}
use Rattle.locator_state.specs.Probes.{is_judged}
use Rattle.locator_state.proofs.FoundLemmas.{last-both, last-empty, probe-locator}
use Rattle.locator_state.proofs.probing.last_judged.Goals as goal

pub returns-then-len-eq0 : goal.returns-then-len-eq0
returns-then-len-eq0 c = last-empty (λ probe. same_address probe.rloc c.args.rloc.now && is_judged c.args.now probe) c.args.probes.now.items (sym c.len.ensures.len ∙ c.if-len-eq0.true)

pub returns : goal.returns
returns c =
    rw c.locator.ensures at (c.last.ensures (is_judged c.args.now) (λ probe told says. search rules))
    ∙ last-both (is_key probe_marks (locator_key c.args.rloc.now)) (λ probe. same_address probe.rloc c.args.rloc.now) (is_judged c.args.now) (probe-locator c.args.rloc.now) c.args.probes.now.items
