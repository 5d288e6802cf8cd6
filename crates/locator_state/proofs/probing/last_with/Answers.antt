use Rattle.std.proofs.Common.{rules, ◌==◌, true, ◌∙◌}
use Rattle.keyed_list.specs.Keyed.{is_key}
use Rattle.keyed_list.specs.Keys.{nonce_key}
use Rattle.keyed_list.specs.Known.{probe_marks}
use Rattle.locator_state.proofs.FoundLemmas.{last-key, probe-nonce}
use Rattle.locator_state.proofs.probing.last_with.Goals as goal

pub returns : goal.returns
returns c =
    rw c.nonce.ensures at (c.last.ensures (λ probe. true) (λ probe told says. search rules))
    ∙ last-key (is_key probe_marks (nonce_key c.args.nonce)) (λ probe. probe.nonce == c.args.nonce) (probe-nonce c.args.nonce) c.args.probes.now.items
