use Rattle.std.proofs.Common.{rules, cond, length, ap, ◌∙◌}
use Rattle.std.proofs.lemmas.List.{length-map}
use Rattle.keyed_list.specs.Keyed.{changed_with}
use Rattle.keyed_list.specs.Keys.{nonce_key}
use Rattle.keyed_list.specs.Known.{probe_marks}
use Rattle.locator_state.specs.Probes.{settle, settle_with}
use Rattle.locator_state.proofs.FoundLemmas.{map-same, probe-nonce}
use Rattle.locator_state.proofs.probing.settle_nonce.Goals as goal

pub returns-clause-items : goal.returns-clause-items
returns-clause-items c =
    rw c.nonce.ensures at (c.change.ensures.items (settle c.args.state) (λ probe new says. search rules))
    ∙ map-same (changed_with probe_marks (nonce_key c.args.nonce) (settle c.args.state)) (settle_with c.args.state c.args.nonce) (λ probe. ap (λ b. cond b (settle c.args.state probe) probe) (probe-nonce c.args.nonce probe)) c.args.probes.now.items

pub returns-clause-len : goal.returns-clause-len
returns-clause-len c =
    ap length (c.change.ensures.items (settle c.args.state) (λ probe new says. search rules))
    ∙ length-map c.args.probes.now.items _
