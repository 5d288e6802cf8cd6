use Rattle.std.proofs.Common.{rules, cond, ◌∷◌, ◌++◌, [], ap, ◌∙◌}
use Rattle.keyed_list.specs.Keyed.{changed_with}
use Rattle.keyed_list.specs.Keys.{nonce_key}
use Rattle.keyed_list.specs.Known.{probe_marks}
use Rattle.router_log.specs.declared.kept.ProbeState.TheVariants.{Lost, Open}
use Rattle.locator_state.specs.Probes.{settle, settle_with}
use Rattle.locator_state.proofs.FoundLemmas.{map-same, probe-nonce}
use Rattle.locator_state.proofs.probing.push_probe.Goals as goal

pub returns-clause-items : goal.returns-clause-items
returns-clause-items c =
    c.push_changing.ensures.items (settle Lost) (λ probe new says. search rules)
    ∙ ap (λ l. l ++ record { moment = c.args.moment; rloc = c.args.rloc; nonce = c.args.nonce; state = Open } ∷ []) (map-same (changed_with probe_marks (nonce_key c.args.nonce) (settle Lost)) (settle_with Lost c.args.nonce) (λ probe. ap (λ b. cond b (settle Lost probe) probe) (probe-nonce c.args.nonce probe)) c.args.probes.now.items)
