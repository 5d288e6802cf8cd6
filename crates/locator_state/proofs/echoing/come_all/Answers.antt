use Rattle.std.proofs.Common.{rules, true, cond, length, ap, ◌∙◌}
use Rattle.std.proofs.lemmas.List.{length-map}
use Rattle.keyed_list.specs.Keyed.{changed_with}
use Rattle.keyed_list.specs.Keys.{locator_key}
use Rattle.keyed_list.specs.Known.{start_marks}
use Rattle.router_log.specs.declared.kept.EchoStart.{EchoStart}
use Rattle.locator_state.specs.Echoes.{come_from}
use Rattle.locator_state.proofs.FoundLemmas.{map-same, start-locator}
use Rattle.locator_state.proofs.echoing.come_all.Goals as goal

abbrev come : EchoStart → EchoStart
come start = record start { came = true }

pub returns-clause-items : goal.returns-clause-items
returns-clause-items c =
    rw c.locator.ensures at (c.change.ensures.items come (λ start new says. search rules))
    ∙ map-same (changed_with start_marks (locator_key c.args.rloc.now) come) (come_from c.args.rloc.now) (λ start. ap (λ b. cond b (come start) start) (start-locator c.args.rloc.now start)) c.args.starts.now.items

pub returns-clause-len : goal.returns-clause-len
returns-clause-len c =
    ap length (c.change.ensures.items come (λ start new says. search rules)) ∙ length-map c.args.starts.now.items _
