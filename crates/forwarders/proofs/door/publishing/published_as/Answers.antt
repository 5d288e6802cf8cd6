use Rattle.std.proofs.Common.{◌≡◌, List, drop, fold, sym, ap, ◌∙◌, subst}
use Rattle.left_right.specs.Register.{TurnsAt}
use Rattle.router_log.specs.declared.entry.Entry.{Entry}
use Rattle.router_model.specs.Parts.{absorbed}
use Rattle.forwarders.specs.declared.door.change.Change.{Change}
use Rattle.forwarders.specs.declared.door.view.View.{View}
use Rattle.forwarders.specs.Keeping.{GoesOn, IsNext, Keeps, Publishes}
use Rattle.forwarders.specs.Publication.{Side}
use Rattle.forwarders.proofs.ChangeLemmas.{changed-parts, stays-open}
use Rattle.forwarders.proofs.RuleLemmas.{publishes}
use Rattle.forwarders.proofs.door.publishing.published_as.Goals as goal

pub publish_as-requires : goal.publish_as-requires
publish_as-requires g c next is =
    let w = c.args.writer in
    let batch : List Entry = g.B.Batch.entries in
    let side : Side = w.desk.shown.value in
    let changes : List Change = drop w.behind w.log.items in
    let made : next.parts ≡ fold absorbed side.parts batch =
    ap (λ (s : Side). s.parts) is ∙ (changed-parts side changes ∙ ap (λ (es : List Entry). fold absorbed side.parts es) c.requires.batch) in
    subst (λ (v : View). GoesOn v batch → IsNext v batch → TurnsAt Keeps w.desk.place.id v side next (λ v before after w. Publishes batch v after.parts w))
    (sym c.requires.shows.writes)
    (λ goes on. publishes w.desk.place.id _ _ _ side next batch goes on made (λ o. ap (λ (s : Side). s.is_open) is ∙ stays-open side changes o))
    c.requires.proper c.requires.next
