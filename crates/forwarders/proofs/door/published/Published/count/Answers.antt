use Rattle.std.proofs.Common.{rules, ◌≡◌, drop, sym, ap, ◌∙◌}
use Rattle.left_right.specs.Sides.{view as known}
use Rattle.router_model.specs.Parts.{Parts}
use Rattle.forwarders.specs.declared.door.view.View.{View}
use Rattle.forwarders.specs.Batches.{count_of}
use Rattle.forwarders.specs.Publication.{Publication}
use Rattle.forwarders.specs.Views.{entries_of, list_in, publication_of, settings_in}
use Rattle.forwarders.proofs.StandLemmas.{count-stands}
use Rattle.forwarders.proofs.door.published.Published.count.Goals as goal

pub returns : goal.returns
returns c =
    let writer = c.self.inside.writer in
    let v : View = known writer.desk.place in
    let parts : Parts = writer.desk.shown.value.parts in
    let now : c.args.self.now ≡ publication_of v (entries_of (drop writer.behind writer.log.items)) = search rules in
    let same : c.table.result.now.parts ≡ parts = search rules in
    c.count.ensures ∙ (ap (λ (p : Parts). p.count) same
    ∙ (count-stands (settings_in v) parts (list_in v) c.self.invariant.0.stands ∙ ap (λ (p : Publication). count_of p.batches) (sym now)))
