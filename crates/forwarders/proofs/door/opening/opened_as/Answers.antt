use Rattle.std.proofs.Common.{◌≡◌, true, List, fold, sym, ap, ◌∙◌, subst}
use Rattle.left_right.specs.Register.{TurnsAt}
use Rattle.forwarders.specs.declared.door.change.Change.{Change}
use Rattle.forwarders.specs.declared.door.view.View.{View}
use Rattle.forwarders.specs.Keeping.{Keeps, Starts}
use Rattle.forwarders.specs.Publication.{Side}
use Rattle.forwarders.specs.Views.{changed}
use Rattle.forwarders.proofs.RuleLemmas.{opens}
use Rattle.forwarders.proofs.door.opening.opened_as.Goals as goal

pub publish_as-writer-requires : goal.publish_as-writer-requires
publish_as-writer-requires g c next is =
    let w = c.args.writer in
    let x : Side = w.desk.shown.value in
    let made : next ≡ record { parts = x.parts; is_open = true } = is ∙ ap (λ (cs : List Change). fold changed x cs) c.requires.opens in
    subst (λ (t : View × View). TurnsAt Keeps w.desk.place.id t.0 x next (λ v before after w. Starts t.1 after.parts w)) (λ i. (sym c.requires.new i, sym c.requires.first i))
    (opens w.desk.place.id c.args.settings.now x next c.requires.stands c.requires.closed (ap (λ (s : Side). s.parts) made) (ap (λ (s : Side). s.is_open) made))
