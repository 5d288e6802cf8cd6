use Rattle.std.proofs.Common.{sym, subst}
use Rattle.left_right.specs.Register.{Forks}
use Rattle.forwarders.specs.declared.door.view.View.{View}
use Rattle.forwarders.specs.declared.door.view.View.TheVariants.{Newcomer}
use Rattle.forwarders.specs.Keeping.{Keeps}
use Rattle.forwarders.specs.Views.{planning}
use Rattle.forwarders.proofs.RuleLemmas.{plans}
use Rattle.forwarders.proofs.door.publishing.planned_as.Goals as goal

pub tell-requires : goal.tell-requires
tell-requires g c =
    let w = c.args.writer.now in
    subst (λ (v : View). Forks Keeps w.desk.place.id v (planning g.C.Coming.batches v) Newcomer) (sym c.requires.writes) (plans w.desk.place.id _ _ _ g.C.Coming.batches)
