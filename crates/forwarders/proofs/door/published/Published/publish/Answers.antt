use Rattle.std.proofs.Common.{drop}
use Rattle.left_right.specs.Sides.{view as known}
use Rattle.forwarders.proofs.PublishLemmas.{published-goes}
use Rattle.forwarders.proofs.door.published.Published.publish.Goals as goal

pub invariant_of-self : goal.invariant_of-self
invariant_of-self g c =
    let old = c.self.inside.writer in
    let new = c.replace_with.new.dest in
    let told = c.replace_with.ensures in
    published-goes c.replace_with.result (known old.desk.place) (known new.desk.place) old.desk.shown.value new.desk.shown.value
    (drop old.behind old.log.items) (drop new.behind new.log.items) told.0 told.1.0 told.1.1.0 told.1.1.1.0 told.1.1.1.1 c.self.invariant.0 c.self.invariant.1
