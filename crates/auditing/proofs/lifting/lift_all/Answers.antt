use Rattle.std.proofs.Common.{◌≤◌, ◌∙◌, sym, subst}
use Rattle.capture_io.specs.Limits.{most_records}
use Rattle.capture_io.specs.Reading.{Reading}
use Rattle.auditing.proofs.LiftLemmas.{lifting-on}
use Rattle.auditing.proofs.lifting.lift_all.Goals as goal

pub loop-reader-preserved : goal.loop-reader-preserved
loop-reader-preserved g c =
    let inv = c.loop-reader.invariant in
    let read = c.in_ok-frame.ensures in
    let reader = c.loop-reader.reader in
    let f = c.in-Some.frame in
    let comes = rw c.in-Some.is at read.comes in
    let next = rw c.in-Some.is at read.frame in
    let after = rw c.in-Some.is at read.after in
    record {
      reads = read.open;
      id = read.id ∙ inv.id;
      few = subst (λ (r : Reading). r.position.count ≤ most_records) (sym after) next.most;
      lifting = lifting-on c.args.settings.now c.args.sent reader c.read_next.new.reader c.loop-reader.lift c.see.new.self f (g.D.Desk.told c.args.desk.now) (g.D.Desk.told c.loop-reader.desk) (g.D.Desk.told c.read_next.new.desk)
          inv.lifting comes inv.id c.in_ok-see.ensures.ok c.frames_lift_one_by_one.ensures.more;
      shown = read.shown ∙ inv.shown;
      given = read.given ∙ inv.given;
      steady = λ steady. read.steady.stays (inv.steady steady);
      faults = read.same (λ is. cc) ∙ inv.faults;
    }
