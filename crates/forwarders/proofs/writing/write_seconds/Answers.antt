use Rattle.std.proofs.Common.{◌≡◌, ◌∙◌, ℕ, ◌≤◌, ◌+◌, ◌*◌, List, [], ◌∷◌, ◌++◌, map, length, unwrap_or, subst, sym, ap, arith}
use Rattle.std.proofs.lemmas.List.{append-nil, length-append}
use Rattle.capture_events.specs.Events.{Event, Tick, second_of, ticks}
use Rattle.forwarders.specs.Gathering.{Writes}
use Rattle.capture_events.proofs.SecondsLemmas.{due-done}
use Rattle.forwarders.proofs.WriteLemmas.{adds-none, ticks-few, writes-both, writes-own}
use Rattle.forwarders.proofs.writing.write_seconds.Goals as goal

pub write_second-requires-clause-own : goal.write_second-requires-clause-own
write_second-requires-clause-own c =
    let writes = c.loop-second.invariant.writes in
    writes-own c.args.settings.now [] writes.0 c.args.table.now.parts c.loop-second.table.parts c.args.written.now c.loop-second.written (writes.1.1 []) ∙ c.requires.own

pub write_second-requires-clause-may : goal.write_second-requires-clause-may
write_second-requires-clause-may c =
    let inv = c.loop-second.invariant in
    let between = rw c.in-Some.ensures.steps at inv.now.1.1.1 in
    let due = rw c.in-Some.ensures.steps at inv.writes.1.0 in
    let so_far = inv.writes.0 in
    let all = ap (λ (l : List Event). length l) due in
    let sum = length-append so_far (Tick c.in-Some.second ∷ map Tick c.next.new.self) in
    let most = ticks-few c.args.previous c.args.moment in
    let few = (inv.writes.1.1 []).count in
    let now = inv.now.1.0 in
    let later = between.0 in
    let room = c.requires.count in
    let done : length so_far ≤ second_of c.args.moment = omega (arith, all, sum, most) in
    record { later = omega (arith, now, later); count = omega (arith, few, done, room) }

pub loop-second-init : goal.loop-second-init
loop-second-init c =
    let items = c.into_iter-second-iterator.ensures.into_iter_gives in
    let due = c.seconds_between-second-items.ensures in
    record {
      now = (unwrap_or c.args.previous c.args.moment, (c.requires.later, (c.requires.order, rw items (due.between c.args.moment))));
      writes = ([], (ap (λ (l : List ℕ). map Tick l) items ∙ due.ticks, λ frames. adds-none frames c.args.table.now.parts c.args.written.now));
    }

pub loop-second-preserved : goal.loop-second-preserved
loop-second-preserved c =
    let inv = c.loop-second.invariant in
    let first = c.in-Some.ensures.steps in
    let done = c.in_ok-write_second.ensures in
    let between = rw first at inv.now.1.1.1 in
    let due = rw first at inv.writes.1.0 in
    let so_far = inv.writes.0 in
    let next : Event = Tick c.in-Some.second in
    record {
      now = (c.in-Some.second * 1000000000, (done.now, (between.1.0, between.1.1)));
      writes = (
        so_far ++ next ∷ [],
        (
          due-done so_far next (map Tick c.next.new.self) _ due,
          λ frames.
              writes-both c.args.settings.now frames so_far (next ∷ []) c.args.table.now.parts c.loop-second.table.parts c.write_second.new.table.parts c.args.written.now c.loop-second.written c.write_second.new.written (inv.writes.1.1 frames) (done.writes frames),
        ),
      );
    }

pub returns-clause-writes : goal.returns-clause-writes
returns-clause-writes c = λ frames.
    let writes = c.loop-second.invariant.writes in
    let due = rw c.in-None.ensures.steps.0 at writes.1.0 in
    subst (λ (l : List Event). Writes c.args.settings.now frames l c.args.table.now.parts c.args.written.now c.loop-second.table.parts c.loop-second.written) (sym (append-nil writes.0) ∙ due) (writes.1.1 frames)
