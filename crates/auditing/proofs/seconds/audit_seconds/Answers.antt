use Rattle.std.proofs.Common.{◌∙◌, ◌*◌, ◌∷◌, ◌++◌, [], append_assoc, map, Some, refl, rules}
use Rattle.std.proofs.lemmas.List.{append-nil}
use Rattle.capture_events.specs.Events.{Happens, Step, Tick, steps_of}
use Rattle.playback.specs.declared.progress.Progress.{Progress}
use Rattle.capture_events.proofs.SecondsLemmas.{due-done}
use Rattle.auditing.proofs.seconds.audit_seconds.Goals as goal

pub loop-second-init : goal.loop-second-init
loop-second-init g c =
    let items = c.into_iter-second-iterator.ensures.into_iter_gives in
    let due = c.seconds_between-second-items.ensures in
    record {
      ready = (record { progress = c.args.progress; ready = c.requires.ready; frames_are = refl; later = c.requires.later }, rw items (due.between 0));
      records = c.requires.records;
      open_still = c.requires.open;
      id = refl;
      proceeds = ([], (rw (items, due.ticks) refl, λ start run base past holds. rw (append-nil past) holds));
      shown = refl;
      given = refl;
      steady = λ steady. steady;
      faults = refl;
    }

pub audit_second-requires-clause-ready : goal.audit_second-requires-clause-ready
audit_second-requires-clause-ready g c =
    let by = c.loop-second.invariant.ready.0 in
    let between = rw c.in-Some.ensures.steps at c.loop-second.invariant.ready.1 in
    record { progress = by.progress; ready = by.ready; later = between.0; few = rw by.frames_are c.requires.most }

pub loop-second-preserved : goal.loop-second-preserved
loop-second-preserved g c =
    let inv = c.loop-second.invariant in
    let first = c.in-Some.ensures.steps in
    let done = c.in_ok-audit_second.ensures in
    let by = inv.ready.0 in
    let between = rw first at inv.ready.1 in
    let reached : Progress = record { frames = by.progress.frames; moment = Some (c.in-Some.second * 1000000000) } in
    let due = rw first at inv.proceeds.1.0 in
    let so_far = inv.proceeds.0 in
    let next : Step = Happens (Tick c.in-Some.second) in
    record {
      ready = (record { progress = reached; ready = done.ready by.progress by.ready between.0; frames_are = by.frames_are; later = between.1.0 }, between.1.1);
      records = done.records;
      open_still = done.open;
      id = done.id ∙ inv.id;
      proceeds = (so_far ++ next ∷ [], (due-done so_far next (steps_of (map Tick c.next.new.self)) _ due, λ start run base past holds. rw (← append_assoc past so_far (next ∷ [])) (done.proceeds start run base (past ++ so_far) (inv.proceeds.1.1 start run base past holds))));
      shown = done.shown ∙ inv.shown;
      given = done.given ∙ inv.given;
      steady = λ steady. done.steady.stays (inv.steady steady);
      faults = done.same (λ is. cc) ∙ inv.faults;
    }

pub returns-in_err-audit_second-clause-proceeds : goal.returns-in_err-audit_second-clause-proceeds
returns-in_err-audit_second-clause-proceeds g c = λ start run base past holds.
    let inv = c.loop-second.invariant in
    let fault = c.in_err-audit_second.ensures.proceeds start run base (past ++ inv.proceeds.0) (inv.proceeds.1.1 start run base past holds) in
    search (rules, fault)
