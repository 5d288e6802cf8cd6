use Rattle.std.proofs.Common.{◌∙◌, ◌*◌, ◌∷◌, ◌++◌, [], List, append_assoc, map, Some, refl, rules}
use Rattle.std.specs.Option.{option_map}
use Rattle.std.proofs.lemmas.List.{append-nil}
use Rattle.desk.specs.declared.desk.FileId.{FileId}
use Rattle.capture_events.specs.Events.{Happens, Step, Tick, steps_of, ticks}
use Rattle.playback.specs.declared.progress.Progress.{Progress}
use Rattle.capture_events.proofs.SecondsLemmas.{due-done}
use Rattle.playback.proofs.FrontLemmas.{cut_front, due-front}
use Rattle.playback.proofs.seconds.play_seconds.Goals as goal

pub loop-second-init : goal.loop-second-init
loop-second-init g c =
    let items = c.into_iter-second-iterator.ensures.into_iter_gives in
    let due = c.seconds_between-second-items.ensures in
    record {
      ready = (record { progress = c.args.progress; ready = c.requires.ready; frames_are = refl; later = c.requires.later }, rw items (due.between 0));
      not_full = c.requires.not_full;
      goes = ([], (rw (items, due.ticks) refl, λ start old past stands. rw (append-nil past) stands));
      readers = refl;
      given = refl;
      steady = λ steady. steady;
      piece = λ less. less;
      faults = refl;
    }

pub play_second-requires-clause-ready : goal.play_second-requires-clause-ready
play_second-requires-clause-ready g c =
    let by = c.loop-second.invariant.ready.0 in
    let between = rw c.in-Some.ensures.steps at c.loop-second.invariant.ready.1 in
    record { progress = by.progress; ready = by.ready; later = between.0; few = rw by.frames_are c.requires.most }

pub loop-second-preserved : goal.loop-second-preserved
loop-second-preserved g c =
    let inv = c.loop-second.invariant in
    let first = c.in-Some.ensures.steps in
    let done = c.in_ok-play_second.ensures in
    let by = inv.ready.0 in
    let between = rw first at inv.ready.1 in
    let reached : Progress = record { frames = by.progress.frames; moment = Some (c.in-Some.second * 1000000000) } in
    let due = rw first at inv.goes.1.0 in
    let so_far = inv.goes.0 in
    let next : Step = Happens (Tick c.in-Some.second) in
    record {
      ready = (record { progress = reached; ready = done.ready by.progress by.ready between.0; frames_are = by.frames_are; later = between.1.0 }, between.1.1);
      not_full = done.not_full;
      goes = (so_far ++ next ∷ [], (due-done so_far next (steps_of (map Tick c.next.new.self)) _ due, λ start old past stands. rw (← append_assoc past so_far (next ∷ [])) (done.goes start old (past ++ so_far) (inv.goes.1.1 start old past stands))));
      readers = done.readers ∙ inv.readers;
      given = done.given ∙ inv.given;
      steady = λ steady. done.steady.stays (inv.steady steady);
      piece = λ less. done.piece;
      faults = done.cause.ok ∙ inv.faults;
    }

pub returns-in_err-play_second-clause-goes : goal.returns-in_err-play_second-clause-goes
returns-in_err-play_second-clause-goes g c = λ start old past stands.
    let inv = c.loop-second.invariant in
    let file = option_map (λ (id : FileId). id.number) c.args.file in
    let due = rw c.in-Some.ensures.steps at inv.goes.1.0 in
    let so_far = inv.goes.0 in
    let next : Step = Happens (Tick c.in-Some.second) in
    let all : List Step = steps_of (ticks c.args.progress.moment c.args.moment) in
    let cut = cut_front g.M.Machine.Does start file old ((past ++ so_far) ++ next ∷ []) (past ++ all) (g.D.Desk.told c.play_second.new.desk)
    (due-front so_far next (steps_of (map Tick c.next.new.self)) all due past) (c.in_err-play_second.ensures.goes start old (past ++ so_far) (inv.goes.1.1 start old past stands)) in
    search (rules, cut)
