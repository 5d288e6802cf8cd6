use Rattle.std.proofs.Common.{◌≡◌, ◌∷◌, ◌++◌, [], List, ap, rules}
use Rattle.std.specs.Option.{option_map}
use Rattle.capture_io.specs.Frame.{Frame}
use Rattle.desk.specs.declared.desk.FileId.{FileId}
use Rattle.capture_events.specs.Events.{Arrival, Happens, Step, events_of, steps_of, ticks}
use Rattle.playback.proofs.FrontLemmas.{breaks-cut, cut_front, cut_here, frame-steps, stands-gathers, stands-hands}
use Rattle.playback.proofs.playing.play_frame.Goals as goal

pub take-requires-clause-ready : goal.take-requires-clause-ready
take-requires-clause-ready g c =
    let by = c.in_ok-play_seconds.ensures.ready in
    let moment : c.frame.inside.moment ≡ c.args.frame.moment = ap (λ (x : Frame). x.moment) c.frame.view_is in
    record { progress = by.progress; ready = by.ready; next = rw by.frames_are c.requires.next; later = rw moment at by.later }

pub returns-in_err-play_seconds-clause-goes : goal.returns-in_err-play_seconds-clause-goes
returns-in_err-play_seconds-clause-goes g c = λ start old past stands.
    let file = option_map (λ (id : FileId). id.number) c.args.file in
    let frame = c.args.frame in
    let moment : c.frame.inside.moment ≡ frame.moment = ap (λ (x : Frame). x.moment) c.frame.view_is in
    let seconds : List Step = steps_of (ticks c.args.progress.moment frame.moment) in
    let goes = rw moment at c.in_err-play_seconds.ensures.goes in
    let cut = cut_front g.M.Machine.Does start file old (past ++ seconds) (past ++ steps_of (events_of c.args.progress.moment frame)) (g.D.Desk.told c.play_seconds.new.desk)
    (Happens (Arrival frame) ∷ [], frame-steps past c.args.progress.moment frame) (goes start old past stands) in
    search (rules, cut)

pub returns-in_err-is_full-clause-goes : goal.returns-in_err-is_full-clause-goes
returns-in_err-is_full-clause-goes g c = λ start old past stands.
    let file = option_map (λ (id : FileId). id.number) c.args.file in
    let does = g.M.Machine.Does in
    let frame = c.args.frame in
    let moment : c.frame.inside.moment ≡ frame.moment = ap (λ (x : Frame). x.moment) c.frame.view_is in
    let seconds : List Step = steps_of (ticks c.args.progress.moment frame.moment) in
    let goes = rw moment at c.in_ok-play_seconds.ensures.goes in
    let told = g.D.Desk.told c.play_seconds.new.desk in
    let here = cut_here does start file old (past ++ seconds) (g.M.Machine.state c.play_seconds.new.machine) c.play_seconds.new.output told (goes start old past stands) in
    let cut = cut_front does start file old (past ++ seconds) (past ++ steps_of (events_of c.args.progress.moment frame)) told
    (Happens (Arrival frame) ∷ [], frame-steps past c.args.progress.moment frame) here in
    search (rules, cut)

pub returns-in_err-hand_on_full-clause-goes : goal.returns-in_err-hand_on_full-clause-goes
returns-in_err-hand_on_full-clause-goes g c = λ start old past stands.
    let file = option_map (λ (id : FileId). id.number) c.args.file in
    let does = g.M.Machine.Does in
    let frame = c.args.frame in
    let moment : c.frame.inside.moment ≡ frame.moment = ap (λ (x : Frame). x.moment) c.frame.view_is in
    let seconds : List Step = steps_of (ticks c.args.progress.moment frame.moment) in
    let goes = rw moment at c.in_ok-play_seconds.ensures.goes in
    let told = g.D.Desk.told c.play_seconds.new.desk in
    let now = g.D.Desk.told c.hand_on_full.new.desk in
    let all : List Step = past ++ steps_of (events_of c.args.progress.moment frame) in
    let after = g.M.Machine.state c.take.new.self in
    let gathered = stands-gathers does start file old (past ++ seconds) (Happens (Arrival frame)) (g.M.Machine.state c.play_seconds.new.machine) after c.play_seconds.new.output c.take.new.output told c.in_ok-is_full.ensures.gathers (goes start old past stands) in
    let whole = rw (frame-steps past c.args.progress.moment frame) at gathered in
    let cut = breaks-cut does start file old all after c.take.new.output told now c.in_err-hand_on_full.ensures.breaks whole in
    search (rules, cut)

pub returns-clause-goes : goal.returns-clause-goes
returns-clause-goes g c = λ start old past stands.
    let file = option_map (λ (id : FileId). id.number) c.args.file in
    let does = g.M.Machine.Does in
    let frame = c.args.frame in
    let moment : c.frame.inside.moment ≡ frame.moment = ap (λ (x : Frame). x.moment) c.frame.view_is in
    let seconds : List Step = steps_of (ticks c.args.progress.moment frame.moment) in
    let goes = rw moment at c.in_ok-play_seconds.ensures.goes in
    let told = g.D.Desk.told c.play_seconds.new.desk in
    let now = g.D.Desk.told c.hand_on_full.new.desk in
    let all : List Step = past ++ steps_of (events_of c.args.progress.moment frame) in
    let after = g.M.Machine.state c.take.new.self in
    let gathered = stands-gathers does start file old (past ++ seconds) (Happens (Arrival frame)) (g.M.Machine.state c.play_seconds.new.machine) after c.play_seconds.new.output c.take.new.output told c.in_ok-is_full.ensures.gathers (goes start old past stands) in
    let whole = rw (frame-steps past c.args.progress.moment frame) at gathered in
    let handed = c.in_ok-hand_on_full.ensures in
    stands-hands does start file old all after c.take.new.output c.hand_on_full.new.output told now handed.hands handed.written whole
