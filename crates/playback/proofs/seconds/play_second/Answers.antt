use Rattle.std.proofs.Common.{◌∷◌, ◌++◌, [], List, rules}
use Rattle.std.specs.Option.{option_map}
use Rattle.std.proofs.lemmas.Result.{on_err_weaker, on_ok_weaker}
use Rattle.desk.specs.declared.desk.FileId.{FileId}
use Rattle.capture_events.specs.Events.{Happens, Step, Tick}
use Rattle.playback.proofs.FrontLemmas.{breaks-cut, cut_front, cut_here, either, front-more, stands-gathers, stands-hands}
use Rattle.playback.proofs.OutputLemmas.{hands-keep}
use Rattle.playback.proofs.seconds.play_second.Goals as goal

pub returns-clause-readers : goal.returns-clause-readers
returns-clause-readers g c =
    let file = option_map (λ (id : FileId). id.number) c.args.file in
    on_ok_weaker c.hand_on_full.result
    (λ hands. hands-keep file c.tick.new.output c.hand_on_full.new.output (g.D.Desk.told c.args.desk.now) (g.D.Desk.told c.hand_on_full.new.desk) hands) c.hand_on_full.ensures.hands

pub returns-in_err-tick-clause-goes : goal.returns-in_err-tick-clause-goes
returns-in_err-tick-clause-goes g c = λ start old past stands.
    let file = option_map (λ (id : FileId). id.number) c.args.file in
    let does = g.M.Machine.Does in
    let told = g.D.Desk.told c.args.desk.now in
    let next : List Step = Happens (Tick c.args.second) ∷ [] in
    let cut = cut_front does start file old past (past ++ next) told (front-more past next) (cut_here does start file old past (g.M.Machine.state c.args.machine.now) c.args.output.now told stands) in
    search (rules, cut)

pub returns-clause-goes : goal.returns-clause-goes
returns-clause-goes g c = λ start old past stands.
    let file = option_map (λ (id : FileId). id.number) c.args.file in
    let does = g.M.Machine.Does in
    let told = g.D.Desk.told c.args.desk.now in
    let now = g.D.Desk.told c.hand_on_full.new.desk in
    let next = Happens (Tick c.args.second) in
    let after = g.M.Machine.state c.tick.new.self in
    let all : List Step = past ++ next ∷ [] in
    let gathered = stands-gathers does start file old past next (g.M.Machine.state c.args.machine.now) after c.args.output.now c.tick.new.output told c.in_ok-tick.ensures.gathers stands in
    let handed = c.hand_on_full.ensures in
    either _ _ _ c.hand_on_full.result handed.hands
    (on_err_weaker c.hand_on_full.result (λ breaks. breaks-cut does start file old all after c.tick.new.output told now breaks gathered) handed.breaks)
    (λ hands. stands-hands does start file old all after c.tick.new.output c.hand_on_full.new.output told now hands handed.written gathered)
