use Rattle.std.specs.Option.{option_map}
use Rattle.desk.specs.declared.desk.FileId.{FileId}
use Rattle.capture_events.specs.Events.{End}
use Rattle.playback.specs.Input.{left_in}
use Rattle.playback.proofs.FrontLemmas.{gathers-idle, on_err_always}
use Rattle.playback.proofs.PassingLemmas.{ends-cut, ends-played, passing-first}
use Rattle.playback.proofs.playing.play.Goals as goal

pub returns-in_err-on-clause-cut : goal.returns-in_err-on-clause-cut
returns-in_err-on-clause-cut g c =
    let new = c.new-play.ensures in
    let play = c.new-play.result in
    let run = left_in g.R.FrameReader.id g.R.FrameReader.run in
    let start = g.M.Machine.state c.args.machine.now in
    let told = g.D.Desk.told c.args.desk.now in
    let first = passing-first g.M.Machine.Does (option_map (λ (id : FileId). id.number) play.file) start (run play.reader) play.progress play.output told new.begun.progress new.begun.lines new.begun.records new.begun.written in
    on_err_always c.from_residual.result (rw (new.reader, new.file) at (c.in_err-on.ensures.passes start (run play.reader) told first))

pub returns-clause-played : goal.returns-clause-played
returns-clause-played g c =
    let new = c.new-play.ensures in
    let play = c.new-play.result in
    let does = g.M.Machine.Does in
    let run = left_in g.R.FrameReader.id g.R.FrameReader.run in
    let start = g.M.Machine.state c.args.machine.now in
    let after = g.M.Machine.state c.on.new.machine in
    let told = g.D.Desk.told c.args.desk.now in
    let file = option_map (λ (id : FileId). id.number) c.args.file in
    let mid = c.on.new.self in
    let first = passing-first does (option_map (λ (id : FileId). id.number) play.file) start (run play.reader) play.progress play.output told new.begun.progress new.begun.lines new.begun.records new.begun.written in
    let over = rw (new.reader, new.file) at (rw c.in-Ended.is at (c.in_ok-on.ensures.passes start (run play.reader) told first)) in
    let ended = rw (c.on.ensures.file, new.file) at c.end.ensures.told in
    ends-played does file start (run c.args.reader) told mid.progress.frames c.in-Ended.fault after after mid.output mid.output (g.D.Desk.told c.on.new.desk) (g.D.Desk.told c.end.new.desk) c.end.result over
    (gathers-idle (does after End) mid.output after (c.requires.rests after)) ended c.end.ensures.ending

pub returns-clause-cut : goal.returns-clause-cut
returns-clause-cut g c =
    let new = c.new-play.ensures in
    let play = c.new-play.result in
    let does = g.M.Machine.Does in
    let run = left_in g.R.FrameReader.id g.R.FrameReader.run in
    let start = g.M.Machine.state c.args.machine.now in
    let after = g.M.Machine.state c.on.new.machine in
    let told = g.D.Desk.told c.args.desk.now in
    let file = option_map (λ (id : FileId). id.number) c.args.file in
    let mid = c.on.new.self in
    let first = passing-first does (option_map (λ (id : FileId). id.number) play.file) start (run play.reader) play.progress play.output told new.begun.progress new.begun.lines new.begun.records new.begun.written in
    let over = rw (new.reader, new.file) at (rw c.in-Ended.is at (c.in_ok-on.ensures.passes start (run play.reader) told first)) in
    let breaks = rw (c.on.ensures.file, new.file) at c.end.ensures.breaks in
    ends-cut does file start (run c.args.reader) told mid.progress.frames c.in-Ended.fault after after mid.output mid.output (g.D.Desk.told c.on.new.desk) (g.D.Desk.told c.end.new.desk) c.end.result over
    (gathers-idle (does after End) mid.output after (c.requires.rests after)) breaks
