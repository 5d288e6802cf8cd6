use Rattle.std.proofs.Common.{◌≡◌, ◌∙◌, Some, ap, refl}
use Rattle.capture_events.specs.Events.{Pause}
use Rattle.playback.specs.Input.{left_in}
use Rattle.playback.specs.Passing.{file_of}
use Rattle.playback.proofs.FrontLemmas.{on_err_always}
use Rattle.playback.proofs.PassingLemmas.{cut_reading, ends-cut, ends-played, passing-first, passing-pause}
use Rattle.sharing.specs.Gathering.{InRounds, WorksRound, state_of}
use Rattle.sharing.proofs.FrontLemmas.{over-cut}
use Rattle.sharing.proofs.RoundLemmas.{gathers-as, none-due}
use Rattle.sharing.proofs.playing.play_on.Goals as goal

pub loop-play-init : goal.loop-play-init
loop-play-init g c =
    let new = c.new-play.ensures in
    let play = c.new-play.result in
    let start = state_of c.args.router.now in
    record {
      between = new.between;
      id = ap g.I.FrameReader.id new.reader;
      file = new.file;
      ready = rw (new.begun.progress, new.begun.written) c.requires.ready;
      not_full = none-due start c.requires.none c.requires.ready.size.0;
      passing = rw new.reader (passing-first InRounds (file_of play) start (left_in g.I.FrameReader.id g.I.FrameReader.run c.args.reader) play.progress play.output (g.D.Desk.told c.args.desk.now) new.begun.progress new.begun.lines new.begun.records new.begun.written);
      given = refl;
      steady = λ steady. steady;
      faults = refl;
    }

pub loop-play-preserved : goal.loop-play-preserved
loop-play-preserved g c =
    let inv = c.loop-play.invariant in
    let on = c.in_ok-on.ensures in
    let left = left_in g.I.FrameReader.id g.I.FrameReader.run in
    let between = rw c.in-Full.is at on.between in
    let same = rw c.in-Full.is at on.same in
    let full = rw c.in-Full.is at on.full in
    let mid = c.on.new.self in
    let work = c.in_ok-work_round-in-Full.ensures in
    let start = state_of c.args.router.now in
    let state = state_of c.on.new.machine in
    let after = state_of c.work_round.new.router in
    let told = g.D.Desk.told c.args.desk.now in
    let now = g.D.Desk.told c.on.new.desk in
    let passing = rw c.in-Full.is at (on.passes start (left c.args.reader) told inv.passing) in
    let gathers = gathers-as (WorksRound state state.frames) (InRounds state Pause) mid.output c.work_round.new.output after (λ outcome works. (full, works)) work.gathers in
    record {
      between = record { open_still = between.open_still; progress = between.progress; most = between.most };
      id = same.id ∙ inv.id;
      file = same.file ∙ inv.file;
      ready = work.ready;
      not_full = none-due after work.none work.ready.size.0;
      passing = passing-pause InRounds (file_of mid) start (left c.args.reader) (left mid.reader) mid.progress state after told now mid.output c.work_round.new.output passing gathers;
      given = on.given ∙ inv.given;
      steady = λ steady. on.steady.stays (inv.steady steady);
      faults = on.cause.ok ∙ inv.faults;
    }

pub returns-in-Ended-clause-played : goal.returns-in-Ended-clause-played
returns-in-Ended-clause-played g c =
    let inv = c.loop-play.invariant in
    let on = c.in_ok-on.ensures in
    let run = left_in g.I.FrameReader.id g.I.FrameReader.run c.args.reader in
    let mid = c.on.new.self in
    let start = state_of c.args.router.now in
    let told = g.D.Desk.told c.args.desk.now in
    let over = rw inv.file at (rw c.in-Ended.is at (on.passes start run told inv.passing)) in
    let file : mid.file ≡ Some c.args.file = c.on.ensures.file ∙ inv.file in
    ends-played InRounds (Some c.args.file.number) start run told mid.progress.frames c.in-Ended.fault
    (state_of c.on.new.machine) (state_of c.work_last.new.router) mid.output c.work_last.new.output (g.D.Desk.told c.on.new.desk) (g.D.Desk.told c.end.new.desk) c.end.result
    over c.in_ok-work_last-in-Ended.ensures.gathers (rw file at c.end.ensures.told) c.end.ensures.ending

pub returns-in_err-on-clause-cut : goal.returns-in_err-on-clause-cut
returns-in_err-on-clause-cut g c =
    let inv = c.loop-play.invariant in
    let run = left_in g.I.FrameReader.id g.I.FrameReader.run c.args.reader in
    on_err_always c.from_residual.result (rw inv.file at (c.in_err-on.ensures.passes (state_of c.args.router.now) run (g.D.Desk.told c.args.desk.now) inv.passing))

pub returns-in_err-work_round-in-Full-clause-cut : goal.returns-in_err-work_round-in-Full-clause-cut
returns-in_err-work_round-in-Full-clause-cut g c =
    let inv = c.loop-play.invariant in
    let on = c.in_ok-on.ensures in
    let left = left_in g.I.FrameReader.id g.I.FrameReader.run in
    let same = rw c.in-Full.is at on.same in
    let mid = c.on.new.self in
    let start = state_of c.args.router.now in
    let told = g.D.Desk.told c.args.desk.now in
    let now = g.D.Desk.told c.on.new.desk in
    let passing = rw c.in-Full.is at (on.passes start (left c.args.reader) told inv.passing) in
    let cut = cut_reading InRounds (file_of mid) start (left c.args.reader) (left mid.reader) mid.progress (state_of c.on.new.machine) told now now mid.output passing refl in
    on_err_always c.from_residual-in_err-work_round-in-Full.result (rw (same.file, inv.file) at cut)

pub returns-in_err-work_last-in-Ended-clause-cut : goal.returns-in_err-work_last-in-Ended-clause-cut
returns-in_err-work_last-in-Ended-clause-cut g c =
    let inv = c.loop-play.invariant in
    let run = left_in g.I.FrameReader.id g.I.FrameReader.run c.args.reader in
    let start = state_of c.args.router.now in
    let told = g.D.Desk.told c.args.desk.now in
    let over = rw inv.file at (rw c.in-Ended.is at (c.in_ok-on.ensures.passes start run told inv.passing)) in
    let mid = c.on.new.self in
    on_err_always c.from_residual-in_err-work_last-in-Ended.result
    (over-cut (Some c.args.file.number) start run told mid.progress.frames c.in-Ended.fault (state_of c.on.new.machine) mid.output (g.D.Desk.told c.on.new.desk) over)

pub returns-in-Ended-clause-cut : goal.returns-in-Ended-clause-cut
returns-in-Ended-clause-cut g c =
    let inv = c.loop-play.invariant in
    let run = left_in g.I.FrameReader.id g.I.FrameReader.run c.args.reader in
    let mid = c.on.new.self in
    let start = state_of c.args.router.now in
    let told = g.D.Desk.told c.args.desk.now in
    let over = rw inv.file at (rw c.in-Ended.is at (c.in_ok-on.ensures.passes start run told inv.passing)) in
    let file : mid.file ≡ Some c.args.file = c.on.ensures.file ∙ inv.file in
    ends-cut InRounds (Some c.args.file.number) start run told mid.progress.frames c.in-Ended.fault
    (state_of c.on.new.machine) (state_of c.work_last.new.router) mid.output c.work_last.new.output (g.D.Desk.told c.on.new.desk) (g.D.Desk.told c.end.new.desk) c.end.result
    over c.in_ok-work_last-in-Ended.ensures.gathers (rw file at c.end.ensures.breaks)
