use Rattle.std.proofs.Common.{◌≡◌, ◌≤◌, length, rules}
use Rattle.std.proofs.lemmas.Result.{on_ok_weaker}
use Rattle.playback.proofs.FrontLemmas.{gathers-idle}
use Rattle.sharing.specs.Gathering.{ClosesRound, WorksRound, state_of}
use Rattle.sharing.proofs.RoundLemmas.{closes-none, closes-some, gathers-as}
use Rattle.sharing.proofs.working.work_last.Goals as goal

pub returns-then-is_empty : goal.returns-then-is_empty
returns-then-is_empty g c =
    let router = c.args.router.now in
    let gathered = state_of router in
    let none : length router.frames.items ≡ 0 = search rules in
    record { gathers = gathers-idle (ClosesRound router.frames.items gathered) c.args.output.now gathered (closes-none gathered none) }

pub returns : goal.returns
returns g c =
    let router = c.args.router.now in
    let gathered = state_of router in
    let after = c.work_round.new.router in
    let some : 1 ≤ length router.frames.items = search rules in
    record {
      gathers = on_ok_weaker c.work_round.result (λ one.
          gathers-as (WorksRound gathered router.frames.items) (ClosesRound router.frames.items gathered) c.args.output.now c.work_round.new.output
          (state_of after) (λ outcome works. closes-some gathered outcome some works) one) c.work_round.ensures.gathers;
    }
