use Rattle.std.proofs.Common.{◌≡◌, ◌<◌, ◌≤◌, ℕ, ◌+◌, ◌-◌, ◌*◌, Option, ap, arith, subst, unwrap_or}
use Rattle.std.specs.List.{range_with_len}
use Rattle.capture_events.specs.Events.{second_of}
use Rattle.capture_events.specs.Seconds.{AreBetween}
use Rattle.capture_events.proofs.SecondsLemmas.{row-between}
use Rattle.capture_events.proofs.seconds.seconds_between.Goals as goal
use Rattle.capture_events.proofs.seconds.seconds_between.Goals.{in-Some, in-None}

pub returns-clause-between : goal.returns-clause-between
returns-clause-between c = λ least.
    let end = c.second_of-end.result + 1 in
    let next = c.match-from.next in
    let is = c.second_of-end.ensures in
    let begins = unwrap_or c.args.from least in
    elim c.match-from.branch [
      | in-Some w ↦ (
          let from : unwrap_or c.args.from least ≡ w.in-Some.from = ap (λ (o : Option ℕ). unwrap_or o least) w.in-Some.is in
          let second = w.second_of.ensures in
          let next_is = w.next-is in
          let before : begins < next * 1000000000 = grind (arith, from, second, next_is) in
          let within : end - next ≤ second_of c.args.to + 1 - next = omega (arith, is) in
          row-between begins c.args.to next (end - next) before within
          )
      | in-None w ↦ (
          let next_is = w.next-is in
          let none : 0 ≡ end - next = omega (arith, next_is) in
          subst (λ (n : ℕ). AreBetween begins c.args.to (range_with_len next n)) none tt
          )
    ]
