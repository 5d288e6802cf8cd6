use Rattle.std.proofs.Common.{◌∙◌, sym}
use Rattle.replay.proofs.SteadyLemmas.{both-there}
use Rattle.replay.proofs.audits.find_by.Goals as goal

pub returns-in-Ok-clause-steady : goal.returns-in-Ok-clause-steady
returns-in-Ok-clause-steady g c =
    let old = g.D.Desk.told c.args.desk.now in
    let read = c.in_ok-reader.ensures in
    record {
      stays = λ was. c.find_opened.ensures.steady.stays (read.steady.stays was);
      done = λ was owed failed.
          c.find_opened.ensures.steady.done (read.steady.stays was)
          (both-there c.args.captures.now.input.now c.args.captures.now.sent.now c.in-Ok.reader old (g.D.Desk.told c.open_classic.new.desk) read.shown (rw c.in-Ok.is at read.opened) (owed (sym c.lifts_echoes.ensures ∙ c.if-lifts_echoes.false))) failed;
    }
