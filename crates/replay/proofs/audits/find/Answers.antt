use Rattle.std.proofs.Common.{◌∙◌, sym}
use Rattle.std.proofs.lemmas.Option.{IfSome_then}
use Rattle.replay.specs.Owed.{AreHeld}
use Rattle.replay.proofs.SteadyLemmas.{compared-kept, owed-lawful}
use Rattle.replay.proofs.audits.find.Goals as goal

pub returns-in-Ok-clause-steady : goal.returns-in-Ok-clause-steady
returns-in-Ok-clause-steady g c =
    let old = g.D.Desk.told c.args.desk.now in
    let read = c.in_ok-settings.ensures in
    record {
      stays = λ was. c.find_by.ensures.steady.stays (read.steady.stays was);
      done = λ was owed failed.
          let held = owed-lawful (AreHeld c.args.captures.now.nonces c.args.captures.now.input.now c.args.captures.now.sent.now old) c.args.settings.now c.in-Ok.settings old owed.0 (IfSome_then old read.value (λ w value. sym c.in-Ok.is ∙ value)) owed.1 in
          c.find_by.ensures.steady.done (read.steady.stays was) (λ plain. compared-kept c.args.captures.now.input.now c.args.captures.now.sent.now old (g.D.Desk.told c.load_settings.new.desk) read.shown (held plain)) failed;
    }
