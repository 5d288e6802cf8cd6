use Rattle.std.proofs.Common.{◌≡◌, ◌≤◌, ◌+◌, ◌-◌, length, IsTrue}
use Rattle.desk.specs.World.{shown}
use Rattle.lisp_settings.specs.Limits.{most_text_octets}
use Rattle.replay.proofs.PieceLemmas.{Came}
use Rattle.replay.proofs.settings_file.read_pieces.Given as goal

abbrev pub invariant-loop-text : goal.invariant-loop-text
invariant-loop-text g l = record {
  size : length l.piece.items ≡ 65536;
  short : length l.text ≤ most_text_octets;
  came : Came l.id.number l.text (g.D.Desk.told l.fn.desk) (g.D.Desk.told l.desk);
  shown : shown (g.D.Desk.told l.desk) ≡ shown (g.D.Desk.told l.fn.desk);
  given : g.D.Desk.given l.desk ≡ g.D.Desk.given l.fn.desk;
  steady : IsTrue (g.D.Desk.steady l.fn.desk) → IsTrue (g.D.Desk.steady l.desk);
  faults : g.D.Desk.faults l.desk ≡ g.D.Desk.faults l.fn.desk;
}

abbrev pub decreases-loop-text : goal.decreases-loop-text
decreases-loop-text g l = most_text_octets + 1 - length l.text
