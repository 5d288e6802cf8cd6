use Rattle.std.proofs.Common.{◌≡◌, ◌∙◌, sym, arith, take, subst, List, ℕ, ◌++◌}
use Rattle.std.proofs.lemmas.Grind.{common_steps}
use Rattle.std.specs.List.{length_refill}
use Rattle.replay.proofs.PieceLemmas.{Came, came-more}
use Rattle.replay.proofs.settings_file.read_pieces.Goals as goal

pub loop-text-preserved : goal.loop-text-preserved
loop-text-preserved g c =
    let inv = c.loop-text.invariant in
    let front : c.append.new.self ≡ c.loop-text.text ++ take c.in_ok-n.n c.read_full.new.buf = grind (arith, common_steps) in
    record {
      size = omega (arith, length_refill c.loop-text.piece.len c.loop-text.piece.items c.read_full.new.buf c.loop-text.piece.ok.0, c.loop-text.piece.ok.0, inv.size);
      short = omega (arith, c.len.ensures, c.if-len-gt-MOST_TEXT_OCTETS.false);
      came = subst (λ (text : List ℕ). Came c.args.id.number text (g.D.Desk.told c.args.desk.now) (g.D.Desk.told c.read_full.new.desk)) (sym front)
          (came-more c.args.id.number c.in_ok-n.n c.loop-text.text c.read_full.new.buf (g.D.Desk.told c.args.desk.now) (g.D.Desk.told c.loop-text.desk) (g.D.Desk.told c.read_full.new.desk) inv.came c.in_ok-n.ensures.octets c.in_ok-n.ensures.told);
      shown = c.in_ok-n.ensures.shown ∙ inv.shown;
      given = c.in_ok-n.ensures.given ∙ inv.given;
      steady = λ steady. c.in_ok-n.ensures.steady.stays (inv.steady steady);
      faults = c.in_ok-n.ensures.cause.ok ∙ inv.faults;
    }
