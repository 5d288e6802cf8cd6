use Rattle.std.proofs.Common.{List, ◌∙◌, ap, length, sym}
use Rattle.router_model.specs.Rounds.{closing_moment}
use Rattle.forwarders.specs.declared.ruling.Ruled.{Ruled}
use Rattle.forwarders.proofs.FinishLemmas.{finished}
use Rattle.forwarders.proofs.PutLemmas.{left-noted}
use Rattle.forwarders.proofs.round.finish_round.Goals as goal

pub put_together-requires : goal.put_together-requires
put_together-requires g c =
    left-noted c.args.written.now.items.items c.note_round.new.items.items _ c.in_ok-note_round.ensures.notes.items
    ∙ c.requires.left
    ∙ ap (λ (l : List Ruled). length l) (sym c.from_vec-ruled.ensures.items)

pub returns : goal.returns
returns g c = record {
  finishes = finished c.put_together.result c.args.round.now.settings.now (closing_moment c.args.round.now.frames.now) c.args.ruled.items c.as_slice.result.now c.from_vec-ruled.result.items c.args.table.now.parts c.note_round.new.table.parts c.args.published.now c.note_round.new.published c.args.written.now c.note_round.new.items.items c.args.done.now c.put_together.new.done
      c.as_slice.ensures.value c.from_vec-ruled.ensures.items c.requires.may.given c.in_ok-note_round.ensures.notes c.in_ok-note_round.ensures.published c.put_together.ensures.lines c.put_together.ensures.packets;
}
