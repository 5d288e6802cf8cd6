use Rattle.std.proofs.Common.{◌∙◌, sym, ap, subst}
use Rattle.std.proofs.lemmas.Result.{on_ok_weaker}
use Rattle.router_model.specs.Journal.{extended}
use Rattle.router_model.specs.Parts.{Parts}
use Rattle.router_model.specs.Proper.{IsProper}
use Rattle.router_model.specs.Rounds.{closing_moment}
use Rattle.router_model.specs.Standing.{without_ups}
use Rattle.router_model.proofs.UpsLemmas.{own_after-site}
use Rattle.forwarders.specs.Batches.{journal_of}
use Rattle.forwarders.specs.Finishing.{noted_of}
use Rattle.forwarders.specs.Publication.{Publication}
use Rattle.forwarders.proofs.RoundLemmas.{all-given}
use Rattle.forwarders.proofs.RunLemmas.{all-run, closes-early, few-places, left-ruled, notices-go, notices-room, rests-still, then-stands}
use Rattle.forwarders.proofs.round.work_round.Goals as goal

pub write_round-requires-clause-own : goal.write_round-requires-clause-own
write_round-requires-clause-own g c =
    ap (λ (p : Parts). without_ups p.own) c.requires.run.stands.whole ∙ own_after-site c.args.round.now.settings.now (journal_of c.args.published.now.batches)

pub decide_round-requires-clause-number : goal.decide_round-requires-clause-number
decide_round-requires-clause-number g c = λ κs bounds.
    few-places c.args.round.now.settings.now c.args.round.now.previous c.args.table.now.parts c.args.published.now.batches c.in_ok-from.from c.write_round.new.written c.args.round.now.frames.now c.requires.run c.in_ok-from.ensures.written

pub decide_round-requires-clause-stands : goal.decide_round-requires-clause-stands
decide_round-requires-clause-stands g c = λ κs bounds.
    then-stands c.args.round.now.settings.now c.args.round.now.previous c.args.table.now.parts c.args.published.now.batches c.in_ok-from.from c.write_round.new.written c.args.round.now.frames.now c.write_round.new.table.parts c.requires.run c.in_ok-from.ensures.written c.in_ok-from.ensures.table

pub finish_round-requires-clause-left : goal.finish_round-requires-clause-left
finish_round-requires-clause-left g c =
    left-ruled c.args.round.now.settings.now c.args.round.now.previous c.args.table.now.parts c.args.published.now.batches c.in_ok-from.from c.write_round.new.written c.in_ok-ruled.ruled.items c.args.round.now.frames.now c.requires.run c.in_ok-from.ensures.written c.in_ok-ruled.ensures.ruled

pub finish_round-requires-clause-may : goal.finish_round-requires-clause-may
finish_round-requires-clause-may g c =
    let now = c.in_ok-from.ensures.entered.now in
    record {
      given = all-given c.args.round.now.settings.now _ _ c.args.round.now.frames.now c.write_round.new.written.places c.in_ok-ruled.ruled.items c.in_ok-ruled.ensures.ruled;
      later = now;
      count = notices-room c.args.round.now.settings.now c.args.round.now.previous c.args.table.now.parts c.args.published.now.batches c.in_ok-from.from c.write_round.new.written c.in_ok-ruled.ruled.items c.args.round.now.frames.now c.write_round.new.table.parts c.requires.run c.in_ok-from.ensures.written c.in_ok-ruled.ensures.ruled c.in_ok-from.ensures.entered.count;
      early = closes-early c.args.round.now.settings.now c.args.round.now.previous c.args.table.now.parts c.args.published.now.batches c.args.round.now.frames.now c.requires.run;
    }

pub finish_round-requires-clause-rest : goal.finish_round-requires-clause-rest
finish_round-requires-clause-rest g c =
    let stands = then-stands c.args.round.now.settings.now c.args.round.now.previous c.args.table.now.parts c.args.published.now.batches c.in_ok-from.from c.write_round.new.written c.args.round.now.frames.now c.write_round.new.table.parts c.requires.run c.in_ok-from.ensures.written c.in_ok-from.ensures.table in
    rests-still c.args.round.now.settings.now c.args.published.now c.decide_round.new.published c.write_round.new.written.batches c.requires.rest c.in_ok-ruled.ensures.published stands.proper

pub finish_round-requires-clause-proper : goal.finish_round-requires-clause-proper
finish_round-requires-clause-proper g c =
    subst (λ (p : Publication). IsProper c.args.round.now.settings.now (extended (journal_of p.batches) (noted_of c.args.round.now.settings.now (closing_moment c.args.round.now.frames.now) c.write_round.new.table.parts c.in_ok-ruled.ruled.items).entries)) (sym c.in_ok-ruled.ensures.published)
    (notices-go c.args.round.now.settings.now c.args.round.now.previous c.args.table.now.parts c.args.published.now.batches c.in_ok-from.from c.write_round.new.written c.in_ok-ruled.ruled.items c.args.round.now.frames.now c.write_round.new.table.parts c.requires.run c.in_ok-from.ensures.written c.in_ok-ruled.ensures.ruled c.in_ok-from.ensures.table)

pub returns : goal.returns
returns g c =
    on_ok_weaker c.finish_round.result (λ finishes.
    all-run c.args.round.now.settings.now c.args.round.now.previous c.args.round.now.frames.now c.args.table.now.parts c.write_round.new.table.parts c.finish_round.new.table.parts c.args.published.now c.decide_round.new.published c.finish_round.new.published c.in_ok-from.from c.write_round.new.written c.in_ok-ruled.ruled.items c.args.done.now c.finish_round.new.done
    c.requires.run c.in_ok-from.ensures.written c.in_ok-ruled.ensures.ruled c.in_ok-ruled.ensures.looked c.requires.rest.none c.in_ok-ruled.ensures.published c.in_ok-from.ensures.table c.requires.undone finishes) c.finish_round.ensures.finishes
