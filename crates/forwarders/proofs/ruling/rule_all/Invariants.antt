use Rattle.std.proofs.Common.{◌≡◌, ◌≤◌, ℕ, List, Option, length, take}
use Rattle.router_log.specs.declared.entry.Entry.{Entry}
use Rattle.forwarders.specs.declared.door.looks.Forwarded.{Forwarded}
use Rattle.forwarders.specs.Batches.{Begins, count_of}
use Rattle.forwarders.specs.Deciding.{AreAllDealt, HaveAnswered, IsSoleOfAll}
use Rattle.forwarders.specs.Ruling.{AreByAnswers, AreRuled, HaveLooked}
use Rattle.forwarders.proofs.ruling.rule_all.Given as goal

abbrev pub invariant-loop-index : goal.invariant-loop-index
invariant-loop-index g l = record {
  dealt : AreAllDealt l.workers;
  number : length l.all.items ≡ l.index;
  answered : (first plan : List (List Entry)) → HaveAnswered l.round.settings.now first plan l.round.frames.now l.places l.fn.workers → HaveAnswered l.round.settings.now first plan l.round.frames.now l.places l.workers;
  ruled : (first : List (List Entry)) → Begins first l.published.batches → HaveAnswered l.round.settings.now first l.published.batches l.round.frames.now l.places l.fn.workers → AreRuled l.round.settings.now first l.published.batches l.round.frames.now (take l.index l.places) l.all.items;
  left : (index : ℕ) (told : Option Forwarded) → l.index ≤ index → IsSoleOfAll index told l.workers → IsSoleOfAll index told l.fn.workers;
  answers : AreByAnswers (count_of l.published.batches) l.fn.workers l.all.items;
  looked : HaveLooked (count_of l.published.batches) l.all.items;
}
