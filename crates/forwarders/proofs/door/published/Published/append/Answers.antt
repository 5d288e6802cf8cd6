use Rattle.std.proofs.Common.{rules, ◌≡◌, IsTrue, List, drop, sym, subst}
use Rattle.left_right.specs.Sides.{view as known}
use Rattle.router_log.specs.declared.entry.Entry.{Entry}
use Rattle.router_model.specs.Journal.{extended}
use Rattle.router_model.specs.Proper.{fits}
use Rattle.forwarders.specs.declared.door.view.View.{View}
use Rattle.forwarders.specs.Batches.{journal_of}
use Rattle.forwarders.specs.Keeping.{GoesOn, Shows}
use Rattle.forwarders.specs.Publication.{Publication}
use Rattle.forwarders.specs.Views.{entries_of, list_in, publication_of, settings_in}
use Rattle.forwarders.proofs.PublishLemmas.{appended-goes}
use Rattle.forwarders.proofs.door.published.Published.append.Goals as goal

pub invariant_of-self : goal.invariant_of-self
invariant_of-self c =
    let old = c.self.inside.writer in
    let new = c.appended.new.writer in
    let v : View = known old.desk.place in
    let before : List Entry = entries_of (drop old.behind old.log.items) in
    let after : List Entry = entries_of (drop new.behind new.log.items) in
    let entry : Entry = c.in_ok-entry.entry in
    let now : c.args.self.now ≡ publication_of v before = search rules in
    let same : c.args.entry.now ≡ entry = search rules in
    let fit : IsTrue (fits (settings_in v) (extended (journal_of (list_in v)) before) entry) =
    subst (λ (t : Publication × Entry). IsTrue (fits t.0.settings (extended (journal_of t.0.batches) t.0.pending) t.1)) (λ i. (now i, same i)) c.requires in
    let desk = c.appended.ensures.desk in (
      subst (λ d. Shows d.shown.value.parts (known d.place)) (sym desk) c.self.invariant.0,
      subst (λ d. GoesOn (known d.place) after) (sym desk)
          (appended-goes c.appended.result v before after entry c.appended.ensures.ok c.appended.ensures.err fit c.self.invariant.1),
    )
