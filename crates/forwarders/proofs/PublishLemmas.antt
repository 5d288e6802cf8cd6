-- How a publication stands after an entry was added, or a batch published, and after either was refused.
use Rattle.std.proofs.Common.{◌≡◌, Result, Ok, Err, OnOk, OnErr, IsTrue, List, [], ◌∷◌, ◌++◌, sym, subst}
use Rattle.router_log.specs.declared.entry.Entry.{Entry}
use Rattle.router_model.specs.Journal.{extended}
use Rattle.router_model.specs.Proper.{fits}
use Rattle.forwarders.specs.declared.door.change.Change.{Change}
use Rattle.forwarders.specs.declared.door.view.View.{View}
use Rattle.forwarders.specs.Batches.{journal_of}
use Rattle.forwarders.specs.Keeping.{GoesOn, Publishes, Shows}
use Rattle.forwarders.specs.Publication.{Side}
use Rattle.forwarders.specs.Views.{entries_of, list_in, settings_in}
use Rattle.forwarders.proofs.StandLemmas.{proper-push}

module _ {X E : Type 0} where
  pub appended-goes : (result : Result X E) (v : View) (before after : List Entry) (entry : Entry) → OnOk result (after ≡ before ++ entry ∷ []) → OnErr result (after ≡ before)
      → IsTrue (fits (settings_in v) (extended (journal_of (list_in v)) before) entry) → GoesOn v before → GoesOn v after
  appended-goes (Ok x) v before after entry ok err fit goes = subst (GoesOn v) (sym ok) (proper-push (settings_in v) (journal_of (list_in v)) before entry goes fit)
  appended-goes (Err e) v before after entry ok err fit goes = subst (GoesOn v) (sym err) goes

  pub published-goes : (result : Result X E) (v w : View) (side after : Side) (pending left : List Change) → OnOk result (Publishes (entries_of pending) v after.parts w) → OnOk result (left ≡ [])
      → OnErr result (w ≡ v) → OnErr result (left ≡ pending) → OnErr result (after ≡ side) → Shows side.parts v → GoesOn v (entries_of pending) → Shows after.parts w × GoesOn w (entries_of left)
  published-goes (Ok x) v w side after pending left ok none same kept shown shows goes =
      (ok.shows, subst (λ (l : List Change). GoesOn w (entries_of l)) (sym none) ok.shows.stands.proper)
  published-goes (Err e) v w side after pending left ok none same kept shown shows goes = (
    subst (λ (t : Side × View). Shows t.0.parts t.1) (λ i. (sym shown i, sym same i)) shows,
    subst (λ (t : View × List Change). GoesOn t.0 (entries_of t.1)) (λ i. (sym same i, sym kept i)) goes,
  )
