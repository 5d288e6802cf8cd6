-- What is left of a change is what stood before, with its entries.
use Rattle.std.proofs.Common.{◌≡◌, ℕ, List, [], ◌∷◌, ◌++◌, refl, sym, ap, ◌∙◌}
use Rattle.capture_io.specs.Frame.{Frame}
use Rattle.lisp_settings.specs.declared.settings.Change.{Change as OwnChange}
use Rattle.lisp_settings.specs.declared.settings.Settings.{Settings}
use Rattle.router_log.specs.declared.entry.Entry.{Entry}
use Rattle.router_log.specs.declared.entry.Entry.TheVariants as entry
use Rattle.router_log.specs.declared.notice.Notice.{Notice}
use Rattle.router_model.specs.Changes.{Change, Ledger, each, entered}
use Rattle.router_model.specs.Hear.{hear_by}
use Rattle.router_model.specs.Note.{noted}
use Rattle.router_model.specs.Sides.{with_entries}
use Rattle.router_model.specs.Tick.{all_changed, due_now, made, some_came, ticked}
use Rattle.router_model.proofs.StayLemmas.{stays-after, stays-heard, stays-noted}

pub with-one : {S : Type 0} (ledger : Ledger S) (state : S) (entries : List Entry) (e : Entry) → with_entries ledger state (entries ++ e ∷ []) ≡ ledger.add (with_entries ledger state entries) e
with-one ledger state [] e = refl
with-one ledger state (one ∷ entries) e = with-one ledger (ledger.add state one) entries e

pub with-more : {S : Type 0} (ledger : Ledger S) (state : S) (entries more : List Entry) → with_entries ledger state (entries ++ more) ≡ with_entries ledger (with_entries ledger state entries) more
with-more ledger state [] more = refl
with-more ledger state (one ∷ entries) more = with-more ledger (ledger.add state one) entries more

-- a change of what stood before
abbrev pub Grown : {S : Type 0} → Ledger S → S → Change S → Type 0
Grown ledger before change = change.after ≡ with_entries ledger before change.entries

module _ {S : Type 0} (ledger : Ledger S) (settings : Settings) (m : ℕ) (before : S) where
  grown-entered : (e : Entry) (change : Change S) → Grown ledger before change → Grown ledger before (entered ledger settings m e change)
  grown-entered e change grown = ap (λ s. ledger.add s e) grown ∙ sym (with-one ledger before change.entries e)

  pub grown-each : {A : Type 0} (step : A → Change S → Change S) → ((a : A) (change : Change S) → Grown ledger before change → Grown ledger before (step a change)) → (items : List A) (change : Change S) → Grown ledger before change → Grown ledger before (each step items change)
  grown-each step one [] change grown = grown
  grown-each step one (a ∷ items) change grown = grown-each step one items (step a change) (one a change grown)

  pub grown-noted : (one : Notice) (change : Change S) → Grown ledger before change → Grown ledger before (noted ledger settings m one change)
  grown-noted one change grown =
      stays-noted ledger settings m (Grown ledger before) (λ e is c h. grown-entered e c h) (λ packet c h. h) one change grown

  pub grown-heard : (frame : Frame) (change : Change S) → Grown ledger before change → Grown ledger before (hear_by ledger settings m frame change).change
  grown-heard frame change grown =
      stays-heard ledger settings m (Grown ledger before) (λ e is c h. grown-entered e c h) (λ packet c h. h) frame change grown

module _ {S : Type 0} (ledger : Ledger S) (settings : Settings) (m : ℕ) (before : S) where
  pub grown-all_changed : (changes : List OwnChange) (change : Change S) → Grown ledger before change → Grown ledger before (all_changed ledger settings m changes change)
  grown-all_changed changes change grown =
      grown-each ledger settings m before (made ledger settings m)
      (λ own one h. grown-entered ledger settings m before (entry.Changed m own.address own.up) one h) changes change grown

  pub grown-ticked : (change : Change S) → Grown ledger before change → Grown ledger before (ticked ledger settings m change)
  unfolding ticked
  grown-ticked change grown =
      let due : List OwnChange = due_now ledger settings m change.after in
      let after : Change S = all_changed ledger settings m due change in
      let stands : Settings = ledger.stands settings after.after in
      stays-after ledger stands m (Grown ledger before) (λ e is c h. grown-entered ledger stands m before e c h) (λ packet c h. h)
      (some_came due) after (grown-all_changed due change grown)
