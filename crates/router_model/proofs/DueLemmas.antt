-- Which changes a second makes, one after another, and a second that makes none.
use Rattle.std.proofs.Common.{◌≡◌, ◌<◌, ℕ, suc, nat_le, nat_lt, true, false, cond, List, [], ◌∷◌, drop, slice_get, Some, refl, ap, subst, ◌∙◌, arith}
use Rattle.std.proofs.lemmas.Bool.Decides.{nat_tests}
use Rattle.std.proofs.lemmas.Option.{get_or_from_slice_get, slice_get_within}
use Rattle.std.proofs.Math.Seq.{drop-cons}
use Rattle.lisp_settings.specs.declared.settings.Change.{Change as OwnChange}
use Rattle.lisp_settings.specs.declared.settings.Settings.{Settings}
use Rattle.router_log.specs.Moments.{seconds}
use Rattle.router_model.specs.Changes.{Change, Ledger}
use Rattle.router_model.specs.Proper.{AreInTurn}
use Rattle.router_model.specs.Site.{reaches_resolver}
use Rattle.router_model.specs.Standing.{due_changes}
use Rattle.router_model.specs.Tick.{after_changes, all_changed, all_probed, due_now, retried_where, ticked}
use Rattle.router_model.proofs.TickLemmas.{none-due, turns-drop}

module _ (m : ℕ) (changes : List OwnChange) (n : ℕ) where
  -- the next one, and those behind it
  split : (change : OwnChange) → slice_get changes n ≡ Some change → drop n changes ≡ change ∷ drop (suc n) changes
  split change is =
      drop-cons changes n change (slice_get_within changes n change is)
      ∙ ap (λ c. c ∷ drop (suc n) changes) (get_or_from_slice_get changes n change change is)

  -- behind one that isn't none does
  pub due-later : (change : OwnChange) → AreInTurn changes → slice_get changes n ≡ Some change → nat_le (seconds change.at) m ≡ false → due_changes m (drop n changes) ≡ []
  due-later change turns is later =
      let left : AreInTurn (change ∷ drop (suc n) changes) = subst AreInTurn (split change is) (turns-drop n changes turns) in
      ap (due_changes m) (split change is)
      ∙ ap (λ b. cond b (change ∷ due_changes m (drop (suc n) changes)) (due_changes m (drop (suc n) changes))) later
      ∙ none-due m change.at (drop (suc n) changes) left.0 later

below : (n most : ℕ) → n < most → nat_lt n most ≡ true
below n most less = grind (arith, nat_tests)

-- ### a second

module _ {S : Type 0} (ledger : Ledger S) (settings : Settings) (m : ℕ) (change : Change S) where
  -- in which no change is due
  pub ticked-none : due_now ledger settings m change.after ≡ [] → let stands = ledger.stands settings change.after in ticked ledger settings m change ≡ all_probed ledger stands m (retried_where ledger stands m (reaches_resolver stands) change)
  unfolding ticked after_changes
  ticked-none none = rw none refl

  -- in which some are
  pub ticked-some : (own : OwnChange) (others : List OwnChange) → due_now ledger settings m change.after ≡ own ∷ others → let after = all_changed ledger settings m (own ∷ others) change in ticked ledger settings m change ≡ after_changes ledger (ledger.stands settings after.after) m true after
  unfolding ticked
  ticked-some own others are = rw are refl
