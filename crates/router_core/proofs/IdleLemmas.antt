-- A second in which nothing is to be done.
use Rattle.std.proofs.Common.{◌≡◌, ◌≤◌, ℕ, Bool, true, false, cond, List, [], ◌∷◌, Option, Some, None, is_some, refl, sym, ap, ◌∙◌, Bor}
use Rattle.std.specs.List.{slice_get}
use Rattle.std.specs.Option.{option_copied}
use Rattle.lisp_settings.specs.declared.settings.Settings.{Settings}
use Rattle.request_queue.specs.Queue.{all_due}
use Rattle.router_model.specs.Changes.{each, unchanged}
use Rattle.router_model.specs.Parts.{Parts, table, view_in}
use Rattle.router_model.specs.Site.{reaches_resolver}
use Rattle.router_model.specs.Tick.{after_changes, all_probed, all_retried, next_targets, probed, retried, retried_where}
use Rattle.router_core.proofs.ChangeLemmas.{later}

empty : {A : Type 0} (items : List A) → slice_get items 0 ≡ None → items ≡ []
empty [] is = refl
empty (item ∷ items) is = cc

-- no request is to be sent again
retries-none : (settings : Settings) (p : Parts) (m : ℕ) → p.now ≤ m → slice_get (all_due m p.requests) 0 ≡ None → all_retried table settings m (unchanged p) ≡ unchanged p
unfolding view_in
retries-none settings p m after none =
    ap (λ requests. each (retried table settings m) requests (unchanged p))
    (ap (λ (t : ℕ). all_due t p.requests) (later m p.now after) ∙ empty (all_due m p.requests) none)

-- whether or not the resolver is reached
retries-nowhere : (settings : Settings) (p : Parts) (m : ℕ) (reaches : Bool) → p.now ≤ m → slice_get (all_due m p.requests) 0 ≡ None → retried_where table settings m reaches (unchanged p) ≡ unchanged p
retries-nowhere settings p m true after none = retries-none settings p m after none
retries-nowhere settings p m false after none = refl

-- where the settings have no probes
pub after-quiet : (settings : Settings) (p : Parts) (m : ℕ) → p.now ≤ m → slice_get (all_due m p.requests) 0 ≡ None → settings.probe ≡ false → after_changes table settings m false (unchanged p) ≡ unchanged p
unfolding after_changes
after-quiet settings p m after none quiet =
    ap (all_probed table settings m) (retries-nowhere settings p m (reaches_resolver settings) after none)
    ∙ ap (λ b. cond b (each (probed table settings m) (next_targets settings (view_in p m)) (unchanged p)) (unchanged p)) quiet

-- where none is to be made
pub after-rest : (settings : Settings) (p : Parts) (m : ℕ) → p.now ≤ m → slice_get (all_due m p.requests) 0 ≡ None → next_targets settings (view_in p m) ≡ [] → after_changes table settings m false (unchanged p) ≡ unchanged p
unfolding after_changes
after-rest settings p m after none rest =
    ap (all_probed table settings m) (retries-nowhere settings p m (reaches_resolver settings) after none)
    ∙ ap (λ targets. cond settings.probe (each (probed table settings m) targets (unchanged p)) (unchanged p)) rest
    ∙ either settings.probe
  where
    either : (b : Bool) → cond b (unchanged p) (unchanged p) ≡ unchanged p
    either true = refl
    either false = refl

-- a request that isn't found
pub copied-none : {A : Type 0} (found : Option (Bor A)) (first : Option A) → option_copied found ≡ first → is_some found ≡ false → first ≡ None
copied-none None first is isn't = sym is
copied-none (Some item) first is isn't = cc
