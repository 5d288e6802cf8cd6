-- All whose turn it is are chosen: they are the next targets.
use Rattle.std.proofs.Common.{◌≡◌, ◌⊎◌, ◌==◌, ℕ, Bool, true, false, List, [], filter, get_or, length, refl, sym, ◌∙◌, inl, inr, eqb-true}
use Rattle.std.proofs.lemmas.Bool.{and_parts, eq-eqb, false≢true, true≢false}
use Rattle.std.proofs.lemmas.List.Elements.{All-nil, All-take, All-weaker, filter_passes}
use Rattle.std.specs.List.{All, list_any}
use Rattle.lisp_settings.specs.declared.settings.Settings.{Settings}
use Rattle.locator_state.proofs.TurnsLemmas.{All-placed, pairs-ascend}
use Rattle.locator_state.specs.Turns.{goes_before}
use Rattle.locator_state.specs.declared.target.Target.{Target}
use Rattle.router_model.proofs.CandidateLemmas.{first-targets}
use Rattle.router_model.specs.Parts.{Parts, view_in}
use Rattle.router_model.specs.Tick.{candidates, is_probed, next_targets, targets}
use Rattle.router_model.specs.View.{View}
use Rattle.router_core.specs.Ticking.{HasSender}
use Rattle.router_core.specs.Turning.{ArePlaced, IsPlaced, eligible, has_address}

-- those that are placed are the first ones
pub placed-next : (settings : Settings) (p : Parts) (m : ℕ) (first : List Target) → ArePlaced (eligible settings p m) first → first ≡ next_targets settings (view_in p m)
placed-next settings p m first are =
    first-targets settings (view_in p m) first (pairs-ascend first are.chosen.ascend) are.chosen.few are.chosen.found
    (λ k d within. apart (get_or (eligible settings p m) k d) (are.placed k d within))
    (enough (length first == 16) refl)
  where
    apart : (x : Target) → IsPlaced first x → list_any (has_address x.rloc) first ≡ false → All (λ r. goes_before r x ≡ true) first
    apart x placed isn't = elim placed [
      | inl there ↦ absurd (false≢true (sym isn't ∙ there))
      | inr full ↦ full.1
    ]

    short : (x : Target) → (length first == 16) ≡ false → IsPlaced first x → list_any (has_address x.rloc) first ≡ true
    short x isn't placed = elim placed [
      | inl there ↦ there
      | inr full ↦ absurd (true≢false (sym (eq-eqb (length first) 16 full.0) ∙ isn't))
    ]

    enough : (b : Bool) → (length first == 16) ≡ b → (length first ≡ 16) ⊎ All (λ x. list_any (has_address x.rloc) first ≡ true) (eligible settings p m)
    enough true is = inl (eqb-true (length first) 16 is)
    enough false isn't = inr (λ k d within. short (get_or (eligible settings p m) k d) isn't (are.placed k d within))

-- an own locator of the family of each of them is up
pub next-senders : (settings : Settings) (v : View) → All (HasSender settings) (next_targets settings v)
next-senders settings v =
    All-take (HasSender settings) 16 (candidates settings v)
    (All-placed (HasSender settings) (filter (is_probed settings v.now) (targets v)) []
    (All-weaker (λ target. is_probed settings v.now target ≡ true) (HasSender settings)
    (λ target is. (and_parts _ _ (and_parts _ _ is).1).0)
    (filter (is_probed settings v.now) (targets v)) (filter_passes (is_probed settings v.now) (targets v)))
    (All-nil (HasSender settings)))
