use Rattle.std.proofs.Common.{◌≡◌, ◌≤◌, ℕ, true, false, cond, List, insert, is_ok, length, slice_get, take, ap, sym, ◌∙◌, arith}
use Rattle.std.proofs.lemmas.List.{take_all}
use Rattle.locator_state.specs.Turns.{is_at}
use Rattle.locator_state.specs.declared.target.Target.{Target}
use Rattle.locator_state.proofs.PlaceLemmas.{place_of, put, there}
use Rattle.locator_state.proofs.turns.offer.Goals as goal

pub returns-else-is_err-clause-items : goal.returns-else-is_err-clause-items
returns-else-is_err-clause-items c =
    let target = c.args.target in
    let items = c.args.first.now.items in
    let place : c.place-index.result ≡ place_of target items = c.place-index.ensures.place ∙ ap (place_of target) c.deref.ensures.value in
    let isn't : is_at target.rloc (slice_get items (place_of target items)) ≡ false =
    ap (λ (i : ℕ). is_at target.rloc (slice_get items i)) (sym place)
    ∙ ap (λ (l : List Target). is_at target.rloc (slice_get l c.place-index.result)) (sym c.deref-2.ensures.value)
    ∙ sym c.is_there.ensures ∙ c.if-not-is_there.true in
    let ok : is_ok c.insert.result ≡ true = c.insert.ensures.succeeds (omega (arith, c.requires.few, c.requires.room)) in
    c.truncate.ensures.items
    ∙ ap (take 16)
    (c.insert.ensures.items
    ∙ ap (λ b. cond b (insert items c.place-index.result target) items) ok
    ∙ ap (λ (i : ℕ). insert items i target) place
    ∙ put target items isn't)

pub returns-else-not-is_there-clause-items : goal.returns-else-not-is_there-clause-items
returns-else-not-is_there-clause-items c =
    let target = c.args.target in
    let items = c.args.first.now.items in
    let place : c.place-index.result ≡ place_of target items = c.place-index.ensures.place ∙ ap (place_of target) c.deref.ensures.value in
    let is : is_at target.rloc (slice_get items (place_of target items)) ≡ true =
    ap (λ (i : ℕ). is_at target.rloc (slice_get items i)) (sym place)
    ∙ ap (λ (l : List Target). is_at target.rloc (slice_get l c.place-index.result)) (sym c.deref-2.ensures.value)
    ∙ sym c.is_there.ensures ∙ c.if-not-is_there.false in
    let few : length items ≤ 16 = omega (arith, c.requires.few, c.args.first.now.ok.0) in
    sym (ap (take 16) (sym (there target items is)) ∙ take_all 16 items few)
