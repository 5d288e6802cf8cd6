-- Answers that are taken from the workers'.
use Rattle.std.proofs.Common.{◌≡◌, ◌≢◌, ◌∙◌, ℕ, ◌<◌, ◌+◌, ◌*◌, ◌/◌, ◌%◌, true, false, eqb, ⊎_elim, Option, Some, None, Result, Ok, Err, Vec, IfOk, List, [], ◌∷◌, ◌++◌, length, get_or, set, slice_index, slice_index_or, All, IfSome, sym, ap, subst, arith}
use Rattle.std.specs.Global.{Global}
use Rattle.std.specs.List.{AllZip}
use Rattle.std.proofs.lemmas.Bool.Decides.{eqb_tells}
use Rattle.std.proofs.lemmas.List.{get_or_append_left, get_or_default, get_or_push, get_or-set_other, get_or-set_same, length-set, length_push}
use Rattle.std.proofs.lemmas.List.Elements.{All-set}
use Rattle.std.proofs.lemmas.Nat.{div-mul-add, mod-mul-add}
use Rattle.capture_io.specs.Frame.{Frame}
use Rattle.lisp_settings.specs.declared.settings.Settings.{Settings}
use Rattle.router_log.specs.declared.entry.Entry.{Entry}
use Rattle.forwarders.specs.declared.door.looks.Forwarded.{Forwarded}
use Rattle.forwarders.specs.declared.workers.Answer.{Answer}
use Rattle.forwarders.specs.declared.workers.Worker.{Worker}
use Rattle.forwarders.specs.declared.ruling.Ruled.{Ruled}
use Rattle.forwarders.specs.Batches.{Begins}
use Rattle.forwarders.specs.Deciding.{AreAllDealt, AreDealt, Decides, HaveAnswered, IsAnswer, IsSole, IsSoleOfAll, IsTaken, IsTakenOfAll}
use Rattle.forwarders.specs.Given.{IsGiven}
use Rattle.forwarders.specs.Ruling.{AreByAnswers, AreRuled, IsByAnswer}

module _ (workers : List Worker) (i place index : ℕ) (d new : Worker) (forwarded : Option Forwarded) where
  abbrev Taken : Type 0
  Taken = IsTaken (get_or workers i d).answers.items place index forwarded new.answers.items

  -- what is there at a place is the new one, or as it was
  either : (P : ℕ → Worker → Type 0) → i < length workers → P i new → ((k : ℕ) (e : Worker) → k < length workers → P k (get_or workers k e)) → (k : ℕ) (e : Worker) → k < length workers → P k (get_or (set workers i new) k e)
  either P within here all k e less =
      ⊎_elim
      (λ (t : (eqb k i ≡ true) × (k ≡ i)). subst (λ (j : ℕ). P j (get_or (set workers i new) j e)) (sym t.1) (subst (P i) (sym (get_or-set_same workers i new e within)) here))
      (λ (t : (eqb k i ≡ false) × (k ≢ i)). subst (P k) (sym (get_or-set_other workers i k new e t.1)) (all k e less))
      (eqb_tells k i)

  still-dealt : i < length workers → AreAllDealt workers → Taken → AreAllDealt (set workers i new)
  still-dealt within all taken k e less =
      let same : length (set workers i new) ≡ length workers = length-set workers i new in
      subst (λ (n : ℕ). AreDealt k n (get_or (set workers i new) k e).answers.items) (sym same)
      (either (λ (j : ℕ) (w : Worker). AreDealt j (length workers) w.answers.items) within (taken.dealt i (length workers) (all i d within)) all k e (subst (λ (n : ℕ). k < n) same less))

  still-found : i < length workers → i ≡ index % length workers → place ≡ index / length workers → AreAllDealt workers → Taken → IsSoleOfAll index forwarded workers
  still-found within turn at all taken w e less k a few is =
      let n : ℕ = length workers in
      let index_is : index ≡ k * n + w = sym is ∙ all w e less k a few in
      let i_is : i ≡ w = turn ∙ (ap (λ (m : ℕ). m % n) index_is ∙ mod-mul-add k n w less) in
      let place_is : place ≡ k = at ∙ (ap (λ (m : ℕ). m / n) index_is ∙ div-mul-add k n w less) in
      let same : get_or workers i d ≡ get_or workers w e = ap (λ (j : ℕ). get_or workers j d) i_is ∙ get_or_default workers w d e less in
      subst (λ (t : Worker × ℕ). (a : Answer) → t.1 < length t.0.answers.items → (get_or t.0.answers.items t.1 a).index ≡ index → forwarded ≡ (get_or t.0.answers.items t.1 a).forwarded) (λ z. (same z, place_is z)) taken.found a few is

  still-others : i < length workers → Taken → (other : ℕ) (told : Option Forwarded) → (other ≡ index → ⊥) → IsSoleOfAll other told (set workers i new) → IsSoleOfAll other told workers
  still-others within taken other told differs all w e less =
      let long : (j : ℕ) → j < length workers → j < length (set workers i new) = λ j few. subst (λ (n : ℕ). j < n) (sym (length-set workers i new)) few in
      let Sole : Worker → Type 0 = λ worker. IsSole other told worker.answers.items in
      ⊎_elim
      (λ (t : (eqb w i ≡ true) × (w ≡ i)).
      let there : Sole new = subst Sole (get_or-set_same workers i new d within) (all i d (long i within)) in
      subst Sole (ap (λ (j : ℕ). get_or workers j d) (sym t.1) ∙ get_or_default workers w d e less) (taken.others other told differs there))
      (λ (t : (eqb w i ≡ false) × (w ≢ i)). subst Sole (get_or-set_other workers i w new e t.1) (all w e (long w less)))
      (eqb_tells w i)

  still-answered : i < length workers → Taken → (settings : Settings) (first plan : List (List Entry)) (frames : List Frame) (places : List ℕ) → HaveAnswered settings first plan frames places workers
      → HaveAnswered settings first plan frames places (set workers i new) × ((f : Frame) → IfSome forwarded (Decides settings first plan (slice_index_or frames (slice_index places index) f)))
  still-answered within taken settings first plan frames places all =
      let told = taken.answered settings first plan frames places (all i d within) in
      (All-set (λ (w : Worker). All (IsAnswer settings first plan frames places) w.answers.items) workers i new told.0 all, told.1)

  -- from the worker to whom a data packet fell, its answer is taken
  pub taken-of-all : i < length workers → i ≡ index % length workers → place ≡ index / length workers → AreAllDealt workers → Taken → IsTakenOfAll workers index forwarded (set workers i new)
  taken-of-all within turn at all taken = record {
    answered = still-answered within taken;
    found = still-found within turn at all taken;
    others = still-others within taken;
    dealt = still-dealt within all taken;
  }

-- one answer more, on the data packet that falls to the worker next
pub dealt-push : (start step : ℕ) (answers : List Answer) (a : Answer) → a.index ≡ length answers * step + start → AreDealt start step answers → AreDealt start step (answers ++ a ∷ [])
dealt-push start step answers a is all k d few =
    ⊎_elim
    (λ (t : (eqb k (length answers) ≡ true) × (k ≡ length answers)).
    ap (λ (b : Answer). b.index) (get_or_push answers a d k (sym t.1)) ∙ (is ∙ ap (λ (n : ℕ). n * step + start) (sym t.1)))
    (λ (t : (eqb k (length answers) ≡ false) × (k ≢ length answers)).
    let long = length_push answers a in
    let differs = t.1 in
    let less : k < length answers = omega (arith, few, long, differs) in
    ap (λ (b : Answer). b.index) (get_or_append_left answers (a ∷ []) d k less) ∙ all k d less)
    (eqb_tells k (length answers))

-- one data packet more, by the answer on it
pub answers-push : (last : ℕ) (workers : List Worker) (told : Option Forwarded) (old : List Ruled) (one : Ruled) → IsSoleOfAll (length old) told workers → IsByAnswer last told one → AreByAnswers last workers old → AreByAnswers last workers (old ++ one ∷ [])
answers-push last workers told old one on here all i d less k a few e within =
    let answer : Answer = get_or (get_or workers i d).answers.items k a in
    ⊎_elim
    (λ (t : (eqb answer.index (length old) ≡ true) × (answer.index ≡ length old)).
    subst (λ (u : Option Forwarded × Ruled). IsByAnswer last u.0 u.1) (λ z. (on i d less k a few t.1 z, sym (get_or_push old one e answer.index (sym t.1)) z)) here)
    (λ (t : (eqb answer.index (length old) ≡ false) × (answer.index ≢ length old)).
    let long = length_push old one in
    let differs = t.1 in
    let before : answer.index < length old = omega (arith, within, long, differs) in
    subst (IsByAnswer last answer.forwarded) (sym (get_or_append_left old (one ∷ []) e answer.index before)) (all i d less k a few e before))
    (eqb_tells answer.index (length old))

-- one more of each
pub zip-push : {A B : Type 0} (P : A → B → Type 0) (xs : List A) (ys : List B) (x : A) (y : B) → AllZip P xs ys → P x y → AllZip P (xs ++ x ∷ []) (ys ++ y ∷ [])
zip-push P [] [] x y all here = (here, tt)
zip-push P [] (b ∷ ys) x y all here = absurd all
zip-push P (a ∷ xs) [] x y all here = absurd all
zip-push P (a ∷ xs) (b ∷ ys) x y all here = (all.0, zip-push P xs ys x y all.1 here)

-- a decision that a forwarder gave was given by a table
pub given-of : (settings : Settings) (first plan : List (List Entry)) (frame : Frame) (forwarded : Option Forwarded) → IfSome forwarded (Decides settings first plan frame) → IfSome forwarded (λ f. IsGiven f.decision)
given-of settings first plan frame None decided = tt
given-of settings first plan frame (Some f) decided = decided.given

-- what became of data packets by answers to a plan that was published
pub answers-ruled : {E : Type 0} (r : Result (Vec Ruled Global) E) (settings : Settings) (frames : List Frame) (first whole begins plan published : List (List Entry)) (places given : List ℕ) (hired workers : List Worker)
    → Begins first whole → begins ≡ first → plan ≡ whole → published ≡ whole → given ≡ places → workers ≡ hired
    → HaveAnswered settings begins plan frames given hired
    → IfOk r (λ ruled. (from : List (List Entry)) → Begins from published → HaveAnswered settings from published frames given workers → AreRuled settings from published frames given ruled.items)
    → IfOk r (λ ruled. AreRuled settings first whole frames places ruled.items)
answers-ruled (Ok ruled) settings frames first whole begins plan published places given hired workers front begun planned done same kept answered says =
    let here : HaveAnswered settings first published frames given workers =
    subst (λ (t : List (List Entry) × List (List Entry) × List Worker). HaveAnswered settings t.0 t.1 frames given t.2) (λ i. (begun i, (planned ∙ sym done) i, sym kept i)) answered in
    subst (λ (t : List (List Entry) × List ℕ). AreRuled settings first t.0 frames t.1 ruled.items) (λ i. (done i, same i))
    (says first (subst (λ (l : List (List Entry)). Begins first l) (sym done) front) here)
answers-ruled (Err e) settings frames first whole begins plan published places given hired workers front begun planned done same kept answered says = tt
