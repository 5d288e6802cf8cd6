use Rattle.std.proofs.Common.{◌≡◌, ◌∙◌, ℕ, ◌+◌, ◌<◌, Option, List, [], ◌∷◌, ◌++◌, take, slice_index, slice_index_or, length, All, IfSome, sym, ap, subst, arith}
use Rattle.std.specs.List.{AllZip}
use Rattle.std.proofs.lemmas.List.{get_or_default, length_push, take_more}
use Rattle.std.proofs.lemmas.List.Elements.{All-push}
use Rattle.capture_io.specs.Frame.{Frame}
use Rattle.router_log.specs.declared.entry.Entry.{Entry}
use Rattle.forwarders.specs.declared.door.looks.Forwarded.{Forwarded}
use Rattle.forwarders.specs.declared.ruling.Ruled.{Ruled}
use Rattle.forwarders.specs.Batches.{count_of}
use Rattle.forwarders.specs.Deciding.{Decides, IsDecided, IsSoleOfAll}
use Rattle.forwarders.specs.Ruling.{AreByAnswers, HasLooked, IsRuledAt, ruling_of}
use Rattle.forwarders.proofs.TakeLemmas.{answers-push, given-of, zip-push}
use Rattle.forwarders.proofs.ruling.rule_all.Goals as goal

pub loop-index-preserved : goal.loop-index-preserved
loop-index-preserved g c =
    let settings = c.args.round.now.settings.now in
    let published : List (List Entry) = c.args.published.now.batches in
    let frames : List Frame = c.args.round.now.frames.now in
    let places : List ℕ = c.args.places.now in
    let index = c.loop-index.index in
    let inv = c.loop-index.invariant in
    let place : ℕ = slice_index places index in
    let frame : Frame = c.index-frames-place.result in
    let one : Ruled = c.in_ok-rule_one.field-0 in
    let old : List Ruled = c.loop-index.all.items in
    let items : c.push.new.self.items ≡ old ++ one ∷ [] = c.in_ok-push.ensures.items in
    let within : place < length frames = c.requires.places index 0 c.loop-index-test.true in
    let at : (d : Frame) → slice_index_or frames place d ≡ frame = λ d. get_or_default frames place d frame within ∙ sym c.index-frames-place.is in
    let told : Option Forwarded = c.take_forwarded-forwarded.result in
    let taken = c.take_forwarded-forwarded.ensures.taken in
    record {
      dealt = taken.dealt;
      number = ap (λ (z : List Ruled). length z) items ∙ (length_push old one ∙ ap (λ (n : ℕ). n + 1) inv.number);
      answered = λ first plan h. (taken.answered settings first plan frames places (inv.answered first plan h)).0;
      ruled = λ first begins h.
          let decides = (taken.answered settings first published frames places (inv.answered first published h)).1 in
          let here = subst (λ (f : Frame). IfSome told (Decides settings first published f)) (at frame) (decides frame) in
          let is : IsRuledAt settings first published frames place one = record {
            decided = λ d. subst (λ (f : Frame). IsDecided settings first published f (ruling_of one)) (sym (at d)) (c.in_ok-rule_one.ensures.decided first begins here);
            given = c.in_ok-rule_one.ensures.given (given-of settings first published frame told here);
          } in
          subst (λ (t : List ℕ × List Ruled). AllZip (IsRuledAt settings first published frames) t.0 t.1)
          (λ i. (sym (take_more places index 0 c.loop-index-test.true) i, sym items i))
          (zip-push (IsRuledAt settings first published frames) (take index places) old place one (inv.ruled first begins h) is);
      left = λ other say less sole. inv.left other say (omega (arith, less)) (taken.others other say (λ same. omega (arith, less, same)) sole);
      answers = subst (AreByAnswers (count_of published) c.args.workers.now) (sym items)
          (answers-push (count_of published) c.args.workers.now told old one
          (subst (λ (n : ℕ). IsSoleOfAll n told c.args.workers.now) (sym inv.number) (inv.left index told (omega arith) taken.found))
          c.in_ok-rule_one.ensures.answer inv.answers);
      looked = subst (All (HasLooked (count_of published))) (sym items) (All-push (HasLooked (count_of published)) old one inv.looked c.in_ok-rule_one.ensures.looked);
    }
