use Rattle.std.proofs.Common.{rules, ◌≡◌, ◌+◌, ◌*◌, ℕ, [], ◌∷◌, ◌++◌, List, slice_index, slice_index_or, ◌<◌, length, All, sym, ◌∙◌, ap, subst, arith}
use Rattle.std.proofs.lemmas.List.{get_or_default, length_push}
use Rattle.capture_io.specs.Frame.{Frame}
use Rattle.forwarders.specs.declared.workers.Answer.{Answer}
use Rattle.forwarders.specs.Deciding.{AreDealt, IsAnswer}
use Rattle.forwarders.proofs.BatchLemmas.{begins-on}
use Rattle.forwarders.proofs.DecideLemmas.{all-with, decides-from}
use Rattle.forwarders.proofs.TakeLemmas.{dealt-push}
use Rattle.forwarders.proofs.working.work.Goals as goal

pub loop-index-preserved : goal.loop-index-preserved
loop-index-preserved g c =
    let f = c.args.worker.now.forwarder in
    let now = c.loop-index.worker.forwarder in
    let later = c.answer-forwarded.new.forwarder in
    let inv = c.loop-index.invariant in
    let told = c.answer-forwarded.ensures in
    let frames : List Frame = c.args.round.now.frames.now in
    let places : List ℕ = c.args.places.now in
    let frame : Frame = c.index-frames-places.result in
    let a : Answer = record { index = c.loop-index.index; forwarded = c.answer-forwarded.result } in
    let old : List Answer = c.loop-index.worker.answers.items in
    let items : c.push.new.self.items ≡ old ++ a ∷ [] = search rules in
    let i : ℕ = slice_index places c.loop-index.index in
    let within : i < length frames = c.requires.places c.loop-index.index 0 c.loop-index-test.true in
    let at : (d : Frame) → slice_index_or frames i d ≡ frame = λ d. get_or_default frames i d frame within ∙ sym c.index-frames-places.is in
    let one : IsAnswer c.args.round.now.settings.now f.seen f.plan frames places a =
    λ d. decides-from c.args.round.now.settings.now f.seen now.seen f.plan now.plan frame (slice_index_or frames i d) c.answer-forwarded.result inv.2 inv.1 (at d) told.decided in
    let next : c.loop-index.index + c.args.step ≡ length (old ++ a ∷ []) * c.args.step + c.args.start =
    let at = inv.6 in let long = length_push old a in rw long (omega (arith, at)) in (
      told.settings ∙ inv.0,
      told.plan ∙ inv.1,
      begins-on f.seen now.seen later.seen inv.2 told.rises,
      omega (arith, inv.3, told.tally, c.requires.numbers.1),
      omega (arith, c.loop-index-test.true, c.requires.numbers.2, c.requires.numbers.3),
      subst (λ (z : List Answer). All (IsAnswer c.args.round.now.settings.now f.seen f.plan frames places) z) (sym items)
          (all-with (IsAnswer c.args.round.now.settings.now f.seen f.plan frames places) old a inv.5 one),
      next ∙ ap (λ (z : List Answer). length z * c.args.step + c.args.start) (sym items),
      subst (AreDealt c.args.start c.args.step) (sym items) (dealt-push c.args.start c.args.step old a inv.6 inv.7),
    )
