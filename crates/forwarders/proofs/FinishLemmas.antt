-- How a round ends.
use Rattle.std.proofs.Common.{◌≡◌, ◌∙◌, ℕ, ◌≤◌, List, [], ◌∷◌, ◌++◌, length, map, Result, Ok, Err, All, sym, ap, subst, arith}
use Rattle.std.specs.Result.{OnOk}
use Rattle.std.proofs.lemmas.List.Elements.{All-weaker}
use Rattle.lisp_settings.specs.declared.settings.Settings.{Settings}
use Rattle.router_model.specs.Limits.{most_notices}
use Rattle.router_model.specs.Parts.{Parts, standing_in}
use Rattle.router_model.specs.Plain.{emit_packets}
use Rattle.router_model.specs.Sharing.{filled}
use Rattle.router_model.specs.Sides.{notices_of}
use Rattle.forwarders.specs.declared.gathering.Gathered.{Gathered}
use Rattle.forwarders.specs.declared.gathering.Written.{Written}
use Rattle.forwarders.specs.declared.round_done.RoundDone.{RoundDone}
use Rattle.forwarders.specs.declared.ruling.Ruled.{Ruled}
use Rattle.forwarders.specs.Finishing.{Finishes, noted_of, with_noted}
use Rattle.forwarders.specs.Gathering.{IsFit, Notes, lines_in, packet_gathered, packets_in}
use Rattle.forwarders.specs.Given.{IsGiven}
use Rattle.forwarders.specs.Publication.{Publication}
use Rattle.forwarders.specs.Ruling.{ruling_of}
use Rattle.forwarders.proofs.NoteLemmas.{notices-few, stands-still}

module _ (settings : Settings) (moment : ℕ) (ruled : List Ruled) (before after : Parts) (old new : Publication) (written : Written) (items : List Gathered) (undone done : RoundDone) where
  -- with the entries of the notices as the last batch
  abbrev with_batch : List Ruled → Publication
  with_batch by = record old {
    batches = old.batches ++ filled ((noted_of settings moment before by).entries ∷ []);
    plan = old.batches ++ filled ((noted_of settings moment before by).entries ∷ []);
  }

  finishes : All (λ (one : Ruled). IsGiven one.decision) ruled → Notes (standing_in settings before) moment (notices_of (map ruling_of ruled)) before [] written.items.items after (noted_of settings moment before ruled).entries items
      → new ≡ with_batch ruled → done.lines ≡ undone.lines ++ lines_in items ruled → done.written ≡ undone.written ++ packets_in items ruled
      → Finishes settings moment ruled before old written undone after new done
  finishes given notes published lines packets =
      let few = notices-few ruled (All-weaker (λ (one : Ruled). IsGiven one.decision) (λ (one : Ruled). length one.decision.notices ≤ most_notices) (λ one g. g.notices.1) ruled given) in
      let gathered = notes.few in
      let own = notes.entered.own in
      let steps = notes.entered.steps in
      let stands : standing_in settings before ≡ standing_in settings (noted_of settings moment before ruled).after =
      sym (stands-still settings before after own steps) ∙ ap (standing_in settings) notes.parts in
      let all : items ≡ with_noted settings moment before ruled written.items.items =
      notes.items ∙ ap (λ (s : Settings). written.items.items ++ map packet_gathered (emit_packets s moment (noted_of settings moment before ruled).emits)) stands in
      let long = ap (λ (l : List Gathered). length l) all in
      record {
        parts = notes.parts;
        published = published;
        lines = lines ∙ ap (λ (l : List Gathered). undone.lines ++ lines_in l ruled) all;
        packets = packets ∙ ap (λ (l : List Gathered). undone.written ++ packets_in l ruled) all;
        fits = λ fit. subst (All IsFit) all (notes.fits fit);
        few = omega (arith, few, gathered, long);
      }

-- from what the calls say
pub finished : {T E : Type 0} (r : Result T E) (settings : Settings) (moment : ℕ) (ruled slice queue : List Ruled) (before after : Parts) (old new : Publication) (written : Written) (items : List Gathered) (undone done : RoundDone)
    → slice ≡ ruled → queue ≡ ruled → All (λ (one : Ruled). IsGiven one.decision) ruled
    → Notes (standing_in settings before) moment (notices_of (map ruling_of slice)) before [] written.items.items after (noted_of settings moment before slice).entries items
    → new ≡ with_batch settings moment ruled before after old new written items undone done slice
    → OnOk r (done.lines ≡ undone.lines ++ lines_in items queue) → OnOk r (done.written ≡ undone.written ++ packets_in items queue)
    → OnOk r (Finishes settings moment ruled before old written undone after new done)
finished (Ok x) settings moment ruled slice queue before after old new written items undone done same queued given notes published lines packets =
    finishes settings moment ruled before after old new written items undone done given
    (subst (λ (l : List Ruled). Notes (standing_in settings before) moment (notices_of (map ruling_of l)) before [] written.items.items after (noted_of settings moment before l).entries items) same notes)
    (published ∙ ap (with_batch settings moment ruled before after old new written items undone done) same)
    (lines ∙ ap (λ (l : List Ruled). undone.lines ++ lines_in items l) queued)
    (packets ∙ ap (λ (l : List Ruled). undone.written ++ packets_in items l) queued)
finished (Err e) settings moment ruled slice queue before after old new written items undone done same queued given notes published lines packets = tt
