-- A round with forwarders, from what its call asks for.
use Rattle.std.proofs.Common.{◌≡◌, ◌∙◌, ℕ, ◌+◌, ◌*◌, ◌^◌, ◌≤◌, ◌<◌, List, [], ◌∷◌, ◌++◌, length, take, Option, ap, refl, sym, subst, arith}
use Rattle.capture_io.specs.Frame.{Frame}
use Rattle.lisp_settings.specs.declared.settings.Settings.{Settings}
use Rattle.capture_events.specs.Events.{events_after}
use Rattle.router_log.specs.declared.entry.Entry.{Entry}
use Rattle.router_model.specs.Journal.{extended}
use Rattle.router_model.specs.Limits.{most_notices, most_ticked}
use Rattle.router_model.specs.Parts.{Parts, Stands}
use Rattle.router_model.specs.Proper.{IsProper}
use Rattle.router_model.specs.Rounds.{closing_moment}
use Rattle.router_model.specs.Sharing.{MayBegin}
use Rattle.forwarders.specs.declared.gathering.Written.{Written}
use Rattle.forwarders.specs.declared.round_done.RoundDone.{RoundDone}
use Rattle.forwarders.specs.declared.ruling.Ruled.{Ruled}
use Rattle.forwarders.specs.Batches.{count_of, journal_of}
use Rattle.forwarders.specs.Finishing.{Finishes, noted_of}
use Rattle.forwarders.specs.Gathering.{IsWritten, left_in, round_writing}
use Rattle.forwarders.specs.Publication.{Publication}
use Rattle.forwarders.specs.Rounding.{IsAtRest, MayRun, RunsRound, begun_at}
use Rattle.forwarders.specs.Ruling.{AreRuled, HaveLooked}
use Rattle.forwarders.proofs.BeginLemmas.{closing-early, may-begin, round-few}
use Rattle.forwarders.proofs.PutLemmas.{left-data}
use Rattle.forwarders.proofs.RoundLemmas.{notices-proper, places-few, published-stands, ruled-data, ruled-few, runs-round}

-- a publication is at rest behind the batches of its round
pub rests-still : (settings : Settings) (old new : Publication) (more : List (List Entry)) → IsAtRest settings old → new ≡ record old { batches = old.batches ++ more; plan = old.batches ++ more } → IsProper settings (journal_of (old.batches ++ more)) → IsAtRest settings new
rests-still settings old new more rest is proper =
    subst (IsAtRest settings) (sym is) (record { settings_are = rest.settings_are; none = rest.none; plan = refl; proper = proper })

module _ (settings : Settings) (previous : Option ℕ) (parts : Parts) (before : List (List Entry)) where
  none-run : MayRun settings previous [] parts before → ⊥
  none-run may = let some = may.some in omega (arith, some)

  begins-of : (frame : Frame) (frames : List Frame) → MayRun settings previous (frame ∷ frames) parts before → MayBegin settings (begun_at previous (frame ∷ frames)) (journal_of before) (events_after previous (frame ∷ frames))
  begins-of frame frames may = may-begin settings previous frame frames parts (journal_of before) may.stands may.later may.room may.number may.order may.moments

  pub closes-early : (frames : List Frame) → MayRun settings previous frames parts before → closing_moment frames < 2 ^ 32 * 1000000000
  closes-early [] may = absurd (none-run may)
  closes-early (frame ∷ frames) may = closing-early frame frames may.moments

  module _ (from : ℕ) (written : Written) where
    pub few-places : (frames : List Frame) → MayRun settings previous frames parts before → IsWritten settings previous frames parts from written → length written.places < 2 ^ 61
    few-places [] may is = absurd (none-run may)
    few-places (frame ∷ frames) may is =
        let few = places-few settings previous frame frames parts before may.stands (begins-of frame frames may) from written is in
        let number = may.number in
        omega (arith, few, number)

    pub then-stands : (frames : List Frame) (after : Parts) → MayRun settings previous frames parts before → IsWritten settings previous frames parts from written → after ≡ (round_writing settings previous frames parts).after → Stands settings after (journal_of (before ++ written.batches))
    then-stands [] after may is same = absurd (none-run may)
    then-stands (frame ∷ frames) after may is same = published-stands settings previous frame frames parts before may.stands (begins-of frame frames may) from written is after same

    module _ (ruled : List Ruled) where
      abbrev Ruling-of : List Frame → Type 0
      Ruling-of frames = AreRuled settings (before ++ take from written.batches) (before ++ written.batches) frames written.places ruled

      -- each data packet that was left has a ruling
      pub left-ruled : (frames : List Frame) → MayRun settings previous frames parts before → IsWritten settings previous frames parts from written → Ruling-of frames → left_in written.items.items ≡ length ruled
      left-ruled [] may is are = absurd (none-run may)
      left-ruled (frame ∷ frames) may is are =
          ap left_in is.items
          ∙ (left-data (round_writing settings previous (frame ∷ frames) parts).items
          ∙ sym (ruled-data settings previous frame frames parts before may.stands (begins-of frame frames may) from written is ruled are))

      -- there is room for what the notices add
      pub notices-room : (frames : List Frame) (after : Parts) → MayRun settings previous frames parts before → IsWritten settings previous frames parts from written → Ruling-of frames → after.count ≤ parts.count + most_ticked * length (events_after previous frames) → after.count + most_notices * length ruled < 2 ^ 61
      notices-room [] after may is are few = absurd (none-run may)
      notices-room (frame ∷ frames) after may is are few =
          let rulings = ruled-few settings previous frame frames parts before may.stands (begins-of frame frames may) from written is ruled are in
          let events_few = round-few previous frame frames may.order (closing-early frame frames may.moments) in
          let number = may.number in
          let room = may.room in
          omega (arith, few, rulings, events_few, number, room)

      pub notices-go : (frames : List Frame) (after : Parts) → MayRun settings previous frames parts before → IsWritten settings previous frames parts from written → Ruling-of frames → after ≡ (round_writing settings previous frames parts).after
          → IsProper settings (extended (journal_of (before ++ written.batches)) (noted_of settings (closing_moment frames) after ruled).entries)
      notices-go [] after may is are same = absurd (none-run may)
      notices-go (frame ∷ frames) after may is are same =
          notices-proper settings previous frame frames parts before may.stands (begins-of frame frames may) from written is ruled are after same

pub all-run : (settings : Settings) (previous : Option ℕ) (frames : List Frame) (parts now after : Parts) (old middle new : Publication) (from : ℕ) (written : Written) (ruled : List Ruled) (undone done : RoundDone)
    → MayRun settings previous frames parts old.batches
    → IsWritten settings previous frames parts from written
    → AreRuled settings (old.batches ++ take from written.batches) (old.batches ++ written.batches) frames written.places ruled
    → HaveLooked (count_of (old.batches ++ written.batches)) ruled
    → old.pending ≡ []
    → middle ≡ record old { batches = old.batches ++ written.batches; plan = old.batches ++ written.batches }
    → now ≡ (round_writing settings previous frames parts).after
    → (undone.lines ≡ []) × (undone.written ≡ [])
    → Finishes settings (closing_moment frames) ruled now middle written undone after new done
    → RunsRound settings previous frames old new parts after done
all-run settings previous [] parts now after old middle new from written ruled undone done may is are looked none published wrote empty finishes =
    absurd (none-run settings previous parts old.batches may)
all-run settings previous (frame ∷ frames) parts now after old middle new from written ruled undone done may is are looked none published wrote empty finishes =
    runs-round settings previous frame frames parts now after old middle new from written ruled undone done may.stands (begins-of settings previous parts old.batches frame frames may) may.order is are looked none published wrote empty finishes
