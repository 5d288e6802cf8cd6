-- A round with forwarders is a round of the journal.
use Rattle.std.proofs.Common.{◌≡◌, ◌∙◌, ℕ, suc, ◌≤◌, not, Bool, true, false, cond, List, [], ◌∷◌, ◌++◌, drop, length, map, slice_index_or, take, Option, All, append_assoc, refl, sym, ap, subst, arith}
use Rattle.std.specs.List.{AllZip}
use Rattle.std.proofs.lemmas.List.{length-map, take-append-drop}
use Rattle.std.proofs.lemmas.List.Elements.{All-cons}
use Rattle.capture_io.specs.Frame.{Frame}
use Rattle.lisp_settings.specs.declared.settings.Settings.{Settings}
use Rattle.capture_events.specs.Events as events
use Rattle.capture_events.specs.Events.{Event, Tick, Arrival, events_after}
use Rattle.capture_events.proofs.EventLemmas.{arrivals-events}
use Rattle.router_log.specs.declared.entry.Entry.{Entry}
use Rattle.router_model.specs.Changes.{Change, journal as of_journal, unchanged}
use Rattle.router_model.specs.Course.{control}
use Rattle.router_model.specs.Hear.{hear_by}
use Rattle.router_model.specs.Journal.{Journal, extended, last_moment}
use Rattle.router_model.specs.Lifting.{FramesInOrder}
use Rattle.router_model.specs.Parts.{Parts, Stands, standing_in, table}
use Rattle.router_model.specs.Plain.{emit_packets}
use Rattle.router_model.specs.Proper.{IsProper}
use Rattle.router_model.specs.Rounds.{all_advanced, closing_moment, data_frames, round}
use Rattle.router_model.specs.Sharing.{IsRuled, MayBegin, Shares, filled, opening}
use Rattle.router_model.specs.Sides.{Ruling, Worked, Writing, data_in, event_written, joined, left_for_later, message_written, worked, writing}
use Rattle.router_model.proofs.ShareLemmas.{round-stays, table-writes, tables-share}
use Rattle.router_model.proofs.SideLemmas.{data-left, extended-more, journal-adds, writing-adds, writing-advances}
use Rattle.forwarders.specs.declared.gathering.Gathered.{Gathered}
use Rattle.forwarders.specs.declared.gathering.Written.{Written}
use Rattle.forwarders.specs.declared.round_done.Line.{Line}
use Rattle.forwarders.specs.declared.round_done.Packet.{Packet}
use Rattle.forwarders.specs.declared.round_done.RoundDone.{RoundDone}
use Rattle.forwarders.specs.declared.ruling.Ruled.{Ruled}
use Rattle.forwarders.specs.Batches.{count_of, journal_of}
use Rattle.forwarders.specs.Deciding.{IsDecided}
use Rattle.forwarders.specs.Given.{IsGiven}
use Rattle.forwarders.specs.Finishing.{Finishes, noted_of, with_noted}
use Rattle.forwarders.specs.Gathering.{IsWritable, IsWritten, all_gathered, frames_at, lines_in, packets_in, round_writing}
use Rattle.forwarders.specs.Publication.{Publication}
use Rattle.forwarders.specs.Rounding.{HasCome, RunsRound, begun_at, last_length, line_seen, packet_seen}
use Rattle.forwarders.specs.Ruling.{AreRuled, HaveLooked, IsRuledAt, first_of_round, last_of_round, ruling_of}
use Rattle.forwarders.proofs.BatchLemmas.{joined-push, journal-filled, journal-length}
use Rattle.forwarders.proofs.BeginLemmas.{begun-latest}
use Rattle.forwarders.proofs.PutLemmas.{all_packets, lines-come, lines-seen, packets-few, packets-fit, packets-seen}
use Rattle.forwarders.proofs.RulingLemmas.{decided-are-ruled}
use Rattle.forwarders.proofs.FrameLemmas.{latest-closes}
use Rattle.forwarders.proofs.WriteLemmas.{filled-append}

-- ### batches

last-is : (before batches : List (List Entry)) (n : ℕ) → before ++ filled batches ≡ last_of_round before batches n
last-is before batches n =
    ap (λ (l : List (List Entry)). before ++ filled l) (sym (take-append-drop n batches))
    ∙ (ap (λ (l : List (List Entry)). before ++ l) (filled-append (take n batches) (drop n batches))
    ∙ sym (append_assoc before (filled (take n batches)) (filled (drop n batches))))

-- ### data packets

zip-ruled : (P : Frame → Ruling → Type 0) (frames : List Frame) (d : Frame) (places : List ℕ) (ruled : List Ruled) → AllZip (λ (place : ℕ) (one : Ruled). P (slice_index_or frames place d) (ruling_of one)) places ruled → AllZip P (frames_at frames places d) (map ruling_of ruled)
zip-ruled P frames d [] [] all = tt
zip-ruled P frames d [] (one ∷ ruled) all = absurd all
zip-ruled P frames d (place ∷ places) [] all = absurd all
zip-ruled P frames d (place ∷ places) (one ∷ ruled) all = (all.0, zip-ruled P frames d places ruled all.1)

zip-weaker : {A B : Type 0} (P Q : A → B → Type 0) → ((a : A) (b : B) → P a b → Q a b) → (xs : List A) (bs : List B) → AllZip P xs bs → AllZip Q xs bs
zip-weaker P Q weaker [] [] all = tt
zip-weaker P Q weaker [] (b ∷ bs) all = absurd all
zip-weaker P Q weaker (a ∷ xs) [] all = absurd all
zip-weaker P Q weaker (a ∷ xs) (b ∷ bs) all = (weaker a b all.0, zip-weaker P Q weaker xs bs all.1)

zip-long : {A B : Type 0} (P : A → B → Type 0) (xs : List A) (bs : List B) → AllZip P xs bs → length bs ≡ length xs
zip-long P [] [] all = refl
zip-long P [] (b ∷ bs) all = absurd all
zip-long P (a ∷ xs) [] all = absurd all
zip-long P (a ∷ xs) (b ∷ bs) all = ap (λ (k : ℕ). suc k) (zip-long P xs bs all.1)

-- what was decided of each was a decision as a table gives it
pub all-given : (settings : Settings) (first published : List (List Entry)) (frames : List Frame) (places : List ℕ) (ruled : List Ruled) → AreRuled settings first published frames places ruled → All (λ (one : Ruled). IsGiven one.decision) ruled
all-given settings first published frames [] [] all = λ k d below. absurd (let bad : ⊥ = omega (arith, below) in bad)
all-given settings first published frames [] (one ∷ ruled) all = absurd all
all-given settings first published frames (place ∷ places) [] all = absurd all
all-given settings first published frames (place ∷ places) (one ∷ ruled) all = with-first one ruled all.0.given (all-given settings first published frames places ruled all.1)
  where
    with-first : (one : Ruled) (ruled : List Ruled) → IsGiven one.decision → All (λ (r : Ruled). IsGiven r.decision) ruled → All (λ (r : Ruled). IsGiven r.decision) (one ∷ ruled)
    with-first one ruled here rest = All-cons (λ (r : Ruled). IsGiven r.decision) one ruled here rest

-- no more data packets than events
data-few : (settings : Settings) (parts : Parts) (events : List Event) → length (data_in (writing table settings parts events).items) ≤ length events
data-few settings parts [] = omega arith
data-few settings parts (Tick s ∷ events) =
    let rest = data-few settings (event_written table settings parts (Tick s)).after events in omega (arith, rest)
data-few settings parts (Arrival frame ∷ events) =
    by (control settings frame) (data-few settings (hear_by table (standing_in settings parts) frame.moment frame (unchanged parts)).change.after events) (data-few settings parts events)
  where
    by : (b : Bool) → length (data_in (writing table settings (hear_by table (standing_in settings parts) frame.moment frame (unchanged parts)).change.after events).items) ≤ length events → length (data_in (writing table settings parts events).items) ≤ length events → let written = cond b (message_written table settings parts.count frame (hear_by table (standing_in settings parts) frame.moment frame (unchanged parts))) (left_for_later parts frame) in length (data_in (written.items ++ (writing table settings written.after events).items)) ≤ suc (length events)
    by true heard left = omega (arith, heard)
    by false heard left = omega (arith, left)

data-within : (settings : Settings) (frames : List Frame) → length (data_frames settings frames) ≤ length frames
data-within settings [] = omega arith
data-within settings (frame ∷ frames) = by (control settings frame) (data-within settings frames)
  where
    by : (b : Bool) → length (data_frames settings frames) ≤ length frames → length (cond (not b) (frame ∷ data_frames settings frames) (data_frames settings frames)) ≤ suc (length frames)
    by true rest = omega (arith, rest)
    by false rest = omega (arith, rest)

-- ### the whole round

module _ (settings : Settings) (previous : Option ℕ) (frame : Frame) (frames : List Frame) (parts : Parts) (before : List (List Entry)) (stands : Stands settings parts (journal_of before)) (may : MayBegin settings (begun_at previous (frame ∷ frames)) (journal_of before) (events_after previous (frame ∷ frames))) where
  abbrev all : List Frame
  all = frame ∷ frames

  abbrev all_events : List Event
  all_events = events_after previous all

  abbrev written_of : Writing Parts
  written_of = round_writing settings previous all parts

  abbrev start : ℕ
  start = begun_at previous all

  -- the journal of what is published once all is written
  journal-written : journal_of (before ++ filled written_of.batches) ≡ all_advanced settings (journal_of before) all_events
  journal-written =
      let writes = table-writes settings parts (journal_of before) start all_events stands may in
      journal-filled before written_of.batches
      ∙ (ap (λ (w : Writing Parts). extended (journal_of before) (joined w.batches)) writes.0
      ∙ (sym (journal-adds (journal_of before) (joined (writing of_journal settings (journal_of before) all_events).batches))
      ∙ (sym (writing-adds of_journal settings (journal_of before) all_events)
      ∙ writing-advances settings (journal_of before) all_events)))

  -- the table then stands for it
  pub written-stands : Stands settings written_of.after (journal_of (before ++ filled written_of.batches))
  written-stands =
      let writes = table-writes settings parts (journal_of before) start all_events stands may in
      subst (Stands settings written_of.after) (writing-advances settings (journal_of before) all_events ∙ sym journal-written) writes.1

  module _ (from : ℕ) (written : Written) (is : IsWritten settings previous all parts from written) where
    pub published-stands : (after : Parts) → after ≡ written_of.after → Stands settings after (journal_of (before ++ written.batches))
    published-stands after same =
        subst (λ (t : Parts × List (List Entry)). Stands settings t.0 (journal_of (before ++ t.1))) (λ i. (sym same i, sym is.batches i)) written-stands

    -- there are few data packets
    pub places-few : length written.places ≤ length all
    places-few =
        let same = length-map written.places (λ (place : ℕ). slice_index_or all place frame) in
        let frames_are = ap (λ (l : List Frame). length l) (is.places frame) in
        let few = data-within settings all in
        omega (arith, same, frames_are, few)

    module _ (ruled : List Ruled) (are : AreRuled settings (before ++ take from written.batches) (before ++ written.batches) all written.places ruled) where
      abbrev closing : ℕ
      closing = closing_moment all

      abbrev result : Worked Parts
      result = worked table settings closing parts all_events (map ruling_of ruled)

      -- each is ruled by a table that absorbed some of the round's batches
      rulings-are : AllZip (IsRuled settings parts written_of.batches (opening all_events)) (data_frames settings all) (map ruling_of ruled)
      rulings-are =
          let first : before ++ take from written.batches ≡ first_of_round before written_of.batches (opening all_events) = ap (λ (l : List (List Entry)). before ++ l) is.first in
          let last : before ++ written.batches ≡ last_of_round before written_of.batches (opening all_events) =
          ap (λ (l : List (List Entry)). before ++ l) is.batches ∙ last-is before written_of.batches (opening all_events) in
          let P : Frame → Ruling → Type 0 = IsRuled settings parts written_of.batches (opening all_events) in
          subst (λ (l : List Frame). AllZip P l (map ruling_of ruled)) (is.places frame)
          (zip-ruled P all frame written.places ruled
          (zip-weaker (IsRuledAt settings (before ++ take from written.batches) (before ++ written.batches) all) (λ (place : ℕ) (one : Ruled). P (slice_index_or all place frame) (ruling_of one))
          (λ place one at. decided-are-ruled settings parts before start all_events (slice_index_or all place frame) (ruling_of one) stands may
          (subst (λ (t : List (List Entry) × List (List Entry)). IsDecided settings t.0 t.1 (slice_index_or all place frame) (ruling_of one)) (λ i. (first i, last i)) (at.decided frame)))
          written.places ruled are))

      pub shared : Shares settings previous all (journal_of before) result
      shared = tables-share settings parts (journal_of before) previous start all (map ruling_of ruled) stands may rulings-are

      -- each data packet has a ruling
      pub ruled-data : length ruled ≡ length (data_in written_of.items)
      ruled-data =
          zip-long (IsRuledAt settings (before ++ take from written.batches) (before ++ written.batches) all) written.places ruled are
          ∙ (sym (length-map written.places (λ (place : ℕ). slice_index_or all place frame))
          ∙ (ap (λ (l : List Frame). length l) (is.places frame)
          ∙ ap (λ (l : List Frame). length l) (sym (data-left table settings previous all parts))))

      pub ruled-few : length ruled ≤ length all_events
      ruled-few = let few = data-few settings parts all_events in omega (arith, few, ruled-data)

      abbrev change : Change Parts
      change = noted_of settings closing written_of.after ruled

      -- the journal of all that is published
      journal-noted : journal_of (before ++ written.batches ++ filled (change.entries ∷ [])) ≡ (round settings previous all (journal_of before) shared.ns).after
      journal-noted =
          ap (λ (l : List (List Entry)). journal_of (before ++ l ++ filled (change.entries ∷ []))) is.batches
          ∙ (ap (λ (l : List (List Entry)). journal_of l) (append_assoc before (filled written_of.batches) (filled (change.entries ∷ [])) ∙ ap (λ (l : List (List Entry)). before ++ l) (sym (filled-append written_of.batches (change.entries ∷ []))))
          ∙ (journal-filled before (written_of.batches ++ change.entries ∷ [])
          ∙ sym shared.added))

      -- the entries of the notices go on as a proper journal
      pub notices-proper : (after : Parts) → after ≡ written_of.after → IsProper settings (extended (journal_of (before ++ written.batches)) (noted_of settings closing after ruled).entries)
      notices-proper after same =
          subst (λ (p : Parts). IsProper settings (extended (journal_of (before ++ written.batches)) (noted_of settings closing p ruled).entries)) (sym same)
          (subst (IsProper settings)
          (shared.added ∙ (ap (extended (journal_of before)) (joined-push written_of.batches change.entries)
          ∙ (extended-more (journal_of before) (joined written_of.batches) change.entries
          ∙ ap (λ (j : Journal). extended j change.entries) (sym (journal-filled before written_of.batches) ∙ ap (λ (l : List (List Entry)). journal_of (before ++ l)) (sym is.batches)))))
          shared.stands.proper)

-- all facts of a round's parts make the whole
pub runs-round : (settings : Settings) (previous : Option ℕ) (frame : Frame) (frames : List Frame) (parts now after : Parts) (old middle new : Publication) (from : ℕ) (written : Written) (ruled : List Ruled) (undone done : RoundDone)
    → Stands settings parts (journal_of old.batches)
    → MayBegin settings (begun_at previous (frame ∷ frames)) (journal_of old.batches) (events_after previous (frame ∷ frames))
    → FramesInOrder (begun_at previous (frame ∷ frames)) (frame ∷ frames)
    → IsWritten settings previous (frame ∷ frames) parts from written
    → AreRuled settings (old.batches ++ take from written.batches) (old.batches ++ written.batches) (frame ∷ frames) written.places ruled
    → HaveLooked (count_of (old.batches ++ written.batches)) ruled
    → old.pending ≡ []
    → middle ≡ record old { batches = old.batches ++ written.batches; plan = old.batches ++ written.batches }
    → now ≡ (round_writing settings previous (frame ∷ frames) parts).after
    → (undone.lines ≡ []) × (undone.written ≡ [])
    → Finishes settings (closing_moment (frame ∷ frames)) ruled now middle written undone after new done
    → RunsRound settings previous (frame ∷ frames) old new parts after done
runs-round settings previous frame frames parts now after old middle new from written ruled undone done stands may order is are looked none published wrote empty finishes =
    let all : List Frame = frame ∷ frames in
    let evs : List Event = events_after previous all in
    let before : List (List Entry) = old.batches in
    let closing : ℕ = closing_moment all in
    let w : Writing Parts = round_writing settings previous all parts in
    let mid : Publication = record old { batches = before ++ written.batches; plan = before ++ written.batches } in
    let f : Finishes settings closing ruled w.after mid written undone after new done =
    subst (λ (t : Parts × Publication). Finishes settings closing ruled t.0 t.1 written undone after new done) (λ i. (wrote i, published i)) finishes in
    let change : Change Parts = noted_of settings closing w.after ruled in
    let more : List events.Packet = emit_packets (standing_in settings change.after) closing change.emits in
    let gathered : List Gathered = with_noted settings closing w.after ruled written.items.items in
    let items : gathered ≡ all_gathered w.items ++ all_packets more = ap (λ (l : List Gathered). l ++ all_packets more) is.items in
    let lines : done.lines ≡ lines_in gathered ruled = f.lines ∙ ap (λ (l : List Line). l ++ lines_in gathered ruled) empty.0 in
    let packets : done.written ≡ packets_in gathered ruled = f.packets ∙ ap (λ (l : List Packet). l ++ packets_in gathered ruled) empty.1 in
    let share : Shares settings previous all (journal_of before) (result settings previous frame frames parts before stands may from written is ruled are) =
    shared settings previous frame frames parts before stands may from written is ruled are in
    let journal : journal_of new.batches ≡ (round settings previous all (journal_of before) share.ns).after =
    ap (λ (p : Publication). journal_of p.batches) f.published ∙ journal-noted settings previous frame frames parts before stands may from written is ruled are in
    let stood : Stands settings after (journal_of new.batches) =
    subst (λ (t : Parts × Journal). Stands settings t.0 t.1) (λ i. (sym f.parts i, sym journal i)) share.stands in
    let enough : length ruled ≡ length (data_in w.items) = ruled-data settings previous frame frames parts before stands may from written is ruled are in
    let stays = round-stays settings previous all (journal_of before) share.ns (begun_at previous all) may in
    let last : count_of (before ++ written.batches) ≡ last_length settings previous all old =
    sym (journal-length (before ++ written.batches))
    ∙ ap (λ (j : Journal). length j) (ap (λ (l : List (List Entry)). journal_of (before ++ l)) is.batches ∙ journal-written settings previous frame frames parts before stands may) in
    record {
      round = record {
        ns = share.ns;
        lawful = share.lawful;
        lines = ap (λ (l : List Line). map line_seen l) lines
            ∙ (ap (λ (l : List Gathered). map line_seen (lines_in l ruled)) items ∙ (lines-seen w.items more ruled ∙ share.lines));
        packets = ap (λ (l : List Packet). map packet_seen l) packets
            ∙ (ap (λ (l : List Gathered). map packet_seen (packets_in l ruled)) items ∙ (packets-seen w.items more ruled ∙ share.packets));
        journal = journal;
        stands = stood;
      };
      published = record {
        settings = ap (λ (p : Publication). p.settings) f.published;
        more = (written.batches ++ filled (change.entries ∷ []), sym (append_assoc before written.batches (filled (change.entries ∷ []))) ∙ sym (ap (λ (p : Publication). p.batches) f.published));
        plan = ap (λ (p : Publication). p.plan) f.published ∙ sym (ap (λ (p : Publication). p.batches) f.published);
        none = ap (λ (p : Publication). p.pending) f.published ∙ none;
      };
      looks = subst (λ (t : List Frame × List Line × ℕ). AllZip (HasCome settings t.2) t.0 t.1)
          (λ i. (arrivals-events previous all i, sym (lines ∙ ap (λ (l : List Gathered). lines_in l ruled) items) i, last i))
          (lines-come settings (count_of (before ++ written.batches)) more evs parts ruled looked enough);
      entered = (
          let moved : after.now ≡ last_moment (round settings previous all (journal_of before) share.ns).after = ap (λ (p : Parts). p.now) stood.whole ∙ ap last_moment journal in
          let number : after.count ≡ length (round settings previous all (journal_of before) share.ns).after = ap (λ (p : Parts). p.count) stood.whole ∙ ap (λ (j : Journal). length j) journal in
          let first : parts.count ≡ length (journal_of before) = ap (λ (p : Parts). p.count) stands.whole in
          let later = begun-latest (begun_at previous all) all order in
          let same = latest-closes (begun_at previous all) all (omega arith) in
          let most = stays.1.0 in
          let few = stays.1.1 in
          record { now = omega (arith, moved, later, same, most); count = omega (arith, number, first, few) });
      packets = (
          let few = packets-few gathered ruled in
          let length_is = ap (λ (l : List Packet). length l) packets in
          let noticed = f.few in
          let wrote_few = is.few in
          let rulings = ruled-few settings previous frame frames parts before stands may from written is ruled are in
          record {
            each = subst (All IsWritable) (sym packets)
                (packets-fit gathered ruled (f.fits is.fits) (all-given settings (before ++ take from written.batches) (before ++ written.batches) all written.places ruled are));
            few = omega (arith, few, length_is, noticed, wrote_few, rulings);
          });
    }
