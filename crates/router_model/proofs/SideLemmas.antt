-- The writer's side of a round, the data packets beside it and the notices after it are the round.
use Rattle.std.proofs.Common.{◌≡◌, ◌≤◌, ℕ, zero, suc, ◌+◌, ◌-◌, ◌<◌, not, Bool, true, false, cond, List, [], ◌∷◌, ◌++◌, drop, filter, get_or, length, map, take, Option, Some, None, refl, sym, ap, subst, ◌∙◌, ◌⊎◌, inl, inr, arith, append_assoc}
use Rattle.std.specs.List.{Contains, range_with_len}
use Rattle.std.proofs.lemmas.List.{append-nil, take-append-drop, drop-drop}
use Rattle.std.proofs.lemmas.List.Concat.{flat_map-append}
use Rattle.capture_io.specs.Frame.{Frame}
use Rattle.lisp_settings.specs.declared.settings.Settings.{Settings}
use Rattle.capture_events.specs.Events.{Event, Tick, Arrival, arrivals, events_after, second_of, ticks, events_of}
use Rattle.capture_events.proofs.EventLemmas.{arrivals-events}
use Rattle.router_log.specs.Moments.{seconds}
use Rattle.router_log.specs.declared.entry.Entry.{Entry}
use Rattle.router_model.specs.Changes.{Change, Ledger, each, journal as of_journal, unchanged}
use Rattle.router_model.specs.Course.{control}
use Rattle.router_model.specs.Hear.{hear_by}
use Rattle.router_model.specs.Journal.{Journal, extended, first}
use Rattle.router_model.specs.Note.{noted}
use Rattle.router_model.specs.Plain.{packet_of, packets_of}
use Rattle.router_model.specs.Rounds.{advanced, all_advanced, and_then, data_frames, decided, ends, lengths, of_data, of_events, of_message, of_second, with_if, with_notices, Line, Told, line_of}
use Rattle.router_model.specs.Sharing.{BatchesAreEnds, DataAreLeft, EndsAreBatches, EndsWithin, FilledAreBatches, FilledBehind, FirstOfMore, JournalAdds, SidesMeet, WritingAdvances, after_batches, filled, opening, LinesShow, shown, WritingFollows, ToldFollows, OpeningWithin, EventsFollow, LastCloses, moment_after}
use Rattle.router_model.specs.Sides.{Item, Second, Message, Data, Ruling, Writing, data_in, event_written, joined, left_for_later, message_written, notices_of, rulings, told_by, with_entries, writing, then_written}
use Rattle.router_model.specs.Standing.{standing}
use Rattle.router_model.specs.Tick.{ticked}
use Rattle.router_model.proofs.GrowLemmas.{grown-each, grown-heard, grown-noted, grown-ticked, with-more}
use Rattle.router_model.proofs.StaticsLemmas.{length-extended}

then-assoc : {S : Type 0} (a b c : Writing S) → then_written (then_written a b) c ≡ then_written a (then_written b c)
then-assoc a b c =
    ap (λ l. record (then_written (then_written a b) c) { items = l }) (append_assoc a.items b.items c.items)
    ∙ ap (λ l. record (then_written a (then_written b c)) { batches = l }) (append_assoc a.batches b.batches c.batches)

-- ### batches

joined-append : (one next : List (List Entry)) → joined (one ++ next) ≡ joined one ++ joined next
joined-append one next = flat_map-append (λ (batch : List Entry). batch) one next

module _ {S : Type 0} (ledger : Ledger S) (settings : Settings) where
  single : (state after : S) (entries : List Entry) → after ≡ with_entries ledger state entries → after ≡ with_entries ledger state (joined (entries ∷ []))
  single state after entries grown = grown ∙ ap (with_entries ledger state) (sym (append-nil entries))

  event-adds : (state : S) (event : Event) → (event_written ledger settings state event).after ≡ with_entries ledger state (joined (event_written ledger settings state event).batches)
  event-adds state (Tick s) =
      let change = ticked ledger settings (seconds s) (unchanged state) in
      single state change.after change.entries (grown-ticked ledger settings (seconds s) state (unchanged state) refl)
  event-adds state (Arrival frame) = by (control settings frame)
    where
      by : (b : Bool) → let written = cond b (message_written ledger settings (ledger.count state) frame (hear_by ledger (ledger.stands settings state) frame.moment frame (unchanged state))) (left_for_later state frame) in written.after ≡ with_entries ledger state (joined written.batches)
      by true =
          let change = (hear_by ledger (ledger.stands settings state) frame.moment frame (unchanged state)).change in
          single state change.after change.entries (grown-heard ledger (ledger.stands settings state) frame.moment state frame (unchanged state) refl)
      by false = refl

  more-adds : (state middle after : S) (one next : List (List Entry)) → middle ≡ with_entries ledger state (joined one) → after ≡ with_entries ledger middle (joined next) → after ≡ with_entries ledger state (joined (one ++ next))
  more-adds state middle after one next a b =
      b ∙ ap (λ s. with_entries ledger s (joined next)) a
      ∙ sym (with-more ledger state (joined one) (joined next))
      ∙ ap (with_entries ledger state) (sym (joined-append one next))

  pub writing-adds : (state : S) (events : List Event) → (writing ledger settings state events).after ≡ with_entries ledger state (joined (writing ledger settings state events).batches)
  writing-adds state [] = refl
  writing-adds state (event ∷ events) =
      let one = event_written ledger settings state event in
      let next = writing ledger settings one.after events in
      more-adds state one.after next.after one.batches next.batches (event-adds state event) (writing-adds one.after events)

  pub worked-adds : (moment : ℕ) (state : S) (events : List Event) (ruled : List Ruling) → let written = writing ledger settings state events in let change = each (noted ledger (ledger.stands settings written.after) moment) (notices_of ruled) (unchanged written.after) in change.after ≡ with_entries ledger state (joined (written.batches ++ change.entries ∷ []))
  worked-adds moment state events ruled =
      let written : Writing S = writing ledger settings state events in
      let change : Change S = each (noted ledger (ledger.stands settings written.after) moment) (notices_of ruled) (unchanged written.after) in
      more-adds state written.after change.after written.batches (change.entries ∷ []) (writing-adds state events)
      (single written.after change.after change.entries (grown-each ledger (ledger.stands settings written.after) moment written.after (noted ledger (ledger.stands settings written.after) moment) (grown-noted ledger (ledger.stands settings written.after) moment written.after) (notices_of ruled) (unchanged written.after) refl))

pub journal-adds : JournalAdds
journal-adds journal [] = refl
journal-adds journal (e ∷ entries) = journal-adds (e ∷ journal) entries

pub extended-more : (journal : Journal) (entries more : List Entry) → extended journal (entries ++ more) ≡ extended (extended journal entries) more
extended-more journal [] more = refl
extended-more journal (e ∷ entries) more = extended-more (e ∷ journal) entries more

-- events one after another
pub writing-follows : {S : Type 0} (ledger : Ledger S) → WritingFollows ledger
writing-follows ledger settings state [] next = refl
writing-follows ledger settings state (event ∷ one) next =
    let first = event_written ledger settings state event in
    let second = writing ledger settings first.after one in
    ap (then_written first) (writing-follows ledger settings first.after one next)
    ∙ sym (then-assoc first second (writing ledger settings second.after next))

-- frames one after another
pub events-follow : EventsFollow
events-follow previous [] next = refl
events-follow previous (frame ∷ one) next =
    ap (λ l. events_of previous frame ++ l) (events-follow (Some frame.moment) one next)
    ∙ sym (append_assoc (events_of previous frame) (events_after (Some frame.moment) one) (events_after (moment_after (Some frame.moment) one) next))

pub last-closes : LastCloses
last-closes previous frame [] = refl
last-closes previous frame (next ∷ frames) = last-closes (Some frame.moment) next frames

-- ### the journal of a round

module _ (settings : Settings) where
  event-advances : (journal : Journal) (event : Event) → (event_written of_journal settings journal event).after ≡ advanced settings journal event
  event-advances journal (Tick s) = refl
  event-advances journal (Arrival frame) = by (control settings frame)
    where
      by : (b : Bool) → (cond b (message_written of_journal settings (length journal) frame (hear_by of_journal (standing settings journal) frame.moment frame (unchanged journal))) (left_for_later journal frame)).after ≡ cond b (hear_by of_journal (standing settings journal) frame.moment frame (unchanged journal)).change.after journal
      by true = refl
      by false = refl

  writing-advances-by : (journal : Journal) (events : List Event) → (writing of_journal settings journal events).after ≡ all_advanced settings journal events
  writing-advances-by journal [] = refl
  writing-advances-by journal (event ∷ events) =
      writing-advances-by (event_written of_journal settings journal event).after events
      ∙ ap (λ j. all_advanced settings j events) (event-advances journal event)

pub writing-advances : WritingAdvances
writing-advances settings journal events = writing-advances-by settings journal events

-- ### the sides meet

module _ (settings : Settings) (last : Journal) where
  -- what is told of events is what is told of their items
  abbrev AreTold : Journal → List ℕ → List Event → Type 0
  AreTold journal ns events = let items = (writing of_journal settings journal events).items in of_events settings last journal ns events ≡ told_by items (rulings settings last ns (data_in items))

  events-told : (journal : Journal) (ns : List ℕ) (events : List Event) → AreTold journal ns events
  events-told journal ns [] = refl
  events-told journal ns (Tick s ∷ events) =
      ap (and_then (of_second settings s (ticked of_journal settings (seconds s) (unchanged journal))))
      (events-told (advanced settings journal (Tick s)) ns events)
  events-told journal ns (Arrival frame ∷ events) =
      by (control settings frame) (events-told (hear_by of_journal (standing settings journal) frame.moment frame (unchanged journal)).change.after ns events)
      (events-told journal (drop 1 ns) events)
    where
      by : (b : Bool) → AreTold (hear_by of_journal (standing settings journal) frame.moment frame (unchanged journal)).change.after ns events → AreTold journal (drop 1 ns) events → let written = cond b (message_written of_journal settings (length journal) frame (hear_by of_journal (standing settings journal) frame.moment frame (unchanged journal))) (left_for_later journal frame) in let items = written.items ++ (writing of_journal settings written.after events).items in and_then (cond b (of_message settings journal frame (hear_by of_journal (standing settings journal) frame.moment frame (unchanged journal))) (of_data settings frame (get_or ns 0 0) (decided settings last (get_or ns 0 0) frame))) (of_events settings last (cond b (hear_by of_journal (standing settings journal) frame.moment frame (unchanged journal)).change.after journal) (cond b ns (drop 1 ns)) events) ≡ told_by items (rulings settings last ns (data_in items))
      by true heard left =
          ap (and_then (of_message settings journal frame (hear_by of_journal (standing settings journal) frame.moment frame (unchanged journal)))) heard
      by false heard left =
          ap (and_then (of_data settings frame (get_or ns 0 0) (decided settings last (get_or ns 0 0) frame))) left

pub sides-meet : SidesMeet
sides-meet settings moment journal events ns =
    ap (λ last. with_notices settings moment last (of_events settings last journal ns events)) (sym (writing-advances settings journal events))
    ∙ ap (with_notices settings moment (writing of_journal settings journal events).after)
    (events-told settings (writing of_journal settings journal events).after journal ns events)

-- ### what is left for later

pub data-append : (one next : List Item) → data_in (one ++ next) ≡ data_in one ++ data_in next
data-append [] next = refl
data-append (Second packets ∷ one) next = data-append one next
data-append (Message line packets ∷ one) next = data-append one next
data-append (Data frame ∷ one) next = ap (λ frames. frame ∷ frames) (data-append one next)

module _ {S : Type 0} (ledger : Ledger S) (settings : Settings) where
  -- of an event, and of seconds before events
  data-first : (state : S) (frame : Frame) → data_in (event_written ledger settings state (Arrival frame)).items ≡ filter (λ f. not (control settings f)) (frame ∷ [])
  data-first state frame = by (control settings frame)
    where
      by : (b : Bool) → data_in (cond b (message_written ledger settings (ledger.count state) frame (hear_by ledger (ledger.stands settings state) frame.moment frame (unchanged state))) (left_for_later state frame)).items ≡ cond (not b) (frame ∷ []) []
      by true = refl
      by false = refl

  filter-one : (test : Frame → Bool) (frame : Frame) (frames : List Frame) → filter test (frame ∷ []) ++ filter test frames ≡ filter test (frame ∷ frames)
  filter-one test frame frames = by (test frame)
    where
      by : (b : Bool) → cond b (frame ∷ []) [] ++ filter test frames ≡ cond b (frame ∷ filter test frames) (filter test frames)
      by true = refl
      by false = refl

  data-seconds : (ss : List ℕ) (frame : Frame) (frames : List Frame) (rest : List Event) (state : S) → ((after : S) → data_in (writing ledger settings after rest).items ≡ data_frames settings frames) → data_in (writing ledger settings state (map Tick ss ++ Arrival frame ∷ rest)).items ≡ data_frames settings (frame ∷ frames)
  data-seconds [] frame frames rest state others =
      let written : Writing S = event_written ledger settings state (Arrival frame) in
      data-append written.items (writing ledger settings written.after rest).items
      ∙ ap (λ l. l ++ data_in (writing ledger settings written.after rest).items) (data-first state frame)
      ∙ ap (λ l. filter (λ f. not (control settings f)) (frame ∷ []) ++ l) (others written.after)
      ∙ filter-one (λ f. not (control settings f)) frame frames
  data-seconds (s ∷ ss) frame frames rest state others =
      data-seconds ss frame frames rest (event_written ledger settings state (Tick s)).after others

  pub data-left : (previous : Option ℕ) (frames : List Frame) (state : S) → data_in (writing ledger settings state (events_after previous frames)).items ≡ data_frames settings frames
  data-left previous [] state = refl
  data-left None (frame ∷ frames) state =
      data-seconds [] frame frames (events_after (Some frame.moment) frames) state (data-left (Some frame.moment) frames)
  data-left (Some from) (frame ∷ frames) state =
      subst (λ events. data_in (writing ledger settings state events).items ≡ data_frames settings (frame ∷ frames))
      (sym (append_assoc (ticks (Some from) frame.moment) (Arrival frame ∷ []) (events_after (Some frame.moment) frames)))
      (data-seconds (range_with_len (suc (second_of from)) (second_of frame.moment - second_of from)) frame frames (events_after (Some frame.moment) frames) state (data-left (Some frame.moment) frames))

pub data-are-left : DataAreLeft
data-are-left settings previous frames journal = data-left of_journal settings previous frames journal

-- ### the first entries of a journal

drop-next : (k : ℕ) (journal : Journal) → drop (suc k) journal ≡ drop 1 (drop k journal)
drop-next k journal = ap (λ n. drop n journal) (let one : suc k ≡ k + 1 = omega arith in one) ∙ sym (drop-drop 1 k journal)

drop-extended : (journal : Journal) (entries : List Entry) → drop (length entries) (extended journal entries) ≡ journal
drop-extended journal [] = refl
drop-extended journal (e ∷ entries) =
    drop-next (length entries) (extended (e ∷ journal) entries) ∙ ap (λ j. drop 1 j) (drop-extended (e ∷ journal) entries)

pub first-of-more : FirstOfMore
first-of-more journal entries =
    ap (λ n. drop n (extended journal entries)) (let long = length-extended journal entries in omega (arith, long))
    ∙ drop-extended journal entries

-- ### ends

pub one-of : {A : Type 0} (x : A) (xs : List A) (y : A) → Contains (x ∷ xs) y → (x ≡ y) ⊎ Contains xs y
one-of {A} x xs y has = by has.0 has.1 has.2
  where
    by : (k : ℕ) → k < suc (length xs) → get_or (x ∷ xs) k y ≡ y → (x ≡ y) ⊎ Contains xs y
    by zero less is = inl is
    by (suc k) less is = inr (k, omega (arith, less), is)

pub none-of : {A : Type 0} (y : A) → Contains [] y → ⊥
none-of y has = by has.1
  where
    by : {k : ℕ} → k < 0 → ⊥
    by less = omega (arith, less)

-- a length that a journal has after some of these batches
abbrev Lies : Journal → List (List Entry) → ℕ → Type 0
Lies journal batches n = (k : ℕ) × (n ≡ length (extended journal (joined (take k batches))))

lies-on : (journal after : Journal) (entries : List Entry) (batches : List (List Entry)) (n : ℕ) → after ≡ extended journal entries → Lies after batches n → Lies journal (entries ∷ batches) n
lies-on journal after entries batches n grown lies =
    (suc lies.0, lies.1 ∙ ap (λ (j : Journal). length (extended j (joined (take lies.0 batches)))) grown ∙ ap (λ (j : Journal). length j) (sym (extended-more journal entries (joined (take lies.0 batches)))))

lies-first : (journal after : Journal) (entries : List Entry) (batches : List (List Entry)) (n : ℕ) → after ≡ extended journal entries → length after ≡ n → Lies journal (entries ∷ batches) n
lies-first journal after entries batches n grown is =
    (1, sym is ∙ ap (λ (j : Journal). length j) (grown ∙ ap (extended journal) (sym (append-nil entries))))

module _ (settings : Settings) where
  pub tick-grows : (journal : Journal) (s : ℕ) → let change = ticked of_journal settings (seconds s) (unchanged journal) in change.after ≡ extended journal change.entries
  tick-grows journal s = grown-ticked of_journal settings (seconds s) journal (unchanged journal) refl ∙ journal-adds journal (ticked of_journal settings (seconds s) (unchanged journal)).entries

  pub message-grows : (journal : Journal) (frame : Frame) → let change = (hear_by of_journal (standing settings journal) frame.moment frame (unchanged journal)).change in change.after ≡ extended journal change.entries
  message-grows journal frame = grown-heard of_journal (standing settings journal) frame.moment journal frame (unchanged journal) refl ∙ journal-adds journal (hear_by of_journal (standing settings journal) frame.moment frame (unchanged journal)).change.entries

  lengths-lie : (journal : Journal) (events : List Event) (n : ℕ) → Contains (lengths settings journal events) n → Lies journal (writing of_journal settings journal events).batches n
  lengths-lie journal [] n has = absurd (none-of n has)
  lengths-lie journal (Tick s ∷ events) n has =
      let change : Change Journal = ticked of_journal settings (seconds s) (unchanged journal) in
      let batches : List (List Entry) = (writing of_journal settings change.after events).batches in
      elim (one-of (length change.after) (lengths settings change.after events) n has) as (λ _. Lies journal (change.entries ∷ batches) n) [
        | inl is ↦ lies-first journal change.after change.entries batches n (tick-grows journal s) is
        | inr more ↦ lies-on journal change.after change.entries batches n (tick-grows journal s) (lengths-lie change.after events n more)
      ]
  lengths-lie journal (Arrival frame ∷ events) n has =
      by (control settings frame) has (lengths-lie (hear_by of_journal (standing settings journal) frame.moment frame (unchanged journal)).change.after events n) (lengths-lie journal events n)
    where
      by : (b : Bool) → let after = cond b (hear_by of_journal (standing settings journal) frame.moment frame (unchanged journal)).change.after journal in Contains (with_if b (length after) (lengths settings after events)) n → (Contains (lengths settings (hear_by of_journal (standing settings journal) frame.moment frame (unchanged journal)).change.after events) n → Lies (hear_by of_journal (standing settings journal) frame.moment frame (unchanged journal)).change.after (writing of_journal settings (hear_by of_journal (standing settings journal) frame.moment frame (unchanged journal)).change.after events).batches n) → (Contains (lengths settings journal events) n → Lies journal (writing of_journal settings journal events).batches n) → let written = cond b (message_written of_journal settings (length journal) frame (hear_by of_journal (standing settings journal) frame.moment frame (unchanged journal))) (left_for_later journal frame) in Lies journal (written.batches ++ (writing of_journal settings written.after events).batches) n
      by true has heard left =
          let change : Change Journal = (hear_by of_journal (standing settings journal) frame.moment frame (unchanged journal)).change in
          let batches : List (List Entry) = (writing of_journal settings change.after events).batches in
          elim (one-of (length change.after) (lengths settings change.after events) n has) as (λ _. Lies journal (change.entries ∷ batches) n) [
            | inl is ↦ lies-first journal change.after change.entries batches n (message-grows journal frame) is
            | inr more ↦ lies-on journal change.after change.entries batches n (message-grows journal frame) (heard more)
          ]
      by false has heard left = left has

  ends-lie : (journal : Journal) (events : List Event) (n : ℕ) → Contains (ends settings journal events) n → Lies journal (writing of_journal settings journal events).batches n
  ends-lie journal [] n has =
      elim (one-of (length journal) [] n has) as (λ _. Lies journal [] n) [ inl is ↦ (0, sym is) | inr more ↦ absurd (none-of n more) ]
  ends-lie journal (Tick s ∷ events) n has =
      let change : Change Journal = ticked of_journal settings (seconds s) (unchanged journal) in
      lies-on journal change.after change.entries (writing of_journal settings change.after events).batches n (tick-grows journal s)
      (ends-lie change.after events n has)
  ends-lie journal (Arrival frame ∷ events) n has =
      elim (one-of (length journal) (lengths settings journal (Arrival frame ∷ events)) n has) as (λ _. Lies journal (writing of_journal settings journal (Arrival frame ∷ events)).batches n)
      [ inl is ↦ (0, sym is) | inr more ↦ lengths-lie journal (Arrival frame ∷ events) n more ]

-- the journal of a round stands on that after some of its batches
pub on-batches : (settings : Settings) (journal : Journal) (events : List Event) (k : ℕ) → let batches = (writing of_journal settings journal events).batches in all_advanced settings journal events ≡ extended (after_batches settings journal events k) (joined (drop k batches))
on-batches settings journal events k =
    let batches = (writing of_journal settings journal events).batches in
    sym (writing-advances settings journal events)
    ∙ writing-adds of_journal settings journal events
    ∙ journal-adds journal (joined batches)
    ∙ ap (λ l. extended journal (joined l)) (sym (take-append-drop k batches))
    ∙ ap (extended journal) (joined-append (take k batches) (drop k batches))
    ∙ extended-more journal (joined (take k batches)) (joined (drop k batches))

-- so many of its entries are that journal
pub first-batches : (settings : Settings) (journal : Journal) (events : List Event) (k : ℕ) → first (length (after_batches settings journal events k)) (all_advanced settings journal events) ≡ after_batches settings journal events k
first-batches settings journal events k =
    ap (first (length (after_batches settings journal events k))) (on-batches settings journal events k)
    ∙ first-of-more (after_batches settings journal events k) (joined (drop k (writing of_journal settings journal events).batches))

pub ends-are-batches : EndsAreBatches
ends-are-batches settings journal events n has =
    let lies = ends-lie settings journal events n has in
    (lies.0, (lies.1, ap (λ n. first n (all_advanced settings journal events)) lies.1 ∙ first-batches settings journal events lies.0))

-- ### which numbers are ends

pub ends-within : EndsWithin
ends-within settings journal events n has =
    let lies = ends-lie settings journal events n has in
    let batches : List (List Entry) = (writing of_journal settings journal events).batches in
    let long = ap (λ (j : Journal). length j) (on-batches settings journal events lies.0) ∙ length-extended (after_batches settings journal events lies.0) (joined (drop lies.0 batches)) in
    let same = lies.1 in
    (above journal events has, omega (arith, long, same))
  where
    above : (journal : Journal) (events : List Event) → Contains (ends settings journal events) n → get_or (ends settings journal events) 0 0 ≤ n
    above journal [] has = elim (one-of (length journal) [] n has) as (λ _. length journal ≤ n) [ inl is ↦ omega (arith, is) | inr more ↦ absurd (none-of n more) ]
    above journal (Tick s ∷ events) has = above (advanced settings journal (Tick s)) events has
    above journal (Arrival frame ∷ events) has =
        elim (one-of (length journal) (lengths settings journal (Arrival frame ∷ events)) n has) as (λ _. length journal ≤ n) [
          | inl is ↦ omega (arith, is)
          | inr more ↦ (let lies = lengths-lie settings journal (Arrival frame ∷ events) n more in let same = lies.1 in let long = length-extended journal (joined (take lies.0 (writing of_journal settings journal (Arrival frame ∷ events)).batches)) in omega (arith, same, long))
        ]

first-one : {A : Type 0} (x : A) (xs : List A) → Contains (x ∷ xs) x
first-one x xs = (0, omega arith, refl)

later-one : {A : Type 0} (x : A) (xs : List A) (y : A) → Contains xs y → Contains (x ∷ xs) y
later-one x xs y has = let less = has.1 in (suc has.0, omega (arith, less), has.2)

-- the length after some batches, by that of the first of them
length-on : (journal after : Journal) (entries more : List Entry) → after ≡ extended journal entries → length (extended journal (entries ++ more)) ≡ length (extended after more)
length-on journal after entries more grown = ap (λ (j : Journal). length j) (extended-more journal entries more ∙ ap (λ j. extended j more) (sym grown))

module _ (settings : Settings) where
  -- its length after so many batches
  abbrev long : Journal → List Event → ℕ → ℕ
  long journal events k = length (after_batches settings journal events k)

  lengths-have : (k : ℕ) (events : List Event) (journal : Journal) → Contains (length journal ∷ lengths settings journal events) (long journal events k)
  lengths-have zero events journal = first-one (length journal) (lengths settings journal events)
  lengths-have (suc k) [] journal = first-one (length journal) []
  lengths-have (suc k) (Tick s ∷ events) journal =
      let change : Change Journal = ticked of_journal settings (seconds s) (unchanged journal) in
      let rest : List ℕ = length change.after ∷ lengths settings change.after events in
      subst (Contains (length journal ∷ rest)) (sym (length-on journal change.after change.entries (joined (take k (writing of_journal settings change.after events).batches)) (tick-grows settings journal s)))
      (later-one (length journal) rest (long change.after events k) (lengths-have k events change.after))
  lengths-have (suc k) (Arrival frame ∷ events) journal =
      by (control settings frame)
      (let change : Change Journal = (hear_by of_journal (standing settings journal) frame.moment frame (unchanged journal)).change in
      let rest : List ℕ = length change.after ∷ lengths settings change.after events in
      subst (Contains (length journal ∷ rest)) (sym (length-on journal change.after change.entries (joined (take k (writing of_journal settings change.after events).batches)) (message-grows settings journal frame)))
      (later-one (length journal) rest (long change.after events k) (lengths-have k events change.after)))
      (lengths-have (suc k) events journal)
    where
      by : (b : Bool) → let after = (hear_by of_journal (standing settings journal) frame.moment frame (unchanged journal)).change.after in Contains (length journal ∷ length after ∷ lengths settings after events) (length (extended journal ((hear_by of_journal (standing settings journal) frame.moment frame (unchanged journal)).change.entries ++ joined (take k (writing of_journal settings after events).batches)))) → Contains (length journal ∷ lengths settings journal events) (length (extended journal (joined (take (suc k) (writing of_journal settings journal events).batches)))) → let written = cond b (message_written of_journal settings (length journal) frame (hear_by of_journal (standing settings journal) frame.moment frame (unchanged journal))) (left_for_later journal frame) in let next = cond b (hear_by of_journal (standing settings journal) frame.moment frame (unchanged journal)).change.after journal in Contains (length journal ∷ with_if b (length next) (lengths settings next events)) (length (extended journal (joined (take (suc k) (written.batches ++ (writing of_journal settings written.after events).batches)))))
      by true heard left = heard
      by false heard left = left

  ends-have : (k : ℕ) (events : List Event) (journal : Journal) → opening events ≤ k → Contains (ends settings journal events) (long journal events k)
  ends-have zero [] journal less = first-one (length journal) []
  ends-have (suc k) [] journal less = first-one (length journal) []
  ends-have zero (Tick s ∷ events) journal less = absurd (let bad : ⊥ = omega (arith, less) in bad)
  ends-have (suc k) (Tick s ∷ events) journal less =
      let change : Change Journal = ticked of_journal settings (seconds s) (unchanged journal) in
      subst (Contains (ends settings change.after events)) (sym (length-on journal change.after change.entries (joined (take k (writing of_journal settings change.after events).batches)) (tick-grows settings journal s)))
      (ends-have k events change.after (omega (arith, less)))
  ends-have zero (Arrival frame ∷ events) journal less = lengths-have zero (Arrival frame ∷ events) journal
  ends-have (suc k) (Arrival frame ∷ events) journal less = lengths-have (suc k) (Arrival frame ∷ events) journal

pub batches-are-ends : BatchesAreEnds
batches-are-ends settings journal events k less = ends-have settings k events journal less

pub opening-within : {S : Type 0} (ledger : Ledger S) → OpeningWithin ledger
opening-within ledger settings state [] = omega arith
opening-within ledger settings state (Tick s ∷ events) =
    let rest = opening-within ledger settings (event_written ledger settings state (Tick s)).after events in omega (arith, rest)
opening-within ledger settings state (Arrival frame ∷ events) = omega arith

-- ### batches that have entries

pub filled-are-batches : FilledAreBatches
filled-are-batches [] j = (j, refl)
filled-are-batches ([] ∷ batches) j = let rest = filled-are-batches batches j in (suc rest.0, rest.1)
filled-are-batches ((e ∷ entries) ∷ batches) zero = (0, refl)
filled-are-batches ((e ∷ entries) ∷ batches) (suc j) =
    let rest = filled-are-batches batches j in (suc rest.0, ap (λ l. (e ∷ entries) ++ l) rest.1)

pub filled-behind : FilledBehind
filled-behind batches zero j less = let rest = filled-are-batches batches j in (rest.0, (omega arith, rest.1))
filled-behind [] (suc front) j less = absurd (let bad : ⊥ = omega (arith, less) in bad)
filled-behind (batch ∷ batches) (suc front) j less =
    let rest = filled-behind batches front j (omega (arith, less)) in
    let behind = rest.1.0 in
    (suc rest.0, (omega (arith, behind), append_assoc batch (joined (take front batches)) (joined (take j (filled (drop front batches)))) ∙ ap (λ l. batch ++ l) rest.1.1))

-- ### what lines show

empty-numbers : (ns : List ℕ) → length ns ≡ 0 → [] ≡ ns
empty-numbers [] none = refl
empty-numbers (n ∷ ns) none = absurd (let bad : ⊥ = omega (arith, none) in bad)

module _ (settings : Settings) (last : Journal) where
  -- there is a line for each frame, and they show the numbers
  abbrev Shows : List Frame → List Line → List ℕ → Type 0
  Shows frames lines ns = (length lines ≡ length frames) × (shown settings frames lines ≡ ns)

  -- what lines show where the first of them is of a control message, or isn't
  abbrev shown_with : Bool → List Frame → List Line → List ℕ
  shown_with b frames [] = []
  shown_with b frames (line ∷ lines) = with_if (not b) line.n (shown settings frames lines)

  shown-by : (frame : Frame) (frames : List Frame) (lines : List Line) → shown settings (frame ∷ frames) lines ≡ shown_with (control settings frame) frames lines
  shown-by frame frames [] = refl
  shown-by frame frames (line ∷ lines) = refl

  events-show : (events : List Event) (journal : Journal) (ns : List ℕ) → length ns ≡ length (data_frames settings (arrivals events)) → Shows (arrivals events) (of_events settings last journal ns events).lines ns
  events-show [] journal ns each = (refl, empty-numbers ns each)
  events-show (Tick s ∷ events) journal ns each = events-show events (advanced settings journal (Tick s)) ns each
  events-show (Arrival frame ∷ events) journal ns each =
      let shows =
      by (control settings frame) ns each
      (events-show events (hear_by of_journal (standing settings journal) frame.moment frame (unchanged journal)).change.after ns)
      (λ ms few. events-show events journal ms few) in
      (shows.0, shown-by frame (arrivals events) (of_events settings last journal ns (Arrival frame ∷ events)).lines ∙ shows.1)
    where
      by : (b : Bool) (ns : List ℕ) → length ns ≡ length (cond (not b) (frame ∷ data_frames settings (arrivals events)) (data_frames settings (arrivals events))) → (length ns ≡ length (data_frames settings (arrivals events)) → Shows (arrivals events) (of_events settings last (hear_by of_journal (standing settings journal) frame.moment frame (unchanged journal)).change.after ns events).lines ns) → ((ms : List ℕ) → length ms ≡ length (data_frames settings (arrivals events)) → Shows (arrivals events) (of_events settings last journal ms events).lines ms) → let lines = (and_then (cond b (of_message settings journal frame (hear_by of_journal (standing settings journal) frame.moment frame (unchanged journal))) (of_data settings frame (get_or ns 0 0) (decided settings last (get_or ns 0 0) frame))) (of_events settings last (cond b (hear_by of_journal (standing settings journal) frame.moment frame (unchanged journal)).change.after journal) (cond b ns (drop 1 ns)) events)).lines in (length lines ≡ suc (length (arrivals events))) × (shown_with b (arrivals events) lines ≡ ns)
      by true ns each heard left = let rest = heard each in (ap (λ n. suc n) rest.0, rest.1)
      by false [] each heard left = absurd (let bad : ⊥ = omega (arith, each) in bad)
      by false (n ∷ ns) each heard left = let rest = left ns (omega (arith, each)) in (ap (λ n. suc n) rest.0, ap (λ l. n ∷ l) rest.1)

pub lines-show : LinesShow
lines-show settings previous frames journal ns each =
    let events : List Event = events_after previous frames in
    let all : Journal = all_advanced settings journal events in
    let same = arrivals-events previous frames in
    subst (λ fs. Shows settings all fs (of_events settings all journal ns events).lines ns) same
    (events-show settings all events journal ns (each ∙ ap (λ fs. length (data_frames settings fs)) (sym same)))

-- ### what is told of items, one after another

and-assoc : (a b c : Told) → and_then (and_then a b) c ≡ and_then a (and_then b c)
and-assoc a b c =
    ap (λ l. record (and_then (and_then a b) c) { lines = l }) (append_assoc a.lines b.lines c.lines)
    ∙ ap (λ l. record (and_then a (and_then b c)) { packets = (a.packets ++ b.packets) ++ c.packets; notices = l }) (append_assoc a.notices b.notices c.notices)
    ∙ ap (λ l. record (and_then a (and_then b c)) { packets = l }) (append_assoc a.packets b.packets c.packets)

no-rulings : (ruled : List Ruling) → length ruled ≡ 0 → [] ≡ ruled
no-rulings [] none = refl
no-rulings (one ∷ ruled) none = absurd (let bad : ⊥ = omega (arith, none) in bad)

pub told-follows : ToldFollows
told-follows [] next first others same =
    subst (λ l. told_by next (l ++ others) ≡ and_then (told_by [] l) (told_by next others)) (no-rulings first same) refl
told-follows (Second packets ∷ one) next first others same =
    let told : Told = record { lines = []; packets = packets; notices = [] } in
    ap (and_then told) (told-follows one next first others same) ∙ sym (and-assoc told (told_by one first) (told_by next others))
told-follows (Message line packets ∷ one) next first others same =
    let told : Told = record { lines = line ∷ []; packets = packets; notices = [] } in
    ap (and_then told) (told-follows one next first others same) ∙ sym (and-assoc told (told_by one first) (told_by next others))
told-follows (Data frame ∷ one) next [] others same = absurd (let bad : ⊥ = omega (arith, same) in bad)
told-follows (Data frame ∷ one) next (r ∷ first) others same =
    let told : Told = record {
      lines = line_of frame r.n r.decision.verdict ∷ [];
      packets = packets_of frame.moment (packet_of r.decision.verdict);
      notices = r.decision.notices;
    } in
    ap (and_then told) (told-follows one next first others (omega (arith, same))) ∙ sym (and-assoc told (told_by one first) (told_by next others))
