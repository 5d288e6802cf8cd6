-- What a play that is cut short leaves, from call to call.
use Rattle.std.proofs.Common.{◌≡◌, ℕ, List, [], ◌∷◌, ◌++◌, take, drop, Option, Some, None, Result, Ok, Err, append_assoc, refl, sym, ap, ap₂, ◌∙◌, ◌⊎◌, subst, inl, inr, arith}
use Rattle.std.specs.Option.{option_map}
use Rattle.std.specs.Result.{MatchResult, OnErr, OnOk}
use Rattle.std.proofs.lemmas.List.{append-nil, length-append, map-append, take-append-drop}
use Rattle.desk.specs.World.{World, Shown, after_say, after_write, shown, shown_of}
use Rattle.capture_io.specs.Frame.{Frame}
use Rattle.capture_events.specs.Events.{Arrival, Event, Happens, Outcome, Played, Step, events_of, followed, idle, played, records_of, steps_of, ticks}
use Rattle.playback.specs.Front.{Breaks, Cut, Hands, IsFront, Stands}
use Rattle.playback.specs.Playing.{after_output, with_outcome, with_output, GathersOne}
use Rattle.playback.specs.declared.output.Output.{Output}
use Rattle.capture_events.proofs.EventLemmas.{played-append, plays-append, plays-one}
use Rattle.playback.proofs.OutputLemmas.{records_of-append, says_and_writes, with_output-twice, written-none}

-- nothing is gathered
pub gathers-idle : {S : Type 0} (may : Outcome S → Type 0) (output : Output) (state : S) → may (idle state) → GathersOne may output output state
gathers-idle may output state is = record {
  outcome = idle state;
  is = is;
  gathers = record { lines = sym (append-nil output.lines); records = sym (append-nil output.records); written = omega arith };
  left = refl;
}

module _ {X : Type 0} where
  pub front-all : (xs : List X) → IsFront xs xs
  front-all xs = ([], append-nil xs)

  pub front-more : (a b : List X) → IsFront a (a ++ b)
  front-more a b = (b, refl)

  pub front-take : (k : ℕ) (xs : List X) → IsFront (take k xs) xs
  front-take k xs = (drop k xs, take-append-drop k xs)

  pub front-front : (a b c : List X) → IsFront a b → IsFront b c → IsFront a c
  front-front a b c one two =
      (one.0 ++ two.0, sym (append_assoc a one.0 two.0) ∙ ap (λ (l : List X). l ++ two.0) one.1 ∙ two.1)

  pub front-behind : (a b c whole : List X) → a ++ c ≡ whole → IsFront b c → IsFront (a ++ b) whole
  front-behind a b c whole all is = (is.0, append_assoc a b is.0 ∙ ap (λ (l : List X). a ++ l) is.1 ∙ all)

  -- the same list
  pub front-same : (a b : List X) → a ≡ b → IsFront a b
  front-same a b same = ([], append-nil a ∙ same)

-- the next one of what is due, with what was done, is the beginning of what is due
pub due-front : {X : Type 0} (done : List X) (next : X) (rest all : List X) → done ++ next ∷ rest ≡ all → (past : List X) → IsFront ((past ++ done) ++ next ∷ []) (past ++ all)
due-front {X} done next rest all due past = (rest, append_assoc (past ++ done) (next ∷ []) rest ∙ append_assoc past done (next ∷ rest) ∙ ap (λ (l : List X). past ++ l) due)

-- what holds on any exit
pub on_err_always : {T E P : Type 0} (r : Result T E) → P → OnErr r P
on_err_always (Ok x) p = tt
on_err_always (Err e) p = p

-- on each exit what holds there
pub either : {T E : Type 0} (P Q R : Type 0) (r : Result T E) → OnOk r P → OnErr r Q → (P → R) → MatchResult r (λ _. R) (λ _. Q)
either P Q R (Ok x) p q goes = goes p
either P Q R (Err e) p q goes = q

-- steps of events, and then of others
pub steps-append : (first others : List Event) → steps_of (first ++ others) ≡ steps_of first ++ steps_of others
steps-append first others = map-append Happens first others

-- a frame behind the seconds before it
pub frame-steps : (past : List Step) (previous : Option ℕ) (frame : Frame) → (past ++ steps_of (ticks previous frame.moment)) ++ Happens (Arrival frame) ∷ [] ≡ past ++ steps_of (events_of previous frame)
frame-steps past previous frame =
    append_assoc past (steps_of (ticks previous frame.moment)) (Happens (Arrival frame) ∷ [])
    ∙ ap (λ (l : List Step). past ++ l) (sym (steps-append (ticks previous frame.moment) (Arrival frame ∷ [])))

-- what others see after output
shown-output : (file : Option ℕ) (lines octets : List ℕ) (told : Option World) (s : Shown) → shown told ≡ Some s
    → shown (option_map (after_output file lines octets) told) ≡ Some (with_output file lines octets s)
shown-output file lines octets None s is = cc
shown-output file lines octets (Some w) s is = let e : shown_of w ≡ s = cc in ap (λ (x : Shown). Some (with_output file lines octets x)) e

-- a fault while lines are said
says-part : (file : Option ℕ) (lines : List ℕ) (told now : Option World) → now ≡ option_map (after_say lines) told → now ≡ option_map (after_output file lines []) told
says-part file lines None now said = said
says-part file lines (Some w) now said =
    said ∙ ap (λ writers. Some (record w { said = w.said ++ lines; writers = writers })) (sym (written-none file w.writers))

pub breaks_saying : (file : Option ℕ) (output : Output) (lines : List ℕ) (told now : Option World) → lines ≡ output.lines
    → ((k : ℕ) × (now ≡ option_map (after_say (take k lines)) told)) → Breaks file output told now
breaks_saying file output lines told now is said = record {
  lines = take said.0 lines;
  octets = [];
  left = says-part file (take said.0 lines) told now said.1;
  said = subst (λ (l : List ℕ). IsFront (take said.0 lines) l) is (front-take said.0 lines);
  written = (output.records, refl);
  order = inl refl;
}

-- a fault while records are written
pub breaks_writing : (file : Option ℕ) (output : Output) (id : ℕ) (lines records : List ℕ) (told mid now : Option World) → lines ≡ output.lines → records ≡ output.records
    → file ≡ Some id → mid ≡ option_map (after_say lines) told → ((k : ℕ) × (now ≡ option_map (after_write id (take k records)) mid)) → Breaks file output told now
breaks_writing file output id lines records told mid now is are to said wrote = record {
  lines = lines;
  octets = take wrote.0 records;
  left = says_and_writes file lines (take wrote.0 records) told mid now id to said wrote.1;
  said = front-same lines output.lines is;
  written = subst (λ (l : List ℕ). IsFront (take wrote.0 records) l) are (front-take wrote.0 records);
  order = inr is;
}

module _ {S : Type 0} (step : S → Event → Outcome S) (start : S) where
  -- what is done for the first of events begins what is done for all
  pub front-lines : (first all : List Event) → IsFront first all → IsFront (played step start first).lines (played step start all).lines
  front-lines first all is =
      ((played step (played step start first).after is.0).lines, sym (ap (λ (o : Outcome S). o.lines) (played-append step start first is.0)) ∙ ap (λ (l : List Event). (played step start l).lines) is.1)

  pub front-octets : (first all : List Event) → IsFront first all → IsFront (records_of (played step start first).packets) (records_of (played step start all).packets)
  front-octets first all is =
      let more = played step (played step start first).after is.0 in (
        records_of more.packets,
        sym (ap (λ (o : Outcome S). records_of o.packets) (played-append step start first is.0) ∙ records_of-append (played step start first).packets more.packets)
            ∙ ap (λ (l : List Event). records_of (played step start l).packets) is.1,
      )

module _ {S : Type 0} (does : S → Step → Outcome S → Type 0) (start : S) (file : Option ℕ) (old : Shown) where
  -- where only reading came between
  pub stands_shown : (all : List Step) (state : S) (output : Output) (told now : Option World) → shown now ≡ shown told
      → Stands does start file old all state output told → Stands does start file old all state output now
  stands_shown all state output told now same stands = record {
    first = stands.first;
    others = stands.others;
    whole = stands.whole;
    done = stands.done;
    held = stands.held;
    is_done = stands.is_done;
    is_held = stands.is_held;
    state_is = stands.state_is;
    shown = same ∙ stands.shown;
    lines = stands.lines;
    records = stands.records;
    written = stands.written;
  }

  -- a step more was gathered
  pub stands-gathers : (all : List Step) (step : Step) (before after : S) (output new : Output) (told : Option World)
      → GathersOne (does before step) output new after
      → Stands does start file old all before output told → Stands does start file old (all ++ step ∷ []) after new told
  stands-gathers all step before after output new told gathers stands =
      let held = stands.held in
      let more = gathers.outcome in
      let one = subst (λ (s : S). does s step more) stands.state_is gathers.is in
      let a = stands.written in
      let b = gathers.gathers.written in
      let both = length-append held.packets more.packets in
      record {
        first = stands.first;
        others = stands.others ++ step ∷ [];
        whole = sym (append_assoc stands.first stands.others (step ∷ [])) ∙ ap (λ (l : List Step). l ++ step ∷ []) stands.whole;
        done = stands.done;
        held = followed held more;
        is_done = stands.is_done;
        is_held = plays-append does stands.done.after stands.others (step ∷ []) held more stands.is_held (plays-one does held.after step more one);
        state_is = gathers.left;
        shown = stands.shown;
        lines = gathers.gathers.lines ∙ ap (λ (l : List ℕ). l ++ more.lines) stands.lines;
        records = gathers.gathers.records ∙ ap (λ (l : List ℕ). l ++ records_of more.packets) stands.records ∙ sym (records_of-append held.packets more.packets);
        written = omega (arith, a, b, both);
      }

  -- what is shown when more of what was gathered is handed on
  handed-shown : (all : List Step) (state : S) (output : Output) (told now : Option World) (lines octets : List ℕ) (stands : Stands does start file old all state output told)
      → now ≡ option_map (after_output file lines octets) told
      → shown now ≡ Some (with_output file (stands.done.lines ++ lines) (records_of stands.done.packets ++ octets) old)
  handed-shown all state output told now lines octets stands left =
      ap shown left ∙ shown-output file lines octets told (with_outcome file stands.done old) stands.shown
      ∙ ap Some (with_output-twice file stands.done.lines lines (records_of stands.done.packets) octets old)

  -- all that was done, in one
  pub stands-played : (all : List Step) (state : S) (output : Output) (told : Option World) (stands : Stands does start file old all state output told)
      → Played does start all (followed stands.done stands.held)
  stands-played all state output told stands =
      subst (λ (l : List Step). Played does start l (followed stands.done stands.held)) stands.whole (plays-append does start stands.first stands.others stands.done stands.held stands.is_done stands.is_held)

  -- perhaps all was handed on
  pub stands-hands : (all : List Step) (state : S) (output new : Output) (told now : Option World) → Hands file output told new now → new.written ≡ output.written
      → Stands does start file old all state output told → Stands does start file old all state new now
  stands-hands all state output new told now (inl (same, still)) count stands = rw (same, still) stands
  stands-hands all state output new told now (inr (lines, records, handed)) count stands =
      let done = stands.done in
      let held = stands.held in
      let a = stands.written in
      let both = length-append done.packets held.packets in
      record {
        first = all;
        others = [];
        whole = append-nil all;
        done = followed done held;
        held = idle held.after;
        is_done = stands-played all state output told stands;
        is_held = refl;
        state_is = stands.state_is;
        shown = handed-shown all state output told now output.lines output.records stands handed
            ∙ ap₂ (λ (l o : List ℕ). Some (with_output file (done.lines ++ l) o old)) stands.lines
            (ap (λ (o : List ℕ). records_of done.packets ++ o) stands.records ∙ sym (records_of-append done.packets held.packets));
        lines = lines;
        records = records;
        written = omega (arith, count, a, both);
      }

  -- a fault while nothing is handed on
  pub cut_here : (all : List Step) (state : S) (output : Output) (told : Option World) → Stands does start file old all state output told → Cut does start file old all told
  cut_here all state output told stands = record {
    first = stands.first;
    others = stands.others;
    within = front-same (stands.first ++ stands.others) all stands.whole;
    done = stands.done;
    held = stands.held;
    is_done = stands.is_done;
    is_held = stands.is_held;
    lines = stands.done.lines;
    octets = records_of stands.done.packets;
    shown = stands.shown;
    said = front-more stands.done.lines stands.held.lines;
    reported = front-all stands.done.lines;
    written = front-all (records_of stands.done.packets);
  }

  -- a fault while all is handed on
  pub breaks-cut : (all : List Step) (state : S) (output : Output) (told now : Option World) → Breaks file output told now
      → Stands does start file old all state output told → Cut does start file old all now
  breaks-cut all state output told now breaks stands = cases breaks.order
    where
      done : Outcome S
      done = stands.done

      held : Outcome S
      held = stands.held

      cases : (breaks.octets ≡ []) ⊎ (breaks.lines ≡ output.lines) → Cut does start file old all now
      cases (inl none) = record {
        first = stands.first;
        others = stands.others;
        within = front-same (stands.first ++ stands.others) all stands.whole;
        done = done;
        held = held;
        is_done = stands.is_done;
        is_held = stands.is_held;
        lines = done.lines ++ breaks.lines;
        octets = records_of done.packets ++ breaks.octets;
        shown = handed-shown all state output told now breaks.lines breaks.octets stands breaks.left;
        said = front-behind done.lines breaks.lines output.lines (done.lines ++ held.lines) (ap (λ (l : List ℕ). done.lines ++ l) stands.lines) breaks.said;
        reported = front-more done.lines breaks.lines;
        written = front-same (records_of done.packets ++ breaks.octets) (records_of done.packets) (ap (λ (l : List ℕ). records_of done.packets ++ l) none ∙ append-nil (records_of done.packets));
      }
      cases (inr whole) =
          let said : done.lines ++ breaks.lines ≡ done.lines ++ held.lines = ap (λ (l : List ℕ). done.lines ++ l) (whole ∙ stands.lines) in
          let records : records_of done.packets ++ output.records ≡ records_of (done.packets ++ held.packets) =
          ap (λ (l : List ℕ). records_of done.packets ++ l) stands.records ∙ sym (records_of-append done.packets held.packets) in
          record {
            first = all;
            others = [];
            within = front-same (all ++ []) all (append-nil all);
            done = followed done held;
            held = idle held.after;
            is_done = stands-played all state output told stands;
            is_held = refl;
            lines = done.lines ++ breaks.lines;
            octets = records_of done.packets ++ breaks.octets;
            shown = handed-shown all state output told now breaks.lines breaks.octets stands breaks.left;
            said = front-same (done.lines ++ breaks.lines) ((done.lines ++ held.lines) ++ []) (said ∙ sym (append-nil (done.lines ++ held.lines)));
            reported = front-same (done.lines ++ held.lines) (done.lines ++ breaks.lines) (sym said);
            written = front-behind (records_of done.packets) breaks.octets output.records (records_of (done.packets ++ held.packets)) records breaks.written;
          }

  -- the same of more steps
  pub cut_front : (all more : List Step) (told : Option World) → IsFront all more → Cut does start file old all told → Cut does start file old more told
  cut_front all more told is cut = record {
    first = cut.first;
    others = cut.others;
    within = front-front (cut.first ++ cut.others) all more cut.within is;
    done = cut.done;
    held = cut.held;
    is_done = cut.is_done;
    is_held = cut.is_held;
    lines = cut.lines;
    octets = cut.octets;
    shown = cut.shown;
    said = cut.said;
    reported = cut.reported;
    written = cut.written;
  }
