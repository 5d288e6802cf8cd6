-- What a play of rounds leaves that is cut short.
use Rattle.std.proofs.Common.{◌≡◌, ◌∙◌, ◌≤◌, ◌⊎◌, inl, inr, ℕ, suc, List, [], ◌∷◌, ◌++◌, length, take, Option, Some, None, append_assoc, arith, refl, sym, ap, subst}
use Rattle.std.specs.List.{All}
use Rattle.std.specs.Option.{IfSome}
use Rattle.std.proofs.lemmas.List.{append-nil}
use Rattle.std.proofs.lemmas.List.Elements.{All-cons, All-head, All-nil, All-tail}
use Rattle.desk.specs.World.{World, Shown, shown, shown_of}
use Rattle.capture_io.specs.Frame.{Frame}
use Rattle.lisp_settings.specs.declared.settings.Settings.{Settings}
use Rattle.capture_events.specs.Events.{Arrival, End, GoesOn, Happens, Outcome, Packet, Pause, Played, Step, Tick, arrivals, followed, happened, idle, records_of}
use Rattle.playback.specs.Front.{Cut, CutRun, IsFront}
use Rattle.playback.specs.Input.{InputRun}
use Rattle.playback.specs.declared.fault.InputFault.{InputFault}
use Rattle.playback.specs.Passing.{IsOver}
use Rattle.playback.specs.declared.output.Output.{Output}
use Rattle.capture_events.proofs.EventLemmas.{arrivals-events}
use Rattle.playback.proofs.FrontLemmas.{cut_here, front-all, front-front}
use Rattle.playback.proofs.OutputLemmas.{records_of-append, with_output-none}
use Rattle.router_model.specs.Cut.{cut}
use Rattle.router_model.specs.Journal.{Journal}
use Rattle.router_model.specs.Plain.{Router, started}
use Rattle.router_model.specs.Rounds.{AllLawful, rounds_from}
use Rattle.router_model.specs.Sharing.{previous_after}
use Rattle.router_model.proofs.SingleLemmas.{lawful-follow, numbers-exist, rounds-follow}
use Rattle.sharing.specs.Gathering.{Gathering, InRounds, none_gathered, round_worked}
use Rattle.sharing.specs.Sharing.{HasSharedPart}
use Rattle.sharing.proofs.GatheringLemmas.{Opened, due-cuts, gathered, opened-more}

-- ### steps, and the frames that came with them

abbrev came : List Step → List Frame
came steps = arrivals (happened steps)

came-append : (first others : List Step) → came (first ++ others) ≡ came first ++ came others
came-append [] others = refl
came-append (Happens (Tick second) ∷ first) others = came-append first others
came-append (Happens (Arrival frame) ∷ first) others = ap (λ (l : List Frame). frame ∷ l) (came-append first others)
came-append (Pause ∷ first) others = came-append first others
came-append (End ∷ first) others = came-append first others

-- parts of steps go on as they all do
goes-first : (first others : List Step) → All GoesOn (first ++ others) → All GoesOn first
goes-first [] others all = All-nil GoesOn
goes-first (step ∷ first) others all =
    All-cons GoesOn step first (All-head GoesOn step (first ++ others) all) (goes-first first others (All-tail GoesOn step (first ++ others) all))

goes-others : (first others : List Step) → All GoesOn (first ++ others) → All GoesOn others
goes-others [] others all = all
goes-others (step ∷ first) others all = goes-others first others (All-tail GoesOn step (first ++ others) all)

-- ### rounds that were worked

-- these rounds were worked so far, and the frames that are gathered begin the rounds to come
record WorkedSoFar (g : Gathering) (frames : List Frame) (outcome : Outcome Gathering) : Type 0 where
  cuts : List (List Frame)
  ns : List (List ℕ)
  each : length ns ≡ length cuts
  lawful : AllLawful g.router g.previous cuts ns
  lines : outcome.lines ≡ (rounds_from g.router g.previous cuts ns).lines
  packets : outcome.packets ≡ (rounds_from g.router g.previous cuts ns).packets
  router : outcome.after.router ≡ (rounds_from g.router g.previous cuts ns).after
  previous : outcome.after.previous ≡ previous_after g.previous cuts
  size : outcome.after.size ≡ g.size
  opened : Opened outcome.after
  goes_on : (more : List Frame) → cut g.size ((g.frames ++ frames) ++ more) ≡ cuts ++ cut g.size (outcome.after.frames ++ more)

so-far : (g : Gathering) (steps : List Step) (outcome : Outcome Gathering) → 1 ≤ g.size → All GoesOn steps → Opened g
    → Played InRounds g steps outcome → WorkedSoFar g (came steps) outcome
so-far g [] outcome some goes_on opened played =
    subst (λ (o : Outcome Gathering). WorkedSoFar g [] o) (sym played) (record {
      cuts = [];
      ns = [];
      each = refl;
      lawful = refl;
      lines = refl;
      packets = refl;
      router = refl;
      previous = refl;
      size = refl;
      opened = opened;
      goes_on = λ more. ap (λ (l : List Frame). cut g.size (l ++ more)) (append-nil g.frames);
    })
so-far g (Happens (Tick second) ∷ steps) outcome some goes_on opened played =
    let more = All-tail GoesOn (Happens (Tick second)) steps goes_on in
    let goes : Played InRounds g steps played.1 =
    subst (λ (o : Outcome Gathering). Played InRounds o.after steps played.1) played.2 played.3 in
    let same : outcome ≡ played.1 = played.4 ∙ ap (λ (o : Outcome Gathering). followed o played.1) played.2 in
    subst (λ (o : Outcome Gathering). WorkedSoFar g (came steps) o) (sym same) (so-far g steps played.1 some more opened goes)
so-far g (Happens (Arrival frame) ∷ steps) outcome some goes_on opened played =
    let more = All-tail GoesOn (Happens (Arrival frame)) steps goes_on in
    let due = played.2.0 in
    let kept = played.2.1 in
    let next : Gathering = record g { frames = g.frames ++ frame ∷ [] } in
    let goes : Played InRounds next steps played.1 =
    subst (λ (o : Outcome Gathering). Played InRounds o.after steps played.1) kept played.3 in
    let same : outcome ≡ played.1 = played.4 ∙ ap (λ (o : Outcome Gathering). followed o played.1) kept in
    let one = so-far next steps played.1 some more (opened-more g frame opened due) goes in
    subst (λ (o : Outcome Gathering). WorkedSoFar g (frame ∷ came steps) o) (sym same) (record {
      cuts = one.cuts;
      ns = one.ns;
      each = one.each;
      lawful = one.lawful;
      lines = one.lines;
      packets = one.packets;
      router = one.router;
      previous = one.previous;
      size = one.size;
      opened = one.opened;
      goes_on = λ others. ap (λ (l : List Frame). cut g.size (l ++ others)) (sym (append_assoc g.frames (frame ∷ []) (came steps))) ∙ one.goes_on others;
    })
so-far g (Pause ∷ steps) outcome some goes_on opened played =
    let more = All-tail GoesOn Pause steps goes_on in
    let due = played.2.0 in
    let works = played.2.1 in
    let done = round_worked g g.frames works.ns in
    let goes : Played InRounds done.after steps played.1 =
    subst (λ (o : Outcome Gathering). Played InRounds o.after steps played.1) works.is played.3 in
    let same : outcome ≡ followed done played.1 = played.4 ∙ ap (λ (o : Outcome Gathering). followed o played.1) works.is in
    let one = so-far done.after steps played.1 some more (inl refl) goes in
    subst (λ (o : Outcome Gathering). WorkedSoFar g (came steps) o) (sym same) (record {
      cuts = g.frames ∷ one.cuts;
      ns = works.ns ∷ one.ns;
      each = ap suc one.each;
      lawful = (omega arith, (works.lawful, one.lawful));
      lines = ap (λ (l : List ℕ). done.lines ++ l) one.lines;
      packets = ap (λ (l : List Packet). done.packets ++ l) one.packets;
      router = one.router;
      previous = one.previous;
      size = one.size;
      opened = one.opened;
      goes_on = λ others. ap (cut g.size) (append_assoc g.frames (came steps) others) ∙ due-cuts g (came steps ++ others) some opened due
          ∙ ap (λ (l : List (List Frame)). g.frames ∷ l) (one.goes_on others);
    })
so-far g (End ∷ steps) outcome some goes_on opened played = absurd (All-head GoesOn End steps goes_on)

-- the rounds of frames have numbers with which these lines begin what they say
record MaySay (router : Router Journal) (previous : Option ℕ) (cuts : List (List Frame)) (lines : List ℕ) : Type 0 where
  ns : List (List ℕ)
  lawful : AllLawful router previous cuts ns
  begins : IsFront lines (rounds_from router previous cuts ns).lines

-- steps were played, and frames are to come
says-more : (g : Gathering) (steps : List Step) (outcome : Outcome Gathering) (more : List Frame) → 1 ≤ g.size → All GoesOn steps → Opened g
    → Played InRounds g steps outcome → MaySay g.router g.previous (cut g.size ((g.frames ++ came steps) ++ more)) outcome.lines
says-more g steps outcome more some goes_on opened played =
    let one = so-far g steps outcome some goes_on opened played in
    let next = cut g.size (outcome.after.frames ++ more) in
    let before = rounds_from g.router g.previous one.cuts one.ns in
    let others = numbers-exist before.after (previous_after g.previous one.cuts) next in
    let rest = rounds_from before.after (previous_after g.previous one.cuts) next others.0 in
    let follow = rounds-follow g.router g.previous one.cuts next one.ns others.0 one.each in
    subst (λ (cuts : List (List Frame)). MaySay g.router g.previous cuts outcome.lines) (sym (one.goes_on more)) (record {
      ns = one.ns ++ others.0;
      lawful = lawful-follow g.router g.previous one.cuts next one.ns others.0 one.lawful others.1;
      begins = (rest.lines, ap (λ (l : List ℕ). l ++ rest.lines) one.lines ∙ sym (ap (λ (o : Outcome (Router Journal)). o.lines) follow));
    })

-- steps to the end were played
says-all : (g : Gathering) (steps : List Step) (outcome : Outcome Gathering) → 1 ≤ g.size → All GoesOn steps → Opened g
    → Played InRounds g (steps ++ End ∷ []) outcome → MaySay g.router g.previous (cut g.size (g.frames ++ came steps)) outcome.lines
says-all g steps outcome some goes_on opened played =
    let all = gathered g steps outcome some goes_on opened played in
    record { ns = all.ns; lawful = all.lawful; begins = ([], append-nil outcome.lines ∙ all.lines) }

-- ### a part, and what may follow

take-front : {X : Type 0} (front others : List X) → take (length front) (front ++ others) ≡ front
take-front [] others = refl
take-front {X} (x ∷ front) others = ap (λ (l : List X). x ∷ l) (take-front front others)

take-all : {X : Type 0} (items : List X) → take (length items) items ≡ items
take-all {X} items = ap (λ (l : List X). take (length items) l) (sym (append-nil items)) ∙ take-front items []

-- rounds have numbers with which these lines begin what they say, and the first of them say and send what was done
record DividesIn (router : Router Journal) (cuts : List (List Frame)) (lines : List ℕ) (done : Outcome Gathering) : Type 0 where
  ns : List (List ℕ)
  lawful : AllLawful router None cuts ns
  count : ℕ
  begins : IsFront lines (rounds_from router None cuts ns).lines
  sent : (more : List Packet) × (done.packets ++ more ≡ (rounds_from router None cuts ns).packets)
  first_lines : (rounds_from router None (take count cuts) ns).lines ≡ done.lines
  first_packets : (rounds_from router None (take count cuts) ns).packets ≡ done.packets

abbrev Divides : Settings → ℕ → List Frame → List ℕ → Outcome Gathering → Type 0
Divides settings size frames lines done = DividesIn (started settings) (cut size frames) lines done

-- steps, and then others, of which these lines are said
divides-more : (settings : Settings) (size : ℕ) (first : List Step) (done : Outcome Gathering) (others : List Frame) (lines : List ℕ) → 1 ≤ size → All GoesOn first
    → Played InRounds (none_gathered size settings) first done
    → (Opened done.after → done.after.size ≡ size → MaySay done.after.router done.after.previous (cut done.after.size (done.after.frames ++ others)) lines)
    → Divides settings size (came first ++ others) (done.lines ++ lines) done
divides-more settings size first done others lines some goes_on played says =
    let start = started settings in
    let one = so-far (none_gathered size settings) first done some goes_on (inl refl) played in
    let before = rounds_from start None one.cuts one.ns in
    let next = cut size (done.after.frames ++ others) in
    let sized = subst (λ (n : ℕ). MaySay done.after.router done.after.previous (cut n (done.after.frames ++ others)) lines) one.size (says one.opened one.size) in
    let routed = subst (λ (r : Router Journal). MaySay r done.after.previous next lines) one.router sized in
    let may = subst (λ (p : Option ℕ). MaySay before.after p next lines) one.previous routed in
    let rest = rounds_from before.after (previous_after None one.cuts) next may.ns in
    let follow = rounds-follow start None one.cuts next one.ns may.ns one.each in
    let alone = rounds-follow start None one.cuts [] one.ns may.ns one.each in
    let ns = one.ns ++ may.ns in
    let front : rounds_from start None one.cuts ns ≡ followed before (idle before.after) =
    ap (λ (cuts : List (List Frame)). rounds_from start None cuts ns) (sym (append-nil one.cuts)) ∙ alone in
    subst (λ (cuts : List (List Frame)). DividesIn start cuts (done.lines ++ lines) done) (sym (one.goes_on others)) (record {
      ns = ns;
      lawful = lawful-follow start None one.cuts next one.ns may.ns one.lawful may.lawful;
      count = length one.cuts;
      begins = (
        may.begins.0,
        append_assoc done.lines lines may.begins.0 ∙ ap (λ (l : List ℕ). done.lines ++ l) may.begins.1 ∙ ap (λ (l : List ℕ). l ++ rest.lines) one.lines
            ∙ sym (ap (λ (o : Outcome (Router Journal)). o.lines) follow),
      );
      sent = (rest.packets, ap (λ (l : List Packet). l ++ rest.packets) one.packets ∙ sym (ap (λ (o : Outcome (Router Journal)). o.packets) follow));
      first_lines = ap (λ (cuts : List (List Frame)). (rounds_from start None cuts ns).lines) (take-front one.cuts next)
          ∙ ap (λ (o : Outcome (Router Journal)). o.lines) front ∙ append-nil before.lines ∙ sym one.lines;
      first_packets = ap (λ (cuts : List (List Frame)). (rounds_from start None cuts ns).packets) (take-front one.cuts next)
          ∙ ap (λ (o : Outcome (Router Journal)). o.packets) front ∙ append-nil before.packets ∙ sym one.packets;
    })

-- steps to the end
divides-all : (settings : Settings) (size : ℕ) (steps : List Step) (done : Outcome Gathering) → 1 ≤ size → All GoesOn steps
    → Played InRounds (none_gathered size settings) (steps ++ End ∷ []) done → Divides settings size (came steps) (done.lines ++ []) done
divides-all settings size steps done some goes_on played =
    let all = gathered (none_gathered size settings) steps done some goes_on (inl refl) played in
    let cuts = cut size (came steps) in
    record {
      ns = all.ns;
      lawful = all.lawful;
      count = length cuts;
      begins = ([], append-nil (done.lines ++ []) ∙ append-nil done.lines ∙ all.lines);
      sent = ([], append-nil done.packets ∙ all.packets);
      first_lines = ap (λ (l : List (List Frame)). (rounds_from (started settings) None l all.ns).lines) (take-all cuts) ∙ sym all.lines;
      first_packets = ap (λ (l : List (List Frame)). (rounds_from (started settings) None l all.ns).packets) (take-all cuts) ∙ sym all.packets;
    }

-- ### where a play was cut short

-- steps before an end are steps before it, or all of them
before-end : (some rest steps : List Step) → some ++ rest ≡ steps ++ End ∷ [] → IsFront some steps ⊎ (some ≡ steps ++ End ∷ [])
before-end [] rest steps is = inl (steps, refl)
before-end (step ∷ []) rest [] is = let same : step ≡ End = cc in inr (ap (λ (s : Step). s ∷ []) same)
before-end (step ∷ (next ∷ some)) rest [] is = cc
before-end (step ∷ some) rest (first ∷ steps) is = by (before-end some rest steps (cc))
  where
    same : step ≡ first
    same = cc

    by : IsFront some steps ⊎ (some ≡ steps ++ End ∷ []) → IsFront (step ∷ some) (first ∷ steps) ⊎ (step ∷ some ≡ first ∷ (steps ++ End ∷ []))
    by (inl front) = inl (front.0, ap (λ (l : List Step). step ∷ l) front.1 ∙ ap (λ (s : Step). s ∷ steps) same)
    by (inr all) = inr (ap (λ (l : List Step). step ∷ l) all ∙ ap (λ (s : Step). s ∷ (steps ++ End ∷ [])) same)

-- the end is among the last of steps, or none are left
end-of : (first others steps : List Step) → first ++ others ≡ steps ++ End ∷ []
    → ((last : List Step) × (others ≡ last ++ End ∷ []) × (first ++ last ≡ steps)) ⊎ ((others ≡ []) × (first ≡ steps ++ End ∷ []))
end-of [] others steps is = inl (steps, is, refl)
end-of (step ∷ []) [] [] is = let same : step ≡ End = cc in inr (refl, ap (λ (s : Step). s ∷ []) same)
end-of (step ∷ []) (other ∷ others) [] is = cc
end-of (step ∷ (next ∷ first)) others [] is = cc
end-of (step ∷ first) others (one ∷ steps) is = by (end-of first others steps (cc))
  where
    same : step ≡ one
    same = cc

    by : ((last : List Step) × (others ≡ last ++ End ∷ []) × (first ++ last ≡ steps)) ⊎ ((others ≡ []) × (first ≡ steps ++ End ∷ []))
        → ((last : List Step) × (others ≡ last ++ End ∷ []) × (step ∷ (first ++ last) ≡ one ∷ steps)) ⊎ ((others ≡ []) × (step ∷ first ≡ one ∷ (steps ++ End ∷ [])))
    by (inl (last, ends, whole)) = inl (last, ends, ap (λ (l : List Step). step ∷ l) whole ∙ ap (λ (s : Step). s ∷ steps) same)
    by (inr (none, all)) = inr (none, ap (λ (l : List Step). step ∷ l) all ∙ ap (λ (s : Step). s ∷ (steps ++ End ∷ [])) same)

module _ (settings : Settings) (size : ℕ) (file : Option ℕ) (old : Shown) (now : Option World) (some : 1 ≤ size) where
  abbrev begun : Gathering
  begun = none_gathered size settings

  -- some of the steps of frames, and frames to come
  cut-within : (steps : List Step) (more : List Frame) (part : Cut InRounds begun file old steps now) → All GoesOn steps
      → Divides settings size (came steps ++ more) (part.done.lines ++ part.held.lines) part.done
  cut-within steps more part goes_on =
      let first = part.first in
      let others = part.others in
      let rest = part.within.0 in
      let done = part.done in
      let opens = subst (All GoesOn) (sym part.within.1) goes_on in
      let opened = goes-first (first ++ others) rest opens in
      let frames = came rest ++ more in
      let all : came first ++ (came others ++ frames) ≡ came steps ++ more =
      sym (append_assoc (came first) (came others) frames) ∙ ap (λ (l : List Frame). l ++ frames) (sym (came-append first others))
      ∙ sym (append_assoc (came (first ++ others)) (came rest) more) ∙ ap (λ (l : List Frame). l ++ more) (sym (came-append (first ++ others) rest))
      ∙ ap (λ (l : List Step). came l ++ more) part.within.1 in
      subst (λ (l : List Frame). Divides settings size l (done.lines ++ part.held.lines) done) all
      (divides-more settings size first done (came others ++ frames) part.held.lines some (goes-first first others opened) part.is_done (λ opens_at sized.
      subst (λ (l : List Frame). MaySay done.after.router done.after.previous (cut done.after.size l) part.held.lines) (append_assoc done.after.frames (came others) frames)
      (says-more done.after others part.held frames (rw sized some) (goes-others first others opened) opens_at part.is_held)))

  -- all of them, and the end
  cut-end : (steps : List Step) (part : Cut InRounds begun file old (steps ++ End ∷ []) now) → All GoesOn steps
      → part.first ++ part.others ≡ steps ++ End ∷ [] → Divides settings size (came steps) (part.done.lines ++ part.held.lines) part.done
  cut-end steps part goes_on whole = by (end-of part.first part.others steps whole)
    where
      done : Outcome Gathering
      done = part.done

      by : ((last : List Step) × (part.others ≡ last ++ End ∷ []) × (part.first ++ last ≡ steps)) ⊎ ((part.others ≡ []) × (part.first ≡ steps ++ End ∷ []))
          → Divides settings size (came steps) (part.done.lines ++ part.held.lines) part.done
      by (inl (last, ends, all)) =
          let opens = subst (All GoesOn) (sym all) goes_on in
          let held : Played InRounds done.after (last ++ End ∷ []) part.held = subst (λ (l : List Step). Played InRounds done.after l part.held) ends part.is_held in
          subst (λ (l : List Frame). Divides settings size l (done.lines ++ part.held.lines) done) (sym (came-append part.first last) ∙ ap came all)
          (divides-more settings size part.first done (came last) part.held.lines some (goes-first part.first last opens) part.is_done (λ opens_at sized.
          says-all done.after last part.held (rw sized some) (goes-others part.first last opens) opens_at held))
      by (inr (none, all)) =
          let held : Played InRounds done.after [] part.held = subst (λ (l : List Step). Played InRounds done.after l part.held) none part.is_held in
          subst (λ (l : List ℕ). Divides settings size (came steps) (done.lines ++ l) done) (sym (ap (λ (o : Outcome Gathering). o.lines) held))
          (divides-all settings size steps done some goes_on (subst (λ (l : List Step). Played InRounds begun l done) all part.is_done))

  -- what is left, by the numbers
  part-of : (run : InputRun) (steps : List Step) (part : Cut InRounds begun file old steps now) → Divides settings size run.frames (part.done.lines ++ part.held.lines) part.done
      → HasSharedPart size settings file old run now
  part-of run steps part divides =
      let done = part.done in
      let sends : IsFront (records_of done.packets) (records_of (rounds_from (started settings) None (cut size run.frames) divides.ns).packets) =
      (records_of divides.sent.0, sym (records_of-append done.packets divides.sent.0) ∙ ap records_of divides.sent.1) in
      record {
        ns = divides.ns;
        lawful = divides.lawful;
        lines = part.lines;
        octets = part.octets;
        count = divides.count;
        shown = part.shown;
        said = front-front part.lines (done.lines ++ part.held.lines) _ part.said divides.begins;
        sent = front-front part.octets (records_of done.packets) _ part.written sends;
        reported = subst (λ (l : List ℕ). IsFront l part.lines) (sym divides.first_lines) part.reported;
        written = subst (λ (p : List Packet). IsFront part.octets (records_of p)) (sym divides.first_packets) part.written;
      }

  -- a play that was cut short
  pub cut-shares : (run : InputRun) → CutRun InRounds begun file old run now → HasSharedPart size settings file old run now
  cut-shares run cut_run = by cut_run.cut
    where
      steps : List Step
      steps = cut_run.steps

      goes_on : All GoesOn steps
      goes_on = cut_run.steps_are.goes_on

      all : came steps ≡ cut_run.frames
      all = ap arrivals cut_run.steps_are.events ∙ arrivals-events None cut_run.frames

      by : Cut InRounds begun file old steps now ⊎ ((cut_run.frames ≡ run.frames) × Cut InRounds begun file old (steps ++ End ∷ []) now)
          → HasSharedPart size settings file old run now
      by (inl one) =
          let frames : came steps ++ cut_run.within.0 ≡ run.frames = ap (λ (l : List Frame). l ++ cut_run.within.0) all ∙ cut_run.within.1 in
          part-of run steps one (subst (λ (l : List Frame). Divides settings size l (one.done.lines ++ one.held.lines) one.done) frames (cut-within steps cut_run.within.0 one goes_on))
      by (inr (same, one)) =
          part-of run (steps ++ End ∷ []) one (subst (λ (l : List Frame). Divides settings size l (one.done.lines ++ one.held.lines) one.done) (all ∙ same)
          (last one (before-end (one.first ++ one.others) one.within.0 steps one.within.1)))
        where
          last : (one : Cut InRounds begun file old (steps ++ End ∷ []) now) → IsFront (one.first ++ one.others) steps ⊎ (one.first ++ one.others ≡ steps ++ End ∷ [])
              → Divides settings size (came steps) (one.done.lines ++ one.held.lines) one.done
          last one (inl front) =
              subst (λ (l : List Frame). Divides settings size l (one.done.lines ++ one.held.lines) one.done) (append-nil (came steps)) (cut-within steps [] (record {
                first = one.first;
                others = one.others;
                within = front;
                done = one.done;
                held = one.held;
                is_done = one.is_done;
                is_held = one.is_held;
                lines = one.lines;
                octets = one.octets;
                shown = one.shown;
                said = one.said;
                reported = one.reported;
                written = one.written;
              }) goes_on)
          last one (inr whole) = cut-end steps one goes_on whole

-- a play at its end, of which no more came
pub over-cut : (file : Option ℕ) (start : Gathering) (run : World → InputRun) (told : Option World) (count : ℕ) (fault : Option InputFault) (state : Gathering) (output : Output) (now : Option World)
    → IfSome told (λ w. IsOver InRounds file start (run w) (shown_of w) count fault state output now) → IfSome told (λ w. CutRun InRounds start file (shown_of w) (run w) now)
over-cut file start run None count fault state output now over = tt
over-cut file start run (Some w) count fault state output now over = record {
  frames = (run w).frames;
  within = ([], append-nil (run w).frames);
  came = over.came;
  steps = over.steps;
  steps_are = over.steps_are;
  cut = inl (cut_here InRounds start file (shown_of w) over.steps state output now over.stands);
}

-- nothing was done yet
pub none-shared : (settings : Settings) (size : ℕ) (file : Option ℕ) (old : Shown) (run : InputRun) (now : Option World) → shown now ≡ Some old
    → HasSharedPart size settings file old run now
none-shared settings size file old run now is =
    let numbers = numbers-exist (started settings) None (cut size run.frames) in
    record {
      ns = numbers.0;
      lawful = numbers.1;
      lines = [];
      octets = [];
      count = 0;
      shown = is ∙ ap Some (sym (with_output-none file old));
      said = (_, refl);
      sent = (_, refl);
      reported = front-all [];
      written = front-all [];
    }

-- over what the desk tells
pub parts-shared : (settings : Settings) (size : ℕ) (file : Option ℕ) (run : World → InputRun) (start : Gathering) (told now : Option World)
    → 1 ≤ size → start ≡ none_gathered size settings → IfSome told (λ w. CutRun InRounds start file (shown_of w) (run w) now)
    → IfSome told (λ w. HasSharedPart size settings file (shown_of w) (run w) now)
parts-shared settings size file run start None now some begins stops = tt
parts-shared settings size file run start (Some w) now some begins stops =
    cut-shares settings size file (shown_of w) now some (run w) (subst (λ (g : Gathering). CutRun InRounds g file (shown_of w) (run w) now) begins stops)

-- where the desk tells the same as before
pub still-shared : (settings : Settings) (size : ℕ) (file : Option ℕ) (run : World → InputRun) (told : Option World)
    → IfSome told (λ w. HasSharedPart size settings file (shown_of w) (run w) told)
still-shared settings size file run None = tt
still-shared settings size file run (Some w) = none-shared settings size file (shown_of w) (run w) (Some w) refl
