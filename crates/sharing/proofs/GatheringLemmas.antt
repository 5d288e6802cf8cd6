-- Frames that are gathered, and the rounds into which they are cut.
use Rattle.std.proofs.Common.{◌≡◌, ◌∙◌, ◌≤◌, ◌⊎◌, inl, inr, ℕ, Bool, true, false, List, [], ◌∷◌, ◌++◌, None, append_assoc, arith, refl, sym, ap, ap₂, subst}
use Rattle.std.specs.List.{All}
use Rattle.std.proofs.lemmas.Bool.Decides.{nat_tests}
use Rattle.std.proofs.lemmas.List.{append-nil}
use Rattle.std.proofs.lemmas.List.Elements.{All-head, All-tail}
use Rattle.std.proofs.lemmas.List.Sums.{fold-append}
use Rattle.capture_io.specs.Frame.{Frame}
use Rattle.capture_events.specs.Events.{Arrival, End, GoesOn, Happens, Outcome, Packet, Pause, Played, Step, Tick, arrivals, followed, happened}
use Rattle.capture_events.proofs.EventLemmas.{arrivals-events}
use Rattle.router_model.specs.Cut.{StaysOpen, cut, empty, is_full, with_frame, with_frames}
use Rattle.router_model.specs.Rounds.{AllLawful, after_round, round, rounds_from}
use Rattle.router_model.proofs.CutLemmas.{last-round-closes, round-closes, round-stays-open}
use Rattle.sharing.specs.Gathering.{ClosesRound, Gathering, InRounds, RoundsAreGathered, WorksRound, is_due, none_gathered, round_worked}

-- an outcome is that of these rounds from here on, by numbers that they may have
pub record AreWorkedIn (g : Gathering) (cuts : List (List Frame)) (outcome : Outcome Gathering) : Type 0 where
  pub ns : List (List ℕ)
  pub lawful : AllLawful g.router g.previous cuts ns
  pub lines : outcome.lines ≡ (rounds_from g.router g.previous cuts ns).lines
  pub packets : outcome.packets ≡ (rounds_from g.router g.previous cuts ns).packets
  pub router : outcome.after.router ≡ (rounds_from g.router g.previous cuts ns).after

-- of the rounds into which frames are cut
abbrev pub AreWorked : Gathering → List Frame → Outcome Gathering → Type 0
AreWorked g frames outcome = AreWorkedIn g (cut g.size frames) outcome

-- none are gathered, or the last of them came to a round that was open
abbrev pub Opened : Gathering → Type 0
Opened g = (g.frames ≡ []) ⊎ ((before : List Frame) × (last : Frame) × (g.frames ≡ before ++ last ∷ []) × StaysOpen g.size empty before)

-- then they are a round, if no frame is left
cut-one : (size : ℕ) (before : List Frame) (last : Frame) → StaysOpen size empty before → cut size (before ++ last ∷ []) ≡ (before ++ last ∷ []) ∷ []
cut-one size before last stays = by (is_full size (with_frame (with_frames empty before) last)) refl
  where
    whole : (before : List Frame) → StaysOpen size empty (before ++ last ∷ []) → cut size (before ++ last ∷ []) ≡ (before ++ last ∷ []) ∷ []
    whole [] stays = last-round-closes size empty last [] stays
    whole (frame ∷ frames) stays = last-round-closes size empty frame (frames ++ last ∷ []) stays

    by : (full : Bool) → is_full size (with_frame (with_frames empty before) last) ≡ full → cut size (before ++ last ∷ []) ≡ (before ++ last ∷ []) ∷ []
    by true full = round-closes size empty before last [] stays full
    by false not_full = whole before (round-stays-open size empty before last stays not_full)

-- the last round
closes-last : (g : Gathering) (frames : List Frame) (outcome : Outcome Gathering) → (frames ≡ []) ⊎ (cut g.size frames ≡ frames ∷ []) → ClosesRound frames g outcome → AreWorked g frames outcome
closes-last g [] outcome one closes = record { ns = []; lawful = refl; lines = ap (λ (o : Outcome Gathering). o.lines) closes; packets = ap (λ (o : Outcome Gathering). o.packets) closes; router = ap (λ (o : Outcome Gathering). o.after.router) closes }
closes-last g (frame ∷ frames) outcome (inl none) closes = cc
closes-last g (frame ∷ frames) outcome (inr one) closes =
    let done = after_round g.router (round g.router.settings g.previous (frame ∷ frames) g.router.memory closes.ns) in
    subst (λ (cuts : List (List Frame)). AreWorkedIn g cuts outcome) (sym one) (record {
      ns = closes.ns ∷ [];
      lawful = (omega arith, (closes.lawful, refl));
      lines = ap (λ (o : Outcome Gathering). o.lines) closes.is ∙ sym (append-nil done.lines);
      packets = ap (λ (o : Outcome Gathering). o.packets) closes.is ∙ sym (append-nil done.packets);
      router = ap (λ (o : Outcome Gathering). o.after.router) closes.is;
    })

-- a round, and those behind it
worked-round : (g : Gathering) (round_frames others : List Frame) (ns : List ℕ) (rest : Outcome Gathering) (works : WorksRound g round_frames (round_worked g round_frames ns))
    → works.ns ≡ ns → AreWorked (round_worked g round_frames ns).after others rest → (whole : List Frame) → cut g.size whole ≡ round_frames ∷ cut g.size others
    → AreWorked g whole (followed (round_worked g round_frames ns) rest)
worked-round g round_frames others ns rest works same is whole cuts =
    let first = round_worked g round_frames ns in
    subst (λ (l : List (List Frame)). AreWorkedIn g l (followed first rest)) (sym cuts) (record {
      ns = ns ∷ is.ns;
      lawful = (omega arith, (rw (sym same) works.lawful, is.lawful));
      lines = ap (λ (l : List ℕ). first.lines ++ l) is.lines;
      packets = ap (λ (l : List Packet). first.packets ++ l) is.packets;
      router = is.router;
    })

-- no round without frames is due
none-due : (size : ℕ) → 1 ≤ size → is_full size (with_frames empty []) ≡ true → ⊥
none-due size some due = grind (arith, nat_tests, some, due)

-- frames that are due are a round, whatever comes behind them
pub due-cuts : (g : Gathering) (others : List Frame) → 1 ≤ g.size → Opened g → is_due g ≡ true → cut g.size (g.frames ++ others) ≡ g.frames ∷ cut g.size others
due-cuts g others some (inl none) due = absurd (none-due g.size some (ap (λ (l : List Frame). is_full g.size (with_frames empty l)) (sym none) ∙ due))
due-cuts g others some (inr (before, last, is, stays)) due =
    let full : is_full g.size (with_frame (with_frames empty before) last) ≡ true =
    ap (is_full g.size) (sym (fold-append with_frame empty before (last ∷ []))) ∙ ap (λ (l : List Frame). is_full g.size (with_frames empty l)) (sym is) ∙ due in
    let whole : before ++ last ∷ others ≡ g.frames ++ others = sym (append_assoc before (last ∷ []) others) ∙ ap (λ (l : List Frame). l ++ others) (sym is) in
    subst (λ (l : List Frame). cut g.size l ≡ g.frames ∷ cut g.size others) whole
    (subst (λ (l : List Frame). cut g.size (before ++ last ∷ others) ≡ l ∷ cut g.size others) (sym is) (round-closes g.size empty before last others stays full))

-- a frame more leaves what was known, where no round is due
pub opened-more : (g : Gathering) (frame : Frame) → Opened g → is_due g ≡ false → Opened (record g { frames = g.frames ++ frame ∷ [] })
opened-more g frame (inl none) due = inr (g.frames, frame, refl, subst (λ (l : List Frame). StaysOpen g.size empty l) (sym none) tt)
opened-more g frame (inr (before, last, is, stays)) due =
    let still : is_full g.size (with_frame (with_frames empty before) last) ≡ false =
    ap (is_full g.size) (sym (fold-append with_frame empty before (last ∷ []))) ∙ ap (λ (l : List Frame). is_full g.size (with_frames empty l)) (sym is) ∙ due in
    inr (g.frames, frame, refl, subst (λ (l : List Frame). StaysOpen g.size empty l) (sym is) (round-stays-open g.size empty before last stays still))

-- steps from here on, to the end
pub gathered : (g : Gathering) (steps : List Step) (outcome : Outcome Gathering) → 1 ≤ g.size → All GoesOn steps → Opened g
    → Played InRounds g (steps ++ End ∷ []) outcome → AreWorked g (g.frames ++ arrivals (happened steps)) outcome
gathered g [] outcome some goes_on opened played =
    let same : outcome ≡ played.0 = played.4 ∙ ap (followed played.0) played.3 ∙ ap₂ (λ (l : List ℕ) (p : List Packet). record { lines = l; packets = p; after = played.0.after }) (append-nil played.0.lines) (append-nil played.0.packets) in
    let closes : ClosesRound g.frames g outcome = subst (λ (o : Outcome Gathering). ClosesRound g.frames g o) (sym same) played.2 in
    subst (λ (l : List Frame). AreWorked g l outcome) (sym (append-nil g.frames)) (closes-last g g.frames outcome (by opened) closes)
  where
    by : Opened g → (g.frames ≡ []) ⊎ (cut g.size g.frames ≡ g.frames ∷ [])
    by (inl none) = inl none
    by (inr (before, last, is, stays)) = inr (subst (λ (l : List Frame). cut g.size l ≡ l ∷ []) (sym is) (cut-one g.size before last stays))
gathered g (Happens (Tick second) ∷ steps) outcome some goes_on opened played =
    let more = All-tail GoesOn (Happens (Tick second)) steps goes_on in
    let goes : Played InRounds g (steps ++ End ∷ []) played.1 =
    subst (λ (o : Outcome Gathering). Played InRounds o.after (steps ++ End ∷ []) played.1) played.2 played.3 in
    let same : outcome ≡ played.1 = played.4 ∙ ap (λ (o : Outcome Gathering). followed o played.1) played.2 in
    subst (λ (o : Outcome Gathering). AreWorked g (g.frames ++ arrivals (happened steps)) o) (sym same) (gathered g steps played.1 some more opened goes)
gathered g (Happens (Arrival frame) ∷ steps) outcome some goes_on opened played =
    let more = All-tail GoesOn (Happens (Arrival frame)) steps goes_on in
    let due = played.2.0 in
    let kept = played.2.1 in
    let next : Gathering = record g { frames = g.frames ++ frame ∷ [] } in
    let goes : Played InRounds next (steps ++ End ∷ []) played.1 =
    subst (λ (o : Outcome Gathering). Played InRounds o.after (steps ++ End ∷ []) played.1) kept played.3 in
    let same : outcome ≡ played.1 = played.4 ∙ ap (λ (o : Outcome Gathering). followed o played.1) kept in
    let one = gathered next steps played.1 some more (opened-more g frame opened due) goes in
    subst (λ (o : Outcome Gathering). AreWorked g (g.frames ++ frame ∷ arrivals (happened steps)) o) (sym same)
    (subst (λ (l : List Frame). AreWorked g l played.1) (append_assoc g.frames (frame ∷ []) (arrivals (happened steps)))
    (record { ns = one.ns; lawful = one.lawful; lines = one.lines; packets = one.packets; router = one.router }))
gathered g (Pause ∷ steps) outcome some goes_on opened played =
    let more = All-tail GoesOn Pause steps goes_on in
    let due = played.2.0 in
    let works = played.2.1 in
    let others = arrivals (happened steps) in
    let done = round_worked g g.frames works.ns in
    let goes : Played InRounds done.after (steps ++ End ∷ []) played.1 =
    subst (λ (o : Outcome Gathering). Played InRounds o.after (steps ++ End ∷ []) played.1) works.is played.3 in
    let same : outcome ≡ followed done played.1 = played.4 ∙ ap (λ (o : Outcome Gathering). followed o played.1) works.is in
    subst (λ (o : Outcome Gathering). AreWorked g (g.frames ++ others) o) (sym same)
    (worked-round g g.frames others works.ns played.1 (record { ns = works.ns; lawful = works.lawful; is = refl }) refl
    (gathered done.after steps played.1 some more (inl refl) goes) (g.frames ++ others) (due-cuts g others some opened due))
gathered g (End ∷ steps) outcome some goes_on opened played = absurd (All-head GoesOn End steps goes_on)

pub rounds-are-gathered : RoundsAreGathered
rounds-are-gathered settings frames size steps outcome some are_steps played =
    let are = gathered (none_gathered size settings) steps outcome some are_steps.goes_on (inl refl) played in
    let all : arrivals (happened steps) ≡ frames = ap arrivals are_steps.events ∙ arrivals-events None frames in
    let worked = subst (λ (l : List Frame). AreWorked (none_gathered size settings) l outcome) all are in
    record { ns = worked.ns; lawful = worked.lawful; lines = worked.lines; packets = worked.packets; router = worked.router }
