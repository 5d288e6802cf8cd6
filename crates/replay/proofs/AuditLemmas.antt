-- What an audit reads of its two captures, and what it finds.
use Rattle.std.proofs.Common.{◌≡◌, ◌≢◌, ℕ, true, false, eqb, List, [], ◌∷◌, ◌++◌, drop, Option, Some, None, Result, Ok, Err, refl, sym, ap, ap₂, subst, ◌∙◌, inl, inr, arith, if◌then◌else◌}
use Rattle.std.specs.Option.{option_map, unwrap_or, IfSome, IsSomeAnd}
use Rattle.std.specs.Result.{IfOk}
use Rattle.std.proofs.lemmas.Bool.{cases_Bool}
use Rattle.std.proofs.lemmas.Grind.{common_steps}
use Rattle.audit.specs.Compared.{compared}
use Rattle.auditing.specs.Auditing.{octets_of, run_in, IsAudited, IsLifted}
use Rattle.auditing.specs.declared.audited.Audited.{Audited}
use Rattle.auditing.specs.declared.audited.Audited.TheVariants.{Compared, Played as BadPlayed, Sent as BadSent}
use Rattle.capture_events.specs.Events.{Determined, Outcome, events, played}
use Rattle.capture_io.specs.Frame.{Frame}
use Rattle.capture_io.specs.Frames.{read_on}
use Rattle.capture_io.specs.Reading.{Reading, beginning}
use Rattle.capture_io.specs.Run.{Run}
use Rattle.capture_io.specs.declared.fault.CaptureFault.{CaptureFault}
use Rattle.command_words.specs.declared.nonce_source.NonceSource.TheVariants.{Settings as FromSettings, Sent as FromSent}
use Rattle.command_words.specs.declared.intake.InputFormat.TheVariants.{Classic}
use Rattle.desk.specs.World.{World, Direction, after_open, after_read, changed_at, content, found_at, left_of, to_read, IsGiven}
use Rattle.lisp_settings.specs.Lawful.{IsLawful}
use Rattle.lisp_settings.specs.declared.settings.Settings.{Settings}
use Rattle.playback.proofs.DeterminedLemmas.{determined-played}
use Rattle.router_model.specs.Journal.{statics}
use Rattle.router_model.specs.Lifting.{outcome_tabled}
use Rattle.router_model.specs.Parts.{Parts, parts_in, table}
use Rattle.router_model.specs.Plain.{Router, after_event, plain, started}
use Rattle.playback.specs.Input.{input_run}
use Rattle.playback.specs.declared.fault.InputFault.{InputFault}
use Rattle.playback.specs.declared.fault.InputFault.TheVariants as of
use Rattle.replay.proofs.ArrivalLemmas.{arrived-replays}
use Rattle.replay.specs.Audit.{AuditsAs, LiftsFrom, comparison, fault_in, found, found_in, refused, whole}
use Rattle.replay.specs.Opening.{IsUnread, KeepsGiven, Opened, OpensClassic, opened}
use Rattle.replay.specs.Taking.{router_of}
use Rattle.replay.specs.declared.finding.Finding.TheVariants as finding
use Rattle.replay.proofs.OpeningLemmas.{left-opened}
use Rattle.replay.proofs.SteadyLemmas.{given-kept}

-- numbers that compare as one are one, and those that differ don't
same : (a b : ℕ) → eqb a b ≡ true → a ≡ b
same a b is = grind (arith, common_steps, is)

differ : (a b : ℕ) → a ≢ b → eqb a b ≡ false
differ a b apart = elim (cases_Bool (eqb a b)) [ inl e ↦ absurd (apart (same a b e)) | inr e ↦ e ]

-- a change at one id leaves what stands at another
found-other : {X : Type 0} (id other : ℕ) (change : X → X) (entries : List (ℕ × X)) → other ≢ id → found_at other (changed_at id change entries) ≡ found_at other entries
found-other id other change [] apart = refl
found-other id other change (entry ∷ entries) apart =
    elim (cases_Bool (eqb entry.0 id)) [
      | inl e ↦ (let apart-too : eqb entry.0 other ≡ false = differ entry.0 other (λ is. apart (sym is ∙ same entry.0 id e)) in rw e (rw apart-too refl))
      | inr e ↦ rw e (ap (λ rest. if eqb entry.0 other then Some entry.1 else rest) (found-other id other change entries apart))
    ]

-- an entry more under one id, too
found-more : {X : Type 0} (id other : ℕ) (x : X) (entries : List (ℕ × X)) → other ≢ id → found_at other (entries ++ (id, x) ∷ []) ≡ found_at other entries
found-more id other x [] apart = rw (differ id other (λ is. apart (sym is))) refl
found-more id other x (entry ∷ entries) apart = ap (λ rest. if eqb entry.0 other then Some entry.1 else rest) (found-more id other x entries apart)

-- what was given isn't what was fresh
pub given-apart : (id fresh : ℕ) (given : List (ℕ × Direction)) → IsGiven id to_read given → found_at fresh given ≡ None → id ≢ fresh
given-apart id fresh given is none = λ e. let some : found_at fresh given ≡ Some to_read = subst (λ (i : ℕ). found_at i given ≡ Some to_read) e is in cc

left-other : (id other n : ℕ) (w : World) → other ≢ id → left_of other (after_read id n w) ≡ left_of other w
left-other id other n w apart = ap (λ (o : Option (List ℕ)). unwrap_or o []) (found-other id other (drop n) w.readers apart)

left-more : (id other : ℕ) (name : List ℕ) (w : World) → other ≢ id → left_of other (after_open id name w) ≡ left_of other w
left-more id other name w apart = ap (λ (o : Option (List ℕ)). unwrap_or o []) (found-more id other (content name w.files) w.readers apart)

-- a capture was opened, and its header was read
pub opened-keeps : (id n : ℕ) (name : List ℕ) (given now : List (ℕ × Direction)) (old mid new : Option World) → found_at id given ≡ None
    → mid ≡ option_map (after_open id name) old → new ≡ option_map (after_read id n) mid → now ≡ given ++ (id, to_read) ∷ []
    → KeepsGiven given old now new
opened-keeps id n name given now None mid new fresh opens reads more =
    record { given_still = λ other is. rw more (given-kept other to_read given ((id, to_read) ∷ []) is); left = tt }
opened-keeps id n name given now (Some w) mid new fresh opens reads more = record {
  given_still = λ other is. rw more (given-kept other to_read given ((id, to_read) ∷ []) is);
  left =
      let both : new ≡ Some (after_read id n (after_open id name w)) = reads ∙ ap (option_map (after_read id n)) opens in
      subst (λ (o : Option World). IsSomeAnd o (λ v. (other : ℕ) → IsGiven other to_read given → left_of other v ≡ left_of other w)) (sym both)
      (λ other is. let apart = given-apart other id given is fresh in left-other id other n (after_open id name w) apart ∙ left-more id other name w apart);
}

-- the id of a reader that has begun is the one that was given
pub started-given : (id : ℕ) (reader : Result Reading InputFault) (given : List (ℕ × Direction)) → IfOk reader (λ r. r ≡ beginning id r.format) → IsGiven id to_read given
    → IfOk reader (λ r. IsGiven r.id to_read given)
started-given id (Err fault) given begins is = tt
started-given id (Ok r) given begins is = rw (ap (λ (x : Reading). x.id) begins) is

-- what was opened is the file of that name
pub named-classic : (id : ℕ) (name : List ℕ) (old mid now : Option World) (reader : Result Reading InputFault)
    → IfSome old (λ w. found_at id w.readers ≡ None) → mid ≡ option_map (after_open id name) old
    → IfSome mid (λ w. OpensClassic (opened Classic (left_of id w)) reader now)
    → IfSome old (λ w. OpensClassic (opened Classic (content name w.files)) reader now)
named-classic id name None mid now reader fresh opens is = tt
named-classic id name (Some w) mid now reader fresh opens is =
    subst (λ (file : List ℕ). OpensClassic (opened Classic file) reader now) (left-opened id name w fresh) (rw opens at is)

-- ### what is found

-- two captures, audited by the table of the static mappings: as the plain router
pub audits-as : (settings : Settings) (parts : Parts) (input sent : Run CaptureFault) (audited : Audited) → IsLawful settings → parts ≡ parts_in settings (statics settings)
    → IsAudited (Determined (after_event table)) (router_of settings parts) input sent audited → AuditsAs settings input sent audited
unfolding comparison
audits-as settings parts input sent (Compared outcome) lawful begins (ended, (ended-too, compares)) =
    let state = router_of settings parts in
    let played-out : compares.outcome ≡ played (after_event table) state (events input.frames) =
    determined-played (after_event table) state compares.steps compares.outcome compares.played ∙ ap (played (after_event table) state) compares.steps_are.events in
    let tabled : played (after_event table) state (events input.frames) ≡ outcome_tabled (played plain (started settings) (events input.frames)) =
    rw begins (arrived-replays settings input.frames lawful compares.came) in
    (ended, (ended-too, compares.compares ∙ ap (λ (o : Outcome (Router Parts)). compared (octets_of o.packets) sent.frames) (played-out ∙ tabled)))
audits-as settings parts input sent (BadPlayed fault) lawful begins is = is
audits-as settings parts input sent (BadSent fault) lawful begins is = is

-- a classic capture's frames, where it has no fault
pub whole-run : (run : Run CaptureFault) → run.fault ≡ None → whole (Ok (input_run of.Classic run)) ≡ Ok run.frames
whole-run run none = rw none refl

-- the fault of what was sent counts behind that of the other
pub found-refused : (settings : Settings) (input : Result (List Frame) InputFault) (fault : InputFault) → found FromSettings settings input (Err fault) ≡ refused input fault
found-refused settings (Ok frames) fault = refl
found-refused settings (Err own) fault = refl

pub found-lifted-refused : (settings : Settings) (input : Result (List Frame) InputFault) (fault : InputFault) → found FromSent settings input (Err fault) ≡ refused input fault
found-lifted-refused settings (Ok frames) fault = refl
found-lifted-refused settings (Err own) fault = refl

-- a capture that stops at a fault has that fault
whole-stops : (run : Run CaptureFault) (fault : CaptureFault) → run.fault ≡ Some fault → whole (Ok (input_run of.Classic run)) ≡ Err (of.Classic fault)
whole-stops run fault stops = rw stops refl

-- what came of two captures is found
found-audited : (settings : Settings) (input sent : Run CaptureFault) (audited : Audited) → AuditsAs settings input sent audited
    → found_in (whole (Ok (input_run of.Classic input))) audited ≡ found FromSettings settings (whole (Ok (input_run of.Classic input))) (whole (Ok (input_run of.Classic sent)))
found-audited settings input sent (Compared outcome) (ended, (ended-too, compares)) =
    ap finding.Compared compares ∙ ap₂ (λ (a : Result (List Frame) InputFault) (b : Result (List Frame) InputFault). found FromSettings settings a b) (sym (whole-run input ended)) (sym (whole-run sent ended-too))
found-audited settings input sent (BadPlayed fault) is =
    ap (λ (a : Result (List Frame) InputFault). found FromSettings settings a (whole (Ok (input_run of.Classic sent)))) (sym (whole-stops input fault is))
found-audited settings input sent (BadSent fault) is =
    sym (found-refused settings (whole (Ok (input_run of.Classic input))) (of.Classic fault))
    ∙ ap (λ (b : Result (List Frame) InputFault). found FromSettings settings (whole (Ok (input_run of.Classic input))) b) (sym (whole-stops sent fault is))

-- what is left of a capture stays, as long as another one is opened
still-opens : (name : List ℕ) (reader : Reading) (given now : List (ℕ × Direction)) (w v : World) → IsUnread name reader given (Some w) → KeepsGiven given (Some w) now (Some v)
    → opened Classic (content name w.files) ≡ Ok (input_run of.Classic (run_in reader v))
still-opens name reader given now w v unread keeps =
    unread.opens ∙ ap (λ (left : List ℕ). Ok (input_run of.Classic (read_on reader.format reader.position left))) (sym (keeps.left reader.id unread.given))

-- and what came of both is found
pub found-opened : (settings : Settings) (input sent : List ℕ) (reader records : Reading) (audited : Audited) (given now : List (ℕ × Direction)) (old mid : Option World)
    → IsUnread input reader given old → IfSome old (λ w. OpensClassic (opened Classic (content sent w.files)) (Ok records) mid) → KeepsGiven given old now mid
    → IfSome mid (λ v. AuditsAs settings (run_in reader v) (run_in records v) audited)
    → IfSome old (λ w. found_in (whole (opened Classic (content input w.files))) audited ≡ found FromSettings settings (whole (opened Classic (content input w.files))) (whole (opened Classic (content sent w.files))))
found-opened settings input sent reader records audited given now None mid unread opens keeps audits = tt
found-opened settings input sent reader records audited given now (Some w) None unread opens keeps audits = absurd opens
found-opened settings input sent reader records audited given now (Some w) (Some v) unread opens keeps audits =
    let whole_input = ap whole (still-opens input reader given now w v unread keeps) in
    ap (λ (a : Result (List Frame) InputFault). found_in a audited) whole_input
    ∙ found-audited settings (run_in reader v) (run_in records v) audited audits
    ∙ ap₂ (λ (a : Result (List Frame) InputFault) (b : Result (List Frame) InputFault). found FromSettings settings a b) (sym whole_input) (sym (ap whole opens))

-- nonces were lifted out of a capture that was opened
pub lifts-from : (settings : Settings) (what : World → Opened) (r : Reading) (nonces : List ℕ) (old mid : Option World)
    → IfSome old (λ w. OpensClassic (what w) (Ok r) mid) → IfSome mid (λ v. IsLifted settings (run_in r v) (Ok nonces))
    → IfSome old (λ w. LiftsFrom settings (whole (what w)) (Ok nonces))
lifts-from settings what r nonces None mid opens lifts = tt
lifts-from settings what r nonces (Some w) None opens lifts = absurd opens
lifts-from settings what r nonces (Some w) (Some v) opens lifts =
    ((run_in r v).frames, ap whole opens ∙ whole-run (run_in r v) lifts.0, lifts.1)

-- the fault of the capture that the router was given
pub refused-own : (input : Result (List Frame) InputFault) (own fault : InputFault) → Some own ≡ fault_in input → finding.Input own ≡ refused input fault
refused-own (Ok frames) own fault is = cc
refused-own (Err other) own fault is = cc
