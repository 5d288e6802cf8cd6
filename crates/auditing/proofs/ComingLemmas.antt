-- What comes next in a capture, and what is left behind it.
use Rattle.std.proofs.Common.{◌≡◌, ◌≢◌, ◌+◌, ℕ, List, [], ◌∷◌, length, eqb, Option, Some, None, Result, Ok, Err, false, refl, ap, sym, subst, inl, inr, arith, unwrap_or, ◌∙◌}
use Rattle.std.specs.Option.{option_map, IfNone, IfSome, IsSomeAnd}
use Rattle.std.specs.Result.{IfOk}
use Rattle.std.proofs.lemmas.Bool.{cases_Bool}
use Rattle.std.proofs.lemmas.Bool.Decides.{nat_tests}
use Rattle.desk.specs.World.{World, after_read, changed_at, found_at, left_of}
use Rattle.desk.proofs.Reading.{left-after_read}
use Rattle.capture_io.specs.Answers.{IsAnswer}
use Rattle.capture_io.specs.Calls.{after_answer}
use Rattle.capture_io.specs.Capture.{outcome, taken}
use Rattle.capture_io.specs.Frame.{Frame}
use Rattle.capture_io.specs.Frames.{read_on}
use Rattle.capture_io.specs.Reading.{Reading, after_frame, passed}
use Rattle.capture_io.specs.Run.{Run, before, ended}
use Rattle.capture_io.specs.declared.fault.CaptureFault.{CaptureFault}
use Rattle.capture_io.proofs.Runs.{read_on-end, read_on-fault, read_on-frame}
use Rattle.auditing.specs.Auditing.{run_in}
use Rattle.auditing.specs.Coming.{Comes, StaysBut}

-- what stands beside another id after a change
found_at-other : {X : Type 0} (id other : ℕ) (f : X → X) (entries : List (ℕ × X)) → other ≢ id → found_at other (changed_at id f entries) ≡ found_at other entries
found_at-other id other f [] apart = refl
found_at-other id other f (entry ∷ entries) apart =
    elim (cases_Bool (eqb entry.0 id)) [
      | inl e ↦ (let not_it : eqb entry.0 other ≡ false = grind (arith, nat_tests, e, apart) in rw (e, not_it) refl)
      | inr e ↦ elim (cases_Bool (eqb entry.0 other)) [ inl o ↦ rw (e, o) refl | inr o ↦ rw (e, o) (found_at-other id other f entries apart) ]
    ]

-- reading one id leaves the others
stays-read : (id n : ℕ) (w : World) → StaysBut id w (after_read id n w)
stays-read id n w other apart = ap (λ (o : Option (List ℕ)). unwrap_or o []) (found_at-other id other _ w.readers apart)

-- what is next in a world, of a reader that kept no fault
abbrev Answers : Reading → Result (Option Frame) CaptureFault → Option World → Type 0
Answers r result told = IfNone r.fault (IfSome told (λ w. IsAnswer result (outcome r.format r.position (left_of r.id w))))

opened : {P : Type 0} (fault : Option CaptureFault) → fault ≡ None → IfNone fault P → P
opened None none p = p
opened (Some fault) none p = cc

frame-in : (r : Reading) (f : Frame) (w : World) → Ok (Some f) ≡ outcome r.format r.position (left_of r.id w)
    → run_in r w ≡ before f (run_in (after_frame r f) (after_read r.id (16 + length f.octets) w))
frame-in r f w is =
    read_on-frame r.format r.position (left_of r.id w) f is
    ∙ ap (λ (l : List ℕ). before f (read_on r.format (passed r.position f) l)) (sym (left-after_read r.id (16 + length f.octets) w))

comes-in : (r : Reading) (result : Result (Option Frame) CaptureFault) (told now : Option World) → r.fault ≡ None → Answers r result told
    → IfOk result (λ o. now ≡ option_map (after_read r.id (taken o)) told)
    → IfSome told (λ w. Comes result r (after_answer result r) w now)
comes-in r result None now none answers reads = tt
comes-in r (Ok None) (Some w) now none answers reads =
    let over = read_on-end r.format r.position (left_of r.id w) (opened r.fault none answers refl) in
    let left : run_in r (after_read r.id 0 w) ≡ ended None = ap (read_on r.format r.position) (left-after_read r.id 0 w) ∙ over in
    (over, subst (λ (o : Option World). IsSomeAnd o (λ v. (run_in r v ≡ ended None) × StaysBut r.id w v)) (sym reads) (left, stays-read r.id 0 w))
comes-in r (Ok (Some f)) (Some w) now none answers reads =
    subst (λ (o : Option World). IsSomeAnd o (λ v. (run_in r w ≡ before f (run_in (after_frame r f) v)) × StaysBut r.id w v)) (sym reads)
    (frame-in r f w (opened r.fault none answers refl), stays-read r.id (16 + length f.octets) w)
comes-in r (Err fault) (Some w) now none answers reads = λ own. read_on-fault r.format r.position (left_of r.id w) fault (opened r.fault none answers own)

-- of what a reader answers, and what it is then
pub comes : (r next : Reading) (result : Result (Option Frame) CaptureFault) (told now : Option World) → r.fault ≡ None → Answers r result told
    → next ≡ after_answer result r → IfOk result (λ o. now ≡ option_map (after_read r.id (taken o)) told)
    → IfSome told (λ w. Comes result r next w now)
comes r next result told now none answers is reads =
    subst (λ (n : Reading). IfSome told (λ w. Comes result r n w now)) (sym is) (comes-in r result told now none answers reads)

-- ### to the end

-- what is left has the same fault
abbrev pub KeepsFault : Reading → Option World → Reading → Option World → Type 0
KeepsFault first told r now = IfSome told (λ w. IsSomeAnd now (λ v. (run_in r v).fault ≡ (run_in first w).fault))

pub keeps-on : (first r next : Reading) (told mid now : Option World) (f : Frame) → KeepsFault first told r mid → IfSome mid (λ v. Comes (Ok (Some f)) r next v now)
    → KeepsFault first told next now
keeps-on first r next None mid now f keeps comes = tt
keeps-on first r next (Some w) None now f keeps comes = absurd keeps
keeps-on first r next (Some w) (Some v) None f keeps comes = absurd comes
keeps-on first r next (Some w) (Some v) (Some u) f keeps comes = ap (λ (run : Run CaptureFault). run.fault) (sym comes.0) ∙ keeps
