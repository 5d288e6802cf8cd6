-- A capture that was opened, and what follows from what is read of it.
use Rattle.std.proofs.Common.{◌≡◌, ℕ, Bool, List, [], drop, false, Option, Some, None, Result, Ok, Err, refl, sym, ap, subst, ◌∙◌}
use Rattle.std.specs.Option.{option_map, IfSome, IsSomeAnd, unwrap_or}
use Rattle.octets.specs.Rules.{first_failing}
use Rattle.command_words.specs.declared.intake.InputFormat.{InputFormat}
use Rattle.command_words.specs.declared.intake.InputFormat.TheVariants as format
use Rattle.desk.specs.World.{World, Shown, content, left_of, found_at, after_open, after_read, shown, shown_of}
use Rattle.desk.proofs.Entries.{found_at-more}
use Rattle.desk.proofs.Reading.{left-after_read}
use Rattle.capture_io.specs.Answers.{is_outside, unless}
use Rattle.capture_io.specs.Capture.{header_rules, format_of, begin}
use Rattle.capture_io.specs.Frames.{capture, read_on}
use Rattle.capture_io.specs.Reading.{Reading, started, beginning}
use Rattle.capture_io.specs.Run.{Run}
use Rattle.capture_io.specs.declared.position.Position.{Position}
use Rattle.capture_io.specs.declared.fault.CaptureFault.{CaptureFault}
use Rattle.capture_io.specs.declared.fault.CaptureFault.TheVariants as fault
use Rattle.capture_io.proofs.Runs.{capture-started}
use Rattle.capture_ng.specs.Reading.{NgReading, beginning as ng_beginning}
use Rattle.playback.specs.Input.{InputRun, input_run}
use Rattle.playback.specs.declared.fault.InputFault.{InputFault}
use Rattle.playback.specs.declared.fault.InputFault.TheVariants as of
use Rattle.lisp_settings.specs.declared.settings.Settings.{Settings}
use Rattle.replay.specs.Opening.{Opened, Opens, behind_header, opened, run_in, taken}
use Rattle.replay.specs.Splitting.{taken_run}
use Rattle.replay.specs.declared.input.Input.{Input}
use Rattle.replay.specs.declared.input.Input.TheVariants as input

unless_none : {T : Type 0} (o : Option CaptureFault) (x y : T) → Ok x ≡ unless o y → None ≡ o
unless_none None x y is = refl
unless_none (Some f) x y is = cc

unless_some : {T : Type 0} (o : Option CaptureFault) (f : CaptureFault) (y : T) → Err f ≡ unless o y → Some f ≡ o
unless_some None f y is = cc
unless_some (Some g) f y is = cc

-- a fault that tells neither of the desk nor of memory
pub own_fault : (f : CaptureFault) → (f ≡ fault.Host → ⊥) → (f ≡ fault.Memory → ⊥) → is_outside {T = Reading} (Err f) ≡ false
own_fault fault.Host not_host not_memory = absurd (not_host refl)
own_fault fault.Memory not_host not_memory = absurd (not_memory refl)
own_fault fault.BadMagic not_host not_memory = refl
own_fault fault.BadVersion not_host not_memory = refl
own_fault fault.BadLink not_host not_memory = refl
own_fault (fault.CutHeader n) not_host not_memory = refl
own_fault (fault.CutRecord n) not_host not_memory = refl
own_fault (fault.BadFraction n) not_host not_memory = refl
own_fault (fault.TooLong n k) not_host not_memory = refl
own_fault (fault.SpanTooLong n) not_host not_memory = refl
own_fault fault.TooManyRecords not_host not_memory = refl

-- a file that was opened is read from its start
pub left-opened : (id : ℕ) (name : List ℕ) (w : World) → found_at id w.readers ≡ None → left_of id (after_open id name w) ≡ content name w.files
left-opened id name w fresh = ap (λ (o : Option (List ℕ)). unwrap_or o []) (found_at-more id (content name w.files) w.readers fresh)

-- a classic capture whose header obeys its rules: all of its run is left
pub classic-opens : (id : ℕ) (mid now : Option World) (r : Reading)
    → IfSome mid (λ w. Ok r ≡ started id (left_of id w)) → now ≡ option_map (after_read id 24) mid → r ≡ beginning id r.format
    → IfSome mid (λ w. Opens (opened format.Classic (left_of id w)) (Ok (input.Classic r)) now)
classic-opens id None now r is read fresh = tt
classic-opens id (Some w) now r is read fresh =
    let file = left_of id w in
    let none : None ≡ first_failing (header_rules file) = unless_none (first_failing (header_rules file)) r (beginning id (format_of file)) is in
    let after = after_read id 24 w in
    let rest : left_of r.id after ≡ drop 24 file = ap (λ (i : ℕ). left_of i after) (ap (λ (x : Reading). x.id) fresh) ∙ left-after_read id 24 w in
    let run : read_on r.format r.position (left_of r.id after) ≡ capture file =
    ap (λ (p : Position). read_on r.format p (left_of r.id after)) (ap (λ (x : Reading). x.position) fresh) ∙ ap (read_on r.format begin) rest
    ∙ ap (λ (p : Position). read_on r.format p (drop 24 file)) (sym (ap (λ (x : Reading). x.position) fresh)) ∙ sym (capture-started id file r is) in
    let whole : opened format.Classic file ≡ Ok (run_in (input.Classic r) after) =
    ap (λ (o : Option CaptureFault). behind_header o (input_run of.Classic (capture file))) (sym none) ∙ ap (λ (x : Run CaptureFault). Ok (input_run of.Classic x)) (sym run) in
    subst (λ (o : Option World). IsSomeAnd o (λ v. opened format.Classic file ≡ Ok (run_in (input.Classic r) v))) (sym read) whole

-- one whose header fails one
pub classic-stops : (id : ℕ) (mid now : Option World) (f : CaptureFault)
    → IfSome mid (λ w. Err f ≡ started id (left_of id w))
    → IfSome mid (λ w. Opens (opened format.Classic (left_of id w)) (Err (of.Classic f)) now)
classic-stops id None now f is = tt
classic-stops id (Some w) now f is =
    let file = left_of id w in
    let some : Some f ≡ first_failing (header_rules file) = unless_some (first_failing (header_rules file)) f (beginning id (format_of file)) is in
    ap (λ (o : Option CaptureFault). behind_header o (input_run of.Classic (capture file))) (sym some)

-- a pcapng capture: all of it is left
pub ng-opens : (id : ℕ) (vlans : Bool) (mid : Option World) (r : NgReading) → r ≡ ng_beginning id vlans
    → IfSome mid (λ w. Opens (opened (format.Ng vlans) (left_of id w)) (Ok (input.Ng r)) mid)
ng-opens id vlans None r fresh = tt
ng-opens id vlans (Some w) r fresh = rw fresh refl

-- what was opened is the file of that name
pub named-opens : (f : InputFormat) (id : ℕ) (name : List ℕ) (old mid now : Option World) (reader : Result Input InputFault)
    → IfSome old (λ w. found_at id w.readers ≡ None) → mid ≡ option_map (after_open id name) old
    → IfSome mid (λ w. Opens (opened f (left_of id w)) reader now)
    → IfSome old (λ w. Opens (opened f (content name w.files)) reader now)
named-opens f id name None mid now reader fresh opens is = tt
named-opens f id name (Some w) mid now reader fresh opens is =
    subst (λ (file : List ℕ). Opens (opened f file) reader now) (left-opened id name w fresh) (rw opens at is)

-- ### what follows

-- what holds of the run that is left holds of what is read of the file
pub opened-goes : (P : Opened → Shown → Type 0) (what : World → Opened) (left : World → InputRun) (old now : Option World)
    → IfSome old (λ w. IsSomeAnd now (λ v. what w ≡ Ok (left v))) → shown now ≡ shown old
    → IfSome now (λ v. P (Ok (left v)) (shown_of v)) → IfSome old (λ w. P (what w) (shown_of w))
opened-goes P what left None now is same holds = tt
opened-goes P what left (Some w) None is same holds = absurd is
opened-goes P what left (Some w) (Some v) is same holds =
    let e : shown_of v ≡ shown_of w = cc in
    subst (λ (r : Opened). P r (shown_of w)) (sym is) (subst (P (Ok (left v))) e holds)

-- the same of a fault
pub opened-stops : (P : Opened → Shown → Type 0) (what : World → Opened) (f : InputFault) (old now : Option World)
    → IfSome old (λ w. what w ≡ Err f) → shown now ≡ shown old
    → IfSome now (λ v. P (Err f) (shown_of v)) → IfSome old (λ w. P (what w) (shown_of w))
opened-stops P what f None now is same holds = tt
opened-stops P what f (Some w) None is same holds = cc
opened-stops P what f (Some w) (Some v) is same holds =
    let e : shown_of v ≡ shown_of w = cc in
    subst (λ (r : Opened). P r (shown_of w)) (sym is) (subst (P (Err f)) e holds)

-- what is shown is shown
pub itself : (now : Option World) (f : InputFault) → IfSome now (λ v. (f ≡ f) × (shown now ≡ Some (shown_of v)))
itself None f = tt
itself (Some v) f = (refl, refl)

-- what comes of a run that is left
pub taken-goes : (split : Bool) (settings : Settings) (what : World → Opened) (left : World → InputRun) (old now : Option World)
    → IfSome old (λ w. IsSomeAnd now (λ v. what w ≡ Ok (left v)))
    → IfSome old (λ w. IsSomeAnd now (λ v. taken split settings (what w) ≡ Ok (taken_run split settings (left v))))
taken-goes split settings what left None now is = tt
taken-goes split settings what left (Some w) None is = absurd is
taken-goes split settings what left (Some w) (Some v) is = ap (taken split settings) is

-- and of a fault
pub taken-stops : (split : Bool) (settings : Settings) (what : World → Opened) (f : InputFault) (old : Option World)
    → IfSome old (λ w. what w ≡ Err f) → IfSome old (λ w. taken split settings (what w) ≡ Err f)
taken-stops split settings what f None is = tt
taken-stops split settings what f (Some w) is = ap (taken split settings) is
