-- What a reader of a classic capture gives next, and what is left behind it.
use Rattle.std.proofs.Common.{◌≡◌, ◌+◌, ℕ, List, length, Option, Some, None, Result, Ok, Err, false, refl, ap, sym, subst, ◌∙◌}
use Rattle.std.specs.Option.{option_map, IfNone, IfSome, IsSomeAnd}
use Rattle.desk.specs.World.{World, after_read, left_of}
use Rattle.desk.proofs.Reading.{left-after_read}
use Rattle.capture_io.specs.Answers.{IsAnswer, is_outside_fault}
use Rattle.capture_io.specs.Capture.{outcome}
use Rattle.capture_io.specs.Frame.{Frame}
use Rattle.capture_io.specs.Frames.{read_on}
use Rattle.capture_io.specs.Reading.{Reading, after_frame, passed}
use Rattle.capture_io.specs.Run.{before, ended}
use Rattle.capture_io.specs.declared.fault.CaptureFault.{CaptureFault}
use Rattle.capture_io.proofs.Runs.{read_on-end, read_on-fault, read_on-frame}
use Rattle.playback.specs.Input.{InputRun, input_run}
use Rattle.playback.specs.declared.fault.InputFault.TheVariants.{Classic}

-- what a reader has still to give in a world
abbrev left : Reading → World → InputRun
left r w = input_run Classic (read_on r.format r.position (left_of r.id w))

-- what is next in a world
abbrev Answers : Reading → Result (Option Frame) CaptureFault → Option World → Type 0
Answers r result told = IfNone r.fault (IfSome told (λ w. IsAnswer result (outcome r.format r.position (left_of r.id w))))

-- what holds where a reader kept no fault
opened : {P : Type 0} (fault : Option CaptureFault) → fault ≡ None → IfNone fault P → P
opened None none p = p
opened (Some fault) none p = cc

frame-in : (r : Reading) (f : Frame) (w : World) → Ok (Some f) ≡ outcome r.format r.position (left_of r.id w)
    → left r w ≡ before f (left (after_frame r f) (after_read r.id (16 + length f.octets) w))
frame-in r f w is =
    let size = 16 + length f.octets in
    ap (input_run Classic) (read_on-frame r.format r.position (left_of r.id w) f is)
    ∙ ap (λ (l : List ℕ). before f (input_run Classic (read_on r.format (passed r.position f) l))) (sym (left-after_read r.id size w))

-- a frame, and what is left behind it
pub comes-frame : (r : Reading) (f : Frame) (told now : Option World) → r.fault ≡ None → Answers r (Ok (Some f)) told
    → now ≡ option_map (after_read r.id (16 + length f.octets)) told
    → IfSome told (λ w. IsSomeAnd now (λ v. left r w ≡ before f (left (after_frame r f) v)))
comes-frame r f None now none answers reads = tt
comes-frame r f (Some w) now none answers reads =
    subst (λ (o : Option World). IsSomeAnd o (λ v. left r w ≡ before f (left (after_frame r f) v))) (sym reads)
    (frame-in r f w (opened r.fault none answers refl))

-- the end
pub comes-end : (r : Reading) (told : Option World) → r.fault ≡ None → Answers r (Ok None) told → IfSome told (λ w. left r w ≡ ended None)
comes-end r None none answers = tt
comes-end r (Some w) none answers = ap (input_run Classic) (read_on-end r.format r.position (left_of r.id w) (opened r.fault none answers refl))

-- a fault of the file
pub comes-fault : (r : Reading) (fault : CaptureFault) (told : Option World) → r.fault ≡ None → Answers r (Err fault) told → is_outside_fault fault ≡ false
    → IfSome told (λ w. left r w ≡ ended (Some (Classic fault)))
comes-fault r fault None none answers own = tt
comes-fault r fault (Some w) none answers own = ap (input_run Classic) (read_on-fault r.format r.position (left_of r.id w) fault (opened r.fault none answers own))
