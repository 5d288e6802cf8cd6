-- What a reader of a pcapng capture gives next, and what is left behind it.
use Rattle.std.proofs.Common.{◌≡◌, Option, Some, None, Result, Ok, Err, Bool, true, false, arith, refl, ap}
use Rattle.std.specs.Option.{IfNone, IfSome, IsSomeAnd}
use Rattle.desk.specs.World.{World, left_of, shown}
use Rattle.capture_io.specs.Frame.{Frame}
use Rattle.capture_io.specs.Run.{before, ended, goes_on}
use Rattle.capture_ng.specs.Answers.{is_outside, is_outside_fault}
use Rattle.capture_ng.specs.Frames.{read_on}
use Rattle.capture_ng.specs.Reading.{NgReading, IsCounted, IsNext as IsNextNg}
use Rattle.capture_ng.specs.declared.fault.NgFault.{NgFault}
use Rattle.playback.specs.Input.{InputRun, IsNext, behind, input_run}
use Rattle.playback.specs.Limits.{most_records}
use Rattle.playback.specs.declared.fault.InputFault.TheVariants.{Ng}

-- what a reader has still to give in a world
abbrev left : NgReading → World → InputRun
left r w = input_run Ng (read_on r.vlans r.position (left_of r.id w))

-- what was left is the answer and what is left then, as the desk tells
abbrev Rests : NgReading → NgReading → Result (Option Frame) NgFault → Option World → Option World → Type 0
Rests old new result told now = IfNone old.fault (IfSome told (λ w. IfSome now (λ v. is_outside result ≡ false →
    read_on old.vlans old.position (left_of old.id w) ≡ goes_on result (read_on old.vlans new.position (left_of old.id v)))))

-- what holds where a reader kept no fault
opened : {P : Type 0} (fault : Option NgFault) → fault ≡ None → IfNone fault P → P
opened None none p = p
opened (Some fault) none p = cc

-- a frame, and what is left behind it
pub comes-frame : (old new : NgReading) (f : Frame) (told now : Option World) → old.fault ≡ None → Rests old new (Ok (Some f)) told now
    → new.id ≡ old.id → new.vlans ≡ old.vlans → shown now ≡ shown told
    → IfSome told (λ w. IsSomeAnd now (λ v. left old w ≡ before f (left new v)))
comes-frame old new f None now none rests id vlans same = tt
comes-frame old new f (Some w) None none rests id vlans same = cc
comes-frame old new f (Some w) (Some v) none rests id vlans same =
    rw (id, vlans) (ap (input_run Ng) (opened old.fault none rests refl))

-- the end
pub comes-end : (old new : NgReading) (told now : Option World) → old.fault ≡ None → Rests old new (Ok None) told now → shown now ≡ shown told
    → IfSome told (λ w. left old w ≡ ended None)
comes-end old new None now none rests same = tt
comes-end old new (Some w) None none rests same = cc
comes-end old new (Some w) (Some v) none rests same = ap (input_run Ng) (opened old.fault none rests refl)

-- a fault of the file
pub comes-fault : (old new : NgReading) (fault : NgFault) (told now : Option World) → old.fault ≡ None → Rests old new (Err fault) told now → shown now ≡ shown told
    → is_outside_fault fault ≡ false → IfSome told (λ w. left old w ≡ ended (Some (Ng fault)))
comes-fault old new fault None now none rests same own = tt
comes-fault old new fault (Some w) None none rests same own = cc
comes-fault old new fault (Some w) (Some v) none rests same own = ap (input_run Ng) (opened old.fault none rests own)

-- a frame, with a tag or without
pub is-next : (vlans : Bool) (r : NgReading) (f : Frame) → IsNextNg vlans r.position f → IsNext most_records (record { frames = r.position.count; moment = r.position.greatest }) f
is-next true r f next = record { number = next.number; few = next.most; later = next.later; moment = next.moment; size = next.size; octets = next.octets }
is-next false r f next = let size = next.size in record { number = next.number; few = next.most; later = next.later; moment = next.moment; size = omega (arith, size); octets = next.octets }

-- how far it has come
pub is-behind : (r : NgReading) (f : Frame) (old : NgReading) → IsCounted (Some f) old.position r.position → record { frames = r.position.count; moment = r.position.greatest } ≡ behind f
is-behind r f old counted = rw (counted.0, counted.1) refl
