-- The frames that are left behind an answer of a reader.
use Rattle.std.proofs.Common.{◌≡◌, ℕ, Bool, false, List, drop, Option, Some, None, Result, Ok, Err, refl, subst, sym, ap, ◌∙◌}
use Rattle.std.specs.Option.{option_map, IfNone, IfSome}
use Rattle.desk.specs.World.{World, left_of}
use Rattle.desk.proofs.Reading.{left-after_read}
use Rattle.capture_io.specs.Frame.{Frame}
use Rattle.capture_io.specs.Run.{goes_on}
use Rattle.capture_ng.proofs.Runs.{read_on-found}
use Rattle.capture_ng.specs.Answers.{IsAnswer, is_outside}
use Rattle.capture_ng.specs.Found.{found}
use Rattle.capture_ng.specs.Frames.{read_on}
use Rattle.capture_ng.specs.Position.{Position}
use Rattle.capture_ng.specs.Reading.{NgReading, after_found}
use Rattle.capture_ng.specs.declared.fault.NgFault.{NgFault}

-- the frames that were left are what was answered and those that are left now
abbrev pub Leaves : ℕ → Bool → Position → Position → Option World → Option World → Result (Option Frame) NgFault → Type 0
Leaves id vlans at next start new result =
    IfSome start (λ w. IfSome new (λ v. is_outside result ≡ false → read_on vlans at (left_of id w) ≡ goes_on result (read_on vlans next (left_of id v))))

-- the world behind what was found
same_world : (v w : World) → Some v ≡ Some w → v ≡ w
same_world v w e = cc

leaves : (id : ℕ) (vlans : Bool) (at next : Position) (start new : Option World) (o : Option Frame)
    → IfSome start (λ w. IsAnswer (Ok o) (found vlans at (left_of id w)).answer) → IfSome start (λ w. false ≡ false → next ≡ (found vlans at (left_of id w)).position)
    → new ≡ option_map (after_found id vlans at) start → Leaves id vlans at next start new (Ok o)
leaves id vlans at next None new o answer stands told = tt
leaves id vlans at next (Some w) None o answer stands told = tt
leaves id vlans at next (Some w) (Some v) o answer stands told =
    let left = left_of id w in
    let f = found vlans at left in
    let rest : left_of id v ≡ drop f.taken left = ap (λ (u : World). left_of id u) (same_world v (after_found id vlans at w) told) ∙ left-after_read id f.taken w in
    λ inside. read_on-found vlans at left
    ∙ ap (λ (r : Result (Option Frame) NgFault). goes_on r (read_on vlans f.position (drop f.taken left))) (sym (answer refl))
    ∙ ap (λ (p : Position). goes_on (Ok o) (read_on vlans p (drop f.taken left))) (sym (stands refl))
    ∙ ap (λ (l : List ℕ). goes_on (Ok o) (read_on vlans next l)) (sym rest)

leaves_fault : (id : ℕ) (vlans : Bool) (at next : Position) (start new : Option World) (fault : NgFault)
    → IfSome start (λ w. IsAnswer (Err fault) (found vlans at (left_of id w)).answer) → Leaves id vlans at next start new (Err fault)
leaves_fault id vlans at next None new fault answer = tt
leaves_fault id vlans at next (Some w) None fault answer = tt
leaves_fault id vlans at next (Some w) (Some v) fault answer =
    let left = left_of id w in
    let f = found vlans at left in
    λ inside. read_on-found vlans at left
    ∙ ap (λ (r : Result (Option Frame) NgFault). goes_on r (read_on vlans f.position (drop f.taken left))) (sym (answer inside))

-- a fact that is asked where no fault was kept
where_none : (o : Option NgFault) (P : Type 0) → P → IfNone o P
where_none None P fact = fact
where_none (Some fault) P fact = tt

-- the same of a reader, by its parts
pub reader_leaves : (old : NgReading) (id : ℕ) (vlans : Bool) (at next : Position) (kept : Option NgFault) (start new : Option World) (o : Option Frame)
    → old ≡ record { id = id; vlans = vlans; position = at; fault = kept }
    → IfSome start (λ w. IsAnswer (Ok o) (found vlans at (left_of id w)).answer) → IfSome start (λ w. false ≡ false → next ≡ (found vlans at (left_of id w)).position)
    → new ≡ option_map (after_found id vlans at) start → IfNone old.fault (Leaves old.id old.vlans old.position next start new (Ok o))
reader_leaves old id vlans at next kept start new o is answer stands told =
    where_none old.fault (Leaves old.id old.vlans old.position next start new (Ok o))
    (subst (λ (r : NgReading). Leaves r.id r.vlans r.position next start new (Ok o)) (sym is) (leaves id vlans at next start new o answer stands told))

pub reader_leaves_fault : (old : NgReading) (id : ℕ) (vlans : Bool) (at next : Position) (kept : Option NgFault) (start new : Option World) (fault : NgFault)
    → old ≡ record { id = id; vlans = vlans; position = at; fault = kept }
    → IfSome start (λ w. IsAnswer (Err fault) (found vlans at (left_of id w)).answer) → IfNone old.fault (Leaves old.id old.vlans old.position next start new (Err fault))
reader_leaves_fault old id vlans at next kept start new fault is answer =
    where_none old.fault (Leaves old.id old.vlans old.position next start new (Err fault))
    (subst (λ (r : NgReading). Leaves r.id r.vlans r.position next start new (Err fault)) (sym is) (leaves_fault id vlans at next start new fault answer))
