-- The frames of a capture, out of which nonces are lifted one after another.
use Rattle.std.proofs.Common.{◌≡◌, ℕ, List, [], ◌∷◌, ◌++◌, Option, Some, None, Ok, append_assoc, sym, ap, ◌∙◌}
use Rattle.std.specs.Option.{IfSome, IsSomeAnd}
use Rattle.audit.specs.Lifted.{lifted, lifted_on}
use Rattle.desk.specs.World.{World}
use Rattle.capture_io.specs.Frame.{Frame}
use Rattle.capture_io.specs.Reading.{Reading}
use Rattle.capture_io.specs.Run.{Run}
use Rattle.capture_io.specs.declared.fault.CaptureFault.{CaptureFault}
use Rattle.lisp_settings.specs.declared.settings.Settings.{Settings}
use Rattle.auditing.specs.Auditing.{run_in}
use Rattle.auditing.specs.Coming.{Comes, StaysBut}

-- the nonces of some frames were lifted, and the others are left
pub record IsLifting (settings : Settings) (run : Run CaptureFault) (id : ℕ) (base : World) (reader : Reading) (nonces : List ℕ) (w : World) : Type 0 where
  pub frames : List Frame
  pub whole : frames ++ (run_in reader w).frames ≡ run.frames
  pub fault : (run_in reader w).fault ≡ run.fault
  pub nonces_are : nonces ≡ lifted settings frames
  pub others : StaysBut id base w

abbrev pub Lifting : Settings → Reading → Option World → Reading → List ℕ → Option World → Type 0
Lifting settings sent told reader nonces now = IfSome told (λ w. IsSomeAnd now (IsLifting settings (run_in sent w) sent.id w reader nonces))

-- a frame more
pub lifting-on : (settings : Settings) (sent reader next : Reading) (nonces more : List ℕ) (f : Frame) (told mid now : Option World) → Lifting settings sent told reader nonces mid
    → IfSome mid (λ v. Comes (Ok (Some f)) reader next v now) → reader.id ≡ sent.id → more ≡ lifted_on settings nonces f
    → ((settings : Settings) (frames : List Frame) (frame : Frame) → lifted settings (frames ++ frame ∷ []) ≡ lifted_on settings (lifted settings frames) frame)
    → Lifting settings sent told next more now
lifting-on settings sent reader next nonces more f None mid now lifting comes id is law = tt
lifting-on settings sent reader next nonces more f (Some w) None now lifting comes id is law = absurd lifting
lifting-on settings sent reader next nonces more f (Some w) (Some v) None lifting comes id is law = absurd comes
lifting-on settings sent reader next nonces more f (Some w) (Some v) (Some u) lifting comes id is law =
    let frames = lifting.frames in
    record {
      frames = frames ++ f ∷ [];
      whole = append_assoc frames (f ∷ []) (run_in next u).frames ∙ ap (λ (r : Run CaptureFault). frames ++ r.frames) (sym comes.0) ∙ lifting.whole;
      fault = ap (λ (r : Run CaptureFault). r.fault) (sym comes.0) ∙ lifting.fault;
      nonces_are = is ∙ ap (λ (l : List ℕ). lifted_on settings l f) lifting.nonces_are ∙ sym (law settings frames f);
      others = λ other apart. comes.1 other (λ e. apart (e ∙ id)) ∙ lifting.others other apart;
    }
