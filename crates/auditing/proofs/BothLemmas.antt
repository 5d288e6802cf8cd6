-- Both captures at their ends.
use Rattle.std.proofs.Common.{◌≡◌, ℕ, List, Option, Some, None}
use Rattle.std.specs.Option.{IfSome, IsSomeAnd}
use Rattle.audit.specs.Compared.{compared}
use Rattle.audit.specs.declared.outcome.Outcome.{Outcome as Comparison}
use Rattle.desk.specs.World.{World}
use Rattle.capture_events.specs.Events.{Outcome, Step}
use Rattle.capture_io.specs.Run.{Run}
use Rattle.capture_io.specs.declared.fault.CaptureFault.{CaptureFault}
use Rattle.auditing.specs.Auditing.{octets_of, IsAudited}
use Rattle.auditing.specs.Coming.{IsFaultOf}
use Rattle.auditing.specs.Holding.{IsHeld, IsOver}
use Rattle.auditing.specs.declared.audited.Audited.TheVariants.{Compared}
use Rattle.auditing.specs.declared.holding.Holding.{Holding}

module _ {S : Type 0} (does : S → Step → Outcome S → Type 0) (start : S) (input sent : World → Run CaptureFault) (holding : Holding) where
  -- both have no fault, and compare so
  pub both-compared : (comparison : Comparison) (told now : Option World) → IfSome told (λ w. IsSomeAnd now (IsOver does start (input w) (sent w) holding))
      → ((packets : List (List ℕ)) (run : Run CaptureFault) (base : World) → IsSomeAnd now (IsHeld packets run base holding) → (run.fault ≡ None) × (comparison ≡ compared packets run.frames))
      → IfSome told (λ w. IsAudited does start (input w) (sent w) (Compared comparison))
  both-compared comparison None now over compares = tt
  both-compared comparison (Some w) None over compares = absurd over
  both-compared comparison (Some w) (Some v) over compares =
      let outcome = over.holds.outcome in
      let both = compares (octets_of outcome.packets) (sent w) over.base over.holds.held in
      (over.fault, (both.0, record { came = over.came; steps = over.steps; steps_are = over.steps_are; outcome = outcome; played = over.holds.played; compares = both.1 }))

  -- a fault of the rest of what was sent
  pub both-fault : (fault : CaptureFault) (told now : Option World) → IfSome told (λ w. IsSomeAnd now (IsOver does start (input w) (sent w) holding))
      → ((packets : List (List ℕ)) (run : Run CaptureFault) (base : World) → IsSomeAnd now (IsHeld packets run base holding) → IsFaultOf run fault)
      → IfSome told (λ w. IsFaultOf (sent w) fault)
  both-fault fault None now over is = tt
  both-fault fault (Some w) None over is = absurd over
  both-fault fault (Some w) (Some v) over is = is (octets_of over.holds.outcome.packets) (sent w) over.base over.holds.held
