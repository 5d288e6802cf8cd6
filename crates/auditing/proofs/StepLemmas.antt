-- Steps that are played, and whose packets are held.
use Rattle.std.proofs.Common.{◌≡◌, ℕ, List, [], ◌∷◌, ◌++◌, Option, Some, None, Result, Ok, Err, ap, sym, subst, ◌∙◌}
use Rattle.std.specs.Option.{IsSomeAnd}
use Rattle.std.specs.Result.{MatchResult}
use Rattle.std.proofs.lemmas.List.{map-append}
use Rattle.desk.specs.World.{World}
use Rattle.capture_events.specs.Events.{Outcome, Packet, Step, followed, records_of}
use Rattle.capture_events.proofs.EventLemmas.{plays-append, plays-one}
use Rattle.capture_io.specs.Run.{Run}
use Rattle.capture_io.specs.declared.fault.CaptureFault.{CaptureFault}
use Rattle.playback.specs.Playing.{GathersOne}
use Rattle.playback.specs.declared.output.Output.{Output}
use Rattle.auditing.specs.Auditing.{octets_of}
use Rattle.auditing.specs.Coming.{IsFaultOf}
use Rattle.auditing.specs.Holding.{Holds, HoldsMore, IsHeld, Proceeds}
use Rattle.auditing.specs.declared.holding.Holding.{Holding}

module _ {S T : Type 0} (does : S → Step → Outcome S → Type 0) where
  -- a step was played after others, and its packets were held
  step-held : (start : S) (run : Run CaptureFault) (base : World) (past : List Step) (step : Step) (before after : S) (one : Outcome S) (a b : Holding) (w : World) (now : Option World) (result : Result T CaptureFault)
      → (h : Holds does start run base past before a w) → does before step one → after ≡ one.after
      → MatchResult result (λ _. IsSomeAnd now (IsHeld (octets_of h.outcome.packets ++ octets_of one.packets) run base b)) (IsFaultOf run)
      → MatchResult result (λ _. IsSomeAnd now (Holds does start run base (past ++ step ∷ []) after b)) (IsFaultOf run)
  step-held start run base past step before after one a b w now (Err fault) h is left held = held
  step-held start run base past step before after one a b w None (Ok x) h is left held = held
  step-held start run base past step before after one a b w (Some v) (Ok x) h is left held = record {
    outcome = followed h.outcome one;
    played = plays-append does start past (step ∷ []) h.outcome one h.played (plays-one does h.outcome.after step one (subst (λ (s : S). does s step one) h.state_is is));
    state_is = left;
    held = subst (λ (l : List (List ℕ)). IsHeld l run base b v) (sym (map-append (λ (p : Packet). p.octets) h.outcome.packets one.packets)) held;
  }

  pub step-proceeds : (step : Step) (before after : S) (output new : Output) (a b : Holding) (told now : Option World) (result : Result T CaptureFault)
      → output.records ≡ [] → GathersOne (does before step) output new after
      → ((packets : List Packet) → new.records ≡ records_of packets → HoldsMore (octets_of packets) a told result b now)
      → Proceeds does before after (step ∷ []) a told result b now
  step-proceeds step before after output new a b None now result empty gathers holds start run base past h = absurd h
  step-proceeds step before after output new a b (Some w) now result empty gathers holds start run base past h =
      let one = gathers.outcome in
      let records : new.records ≡ records_of one.packets = gathers.gathers.records ∙ ap (λ (l : List ℕ). l ++ records_of one.packets) empty in
      step-held start run base past step before after one a b w now result h gathers.is gathers.left (holds one.packets records (octets_of h.outcome.packets) run base h.held)

  -- the same steps, written otherwise
  proceeds-as : (start : S) (run : Run CaptureFault) (base : World) (steps all : List Step) (state : S) (holding : Holding) (now : Option World) (result : Result T CaptureFault) → steps ≡ all
      → MatchResult result (λ _. IsSomeAnd now (Holds does start run base steps state holding)) (IsFaultOf run)
      → MatchResult result (λ _. IsSomeAnd now (Holds does start run base all state holding)) (IsFaultOf run)
  proceeds-as start run base steps all state holding now result same holds =
      subst (λ (l : List Step). MatchResult result (λ _. IsSomeAnd now (Holds does start run base l state holding)) (IsFaultOf run)) same holds

  -- steps behind steps
  pub proceeds-on : (before mid after : S) (first more all : List Step) (a b e : Holding) (told then now : Option World) (result : Result T CaptureFault)
      → ((past : List Step) → (past ++ first) ++ more ≡ past ++ all)
      → ((start : S) (run : Run CaptureFault) (base : World) (past : List Step) → IsSomeAnd told (Holds does start run base past before a) → IsSomeAnd then (Holds does start run base (past ++ first) mid b))
      → Proceeds does mid after more b then result e now → Proceeds does before after all a told result e now
  proceeds-on before mid after first more all a b e told then now result joins one two start run base past h =
      proceeds-as start run base ((past ++ first) ++ more) (past ++ all) after e now result (joins past) (two start run base (past ++ first) (one start run base past h))
