-- What forwarders decided, by what was published and planned when they were made.
use Rattle.std.proofs.Common.{◌≡◌, Some, None, Option, IfSome, All, List, [], ◌∷◌, ◌++◌, sym, subst}
use Rattle.std.proofs.lemmas.List.Elements.{All-push}
use Rattle.capture_io.specs.Frame.{Frame}
use Rattle.lisp_settings.specs.declared.settings.Settings.{Settings}
use Rattle.router_log.specs.declared.entry.Entry.{Entry}
use Rattle.forwarders.specs.declared.door.looks.Forwarded.{Forwarded}
use Rattle.forwarders.specs.Batches.{Along, Begins}
use Rattle.forwarders.specs.Deciding.{Decides}
use Rattle.forwarders.proofs.BatchLemmas.{begins-on}

-- what was decided after later looks was decided after the first ones
pub decides-from : (settings : Settings) (first seen plan told : List (List Entry)) (frame same : Frame) (forwarded : Option Forwarded) → Begins first seen → told ≡ plan → same ≡ frame
    → IfSome forwarded (Decides settings seen told frame) → IfSome forwarded (Decides settings first plan same)
decides-from settings first seen plan told frame same None rises plans is decided = tt
decides-from settings first seen plan told frame same (Some f) rises plans is decided =
    subst (λ (z : Frame). Decides settings first plan z f) (sym is) (record {
      seen = decided.seen;
      rises = begins-on first seen decided.seen rises decided.rises;
      along = subst (λ (z : List (List Entry)). Along decided.seen z) plans decided.along;
      count = decided.count;
      decision = decided.decision;
      given = decided.given;
    })

pub all-with : {X : Type 0} (P : X → Type 0) (xs : List X) (x : X) → All P xs → P x → All P (xs ++ x ∷ [])
all-with P xs x all here = All-push P xs x all here
