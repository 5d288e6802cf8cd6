-- What a play of rounds leaves.
use Rattle.std.proofs.Common.{◌≡◌, ◌≤◌, ◌∙◌, ℕ, List, [], ◌∷◌, ◌++◌, length, Option, Some, None, ap, ap₂, subst}
use Rattle.std.specs.Option.{IfSome}
use Rattle.desk.specs.World.{World, Shown, shown_of}
use Rattle.lisp_settings.specs.declared.settings.Settings.{Settings}
use Rattle.capture_events.specs.Events.{End, Packet, Played, records_of}
use Rattle.playback.specs.Input.{InputRun}
use Rattle.playback.specs.Playing.{with_output, HasPlayed}
use Rattle.playback.specs.declared.plays.Ending.{Ending}
use Rattle.router_model.specs.Journal.{Journal}
use Rattle.router_model.specs.Plain.{Router}
use Rattle.sharing.specs.Gathering.{Gathering, InRounds, none_gathered}
use Rattle.sharing.specs.Sharing.{HasShared}
use Rattle.sharing.proofs.GatheringLemmas.{rounds-are-gathered}

has-shared : (settings : Settings) (size : ℕ) (file : Option ℕ) (old : Shown) (run : InputRun) (ending : Ending) (entries : ℕ) (start after : Gathering) (now : Option World)
    → 1 ≤ size → start ≡ none_gathered size settings → HasPlayed InRounds start file old run ending after now → entries ≡ length after.router.memory
    → HasShared size settings file old run (record { ending = ending; entries = entries }) now
has-shared settings size file old run ending entries start after now some begins played count =
    let are = rounds-are-gathered settings run.frames size played.steps played.outcome some played.steps_are (subst (λ (g : Gathering). Played InRounds g (played.steps ++ End ∷ []) played.outcome) begins played.played) in
    record {
      ns = are.ns;
      lawful = are.lawful;
      ends = record {
        fault = played.ends.fault;
        frames = played.ends.frames;
        written = played.ends.written ∙ ap (λ (p : List Packet). length p) are.packets;
      };
      entries = count ∙ ap (λ (g : Gathering). length g.router.memory) played.left ∙ ap (λ (r : Router Journal). length r.memory) are.router;
      shown = played.shown ∙ ap₂ (λ (l : List ℕ) (p : List Packet). Some (with_output file l (records_of p) old)) are.lines are.packets;
    }

-- over what the desk tells
pub plays-shared : (settings : Settings) (size : ℕ) (file : Option ℕ) (run : World → InputRun) (ending : Ending) (entries : ℕ) (start after : Gathering) (told now : Option World)
    → 1 ≤ size → start ≡ none_gathered size settings → IfSome told (λ w. HasPlayed InRounds start file (shown_of w) (run w) ending after now) → entries ≡ length after.router.memory
    → IfSome told (λ w. HasShared size settings file (shown_of w) (run w) (record { ending = ending; entries = entries }) now)
plays-shared settings size file run ending entries start after None now some begins played count = tt
plays-shared settings size file run ending entries start after (Some w) now some begins played count =
    has-shared settings size file (shown_of w) (run w) ending entries start after now some begins played count
