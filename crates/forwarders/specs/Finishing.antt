-- How a round ends: its notices are noted, and its lines and packets put together.
use Rattle.std.specs.Prelude.{◌≡◌, ℕ, ◌+◌, ◌*◌, ◌^◌, ◌<◌, ◌≤◌, List, [], ◌∷◌, ◌++◌, length, map, All}
use Rattle.lisp_settings.specs.declared.settings.Settings.{Settings}
use Rattle.router_log.specs.declared.entry.Entry.{Entry}
use Rattle.router_model.specs.Changes.{Change}
use Rattle.router_model.specs.Limits.{most_notices}
use Rattle.router_model.specs.Parts.{Parts, standing_in, table}
use Rattle.router_model.specs.Plain.{emit_packets}
use Rattle.router_model.specs.Sharing.{filled}
use Rattle.router_model.specs.Sides.{noting}
use Rattle.forwarders.specs.declared.gathering.Gathered.{Gathered}
use Rattle.forwarders.specs.declared.gathering.Written.{Written}
use Rattle.forwarders.specs.declared.round_done.RoundDone.{RoundDone}
use Rattle.forwarders.specs.declared.ruling.Ruled.{Ruled}
use Rattle.forwarders.specs.Gathering.{IsFit, lines_in, packet_gathered, packets_in}
use Rattle.forwarders.specs.Given.{IsGiven}
use Rattle.forwarders.specs.Publication.{Publication}
use Rattle.forwarders.specs.Ruling.{ruling_of}

-- the change that the notices of a round's data packets make, at a moment
abbrev pub noted_of : Settings → ℕ → Parts → List Ruled → Change Parts
noted_of settings moment before ruled = noting table settings moment before (map ruling_of ruled)

-- the notices of rulings may be noted at a moment: a table gave the decisions, the last entry isn't later, and the
-- journal has room for what the notices add
pub record MayNote (moment : ℕ) (parts : Parts) (ruled : List Ruled) : Type 0 where
  pub given : All (λ one. IsGiven one.decision) ruled
  pub later : parts.now ≤ moment
  pub count : parts.count + most_notices * length ruled < 2 ^ 61
  pub early : moment < 2 ^ 32 * 1000000000

-- a publication of which entries were planned and published as one batch, if there are any
abbrev pub with_published : Publication → List Entry → Publication
with_published p entries = record p {
  batches = p.batches ++ filled (entries ∷ []);
  plan = p.batches ++ filled (entries ∷ []);
}

-- the gathered items of a round, and behind them the packets of its notices
abbrev pub with_noted : Settings → ℕ → Parts → List Ruled → List Gathered → List Gathered
with_noted settings moment before ruled items =
    items ++ map packet_gathered (emit_packets (standing_in settings (noted_of settings moment before ruled).after) moment (noted_of settings moment before ruled).emits)

-- a round was finished: its notices were noted and published, and its lines and packets put behind those that were done
pub record Finishes (settings : Settings) (moment : ℕ) (ruled : List Ruled) (before : Parts) (old : Publication) (written : Written) (undone : RoundDone) (after : Parts) (new : Publication) (done : RoundDone) : Type 0 where
  pub parts : after ≡ (noted_of settings moment before ruled).after
  pub published : new ≡ with_published old (noted_of settings moment before ruled).entries
  pub lines : done.lines ≡ undone.lines ++ lines_in (with_noted settings moment before ruled written.items.items) ruled
  pub packets : done.written ≡ undone.written ++ packets_in (with_noted settings moment before ruled written.items.items) ruled
  pub fits : All IsFit written.items.items → All IsFit (with_noted settings moment before ruled written.items.items)
  pub few : length (with_noted settings moment before ruled written.items.items) ≤ length written.items.items + most_notices * length ruled
