-- A router that gathers the frames of a round, and works the round once it is full.
use Rattle.std.specs.Prelude.{◌≡◌, ℕ, ◌+◌, ◌*◌, ◌-◌, ◌^◌, ◌<◌, ◌≤◌, Bool, true, false, List, [], ◌∷◌, ◌++◌, length, All, Option, Some, None, unwrap_or}
use Rattle.command_words.specs.Limits.{most_round_frames}
use Rattle.capture_io.specs.Frame.{Frame}
use Rattle.lisp_settings.specs.Lawful.{IsLawful}
use Rattle.lisp_settings.specs.declared.settings.Settings.{Settings}
use Rattle.capture_events.specs.Events.{AreStepsOf, Arrival, End, Happens, Outcome, Pause, Played, Step, Tick, idle, second_of}
use Rattle.playback.specs.Limits.{most_arrival_octets, most_frames}
use Rattle.playback.specs.declared.progress.Progress.{Progress}
use Rattle.router_log.specs.declared.entry.Entry.{Entry}
use Rattle.router_model.specs.Cut.{empty, is_full, with_frames}
use Rattle.router_model.specs.Journal.{Journal}
use Rattle.router_model.specs.Lifting.{FramesInOrder}
use Rattle.router_model.specs.Limits.{most_entries, most_mappings, most_round_octets}
use Rattle.router_model.specs.Parts.{Parts, Stands}
use Rattle.router_model.specs.Plain.{Router, started}
use Rattle.router_model.specs.Rounds.{AreLawful, Lawful, after_round, closing_moment, round, rounds}
use Rattle.router_model.specs.Sharing.{moment_after}
use Rattle.forwarders.specs.Batches.{journal_of}
use Rattle.forwarders.specs.Publication.{Publication}
use Rattle.sharing.specs.declared.gathering.Gathering.{Gathering as Gatherer}

-- a router in rounds: the size of a round, the router after the rounds before, the moment of the frame before this
-- round, and the frames that came since
pub record Gathering : Type 0 where
  pub size : ℕ
  pub router : Router Journal
  pub previous : Option ℕ
  pub frames : List Frame

-- a router in rounds, whose journal is that of the published batches
abbrev pub gathering_of : Settings → List (List Entry) → ℕ → Option ℕ → List Frame → Gathering
gathering_of settings batches size previous frames = record {
  size = size;
  router = record { settings = settings; memory = journal_of batches };
  previous = previous;
  frames = frames;
}

-- the state of a router that gathers frames
abbrev pub state_of : Gatherer → Gathering
state_of g = gathering_of g.settings.now g.published.batches g.size g.previous g.frames.items

-- a router in rounds as it begins, with its static mappings and without a frame
abbrev pub none_gathered : ℕ → Settings → Gathering
none_gathered size settings = record { size = size; router = started settings; previous = None; frames = [] }

-- the outcome of a round of frames, by the numbers of its data packets
abbrev pub round_worked : Gathering → List Frame → List ℕ → Outcome Gathering
round_worked g frames ns =
    let outcome = after_round g.router (round g.router.settings g.previous frames g.router.memory ns) in
    record {
      lines = outcome.lines;
      packets = outcome.packets;
      after = record { size = g.size; router = outcome.after; previous = Some (closing_moment frames); frames = [] };
    }

-- an outcome is that of a round of frames, by some numbers that its data packets may have
pub record WorksRound (g : Gathering) (frames : List Frame) (outcome : Outcome Gathering) : Type 0 where
  pub ns : List ℕ
  pub lawful : AreLawful g.router.settings g.previous frames g.router.memory ns
  pub is : outcome ≡ round_worked g frames ns

-- whether the gathered frames make a round
abbrev pub is_due : Gathering → Bool
is_due g = is_full g.size (with_frames empty g.frames)

-- the round of the frames that are left at the end: an outcome is that of their round, or without a frame leaves all as
-- it is
abbrev pub ClosesRound : List Frame → Gathering → Outcome Gathering → Type 0
ClosesRound [] g outcome = outcome ≡ idle g
ClosesRound (frame ∷ frames) g outcome = WorksRound g (frame ∷ frames) outcome

-- the outcome of a step in rounds: a frame is kept, a round that is due is worked before the next event, and the
-- seconds between frames are worked with their round
abbrev pub InRounds : Gathering → Step → Outcome Gathering → Type 0
InRounds g (Happens (Tick second)) outcome = outcome ≡ idle g
InRounds g (Happens (Arrival frame)) outcome =
    (is_due g ≡ false) × (outcome ≡ idle (record g { frames = g.frames ++ frame ∷ [] }))
InRounds g Pause outcome = (is_due g ≡ true) × WorksRound g g.frames outcome
InRounds g End outcome = ClosesRound g.frames g outcome

-- an outcome is that of the rounds of a capture's frames, by some numbers that their data packets may have
pub record AreRounds (settings : Settings) (frames : List Frame) (size : ℕ) (outcome : Outcome Gathering) : Type 0 where
  pub ns : List (List ℕ)
  pub lawful : Lawful settings frames size ns
  pub lines : outcome.lines ≡ (rounds settings frames size ns).lines
  pub packets : outcome.packets ≡ (rounds settings frames size ns).packets
  pub router : outcome.after.router ≡ (rounds settings frames size ns).after

-- law: the outcome of the steps of a capture's frames is that of the rounds into which the frames are cut
abbrev pub RoundsAreGathered : Type 0
RoundsAreGathered = (settings : Settings) (frames : List Frame) (size : ℕ) (steps : List Step) (outcome : Outcome Gathering)
    → 1 ≤ size → AreStepsOf frames steps → Played InRounds (none_gathered size settings) (steps ++ End ∷ []) outcome → AreRounds settings frames size outcome

-- ### what is known between steps

-- the gathered frames have that many octets, are no more than a round may have, and come in order of moments
pub record AreGathered (g : Gathering) (octets : ℕ) : Type 0 where
  pub filling : with_frames empty g.frames ≡ record { frames = length g.frames; octets = octets }
  pub few : length g.frames ≤ g.size
  pub small : octets ≤ most_round_octets + most_arrival_octets
  pub order : FramesInOrder (unwrap_or g.previous 0) g.frames
  pub early : All (λ frame. frame.moment < 2 ^ 32 * 1000000000) g.frames

-- how many frames and seconds a router in rounds has worked, where so many frames came in all
abbrev pub worked_events : ℕ → Gathering → ℕ
worked_events frames g = (frames - length g.frames) + second_of (unwrap_or g.previous 0)

-- a router in rounds may share a round: the table stands for the published batches, which are all that is planned, at a
-- moment no later than that of the last worked frame
pub record MayShare (settings : Settings) (parts : Parts) (p : Publication) (g : Gathering) : Type 0 where
  pub lawful : IsLawful settings
  pub settings_are : p.settings ≡ settings
  pub none : p.pending ≡ []
  pub plan : p.plan ≡ p.batches
  pub stands : Stands settings parts (journal_of p.batches)
  pub now : parts.now ≤ unwrap_or g.previous 0

-- a router in rounds may go on with a play: its table stands for the published batches, and its frames, entries and
-- written packets are within limits
pub record MayGather (settings : Settings) (parts : Parts) (p : Publication) (g : Gathering) (octets : ℕ)
    (progress : Progress) (written : ℕ) : Type 0 where
  pub shares : MayShare settings parts p g
  pub gathered : AreGathered g octets
  pub size : (1 ≤ g.size) × (g.size ≤ most_round_frames)
  pub frames : length g.frames ≤ progress.frames
  pub most : progress.frames ≤ most_frames
  pub reached : unwrap_or (moment_after g.previous g.frames) 0 ≤ unwrap_or progress.moment 0
  pub count : parts.count ≤ most_mappings + most_entries * worked_events progress.frames g
  pub packets : written ≤ most_entries * worked_events progress.frames g

-- a router that gathers frames may go on with a play of which so many packets are written
abbrev pub MayPlay : Gatherer → Progress → ℕ → Type 0
MayPlay g progress written = MayGather g.settings.now g.table.parts g.published (state_of g) g.octets progress written
