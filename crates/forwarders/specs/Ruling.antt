-- The rulings of a round's data packets, by its batches.
use Rattle.std.specs.Prelude.{◌≡◌, ℕ, ◌<◌, ◌≤◌, List, ◌++◌, drop, length, take, slice_index_or, All, IfNone, IfSome, Option, Some}
use Rattle.std.specs.List.{AllZip}
use Rattle.capture_io.specs.Frame.{Frame}
use Rattle.lisp_settings.specs.declared.settings.Settings.{Settings}
use Rattle.capture_events.specs.Events.{Event}
use Rattle.router_log.specs.declared.entry.Entry.{Entry}
use Rattle.router_model.specs.Parts.{Parts, Stands, table}
use Rattle.router_model.specs.Sharing.{IsRuled, MayBegin, filled, opening}
use Rattle.router_model.specs.Sides.{Ruling, writing}
use Rattle.forwarders.specs.declared.door.looks.Forwarded.{Forwarded}
use Rattle.forwarders.specs.declared.ruling.Ruled.{Ruled}
use Rattle.forwarders.specs.declared.workers.Worker.{Worker}
use Rattle.forwarders.specs.Batches.{journal_of}
use Rattle.forwarders.specs.Deciding.{IsDecided}
use Rattle.forwarders.specs.Given.{IsGiven}

-- a ruling without its look: the number of entries, and the decision
abbrev pub ruling_of : Ruled → Ruling
ruling_of ruled = record { n = ruled.n; decision = ruled.decision }

-- the batches that are published before a round's forwarders are made: those of before the round, and its first ones
abbrev pub first_of_round : List (List Entry) → List (List Entry) → ℕ → List (List Entry)
first_of_round before batches first = before ++ filled (take first batches)

-- all batches that are published at a round's end, its notices apart
abbrev pub last_of_round : List (List Entry) → List (List Entry) → ℕ → List (List Entry)
last_of_round before batches first = first_of_round before batches first ++ filled (drop first batches)

-- law: a ruling by published batches, the first ones of the round among them, is one by a table that absorbed so many
-- of the round's batches
abbrev pub DecidedAreRuled : Type 0
DecidedAreRuled = (settings : Settings) (parts : Parts) (before : List (List Entry)) (m : ℕ) (events : List Event) (frame : Frame) (one : Ruling) → Stands settings parts (journal_of before) → MayBegin settings m (journal_of before) events → let batches = (writing table settings parts events).batches in IsDecided settings (first_of_round before batches (opening events)) (last_of_round before batches (opening events)) frame one → IsRuled settings parts batches (opening events) frame one

-- ### all data packets of a round

-- the ruling of the data packet at a place among the frames
pub record IsRuledAt (settings : Settings) (first published : List (List Entry)) (frames : List Frame) (place : ℕ) (one : Ruled) : Type 0 where
  pub decided : (d : Frame) → IsDecided settings first published (slice_index_or frames place d) (ruling_of one)
  pub given : IsGiven one.decision

-- the rulings of the data packets at these places among the frames, in order
abbrev pub AreRuled : Settings → List (List Entry) → List (List Entry) → List Frame → List ℕ → List Ruled → Type 0
AreRuled settings first published frames places ruled = AllZip (IsRuledAt settings first published frames) places ruled

-- a ruling by a look has as many entries as the look; one without a look has the last length
pub record HasLooked (last : ℕ) (one : Ruled) : Type 0 where
  pub look : IfSome one.look (λ look. look ≡ one.n)
  pub alone : IfNone one.look (one.n ≡ last)

abbrev pub HaveLooked : ℕ → List Ruled → Type 0
HaveLooked last ruled = All (HasLooked last) ruled

-- a forwarder's decision by no more entries than are published is the ruling of its data packet, with the look
abbrev pub IsByAnswer : ℕ → Option Forwarded → Ruled → Type 0
IsByAnswer last forwarded one = IfSome forwarded (λ f. f.look ≤ last → one ≡ record { n = f.look; decision = f.decision; look = Some f.look })

-- each of the workers' decisions by no more entries than are published is the ruling of its data packet, with the look
abbrev pub AreByAnswers : ℕ → List Worker → List Ruled → Type 0
AreByAnswers last workers ruled = (i : ℕ) (d : Worker) → i < length workers → All (λ answer. (e : Ruled) → answer.index < length ruled → IsByAnswer last answer.forwarded (slice_index_or ruled answer.index e)) (slice_index_or workers i d).answers.items
