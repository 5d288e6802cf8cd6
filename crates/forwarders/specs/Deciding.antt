-- Decisions of forwarders in a round, and the rulings of its data packets.
use Rattle.std.specs.Prelude.{◌≡◌, ℕ, ◌+◌, ◌*◌, ◌<◌, Option, List, [], length, slice_index, slice_index_or, All, IfSome}
use Rattle.capture_io.specs.Frame.{Frame}
use Rattle.lisp_settings.specs.declared.settings.Settings.{Settings}
use Rattle.router_log.specs.declared.entry.Entry.{Entry}
use Rattle.router_model.specs.Decide.{decide}
use Rattle.router_model.specs.Sides.{Ruling}
use Rattle.forwarders.specs.declared.door.looks.Forwarded.{Forwarded}
use Rattle.forwarders.specs.declared.workers.Answer.{Answer}
use Rattle.forwarders.specs.declared.workers.Worker.{Worker}
use Rattle.forwarders.specs.Batches.{Along, Begins, count_of, journal_of}
use Rattle.forwarders.specs.Given.{IsGiven}
use Rattle.forwarders.specs.Publication.{Publication}

-- a forwarder's decision on a frame, by a list that begins with the first batches and goes along the plan, with the
-- number of that list's entries
pub record Decides (settings : Settings) (first plan : List (List Entry)) (frame : Frame) (forwarded : Forwarded) : Type 0 where
  pub seen : List (List Entry)
  pub rises : Begins first seen
  pub along : Along seen plan
  pub count : forwarded.look ≡ count_of seen
  pub decision : forwarded.decision ≡ decide settings (journal_of seen) frame.moment frame
  pub given : IsGiven forwarded.decision

-- places are places among the frames
abbrev pub AreWithin : List Frame → List ℕ → Type 0
AreWithin frames places = All (λ place. place < length frames) places

-- an answer has the decision on the data packet of its index, by its place among the frames, or no decision
abbrev pub IsAnswer : Settings → List (List Entry) → List (List Entry) → List Frame → List ℕ → Answer → Type 0
IsAnswer settings first plan frames places answer =
    (d : Frame) → IfSome answer.forwarded (Decides settings first plan (slice_index_or frames (slice_index places answer.index) d))

-- a worker by these settings, without answers and with a tally of 0
abbrev pub IsFresh : Settings → Worker → Type 0
IsFresh settings worker = (worker.answers.items ≡ []) × (worker.tally ≡ 0) × (worker.forwarder.settings ≡ settings)

-- a worker whose forwarder has seen the first batches, and has learned the plan
abbrev pub HasSeen : Settings → List (List Entry) → List (List Entry) → Worker → Type 0
HasSeen settings first plan worker = worker.forwarder ≡ record { settings = settings; seen = first; plan = plan }

-- a worker whose forwarder was just made: it has seen all that is published, has learned the whole plan, and has no
-- answers
abbrev pub IsHired : Publication → Worker → Type 0
IsHired p worker = (worker.answers.items ≡ []) × (worker.tally ≡ 0) × HasSeen p.settings p.batches p.plan worker

-- each answer of each worker has the decision on its data packet, or no decision
abbrev pub HaveAnswered : Settings → List (List Entry) → List (List Entry) → List Frame → List ℕ → List Worker → Type 0
HaveAnswered settings first plan frames places workers = (i : ℕ) (d : Worker) → i < length workers → All (IsAnswer settings first plan frames places) (slice_index_or workers i d).answers.items

-- the answers of a worker are in order those on the data packets at `start`, and each `step` further
abbrev pub AreDealt : ℕ → ℕ → List Answer → Type 0
AreDealt start step answers = (k : ℕ) (d : Answer) → k < length answers → (slice_index_or answers k d).index ≡ k * step + start

-- data packets fell to the workers in turn
abbrev pub AreAllDealt : List Worker → Type 0
AreAllDealt workers = (i : ℕ) (d : Worker) → i < length workers → AreDealt i (length workers) (slice_index_or workers i d).answers.items

-- each of these answers on the data packet at an index has this decision
abbrev pub IsSole : ℕ → Option Forwarded → List Answer → Type 0
IsSole index forwarded answers = All (λ answer. answer.index ≡ index → forwarded ≡ answer.forwarded) answers

-- each answer of all workers on the data packet at an index has this decision
abbrev pub IsSoleOfAll : ℕ → Option Forwarded → List Worker → Type 0
IsSoleOfAll index forwarded workers = (i : ℕ) (d : Worker) → i < length workers → IsSole index forwarded (slice_index_or workers i d).answers.items

-- a ruling of a data packet by published batches, the first ones among them: the decision by these batches, with the
-- number of their entries
pub record IsDecided (settings : Settings) (first published : List (List Entry)) (frame : Frame) (one : Ruling) : Type 0 where
  pub front : List (List Entry)
  pub after : Begins first front
  pub within : Begins front published
  pub is : one ≡ record { n = count_of front; decision = decide settings (journal_of front) frame.moment frame }

-- the decision in the answer at a place is taken, if that answer is on the data packet at an index; whatever the
-- answers were answers to, they still are
pub record IsTaken (before : List Answer) (place index : ℕ) (forwarded : Option Forwarded) (after : List Answer) : Type 0 where
  pub answered : (settings : Settings) (first plan : List (List Entry)) (frames : List Frame) (places : List ℕ) → All (IsAnswer settings first plan frames places) before → All (IsAnswer settings first plan frames places) after × ((d : Frame) → IfSome forwarded (Decides settings first plan (slice_index_or frames (slice_index places index) d)))
  pub found : (d : Answer) → place < length before → (slice_index_or before place d).index ≡ index → forwarded ≡ (slice_index_or before place d).forwarded
  pub others : (other : ℕ) (told : Option Forwarded) → (other ≡ index → ⊥) → IsSole other told after → IsSole other told before
  pub dealt : (start step : ℕ) → AreDealt start step before → AreDealt start step after

-- the decision on the data packet at an index is taken from the answers of all workers, if there is one; answers on
-- others stay
pub record IsTakenOfAll (before : List Worker) (index : ℕ) (forwarded : Option Forwarded) (after : List Worker) : Type 0 where
  pub answered : (settings : Settings) (first plan : List (List Entry)) (frames : List Frame) (places : List ℕ) → HaveAnswered settings first plan frames places before → HaveAnswered settings first plan frames places after × ((d : Frame) → IfSome forwarded (Decides settings first plan (slice_index_or frames (slice_index places index) d)))
  pub found : IsSoleOfAll index forwarded before
  pub others : (other : ℕ) (told : Option Forwarded) → (other ≡ index → ⊥) → IsSoleOfAll other told after → IsSoleOfAll other told before
  pub dealt : AreAllDealt after
