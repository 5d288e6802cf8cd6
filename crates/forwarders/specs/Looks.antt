-- Looks at the published table: what they demand, and what they leave.
use Rattle.std.specs.Prelude.{◌≡◌, ℕ, ◌+◌, List}
use Rattle.router_log.specs.declared.entry.Entry.{Entry}
use Rattle.router_model.specs.Journal.{first}
use Rattle.router_model.specs.Parts.{Stands}
use Rattle.router_core.specs.Table.{TableSeen}
use Rattle.forwarders.specs.declared.door.looks.ForwardFault.{ForwardFault}
use Rattle.forwarders.specs.declared.door.looks.ForwardFault.TheVariants as fault
use Rattle.forwarders.specs.Batches.{Along, Begins, count_of, journal_of}
use Rattle.forwarders.specs.Publication.{Forwarding}

-- a look takes each table that the forwarder may find
abbrev pub MayLook : (TableSeen → Type 0) → Forwarding → Type 0
MayLook takes before = (seen : List (List Entry)) (now : TableSeen) → Begins before.seen seen → Stands before.settings now.parts (journal_of seen) → takes now

-- an answer is that of a look at a table which stands for all that the forwarder has seen
pub record Sees {X : Type 0} (answers : TableSeen → X → Type 0) (now : Forwarding) (answer : X) : Type 0 where
  pub memory : TableSeen
  pub stands : Stands now.settings memory.parts (journal_of now.seen)
  pub is : answers memory answer

-- a forwarder has seen a list that begins with all that it had seen before, and goes along its plan
pub record Rereads (before now : Forwarding) : Type 0 where
  pub settings : now.settings ≡ before.settings
  pub plan : now.plan ≡ before.plan
  pub rises : Begins before.seen now.seen
  pub along : Along now.seen before.plan

-- a forwarder and its tally without a decision: not entered, the tally is one more and the forwarder as before; refused
-- memory, the tally is as before
abbrev pub Refuses : ForwardFault → Forwarding → ℕ → Forwarding → ℕ → Type 0
Refuses fault.NotEntered before tally now risen = (now ≡ before) × (risen ≡ tally + 1)
Refuses fault.Memory before tally now risen = Rereads before now × (risen ≡ tally)

-- the entries of a list are the first ones of the published list, to the end of one of its batches
pub record Covers (seen published : List (List Entry)) : Type 0 where
  pub front : List (List Entry)
  pub within : Begins front published
  pub same : journal_of front ≡ journal_of seen
  pub first : journal_of seen ≡ first (count_of seen) (journal_of published)
