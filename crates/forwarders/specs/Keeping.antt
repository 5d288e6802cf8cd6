-- The rule that each step at the published table keeps, and what holds after each step.
use Rattle.std.specs.Prelude.{◌≡◌, ℕ, true, false, List, [], ◌∷◌, ◌++◌}
use mathlib.Core.Option.{some}
use lib.ListN.{get_elem?}
use Rattle.lisp_settings.specs.declared.settings.Settings.{Settings}
use Rattle.router_log.specs.declared.entry.Entry.{Entry}
use Rattle.router_model.specs.Journal.{extended}
use Rattle.router_model.specs.Parts.{Parts, Stands}
use Rattle.router_model.specs.Proper.{IsProper}
use Rattle.forwarders.specs.declared.door.view.View.{View}
use Rattle.forwarders.specs.declared.door.view.View.TheVariants.{Newcomer, Reads, Writes, Tells}
use Rattle.forwarders.specs.Batches.{Along, Begins, batches_from, journal_of, parts_from}
use Rattle.forwarders.specs.Publication.{Side}
use Rattle.forwarders.specs.Views.{IsWriting, list_in, plan_in, settings_in}

-- ### the rule

abbrev pub IsWriter : View → Type 0
IsWriter Newcomer = ⊥
IsWriter (Reads settings seen plan) = ⊥
IsWriter (Writes settings own plan) = Unit {0}
IsWriter (Tells settings one plan) = ⊥

abbrev pub IsNew : View → Type 0
IsNew Newcomer = Unit {0}
IsNew (Reads settings seen plan) = ⊥
IsNew (Writes settings own plan) = ⊥
IsNew (Tells settings one plan) = ⊥

-- a view agrees with the settings, the published list and the plan: the writer's has all of them, a reader's and a
-- note's have beginnings
abbrev pub Knows : Settings → List (List Entry) → List (List Entry) → View → Type 0
Knows settings list planned Newcomer = Unit {0}
Knows settings list planned (Reads s seen plan) = (s ≡ settings) × Begins seen list × Begins plan planned
Knows settings list planned (Writes s own plan) = (s ≡ settings) × (own ≡ list) × (plan ≡ planned)
Knows settings list planned (Tells s one plan) = (s ≡ settings) × Begins one list × Begins plan planned

-- a fact holds for each of the views
abbrev pub AreAll : (View → Type 0) → List View → Type 0
AreAll knows views = (seat : ℕ) (v : View) → get_elem? views seat ≡ some v → knows v

-- the rule since the first publication: there is a published list, which begins with the static mappings, and a plan
-- that begins with the list; the entries of the list are a proper journal, and the table's parts are those that the
-- list makes; each view agrees with list and plan, and at most one view is the writer's
pub record Agrees (parts : Parts) (views : List View) : Type 0 where
  pub settings : Settings
  pub behind : List (List Entry)
  pub planned : List (List Entry)
  pub ahead : Begins (batches_from settings behind) planned
  pub proper : IsProper settings (journal_of (batches_from settings behind))
  pub made : parts ≡ parts_from settings behind
  pub known : AreAll (Knows settings (batches_from settings behind) planned) views
  pub alone : (i j : ℕ) (v w : View) → get_elem? views i ≡ some v → get_elem? views j ≡ some w → IsWriter v → IsWriter w → i ≡ j

-- the rule: before the first publication each view is a newcomer's, since then table and views agree
pub record Keeps (side : Side) (views : List View) : Type 0 where
  pub before : side.is_open ≡ false → AreAll IsNew views
  pub since : side.is_open ≡ true → Agrees side.parts views

-- ### what steps tell

-- a reader enters: the table stands for a list that begins with all that the reader has seen, and goes along the
-- reader's plan
pub record Enters (v : View) (parts : Parts) (w : View) : Type 0 where
  pub seen : List (List Entry)
  pub view : w ≡ Reads (settings_in v) seen (plan_in v)
  pub rises : Begins (list_in v) seen
  pub along : Along seen (plan_in v)
  pub stands : Stands (settings_in v) parts (journal_of seen)

-- the writer has a list, and the table stands for that list
pub record Shows (parts : Parts) (v : View) : Type 0 where
  pub writes : IsWriting v
  pub stands : Stands (settings_in v) parts (journal_of (list_in v))

-- the first publication: from now on the writer has this view, and the table stands for its list
pub record Starts (first : View) (parts : Parts) (w : View) : Type 0 where
  pub view : w ≡ first
  pub shows : Shows parts w

-- a further publication: a batch comes behind the others of the writer's list, and the table stands for that list
pub record Publishes (batch : List Entry) (v : View) (parts : Parts) (w : View) : Type 0 where
  pub view : w ≡ Writes (settings_in v) (list_in v ++ batch ∷ []) (plan_in v)
  pub shows : Shows parts w

-- ### when the writer may publish

-- the writer's list and further entries make a proper journal
abbrev pub GoesOn : View → List Entry → Type 0
GoesOn v entries = IsProper (settings_in v) (extended (journal_of (list_in v)) entries)

-- a batch is the next one of the writer's plan
abbrev pub IsNext : View → List Entry → Type 0
IsNext v batch = Begins (list_in v ++ batch ∷ []) (plan_in v)
