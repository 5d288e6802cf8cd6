-- No entry changes for which own locators a table is, but for which of them are up.
use Rattle.std.proofs.Common.{◌≡◌, ℕ, Bool, true, false, cond, List, [], ◌∷◌, refl, ap, ◌∙◌}
use Rattle.capture_io.specs.Frame.{Frame}
use Rattle.lisp_settings.specs.declared.settings.Settings.{Settings}
use Rattle.capture_events.specs.Events.{Event, Tick, Arrival}
use Rattle.router_log.specs.Moments.{seconds}
use Rattle.router_log.specs.declared.decision.Decision.{Decision}
use Rattle.router_log.specs.declared.entry.Entry.{Entry}
use Rattle.router_model.specs.Changes.{Change, each, unchanged}
use Rattle.router_model.specs.Course.{control}
use Rattle.router_model.specs.Decide.{decide_by}
use Rattle.router_model.specs.Hear.{hear_by}
use Rattle.router_model.specs.Note.{noted}
use Rattle.router_model.specs.Parts.{Parts, absorbed, admits, standing_in, table, with_entry}
use Rattle.router_model.specs.Plain.{Router, after_decision, after_event, after_message}
use Rattle.router_model.specs.Sides.{with_entries}
use Rattle.router_model.specs.Standing.{without_ups}
use Rattle.router_model.specs.Tick.{ticked}
use Rattle.router_model.proofs.GrowLemmas.{Grown, grown-each, grown-heard, grown-noted, grown-ticked}
use Rattle.router_model.proofs.UpsLemmas.{changed-site}

-- ### a table

own-absorbed : (parts : Parts) (entry : Entry) → without_ups (absorbed parts entry).own ≡ without_ups parts.own
unfolding absorbed
own-absorbed parts entry = by (admits parts entry)
  where
    by : (b : Bool) → without_ups (cond b (with_entry entry parts) parts).own ≡ without_ups parts.own
    by true = changed-site entry parts.own
    by false = refl

pub own-entries : (parts : Parts) (entries : List Entry) → without_ups (with_entries table parts entries).own ≡ without_ups parts.own
own-entries parts [] = refl
own-entries parts (entry ∷ entries) = own-entries (absorbed parts entry) entries ∙ own-absorbed parts entry

-- what a change leaves has those of before
own-grown : (parts : Parts) (change : Change Parts) → Grown table parts change → without_ups change.after.own ≡ without_ups parts.own
own-grown parts change grown = ap (λ (p : Parts). without_ups p.own) grown ∙ own-entries parts change.entries

module _ (router : Router Parts) where
  abbrev stands : Settings
  stands = standing_in router.settings router.memory

  own-tick : (second : ℕ) → without_ups (after_event table router (Tick second)).after.memory.own ≡ without_ups router.memory.own
  own-tick second =
      own-grown router.memory (ticked table router.settings (seconds second) (unchanged router.memory))
      (grown-ticked table router.settings (seconds second) router.memory (unchanged router.memory) refl)

  own-frame : (frame : Frame) → without_ups (after_event table router (Arrival frame)).after.memory.own ≡ without_ups router.memory.own
  own-frame frame = by (control router.settings frame)
    where
      decision : Decision
      decision = decide_by stands (table.see router.memory frame.moment) frame

      by : (b : Bool) → without_ups (cond b (after_message table router frame (hear_by table stands frame.moment frame (unchanged router.memory))) (after_decision table router frame decision)).after.memory.own ≡ without_ups router.memory.own
      by true =
          own-grown router.memory (hear_by table stands frame.moment frame (unchanged router.memory)).change
          (grown-heard table stands frame.moment router.memory frame (unchanged router.memory) refl)
      by false =
          own-grown router.memory (each (noted table stands frame.moment) decision.notices (unchanged router.memory))
          (grown-each table stands frame.moment router.memory (noted table stands frame.moment) (grown-noted table stands frame.moment router.memory) decision.notices (unchanged router.memory) refl)

  -- nor does an event
  pub own-after : (event : Event) → without_ups (after_event table router event).after.memory.own ≡ without_ups router.memory.own
  own-after (Tick second) = own-tick second
  own-after (Arrival frame) = own-frame frame
