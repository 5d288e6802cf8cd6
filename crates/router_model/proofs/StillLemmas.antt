-- What is heard and noted changes no own locator.
use Rattle.std.proofs.Common.{◌≡◌, ℕ, ◌+◌, Bool, true, false, cond, List, refl, sym, ap, ap₂, ◌∙◌, arith}
use Rattle.capture_io.specs.Frame.{Frame}
use Rattle.lisp_settings.specs.declared.settings.OwnLocator.{OwnLocator}
use Rattle.lisp_settings.specs.declared.settings.Settings.{Settings}
use Rattle.router_log.specs.declared.emit.Emit.{Emit}
use Rattle.router_log.specs.declared.entry.Entry.{Entry}
use Rattle.router_log.specs.declared.entry.Entry.TheVariants.{Changed}
use Rattle.router_log.specs.declared.notice.Notice.{Notice}
use Rattle.router_model.specs.Changes.{Change, entered, journal as of_journal, unchanged}
use Rattle.router_model.specs.Hear.{hear_by}
use Rattle.router_model.specs.Journal.{Journal, changed, is_changed}
use Rattle.router_model.specs.Lifting.{HearsStill, NotesStill}
use Rattle.router_model.specs.Note.{noted}
use Rattle.router_model.specs.Parts.{Parts, absorbed, admits, standing_in, with_entry}
use Rattle.router_model.specs.Standing.{changed_by, own_after, standing, standing_with, own_in, standing_by}
use Rattle.router_model.proofs.PartsLemmas.{count-more}
use Rattle.router_model.proofs.StayLemmas.{stays-heard, stays-noted}

pub own-still : (e : Entry) (locators : List OwnLocator) → is_changed e ≡ false → changed_by e locators ≡ locators
own-still (Changed moment address up) locators is = cc
own-still _ locators is = refl

-- ### in a journal

module _ (settings : Settings) (before : Journal) where
  -- a change leaves the settings that stand
  abbrev Still : Change Journal → Type 0
  Still change = (own_after settings change.after ≡ own_after settings before) × (changed change.after ≡ changed before)

  still-entered : (by : Settings) (m : ℕ) (e : Entry) → is_changed e ≡ false → (change : Change Journal) → Still change → Still (entered of_journal by m e change)
  still-entered by m e is change still = (
    own-still e (own_after settings change.after) is ∙ still.0,
    sym (count-more is_changed e change.after) ∙ (ap (λ b. cond b 1 0 + changed change.after) is ∙ ((let same : 0 + changed change.after ≡ changed change.after = omega arith in same) ∙ still.1)),
  )

  stands-still : (change : Change Journal) → Still change → standing settings change.after ≡ standing settings before
  stands-still change still = ap₂ (λ l n. standing_with settings l n) still.0 still.1

  pub heard-still : (by : Settings) (m : ℕ) (frame : Frame) → standing settings (hear_by of_journal by m frame (unchanged before)).change.after ≡ standing settings before
  heard-still by m frame =
      stands-still (hear_by of_journal by m frame (unchanged before)).change
      (stays-heard of_journal by m Still (still-entered by m) (λ (packet : Emit) c h. h) frame (unchanged before) (refl, refl))

  pub noted-still : (by : Settings) (m : ℕ) (one : Notice) → standing settings (noted of_journal by m one (unchanged before)).after ≡ standing settings before
  noted-still by m one =
      stands-still (noted of_journal by m one (unchanged before))
      (stays-noted of_journal by m Still (still-entered by m) (λ (packet : Emit) c h. h) one (unchanged before) (refl, refl))

pub hears-still : HearsStill
hears-still settings journal m frame = heard-still settings journal (standing settings journal) m frame

pub notes-still : NotesStill
notes-still settings journal m notice = noted-still settings journal (standing settings journal) m notice

-- ### in a table

-- a change leaves them there
abbrev pub StillIn : Parts → Change Parts → Type 0
StillIn parts change = (change.after.own ≡ parts.own) × (change.after.steps ≡ parts.steps)

absorbed-still : (parts : Parts) (e : Entry) → is_changed e ≡ false → ((absorbed parts e).own ≡ parts.own) × ((absorbed parts e).steps ≡ parts.steps)
unfolding absorbed
absorbed-still parts e is = by (admits parts e)
  where
    by : (b : Bool) → ((cond b (with_entry e parts) parts).own ≡ parts.own) × ((cond b (with_entry e parts) parts).steps ≡ parts.steps)
    by true = (own-still e parts.own is, ap (λ b. cond b 1 0 + parts.steps) is ∙ (let same : 0 + parts.steps ≡ parts.steps = omega arith in same))
    by false = (refl, refl)

module _ (parts : Parts) where
  -- so the same settings stand
  pub stands-in : (settings : Settings) (change : Change Parts) → StillIn parts change → standing_in settings change.after ≡ standing_in settings parts
  stands-in settings change still = ap₂ (λ (l : List OwnLocator) (n : ℕ). standing_by settings (own_in l n)) still.0 still.1
