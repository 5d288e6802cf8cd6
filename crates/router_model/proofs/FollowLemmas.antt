-- The promises of a table: what it decides, notes, hears and does each second.
use Rattle.std.proofs.Common.{◌≡◌, ℕ, ◌^◌, ◌≤◌, refl, sym, ap, subst, ◌∙◌, arith}
use Rattle.lisp_settings.specs.declared.settings.Settings.{Settings}
use Rattle.router_log.specs.Moments.{seconds}
use Rattle.router_model.specs.Changes.{Change, unchanged}
use Rattle.router_model.specs.Decide.{decide_by}
use Rattle.router_model.specs.Hear.{Heard, hear, hear_by}
use Rattle.router_model.specs.Journal.{Journal, changed}
use Rattle.router_model.specs.Lifting.{Follows, Goes, Hears, MayGo, Ready, TableDecides, TableHears, TableNotes, TableTicks}
use Rattle.router_model.specs.Note.{note, noted}
use Rattle.router_model.specs.Parts.{Parts, Stands, standing_in, table, view_in, parts_in}
use Rattle.router_model.specs.Standing.{own_after, standing}
use Rattle.router_model.specs.Tick.{tick, ticked}
use Rattle.router_model.proofs.HearLemmas.{frames-lift}
use Rattle.router_model.proofs.NoteLemmas.{notes-lift}
use Rattle.router_model.proofs.SoundLemmas.{frame-sound}
use Rattle.router_model.proofs.StandsLemmas.{standing-sees}
use Rattle.router_model.proofs.TickLemmas.{ticks-lift}
use Rattle.router_model.proofs.UpsLemmas.{stands-in}

ready-for : (settings : Settings) (parts : Parts) (journal : Journal) (m more : ℕ) → Stands settings parts journal → MayGo journal m → more ≤ 2 ^ 61 → Ready settings m more journal
ready-for settings parts journal m more stands may few = record { proper = stands.proper; last = may.0; room = (let room = may.1 in omega (arith, room, few)) }

follows : (settings : Settings) (m more : ℕ) (t : Change Parts) (j : Change Journal) → Goes settings m more t j → Follows settings t j
follows settings m more t j goes = subst (λ u. Follows settings u j) (sym goes.same) (record { entries = refl; emits = refl; stands = record { proper = goes.ready.proper; whole = refl } })

pub table-decides : TableDecides
table-decides settings parts journal m frame stands =
    ap (λ p. decide_by (standing_in settings p) (view_in parts m) frame) stands.whole
    ∙ ap (λ s. decide_by s (view_in parts m) frame) (stands-in settings journal)
    ∙ ap (λ v. decide_by (standing settings journal) v frame) (standing-sees settings parts journal m stands)

pub table-notes : TableNotes
table-notes settings parts journal m notice stands may sound =
    subst (λ p. Follows settings (noted table (standing_in settings p) m notice (unchanged p)) (note settings journal m notice)) (sym stands.whole)
    (subst (λ s. Follows settings (noted table s m notice (unchanged (parts_in settings journal))) (note settings journal m notice)) (sym (stands-in settings journal))
    (follows settings m 0 _ _ (notes-lift settings (own_after settings journal) (changed journal) m 0 notice (unchanged journal) sound (ready-for settings parts journal m 1 stands may (omega arith)))))

pub table-ticks : TableTicks
table-ticks settings parts journal second stands may =
    let changes = stands.proper.may.few_changes in
    let databases = stands.proper.may.few_databases in
    subst (λ p. Follows settings (ticked table settings (seconds second) (unchanged p)) (tick settings journal second)) (sym stands.whole)
    (follows settings (seconds second) 0 _ _ (ticks-lift settings (seconds second) 0 (unchanged journal)
    (record { proper = stands.proper; last = may.0; room = (let room = may.1 in omega (arith, room, changes, databases)) })))

pub table-hears : TableHears
table-hears settings parts journal m frame stands may octets =
    subst (λ p. ((hear_by table (standing_in settings p) m frame (unchanged p)).verdict ≡ (hear settings journal m frame).verdict) × Follows settings (hear_by table (standing_in settings p) m frame (unchanged p)).change (hear settings journal m frame).change) (sym stands.whole)
    (subst (λ s. ((hear_by table s m frame (unchanged (parts_in settings journal))).verdict ≡ (hear settings journal m frame).verdict) × Follows settings (hear_by table s m frame (unchanged (parts_in settings journal))).change (hear settings journal m frame).change) (sym (stands-in settings journal))
    (hears (frames-lift settings (own_after settings journal) (changed journal) m 0 256 frame (unchanged journal) (frame-sound (standing settings journal) frame octets) (record { proper = stands.proper; last = may.0; room = (let room = may.1 in omega (arith, room)) }))))
  where
    hears : {t : Heard Parts} {j : Heard Journal} → Hears settings m 0 t j → (t.verdict ≡ j.verdict) × Follows settings t.change j.change
    hears {t} {j} h = (ap (λ (u : Heard Parts). u.verdict) h.same, follows settings m 0 t.change j.change (record { same = ap (λ (u : Heard Parts). u.change) h.same; ready = h.ready }))
