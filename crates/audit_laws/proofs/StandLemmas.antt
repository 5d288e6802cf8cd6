-- The settings that stand: they have the nonces and the own addresses of the router's, and what lawful ones have.
use Rattle.std.proofs.Common.{◌≡◌, ℕ, ◌+◌, Bool, false, cond, List, None, [], ◌∷◌, sym, ap, ap₂, subst, ◌∙◌, arith}
use Rattle.std.specs.List.{All}
use Rattle.std.proofs.lemmas.List.Elements.{All-map, All-weaker}
use Rattle.ip_headers.specs.Ip.{header_at, source_of}
use Rattle.ip_headers.specs.declared.addr.Addr.{Addr}
use Rattle.mapping_records.specs.Eids.{same_address}
use Rattle.lisp_settings.specs.Lawful.{IsLawful}
use Rattle.lisp_settings.specs.declared.settings.OwnLocator.{OwnLocator}
use Rattle.lisp_settings.specs.declared.settings.Settings.{Settings}
use Rattle.router_log.specs.declared.emit.Emit.{Emit}
use Rattle.router_log.specs.declared.entry.Entry.{Entry}
use Rattle.router_log.specs.declared.entry.Entry.TheVariants.{Changed}
use Rattle.router_log.specs.declared.notice.Notice.{Notice}
use Rattle.router_model.specs.Changes.{Change, each, entered, journal as of_journal}
use Rattle.router_model.specs.Course.{arriving}
use Rattle.router_model.specs.Journal.{Journal, changed, is_changed}
use Rattle.router_model.specs.Note.{noted}
use Rattle.router_model.specs.Standing.{changed_by, changing, own_after, own_in, standing, standing_with}
use Rattle.router_model.specs.Tick.{after_changes}
use Rattle.router_model.proofs.PartsLemmas.{count-more}
use Rattle.router_model.proofs.StandingLemmas.{is_own-after}
use Rattle.router_model.proofs.StayLemmas.{stays-after, stays-each, stays-noted}
use Rattle.router_model.proofs.StillLemmas.{own-still}
use Rattle.router_model.proofs.UpsLemmas.{own-tells}
use Rattle.router_core.specs.Site.{IsSite}
use Rattle.router_core.proofs.StandLemmas.{site-by}
use Rattle.audit.specs.Requests.{course_nonce}
use Rattle.audit_laws.specs.Drawn.{IsInRange}
use Rattle.audit_laws.proofs.CourseLemmas.{at_front}
use Rattle.audit_laws.proofs.NonceLemmas.{packet_nonce}

pub lawful-site : (settings : Settings) → IsLawful settings → IsSite settings
lawful-site settings lawful = record {
  ttl = lawful.ttl;
  few_locators = lawful.few_locators;
  few_databases = lawful.few_databases;
  databases = lawful.databases;
  eids = lawful.eids;
}

module _ (settings : Settings) (journal : Journal) where
  pub site-stands : IsLawful settings → IsSite (standing settings journal)
  site-stands lawful = subst IsSite (own-tells settings journal) (site-by settings (own_in (own_after settings journal) (changed journal)) lawful)

  -- an own locator is one of the router's
  pub nonce-stands : (octets : List ℕ) → packet_nonce (standing settings journal).locators octets ≡ packet_nonce settings.locators octets
  nonce-stands octets = ap (λ (own : Bool). cond own (course_nonce (arriving (at_front (header_at octets) octets))) None) (is_own-after settings journal (source_of (header_at octets)))

range-changing : (address : Addr) (up : Bool) (locators : List OwnLocator) → All IsInRange locators → All IsInRange (changing address up locators)
range-changing address up locators all =
    let put : OwnLocator → OwnLocator = λ (own : OwnLocator). record own { up = cond (same_address own.addr address) up own.up } in
    All-map IsInRange put locators (All-weaker IsInRange (λ own. IsInRange (put own)) (λ own is. record { addr = is.addr; priority = is.priority; weight = is.weight }) locators all)

range-by : (entry : Entry) (locators : List OwnLocator) → All IsInRange locators → All IsInRange (changed_by entry locators)
range-by (Changed moment address up) locators all = range-changing address up locators all
range-by _ locators all = all

-- the numbers of own locators fit their types, whichever of them are up
pub range-stands : (settings : Settings) (journal : Journal) → All IsInRange settings.locators → All IsInRange (own_after settings journal)
range-stands settings [] all = all
range-stands settings (entry ∷ before) all = range-by entry (own_after settings before) (range-stands settings before all)

-- ### what leaves them

changed-same : (e : Entry) (journal : Journal) → is_changed e ≡ false → changed (e ∷ journal) ≡ changed journal
changed-same e journal is =
    sym (count-more is_changed e journal) ∙ ap (λ b. cond b 1 0 + changed journal) is ∙ (let same : 0 + changed journal ≡ changed journal = omega arith in same)

module _ (settings here : Settings) (by : Settings) (m : ℕ) where
  abbrev Stays : Change Journal → Type 0
  Stays change = standing settings change.after ≡ here

  stays-entered : (e : Entry) → is_changed e ≡ false → (change : Change Journal) → Stays change → Stays (entered of_journal by m e change)
  stays-entered e is change stays =
      ap₂ (λ (l : List OwnLocator) (n : ℕ). standing_with settings l n) (own-still e (own_after settings change.after) is) (changed-same e change.after is) ∙ stays

  -- notices
  pub noted-stands : (notices : List Notice) (change : Change Journal) → Stays change → Stays (each (noted of_journal by m) notices change)
  noted-stands notices change stays =
      stays-each of_journal by m Stays stays-entered (λ (packet : Emit) c h. h) (noted of_journal by m) (stays-noted of_journal by m Stays stays-entered (λ (packet : Emit) c h. h)) notices change stays

  -- what follows the changes of a second
  pub followed-stands : (came : Bool) (change : Change Journal) → Stays change → Stays (after_changes of_journal by m came change)
  followed-stands came change stays = stays-after of_journal by m Stays stays-entered (λ (packet : Emit) c h. h) came change stays
