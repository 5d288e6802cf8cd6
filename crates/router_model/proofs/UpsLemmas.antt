-- Own locators of a journal, and the two numbers that tell which settings stand.
use Rattle.std.proofs.Common.{◌≡◌, ℕ, ◌+◌, ◌*◌, ◌/◌, Bool, true, false, cond, List, [], ◌∷◌, drop, get_or, length, refl, sym, ap, ap₂, ◌∙◌, arith, ne_eqb}
use Rattle.std.proofs.lemmas.Bool.{eq-eqb}
use Rattle.ip_headers.specs.declared.addr.Addr.{Addr}
use Rattle.lisp_settings.specs.declared.settings.OwnLocator.{OwnLocator}
use Rattle.lisp_settings.specs.declared.settings.Settings.{Settings}
use Rattle.router_log.specs.declared.entry.Entry.{Entry}
use Rattle.router_log.specs.declared.entry.Entry.TheVariants.{Changed}
use Rattle.router_model.specs.Journal.{Journal, changed}
use Rattle.router_model.specs.Lifting.{OwnTells}
use Rattle.router_model.specs.Mappings.{bit}
use Rattle.router_model.specs.Parts.{parts_in, standing_in}
use Rattle.router_model.specs.Site.{own_bits}
use Rattle.router_model.specs.Standing.{changed_by, changing, own_after, standing, standing_with, with_ups, without_ups, own_in, standing_by}

-- ### entries

changing-site : (address : Addr) (up : Bool) (locators : List OwnLocator) → without_ups (changing address up locators) ≡ without_ups locators
changing-site address up [] = refl
changing-site address up (own ∷ others) = ap (λ l. record own { up = false } ∷ l) (changing-site address up others)

pub changed-site : (entry : Entry) (locators : List OwnLocator) → without_ups (changed_by entry locators) ≡ without_ups locators
changed-site (Changed moment address up) locators = changing-site address up locators
changed-site _ locators = refl

-- the own locators of a journal are the settings'
pub own_after-site : (settings : Settings) (journal : Journal) → without_ups (own_after settings journal) ≡ without_ups settings.locators
own_after-site settings [] = refl
own_after-site settings (entry ∷ before) = changed-site entry (own_after settings before) ∙ own_after-site settings before

-- ### in two numbers

lowest : (b : Bool) (n : ℕ) → bit 0 (cond b 1 0 + 2 * n) ≡ b
lowest true n = eq-eqb _ _ (omega arith)
lowest false n = ne_eqb _ _ (omega arith)

halved : (b : Bool) (n : ℕ) → (cond b 1 0 + 2 * n) / 2 ≡ n
halved true n = omega arith
halved false n = omega arith

pub ups-tell : (one other : List OwnLocator) → without_ups one ≡ without_ups other → with_ups (own_bits one) other ≡ one
ups-tell [] [] same = refl
ups-tell [] (own ∷ others) same = absurd (let bad : ⊥ = omega (arith, ap (λ (l : List OwnLocator). length l) same) in bad)
ups-tell (own ∷ others) [] same = absurd (let bad : ⊥ = omega (arith, ap (λ (l : List OwnLocator). length l) same) in bad)
ups-tell (own ∷ one) (mine ∷ other) same =
    let first : record own { up = false } ≡ record mine { up = false } = ap (λ (l : List OwnLocator). get_or l 0 own) same in
    ap₂ (λ (o : OwnLocator) (l : List OwnLocator). o ∷ l)
    (ap (λ b. record mine { up = b }) (lowest own.up (own_bits one)) ∙ sym (ap (λ (o : OwnLocator). record o { up = own.up }) first))
    (ap (λ n. with_ups n other) (halved own.up (own_bits one)) ∙ ups-tell one other (ap (λ (l : List OwnLocator). drop 1 l) same))

-- they tell which settings stand
pub stands-by : (settings : Settings) (own : List OwnLocator) (steps : ℕ) → without_ups own ≡ without_ups settings.locators → standing_by settings (own_in own steps) ≡ standing_with settings own steps
stands-by settings own steps same = ap (λ (l : List OwnLocator). standing_with settings l steps) (ups-tell own settings.locators same)

pub own-tells : OwnTells
own-tells settings journal = stands-by settings (own_after settings journal) (changed journal) (own_after-site settings journal)

-- the settings that stand for a table are those that stand for its journal
pub stands-in : (settings : Settings) (journal : Journal) → standing_in settings (parts_in settings journal) ≡ standing settings journal
stands-in settings journal = own-tells settings journal
