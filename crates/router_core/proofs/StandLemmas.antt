-- The site that stands: what of it is as the settings say, and what is lawful of it.
use Rattle.std.proofs.Common.{◌≡◌, ◌∙◌, ℕ, zero, suc, ◌+◌, ◌/◌, ◌<◌, ◌≤◌, ◌==◌, ◌||◌, not, Bool, true, false, cond, List, [], ◌∷◌, length, map, Option, Some, None, is_none, is_some, option_map, refl, sym, ap, ap₂, subst, arith, nat_lt}
use Rattle.std.specs.List.{All}
use Rattle.std.proofs.lemmas.Bool.Decides.{nat_tests}
use Rattle.std.proofs.lemmas.List.{length-map}
use Rattle.std.proofs.lemmas.List.Elements.{All-cons, All-nil, All-tail}
use Rattle.ip_headers.specs.Ip.{dest_of, source_of}
use Rattle.ip_headers.specs.declared.addr.Addr.{Addr}
use Rattle.ip_headers.specs.declared.header.IpHeader.{IpHeader}
use Rattle.capture_io.specs.Frame.{Frame}
use Rattle.mapping_records.specs.Eids.{same_address}
use Rattle.lisp_header.specs.Versions.{successor}
use Rattle.lisp_settings.specs.Home.{home_of}
use Rattle.lisp_settings.specs.Lawful.{IsLawful, IsLawfulDatabase}
use Rattle.lisp_settings.specs.declared.settings.Database.{Database}
use Rattle.lisp_settings.specs.declared.settings.OwnLocator.{OwnLocator}
use Rattle.lisp_settings.specs.declared.settings.Settings.{Settings}
use Rattle.router_log.specs.declared.verdict.Reason.TheVariants.{Multicast, NotSite}
use Rattle.router_log.specs.declared.verdict.Verdict.{Verdict}
use Rattle.router_log.specs.declared.verdict.Verdict.TheVariants.{Local, Drop}
use Rattle.router_model.specs.Course.{course_of}
use Rattle.router_model.specs.Decide.{is_multicast, site_cases}
use Rattle.router_model.specs.Site.{is_own}
use Rattle.router_model.specs.Standing.{standing_by, stepped, stood, stood_version, with_ups}
use Rattle.router_model.specs.declared.own.Own.{Own}
use Rattle.router_model.proofs.StandingLemmas.{course-with}
use Rattle.router_model.proofs.StoodLemmas.{databases-lawful, home-stood}
use Rattle.router_core.specs.Site.{IsSite}

-- ### own locators, whichever are up

pub length-ups : (ups : ℕ) (locators : List OwnLocator) → length (with_ups ups locators) ≡ length locators
length-ups ups [] = refl
length-ups ups (own ∷ others) = ap (λ (n : ℕ). suc n) (length-ups (ups / 2) others)

pub is_own-ups : (ups : ℕ) (locators : List OwnLocator) (x : Addr) → is_own (with_ups ups locators) x ≡ is_own locators x
is_own-ups ups [] x = refl
is_own-ups ups (own ∷ others) x = ap (λ b. same_address own.addr x || b) (is_own-ups (ups / 2) others x)

-- what a frame is doesn't depend on it
pub course-by : (settings : Settings) (own : Own) (frame : Frame) → course_of (standing_by settings own) frame ≡ course_of settings frame
course-by settings own frame =
    course-with settings (with_ups own.ups settings.locators) own.steps (is_own-ups own.ups settings.locators) frame

-- ### databases, however many steps on

none-stood : (steps : ℕ) (home : Option Database) → is_none (option_map (stood steps) home) ≡ is_none home
none-stood steps None = refl
none-stood steps (Some database) = refl

some-stood : (steps : ℕ) (home : Option Database) → is_some (option_map (stood steps) home) ≡ is_some home
some-stood steps None = refl
some-stood steps (Some database) = refl

-- the cases of a packet of an instance, by what is found of its addresses
abbrev cases_by : IpHeader → Bool → Bool → List (Bool × Verdict)
cases_by header away own = (not (is_multicast (dest_of header)), Drop Multicast) ∷ (away, Local) ∷ (own, Drop NotSite) ∷ []

-- whether a packet leaves the site doesn't depend on it
pub cases-by : (settings : Settings) (own : Own) (iid : ℕ) (header : IpHeader) → site_cases (standing_by settings own) iid header ≡ site_cases settings iid header
cases-by settings own iid header =
    let databases = settings.databases in
    let dest = dest_of header in
    let source = source_of header in
    ap₂ (cases_by header)
    (ap (λ (home : Option Database). is_none home) (home-stood own.steps databases iid dest) ∙ none-stood own.steps (home_of databases iid dest))
    (ap (λ (home : Option Database). is_some home) (home-stood own.steps databases iid source) ∙ some-stood own.steps (home_of databases iid source))

-- ### lawful settings

pub site-by : (settings : Settings) (own : Own) → IsLawful settings → IsSite (standing_by settings own)
site-by settings own lawful = record {
  ttl = lawful.ttl;
  few_locators = subst (λ (n : ℕ). n ≤ 32) (sym (length-ups own.ups settings.locators)) lawful.few_locators;
  few_databases = subst (λ (n : ℕ). n ≤ 64) (sym (length-map settings.databases (stood own.steps))) lawful.few_databases;
  databases = databases-lawful own.steps settings.databases lawful.databases;
  eids = lawful.eids;
}

-- a version past 4,095 stays there
past-stepped : (steps version : ℕ) → 4095 < version → 4095 < stepped steps version
past-stepped zero version past = past
past-stepped (suc steps) version past = next (stepped steps version) (past-stepped steps version past)
  where
    by : (n : ℕ) (b : Bool) → (n == 4095) ≡ b → 4095 < n → 4095 < cond b 1 (n + 1)
    by n true is past = absurd (grind (arith, nat_tests))
    by n false is past = omega (arith, past)

    next : (n : ℕ) → 4095 < n → 4095 < successor n
    next n past = by n (n == 4095) refl past

pub version-before : (steps version : ℕ) → stood_version steps version ≤ 4095 → version ≤ 4095
version-before steps version below = by (nat_lt 4095 version) refl
  where
    some : (b : Bool) → (version == 0) ≡ b → 4095 < version → cond b 0 (stepped steps version) ≤ 4095 → version ≤ 4095
    some true is past low = absurd (grind (arith, nat_tests))
    some false is past low = absurd (let high = past-stepped steps version past in omega (arith, high, low))

    by : (b : Bool) → nat_lt 4095 version ≡ b → version ≤ 4095
    by true is = some (version == 0) refl (grind (arith, nat_tests, is)) below
    by false is = grind (arith, nat_tests, is)

pub databases-before : (steps : ℕ) (databases : List Database) → All IsLawfulDatabase (map (stood steps) databases) → All IsLawfulDatabase databases
databases-before steps [] are = All-nil IsLawfulDatabase
databases-before steps (database ∷ others) are =
    All-cons IsLawfulDatabase database others
    (record { version = version-before steps database.version (are 0 (stood steps database) (omega arith)).version })
    (databases-before steps others (All-tail IsLawfulDatabase (stood steps database) (map (stood steps) others) are))
