-- Databases whose versions stepped on: which of them is found stays, and so do their ranges.
use Rattle.std.proofs.Common.{◌≡◌, ◌≤◌, ◌<◌, ℕ, zero, suc, ◌-◌, ◌+◌, ◌==◌, ◌||◌, ◌&&◌, nat_le, Bool, true, false, cond, List, [], ◌∷◌, All, filter, filter_map, fold, map, Option, Some, None, option_map, refl, ap, ◌∙◌, arith, mod-lt}
use Rattle.std.specs.List.{cons_option, list_any}
use Rattle.std.proofs.lemmas.List.Elements.{All-map, All-weaker}
use Rattle.ip_headers.specs.Addr.{width}
use Rattle.ip_headers.specs.declared.addr.Addr.{Addr}
use Rattle.mapping_records.specs.Eids.{covers_eid, covers_prefix, longer, longest}
use Rattle.mapping_records.specs.declared.eid.Eid.{Eid}
use Rattle.lisp_settings.specs.Home.{home_of}
use Rattle.lisp_settings.specs.Lawful.{IsLawfulDatabase}
use Rattle.lisp_settings.specs.declared.settings.Database.{Database}
use Rattle.router_model.specs.Emits.{database_address}
use Rattle.router_model.specs.Site.{database_of}
use Rattle.router_model.specs.Standing.{stood, stood_version}
use Rattle.router_model.proofs.StandingLemmas.{versions-step}

module _ (steps : ℕ) where
  -- those with EIDs that pass a test
  filter-stood : (test : Eid → Bool) (databases : List Database) → filter (λ (d : Database). test d.eid) (map (stood steps) databases) ≡ map (stood steps) (filter (λ (d : Database). test d.eid) databases)
  filter-stood test [] = refl
  filter-stood test (d ∷ databases) = by (test d.eid) (filter-stood test databases)
    where
      by : (b : Bool) → filter (λ (d : Database). test d.eid) (map (stood steps) databases) ≡ map (stood steps) (filter (λ (d : Database). test d.eid) databases) → cond b (stood steps d ∷ filter (λ (d : Database). test d.eid) (map (stood steps) databases)) (filter (λ (d : Database). test d.eid) (map (stood steps) databases)) ≡ map (stood steps) (cond b (d ∷ filter (λ (d : Database). test d.eid) databases) (filter (λ (d : Database). test d.eid) databases))
      by true h = ap (λ l. stood steps d ∷ l) h
      by false h = h

  longer-stood : (best : Option Database) (d : Database) → longer (λ (d : Database). d.eid) (option_map (stood steps) best) (stood steps d) ≡ option_map (stood steps) (longer (λ (d : Database). d.eid) best d)
  longer-stood None d = refl
  longer-stood (Some best) d = by (nat_le d.eid.prefix.len best.eid.prefix.len)
    where
      by : (b : Bool) → cond b (Some (stood steps best)) (Some (stood steps d)) ≡ option_map (stood steps) (cond b (Some best) (Some d))
      by true = refl
      by false = refl

  fold-stood : (best : Option Database) (databases : List Database) → fold (longer (λ (d : Database). d.eid)) (option_map (stood steps) best) (map (stood steps) databases) ≡ option_map (stood steps) (fold (longer (λ (d : Database). d.eid)) best databases)
  fold-stood best [] = refl
  fold-stood best (d ∷ databases) =
      ap (λ o. fold (longer (λ (d : Database). d.eid)) o (map (stood steps) databases)) (longer-stood best d)
      ∙ fold-stood (longer (λ (d : Database). d.eid) best d) databases

  -- the longest that covers a prefix
  pub longest-stood : (databases : List Database) (iid : ℕ) (addr : Addr) (len : ℕ) → longest (λ (d : Database). d.eid) (map (stood steps) databases) iid addr len ≡ option_map (stood steps) (longest (λ (d : Database). d.eid) databases iid addr len)
  longest-stood databases iid addr len =
      ap (fold (longer (λ (d : Database). d.eid)) None) (filter-stood (λ eid. covers_prefix eid iid addr len) databases)
      ∙ fold-stood None (filter (λ (d : Database). covers_prefix d.eid iid addr len) databases)

  -- that of an address, and of an EID
  pub home-stood : (databases : List Database) (iid : ℕ) (addr : Addr) → home_of (map (stood steps) databases) iid addr ≡ option_map (stood steps) (home_of databases iid addr)
  home-stood databases iid addr = longest-stood databases iid addr (width addr)

  pub database-stood : (databases : List Database) (eid : Eid) → database_of (map (stood steps) databases) eid ≡ option_map (stood steps) (database_of databases eid)
  database-stood databases eid = longest-stood databases eid.iid eid.prefix.addr eid.prefix.len

  -- those that answer EIDs
  hits-stood : (databases : List Database) (eids : List Eid) (eid : Eid) → list_any (λ (hit : Database). covers_eid hit.eid eid) (filter_map (database_of (map (stood steps) databases)) eids) ≡ list_any (λ (hit : Database). covers_eid hit.eid eid) (filter_map (database_of databases) eids)
  hits-stood databases [] eid = refl
  hits-stood databases (one ∷ eids) eid =
      ap (λ o. list_any (λ (hit : Database). covers_eid hit.eid eid) (cons_option o (filter_map (database_of (map (stood steps) databases)) eids))) (database-stood databases one)
      ∙ by (database_of databases one) (hits-stood databases eids eid)
    where
      by : (o : Option Database) → list_any (λ (hit : Database). covers_eid hit.eid eid) (filter_map (database_of (map (stood steps) databases)) eids) ≡ list_any (λ (hit : Database). covers_eid hit.eid eid) (filter_map (database_of databases) eids) → list_any (λ (hit : Database). covers_eid hit.eid eid) (cons_option (option_map (stood steps) o) (filter_map (database_of (map (stood steps) databases)) eids)) ≡ list_any (λ (hit : Database). covers_eid hit.eid eid) (cons_option o (filter_map (database_of databases) eids))
      by None h = h
      by (Some hit) h = ap (λ b. covers_eid hit.eid eid || b) h

  -- the least address of an EID's instance and family
  pub address-stood : (databases : List Database) (eid : Eid) → database_address (map (stood steps) databases) eid ≡ database_address databases eid
  address-stood [] eid = refl
  address-stood (d ∷ databases) eid = by ((d.eid.iid == eid.iid) && (width d.eid.prefix.addr == width eid.prefix.addr)) (address-stood databases eid)
    where
      by : (b : Bool) → database_address (map (stood steps) databases) eid ≡ database_address databases eid → cond b (Some d.eid.prefix.addr) (database_address (map (stood steps) databases) eid) ≡ cond b (Some d.eid.prefix.addr) (database_address databases eid)
      by true h = refl
      by false h = h

  -- versions keep their bits
  pub version-below : (version : ℕ) → version ≤ 4095 → stood_version steps version ≤ 4095
  version-below zero few = omega arith
  version-below (suc n) few =
      let is = (versions-step steps).1 (suc n) (omega arith) few in
      let less = mod-lt (suc n - 1 + steps) (let some : 0 < 4095 = omega arith in some) in
      omega (arith, is, less)

  pub databases-lawful : (databases : List Database) → All IsLawfulDatabase databases → All IsLawfulDatabase (map (stood steps) databases)
  databases-lawful databases all =
      All-map IsLawfulDatabase (stood steps) databases
      (All-weaker IsLawfulDatabase (λ d. IsLawfulDatabase (stood steps d)) (λ d lawful. record { version = version-below d.version lawful.version }) databases all)
