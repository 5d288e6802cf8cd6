-- What a Map-Request is answered with.
use Rattle.std.proofs.Common.{◌≡◌, ℕ, ◌+◌, ◌*◌, ◌≤◌, ◌||◌, Bool, true, false, cond, List, [], ◌∷◌, length, map, filter, filter_map, flat_map, Option, Some, None, refl, ap, ◌∙◌, option_map, arith}
use Rattle.std.specs.List.{All, list_any, cons_option}
use Rattle.std.proofs.lemmas.List.{length-append, length-map}
use Rattle.std.proofs.lemmas.List.Concat.{flat_map-cons}
use Rattle.std.proofs.lemmas.List.Elements.{All-filter, All-map, All-weaker, filter_agree}
use Rattle.ip_headers.specs.declared.addr.Addr.{Addr}
use Rattle.ip_headers.specs.declared.addr.Addr.TheVariants.{V4, V6}
use Rattle.mapping_records.specs.Eid.{canonical_eid}
use Rattle.mapping_records.specs.Eids.{covers_eid}
use Rattle.mapping_records.specs.Locator.{canonical_locator, canonical_locators}
use Rattle.mapping_records.specs.Record.{InRange, canonical_record}
use Rattle.mapping_records.specs.declared.eid.Eid.{Eid}
use Rattle.mapping_records.specs.declared.record.Locator.{Locator}
use Rattle.mapping_records.specs.declared.record.Record.{Record}
use Rattle.map_messages.specs.Range.{InRangeReply}
use Rattle.map_messages.specs.Reply.{canonical_reply}
use Rattle.map_messages.specs.declared.message.MapReply.{MapReply}
use Rattle.map_messages.specs.declared.message.MapRequest.{MapRequest}
use Rattle.lisp_settings.specs.Lawful.{IsLawfulDatabase}
use Rattle.lisp_settings.specs.declared.settings.Database.{Database}
use Rattle.lisp_settings.specs.declared.settings.Settings.{Settings}
use Rattle.router_model.specs.Hear.{Asker, answering, answers, own_locator, own_record, reply_of}
use Rattle.router_model.specs.Site.{database_of}
use Rattle.router_core.specs.Site.{IsSite}
use Rattle.router_core.specs.Answering.{is_hit, standing_record}
use Rattle.router_core.proofs.WritableLemmas.{eid-short}
use Rattle.router_model.specs.Standing.{stood}
use Rattle.router_model.proofs.StoodLemmas.{database-stood}

any-map : {A B : Type 0} (test : B → Bool) (f : A → B) (items : List A) → list_any test (map f items) ≡ list_any (λ a. test (f a)) items
any-map test f [] = refl
any-map test f (a ∷ items) = ap (λ b. test (f a) || b) (any-map test f items)

-- the databases that answer are those within a hit
pub answering-hits : (databases : List Database) (eids : List Eid) (hits : List Eid) → hits ≡ map (λ (database : Database). database.eid) (filter_map (database_of databases) eids) → filter (is_hit hits) databases ≡ answering databases eids
answering-hits databases eids hits are =
    filter_agree (is_hit hits) (answers databases eids)
    (λ database. ap (λ l. is_hit l database) are ∙ any-map (λ hit. covers_eid hit database.eid) (λ (database : Database). database.eid) (filter_map (database_of databases) eids))
    databases

-- so their records make the reply
pub reply-made : (settings : Settings) (asker : Asker) (request : MapRequest) (probed : Option Addr) (hits : List Eid) (records : List Record) → records ≡ map (own_record settings probed) (filter (is_hit hits) settings.databases) → probed ≡ cond asker.probe (Some asker.dest) None → hits ≡ map (λ (database : Database). database.eid) (filter_map (database_of settings.databases) request.eids) → record { probe = asker.probe; nonce = request.nonce; mappings = records } ≡ reply_of settings asker request (answering settings.databases request.eids)
reply-made settings asker request probed hits records made probe are =
    ap (λ (l : List Record). record { probe = asker.probe; nonce = request.nonce; mappings = l })
    (made
    ∙ ap (λ (addr : Option Addr). map (own_record settings addr) (filter (is_hit hits) settings.databases)) probe
    ∙ ap (map (own_record settings (cond asker.probe (Some asker.dest) None))) (answering-hits settings.databases request.eids hits are))

-- no more answer than there are
filter-few : (test : Database → Bool) (databases : List Database) → length (filter test databases) ≤ length databases
filter-few test [] = omega arith
filter-few test (database ∷ others) = by (test database) (filter-few test others)
  where
    by : (b : Bool) → length (filter test others) ≤ length others → length (cond b (database ∷ filter test others) (filter test others)) ≤ length (database ∷ others)
    by true less = omega (arith, less)
    by false less = omega (arith, less)

module _ (settings : Settings) (lawful : IsSite settings) (probed : Option Addr) where
  record-range : (database : Database) → IsLawfulDatabase database → InRange (own_record settings probed database)
  record-range database is =
      let same : length (map (own_locator probed) settings.locators) ≡ length settings.locators = length-map settings.locators _ in
      record {
        action = omega arith;
        version = is.version;
        count = omega (arith, same, lawful.few_locators);
      }

  records-range : (databases : List Database) → All IsLawfulDatabase databases → All InRange (map (own_record settings probed) databases)
  records-range databases are =
      All-map InRange (own_record settings probed) databases (All-weaker IsLawfulDatabase _ record-range databases are)

  -- octets of locators
  locator-short : (locator : Locator) → length (canonical_locator locator) ≤ 24
  locator-short locator = by locator.addr
    where
      by : (addr : Addr) → length (canonical_locator (record locator { addr = addr })) ≤ 24
      by (V4 n) = omega arith
      by (V6 n) = omega arith

  locators-short : (locators : List Locator) → length (canonical_locators locators) ≤ 24 * length locators
  locators-short [] = omega arith
  locators-short (locator ∷ locators) =
      let split : length (flat_map canonical_locator (locator ∷ locators)) ≡ length (canonical_locator locator) + length (flat_map canonical_locator locators) =
      ap (λ (t : List ℕ). length t) (flat_map-cons canonical_locator locator locators) ∙ length-append (canonical_locator locator) (flat_map canonical_locator locators) in
      omega (arith, split, locator-short locator, locators-short locators)

  record-short : (database : Database) → length (canonical_record (own_record settings probed database)) ≤ 808
  record-short database =
      let locators : List Locator = map (own_locator probed) settings.locators in
      let same : length locators ≡ length settings.locators = length-map settings.locators _ in
      let eid : List ℕ = canonical_eid database.eid.iid (Some database.eid.prefix.addr) in
      omega (
        arith,
        same,
        lawful.few_locators,
        eid-short database.eid.iid database.eid.prefix.addr,
        locators-short locators,
        length-append eid (canonical_locators locators),
      )

  records-short : (databases : List Database) → length (flat_map canonical_record (map (own_record settings probed) databases)) ≤ 808 * length databases
  records-short [] = omega arith
  records-short (database ∷ others) =
      let one : List ℕ = canonical_record (own_record settings probed database) in
      let rest : List ℕ = flat_map canonical_record (map (own_record settings probed) others) in
      let split : length (flat_map canonical_record (map (own_record settings probed) (database ∷ others))) ≡ length one + length rest =
      ap (λ (t : List ℕ). length t) (flat_map-cons canonical_record (own_record settings probed database) (map (own_record settings probed) others)) ∙ length-append one rest in
      omega (arith, split, record-short database, records-short others)

module _ (settings : Settings) (lawful : IsSite settings) (asker : Asker) (request : MapRequest) where
  abbrev given : MapReply
  given = reply_of settings asker request (answering settings.databases request.eids)

  few : length (answering settings.databases request.eids) ≤ 64
  few = omega (arith, filter-few (answers settings.databases request.eids) settings.databases, lawful.few_databases)

  -- a reply is in range
  pub reply-range : InRangeReply (reply_of settings asker request (answering settings.databases request.eids))
  reply-range =
      let same : length given.mappings ≡ length (answering settings.databases request.eids) = length-map (answering settings.databases request.eids) _ in
      record {
        count = omega (arith, same, few);
        each = records-range settings lawful (cond asker.probe (Some asker.dest) None) (answering settings.databases request.eids) (All-filter (answers settings.databases request.eids) IsLawfulDatabase settings.databases lawful.databases);
      }

  -- and isn't long
  pub reply-short : length (canonical_reply (reply_of settings asker request (answering settings.databases request.eids))) ≤ 65000
  reply-short =
      omega (arith, few, records-short settings lawful (cond asker.probe (Some asker.dest) None) (answering settings.databases request.eids))

-- ### versions as they stand

-- what is hit doesn't depend on them
pub hits-stood : (steps : ℕ) (databases : List Database) (eids : List Eid) → map (λ (d : Database). d.eid) (filter_map (database_of (map (stood steps) databases)) eids) ≡ map (λ (d : Database). d.eid) (filter_map (database_of databases) eids)
hits-stood steps databases [] = refl
hits-stood steps databases (eid ∷ eids) =
    ap (λ (o : Option Database). map (λ (d : Database). d.eid) (cons_option o (filter_map (database_of (map (stood steps) databases)) eids))) (database-stood steps databases eid)
    ∙ by (database_of databases eid) (hits-stood steps databases eids)
  where
    by : (o : Option Database) → map (λ (d : Database). d.eid) (filter_map (database_of (map (stood steps) databases)) eids) ≡ map (λ (d : Database). d.eid) (filter_map (database_of databases) eids) → map (λ (d : Database). d.eid) (cons_option (option_map (stood steps) o) (filter_map (database_of (map (stood steps) databases)) eids)) ≡ map (λ (d : Database). d.eid) (cons_option o (filter_map (database_of databases) eids))
    by None rest = rest
    by (Some database) rest = ap (λ (l : List Eid). database.eid ∷ l) rest

-- and the records have them
pub standing-records : (site : Settings) (steps : ℕ) (probed : Option Addr) (hits : List Eid) (databases : List Database) → map (standing_record site steps probed) (filter (is_hit hits) databases) ≡ map (own_record site probed) (filter (is_hit hits) (map (stood steps) databases))
unfolding standing_record
standing-records site steps probed hits [] = refl
standing-records site steps probed hits (database ∷ others) = by (is_hit hits database) (standing-records site steps probed hits others)
  where
    by : (b : Bool) → map (standing_record site steps probed) (filter (is_hit hits) others) ≡ map (own_record site probed) (filter (is_hit hits) (map (stood steps) others)) → map (standing_record site steps probed) (cond b (database ∷ filter (is_hit hits) others) (filter (is_hit hits) others)) ≡ map (own_record site probed) (cond b (stood steps database ∷ filter (is_hit hits) (map (stood steps) others)) (filter (is_hit hits) (map (stood steps) others)))
    by true rest = ap (λ (l : List Record). own_record site probed (stood steps database) ∷ l) rest
    by false rest = rest
