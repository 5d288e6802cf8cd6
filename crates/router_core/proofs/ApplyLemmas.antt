-- What is known of an entry that may follow.
use Rattle.std.proofs.Common.{◌≡◌, ◌∙◌, ◌≤◌, ◌<◌, ◌^◌, ◌==◌, ◌||◌, ◌&&◌, ℕ, Bool, true, false, nat_lt, nat_le, ◌∷◌, length, List, Option, Some, None, is_some, IsTrue, sym, ap, subst, refl, arith}
use Rattle.std.specs.Option.{option_map_or}
use Rattle.std.proofs.lemmas.Bool.{eqb-true}
use Rattle.std.proofs.lemmas.Bool.Decides.{nat_tests}
use Rattle.ip_headers.specs.declared.addr.Addr.{Addr}
use Rattle.lisp_settings.specs.Instances.{requests_in}
use Rattle.lisp_settings.specs.declared.settings.Settings.{Settings}
use Rattle.map_cache.specs.Cache as cache
use Rattle.map_cache.specs.Cache.{lasting}
use Rattle.mapping_records.specs.declared.eid.Eid.{Eid}
use Rattle.mapping_records.specs.declared.record.Record.{Record}
use Rattle.request_queue.specs.Queue.{may_send_again, open_in, waiting, with_nonce}
use Rattle.request_queue.specs.declared.request.Request.{Request}
use Rattle.router_log.specs.declared.entry.Entry.{Entry}
use Rattle.router_log.specs.declared.entry.Entry.TheVariants.{Learned, Asked, Bits, EchoStarted, EchoWanted, Probed, Retried, Solicited}
use Rattle.router_model.specs.Journal.{Journal, moment_of}
use Rattle.router_model.specs.Mappings.{exact}
use Rattle.router_model.specs.Parts.{Parts, Stands, absorbed, admits, view_in, with_entry}
use Rattle.router_model.specs.Proper.{fits, may_retry, suits, is_admitted}
use Rattle.router_model.proofs.StandsLemmas.{standing-absorbs}
use Rattle.router_core.proofs.ChangeLemmas.{both, may_ask-place, requests-now}
use Rattle.router_core.specs.Bounded.{KeepLimits}
use Rattle.router_core.proofs.LengthLemmas.{below-most}
use Rattle.router_core.proofs.LimitLemmas.{learned-limits, learned-place}
use Rattle.router_model.specs.Standing.{may_change}

-- there is room in the journal, its moment isn't before the last one, and it suits what is seen
pub record May (p : Parts) (e : Entry) : Type 0 where
  pub few : p.count < 2 ^ 62
  pub later : p.now ≤ moment_of e
  pub suit : suits p.limits (view_in p (moment_of e)) e ≡ true
  pub change : may_change p.own p.steps e ≡ true

pub may : (p : Parts) (e : Entry) → admits p e ≡ true → May p e
unfolding admits
may p e is =
    let whole = both (is_admitted p.limits p.count p.now (view_in p (moment_of e)) e) _ is in
    let parts = both (nat_lt p.count (2 ^ 62) && nat_le p.now (moment_of e)) _ whole.0 in
    let numbers = both (nat_lt p.count (2 ^ 62)) _ parts.0 in
    record { few = below p.count numbers.0; later = upto p.now (moment_of e) numbers.1; suit = parts.1; change = whole.1 }
  where
    below : (n : ℕ) → nat_lt n (2 ^ 62) ≡ true → n < 2 ^ 62
    below n less = grind (arith, nat_tests)

    upto : (a b : ℕ) → nat_le a b ≡ true → a ≤ b
    upto a b less = grind (arith, nat_tests)

-- it is absorbed
pub is-absorbed : (p : Parts) (e : Entry) → admits p e ≡ true → with_entry e p ≡ absorbed p e
unfolding absorbed
is-absorbed p e is = rw is refl

-- the same where the entry is known
pub absorbed-as : (p : Parts) (e f : Entry) → e ≡ f → admits p e ≡ true → with_entry f p ≡ absorbed p e
absorbed-as p e f is admitted = ap (λ (g : Entry). with_entry g p) (sym is) ∙ is-absorbed p e admitted

-- and what then stands for a journal does so with the entry
pub stands-with : (settings : Settings) (p q : Parts) (journal : Journal) (e : Entry) → q ≡ absorbed p e → Stands settings p journal → fits settings journal e ≡ true → Stands settings q (e ∷ journal)
stands-with settings p q journal e is stands fit = subst (λ (r : Parts). Stands settings r (e ∷ journal)) (sym is) (standing-absorbs settings p journal e stands fit).1

-- a mapping that may be learned isn't fixed, has 32 locators at most, has its place, and what is left keeps to the limits
pub record MayLearn (p : Parts) (m : ℕ) (mapping : Record) (fixed : Bool) : Type 0 where
  pub learned : fixed ≡ false
  pub locators : length mapping.locators ≤ 32
  pub place : IsTrue (cache.has_room p.limits mapping false (lasting m p.mappings))
  pub keeps : KeepLimits p.limits (cache.learned m mapping false p.mappings)

pub may-learn : (p : Parts) (m : ℕ) (mapping : Record) (fixed : Bool) → KeepLimits p.limits p.mappings → admits p (Learned m mapping fixed) ≡ true → MayLearn p m mapping fixed
may-learn p m mapping true keeps is = absurd (let never : false ≡ true = (may p (Learned m mapping true) is).suit in cc)
may-learn p m mapping false keeps is =
    let known = may p (Learned m mapping false) is in
    let two = both (nat_le mapping.action 7 && (nat_le mapping.version 4095 && nat_le (length mapping.locators) 32)) _ known.suit in
    let range = both (nat_le mapping.version 4095) _ (both (nat_le mapping.action 7) _ two.0).1 in
    record {
      learned = refl;
      locators = upto (length mapping.locators) 32 range.1;
      place = learned-place p m mapping known.later keeps two.1;
      keeps = learned-limits p m mapping known.later keeps two.1;
    }
  where
    upto : (a b : ℕ) → nat_le a b ≡ true → a ≤ b
    upto a b less = grind (arith, nat_tests)

-- a request that may be made has its place
pub may-ask : (p : Parts) (m : ℕ) (eid : Eid) (source : Option Addr) (invoked : Bool) (nonce : ℕ) → admits p (Asked m eid source invoked nonce) ≡ true → open_in eid.iid (waiting m p.requests) < requests_in p.limits eid.iid
may-ask p m eid source invoked nonce is =
    let known = may p (Asked m eid source invoked nonce) is in
    may_ask-place p m eid.iid known.later known.suit

-- status bits that may be told are 32 at most
pub may-tell : (p : Parts) (m : ℕ) (eid : Eid) (bits width : ℕ) → admits p (Bits m eid bits width) ≡ true → width ≤ 32
may-tell p m eid bits width is = few width (both (is_some (exact (view_in p m).mappings eid)) _ (may p (Bits m eid bits width) is).suit).1
  where
    few : (n : ℕ) → ((n == 8) || (n == 32)) ≡ true → n ≤ 32
    few n is = by (n == 8) refl is
      where
        by : (b : Bool) → (n == 8) ≡ b → (b || (n == 32)) ≡ true → n ≤ 32
        by true eight is = let same = eqb-true n 8 eight in omega (arith, same)
        by false eight is = let same = eqb-true n 32 is in omega (arith, same)

-- the entry of such a mapping is absorbed
pub absorbed-learned : (p : Parts) (m : ℕ) (mapping : Record) (fixed : Bool) (e : Entry) → KeepLimits p.limits p.mappings → e ≡ Learned m mapping fixed → admits p e ≡ true → with_entry (Learned m mapping false) p ≡ absorbed p e
absorbed-learned p m mapping fixed e keeps is admitted =
    ap (λ (f : Bool). with_entry (Learned m mapping f) p) (sym (may-learn p m mapping fixed keeps (rw is at admitted)).learned)
    ∙ absorbed-as p e (Learned m mapping fixed) is admitted

-- a request that may be sent again is one that waits
pub may-retry : (p : Parts) (m nonce : ℕ) → admits p (Retried m nonce) ≡ true → IsTrue (may_send_again nonce (waiting m p.requests))
may-retry p m nonce is =
    let known = may p (Retried m nonce) is in
    again (with_nonce (waiting m p.requests) nonce) (ap (λ (l : List Request). may_retry (with_nonce l nonce)) (sym (requests-now p m known.later)) ∙ known.suit)
  where
    again : (o : Option Request) → may_retry o ≡ true → IsTrue (option_map_or (λ (r : Request). nat_lt r.sent_again 2) o false)
    again None is = cc
    again (Some r) is = is

-- a probe that may be sent is within the limit
pub may-probe : (p : Parts) (m : ℕ) (rloc : Addr) (nonce : ℕ) → admits p (Probed m rloc nonce) ≡ true → (view_in p m).probe_count < 9600
may-probe p m rloc nonce is = below-most (view_in p m).probe_count (may p (Probed m rloc nonce) is).suit

-- an echo that may be asked of a locator
pub may-start : (p : Parts) (m : ℕ) (rloc : Addr) (nonce : ℕ) → admits p (EchoStarted m rloc nonce) ≡ true → IsTrue ((view_in p m).may_start rloc)
may-start p m rloc nonce is = (both ((view_in p m).may_start rloc) _ (may p (EchoStarted m rloc nonce) is).suit).0

-- one that a locator may want
pub may-want : (p : Parts) (m : ℕ) (rloc : Addr) (nonce : ℕ) → admits p (EchoWanted m rloc nonce) ≡ true → IsTrue ((view_in p m).may_want rloc nonce)
may-want p m rloc nonce is = (both ((view_in p m).may_want rloc nonce) _ (may p (EchoWanted m rloc nonce) is).suit).0

-- an SMR that may be sent
pub may-solicit : (p : Parts) (m : ℕ) (rloc : Addr) (eid : Eid) (nonce : ℕ) → admits p (Solicited m rloc eid nonce) ≡ true → IsTrue ((view_in p m).may_solicit rloc eid)
may-solicit p m rloc eid nonce is = (may p (Solicited m rloc eid nonce) is).suit
