-- A second is for a table what it is for the journal.
use Rattle.std.proofs.Common.{◌≡◌, ℕ, zero, suc, ◌+◌, ◌*◌, ◌≤◌, ◌==◌, ◌||◌, ◌&&◌, min, nat_le, nat_lt, not, Bool, true, false, cond, List, [], ◌∷◌, drop, length, take, slice_get, filter, filter_map, Option, Some, None, refl, sym, ap, ap₂, subst, ◌∙◌, arith}
use Rattle.std.specs.List.{AllByRecursion, cons_option, list_all}
use Rattle.std.proofs.lemmas.Bool.{eq-eqb}
use Rattle.std.proofs.lemmas.Bool.Decides.{nat_tests}
use Rattle.std.proofs.lemmas.Cmp.{nat_eq_equiv}
use Rattle.std.proofs.Math.Nat.{mul-le-mul_right}
use Rattle.std.proofs.lemmas.List.{length-drop, length-map, length-take}
use Rattle.std.proofs.lemmas.List.Sums.{count_by-le-length, length-filter}
use Rattle.ip_headers.specs.declared.addr.Addr.{Addr}
use Rattle.lisp_settings.specs.declared.settings.Change.{Change as OwnChange}
use Rattle.lisp_settings.specs.declared.settings.Database.{Database}
use Rattle.lisp_settings.specs.declared.settings.OwnLocator.{OwnLocator}
use Rattle.lisp_settings.specs.declared.settings.Settings.{Settings}
use Rattle.router_log.specs.declared.emit.Emit.TheVariants as emit
use Rattle.router_log.specs.declared.entry.Entry.TheVariants as entry
use Rattle.request_queue.specs.Queue.{due, with_nonce}
use Rattle.request_queue.specs.declared.request.Request.{Request}
use Rattle.router_model.specs.Changes.{Change, each, journal as of_journal, next_nonce, seen}
use Rattle.router_log.specs.Moments.{seconds, younger}
use Rattle.router_log.specs.declared.entry.Entry.{Entry}
use Rattle.router_model.specs.Journal.{Journal, changed, is_changed}
use Rattle.router_model.specs.Lifting.{Goes, Ready, TicksLift, tabled}
use Rattle.router_model.specs.Note.{solicited}
use Rattle.router_model.specs.Parts.{Parts, standing_in, table}
use Rattle.router_model.specs.Proper.{AreInTurn, may_retry}
use Rattle.router_model.specs.Site.{reaches_resolver}
use Rattle.router_model.specs.Standing.{due_changes, is_change, own_after, standing, standing_with, stood}
use Rattle.router_model.specs.Requests.{asked_nonces, open_requests}
use Rattle.locator_state.specs.declared.target.Target.{Target}
use Rattle.router_model.specs.Tick.{after_changes, all_changed, all_probed, all_retried, all_told, candidates, first_told, made, named, next_targets, probed, probed_with, retried, retried_where, some_came, ticked, told, told_all}
use Rattle.router_model.specs.View.{View}
use Rattle.router_model.proofs.FewLemmas.{requests-few, seen-now, seen-requests}
use Rattle.router_model.proofs.HearLemmas.{fewer-ready, goes-each}
use Rattle.router_model.proofs.LiftLemmas.{goes-emitted, goes-entered, goes-if, nonce-next, nonce-same, seen-same}
use Rattle.router_model.proofs.PartsLemmas.{count-more}
use Rattle.router_model.proofs.RequestLemmas.{AreApart, Misses, nonces-apart, open-has, open_in, with_nonce-is}
use Rattle.router_model.proofs.StandingLemmas.{same-address, same_up-refl}
use Rattle.router_model.proofs.UpsLemmas.{stands-in}

-- what is due was sent again less than twice
due-again : (t : ℕ) (r : Request) → due t r ≡ true → nat_lt r.sent_again 2 ≡ true
due-again t r is = by (r.sent_again == 0) (r.sent_again == 1) refl refl is
  where
    none : (r.sent_again == 0) ≡ true → nat_lt r.sent_again 2 ≡ true
    none never = grind (arith, nat_tests)

    one : (r.sent_again == 1) ≡ true → nat_lt r.sent_again 2 ≡ true
    one once = grind (arith, nat_tests)

    by : (b c : Bool) → (r.sent_again == 0) ≡ b → (r.sent_again == 1) ≡ c → (b && not (younger t 1 r.start) || c && not (younger t 3 r.start)) ≡ true → nat_lt r.sent_again 2 ≡ true
    by true c never once is = none never
    by false true never once is = one once
    by false false never once is = cc

-- requests that are open, may be sent again, and have each a nonce of its own
abbrev pub MissesNonce : ℕ → List Request → Type 0
MissesNonce n [] = Unit {0}
MissesNonce n (r ∷ rs) = ((r.nonce == n) ≡ false) × MissesNonce n rs

abbrev pub AreDue : ℕ → Journal → List Request → Type 0
AreDue t journal [] = Unit {0}
AreDue t journal (r ∷ rs) =
    (open_in t journal r.nonce ≡ Some r) × ((nat_lt r.sent_again 2 ≡ true) × (MissesNonce r.nonce rs × AreDue t journal rs))

module _ (t : ℕ) (journal : Journal) where
  due-misses : (n : ℕ) (ks : List ℕ) → Misses n ks → MissesNonce n (filter (due t) (filter_map (open_in t journal) ks))
  due-misses n [] misses = tt
  due-misses n (k ∷ ks) misses = by (open_in t journal k) refl (due-misses n ks misses.1)
    where
      found : (r : Request) (b : Bool) → open_in t journal k ≡ Some r → MissesNonce n (filter (due t) (filter_map (open_in t journal) ks)) → MissesNonce n (cond b (r ∷ filter (due t) (filter_map (open_in t journal) ks)) (filter (due t) (filter_map (open_in t journal) ks)))
      found r true is h = (ap (λ m. m == n) (open-has t journal k r is) ∙ misses.0, h)
      found r false is h = h

      by : (o : Option Request) → open_in t journal k ≡ o → MissesNonce n (filter (due t) (filter_map (open_in t journal) ks)) → MissesNonce n (filter (due t) (cons_option o (filter_map (open_in t journal) ks)))
      by None is h = h
      by (Some r) is h = found r (due t r) is h

  due-from : (ks : List ℕ) → AreApart ks → AreDue t journal (filter (due t) (filter_map (open_in t journal) ks))
  due-from [] apart = tt
  due-from (k ∷ ks) apart = by (open_in t journal k) refl (due-from ks apart.1)
    where
      found : (r : Request) (b : Bool) → due t r ≡ b → open_in t journal k ≡ Some r → AreDue t journal (filter (due t) (filter_map (open_in t journal) ks)) → AreDue t journal (cond b (r ∷ filter (due t) (filter_map (open_in t journal) ks)) (filter (due t) (filter_map (open_in t journal) ks)))
      found r true owed is h =
          let has = open-has t journal k r is in
          (ap (open_in t journal) has ∙ is, (due-again t r owed, (subst (λ n. MissesNonce n (filter (due t) (filter_map (open_in t journal) ks))) (sym has) (due-misses k ks apart.0), h)))
      found r false owed is h = h

      by : (o : Option Request) → open_in t journal k ≡ o → AreDue t journal (filter (due t) (filter_map (open_in t journal) ks)) → AreDue t journal (filter (due t) (cons_option o (filter_map (open_in t journal) ks)))
      by None is h = h
      by (Some r) is h = found r (due t r) refl is h

  -- the requests that are due
  pub requests-due : AreDue t journal (filter (due t) (open_requests t journal))
  requests-due = due-from (asked_nonces journal) (nonces-apart journal)

  -- one that is sent again leaves the others
  pub still-due : (m n : ℕ) (rs : List Request) → MissesNonce n rs → AreDue t journal rs → AreDue t (entry.Retried m n ∷ journal) rs
  still-due m n [] misses owed = tt
  still-due m n (r ∷ rs) misses owed =
      (rw (nat_eq_equiv.symm n r.nonce, misses.0) owed.0, (owed.1.0, (owed.1.1.0, still-due m n rs misses.1 owed.1.1.1)))

module _ (settings : Settings) (m : ℕ) where
  -- one request
  goes-retried : (more : ℕ) (r : Request) (change : Change Journal) → open_in m change.after r.nonce ≡ Some r → nat_lt r.sent_again 2 ≡ true → Ready settings m (suc more) change.after → Goes settings m more (retried table settings m r (tabled settings change)) (retried of_journal settings m r change)
  goes-retried more r change found again ready =
      goes-emitted settings m more (emit.Request r.eid r.source r.invoked r.nonce) _ _
      (goes-entered settings m more change (entry.Retried m r.nonce) ready refl refl
      (ap (λ l. may_retry (with_nonce l r.nonce)) (seen-requests change.after m ready.last) ∙ ap may_retry (with_nonce-is m r.nonce change.after ∙ found) ∙ again) refl)

  -- all of them
  goes-all_retried : (rs : List Request) (more : ℕ) (t : Change Parts) (j : Change Journal) → AreDue m j.after rs → Goes settings m (more + length rs) t j → Goes settings m more (each (retried table settings m) rs t) (each (retried of_journal settings m) rs j)
  goes-all_retried [] more t j owed goes = record { same = goes.same; ready = fewer-ready settings m (more + 0) more j.after (omega arith) goes.ready }
  goes-all_retried (r ∷ rs) more t j owed goes =
      goes-all_retried rs more (retried table settings m r t) (retried of_journal settings m r j) (still-due m j.after m r.nonce rs owed.1.1.0 owed.1.1.1)
      (subst (λ u. Goes settings m (more + length rs) (retried table settings m r u) (retried of_journal settings m r j)) (sym goes.same)
      (goes-retried (more + length rs) r j owed.0 owed.1.0 (fewer-ready settings m (more + suc (length rs)) (suc (more + length rs)) j.after (omega arith) goes.ready)))

  -- one probe
  goes-probed : (more : ℕ) (target : Target) (change : Change Journal) → Ready settings m (suc more) change.after → Goes settings m more (probed table settings m target (tabled settings change)) (probed of_journal settings m target change)
  goes-probed more target change ready =
      goes-if settings m more change (λ v. nat_lt v.probe_count 9600) _ _ ready
      (λ is. subst (λ n. Goes settings m more (probed_with table settings m n target (tabled settings change)) (probed_with of_journal settings m (next_nonce of_journal settings m change) target change))
      (sym (nonce-same settings m (suc more) change ready))
      (goes-emitted settings m more (emit.Probe target.rloc target.eid (next_nonce of_journal settings m change)) _ _
      (goes-entered settings m more change (entry.Probed m target.rloc (next_nonce of_journal settings m change)) ready refl refl is (eq-eqb _ _ (nonce-next settings m change)))))

  all-pass : (items : List Target) → list_all (λ a. true) items ≡ true
  all-pass [] = refl
  all-pass (a ∷ items) = all-pass items

  few : (n k : ℕ) → n ≡ min 16 k → n ≤ 16
  few n k is = omega (arith, is)

  -- as many are due as are open, at most
  goes-retried_first : (more : ℕ) (change : Change Journal) → Ready settings m (more + length (seen of_journal settings m change).requests) change.after → Goes settings m more (all_retried table settings m (tabled settings change)) (all_retried of_journal settings m change)
  goes-retried_first more change ready =
      subst (λ v. Goes settings m more (each (retried table settings m) (filter (due v.now) v.requests) (tabled settings change)) (all_retried of_journal settings m change))
      (sym (seen-same settings m _ change ready))
      (goes-all_retried (filter (due v.now) v.requests) more (tabled settings change) change
      (subst (λ l. AreDue m change.after l) (sym (ap₂ (λ now l. filter (due now) l) (seen-now change.after m ready.last) (seen-requests change.after m ready.last))) (requests-due m change.after))
      (record { same = refl; ready = fewer-ready settings m _ _ change.after (less _ _ _ (length-filter (due v.now) v.requests) (count_by-le-length (due v.now) v.requests)) ready }))
    where
      v : View
      v = seen of_journal settings m change

      less : (n k l : ℕ) → n ≡ k → k ≤ l → more + n ≤ more + l
      less n k l is few = omega (arith, is, few)

-- ### what follows the changes of own locators

module _ (settings : Settings) (locators : List OwnLocator) (steps m : ℕ) where
  -- the settings that stand
  abbrev stands : Settings
  stands = standing_with settings locators steps

  goes-all_probed : (more : ℕ) (change : Change Journal) → Ready settings m (more + 16) change.after → Goes settings m more (all_probed table stands m (tabled settings change)) (all_probed of_journal stands m change)
  goes-all_probed more change ready =
      subst (λ v. Goes settings m more (cond stands.probe (each (probed table stands m) (next_targets stands v) (tabled settings change)) (tabled settings change)) (all_probed of_journal stands m change))
      (sym (seen-same settings m _ change ready)) (by stands.probe)
    where
      v : View
      v = seen of_journal stands m change

      count : length (next_targets stands v) ≤ 16
      count = few settings m _ _ (length-take 16 (candidates stands v))

      by : (b : Bool) → Goes settings m more (cond b (each (probed table stands m) (next_targets stands v) (tabled settings change)) (tabled settings change)) (cond b (each (probed of_journal stands m) (next_targets stands v) change) change)
      by true =
          goes-each settings m (probed table stands m) (probed of_journal stands m) (λ target. true) (λ more target change pass ready. goes-probed settings m more target change ready) (next_targets stands v) (all-pass settings m (next_targets stands v)) more (tabled settings change) change
          (record { same = refl; ready = fewer-ready settings m (more + 16) (more + length (next_targets stands v)) change.after (omega (arith, count)) ready })
      by false = record { same = refl; ready = fewer-ready settings m (more + 16) more change.after (omega arith) ready }

  goes-retried_where : (reaches : Bool) (more : ℕ) (change : Change Journal) → Ready settings m (more + 16384) change.after → Goes settings m more (retried_where table stands m reaches (tabled settings change)) (retried_where of_journal stands m reaches change)
  goes-retried_where true more change ready =
      let few = requests-few settings change.after m ready.proper ready.last in
      goes-retried_first settings m more change (fewer-ready settings m (more + 16384) _ change.after (omega (arith, few)) ready)
  goes-retried_where false more change ready = record { same = refl; ready = fewer-ready settings m (more + 16384) more change.after (omega arith) ready }

  -- one locator is told of one prefix
  goes-told : (address : Addr) (more : ℕ) (database : Database) (change : Change Journal) → Ready settings m (suc more) change.after → Goes settings m more (told table stands m address database (tabled settings change)) (told of_journal stands m address database change)
  goes-told address more database change ready =
      goes-if settings m more change (λ v. v.may_solicit address database.eid) _ _ ready
      (λ is. subst (λ n. Goes settings m more (solicited table stands m n address database.eid (tabled settings change)) (solicited of_journal stands m (next_nonce of_journal settings m change) address database.eid change))
      (sym (nonce-same settings m (suc more) change ready))
      (goes-emitted settings m more (emit.Solicit address database.eid (next_nonce of_journal settings m change)) _ _
      (goes-entered settings m more change (entry.Solicited m address database.eid (next_nonce of_journal settings m change)) ready refl refl is (eq-eqb _ _ (nonce-next settings m change)))))

  all-databases : (items : List Database) → list_all (λ a. true) items ≡ true
  all-databases [] = refl
  all-databases (a ∷ items) = all-databases items

  -- of each
  goes-told_all : (address : Addr) (more : ℕ) (t : Change Parts) (j : Change Journal) → Goes settings m (more + length stands.databases) t j → Goes settings m more (told_all table stands m address t) (told_all of_journal stands m address j)
  goes-told_all address more t j goes =
      goes-each settings m (told table stands m address) (told of_journal stands m address) (λ database. true) (λ more database change pass ready. goes-told address more database change ready) stands.databases (all-databases stands.databases) more t j goes

  -- each locator is
  goes-each_told : (addresses : List Addr) (more : ℕ) (t : Change Parts) (j : Change Journal) → Goes settings m (more + length addresses * length stands.databases) t j → Goes settings m more (each (told_all table stands m) addresses t) (each (told_all of_journal stands m) addresses j)
  goes-each_told [] more t j goes = record { same = goes.same; ready = fewer-ready settings m _ more j.after (omega arith) goes.ready }
  goes-each_told (address ∷ addresses) more t j goes =
      goes-each_told addresses more (told_all table stands m address t) (told_all of_journal stands m address j)
      (goes-told_all address (more + length addresses * length stands.databases) t j
      (record { same = goes.same; ready = fewer-ready settings m (more + suc (length addresses) * length stands.databases) ((more + length addresses * length stands.databases) + length stands.databases) j.after (omega arith) goes.ready }))

  first-few : (addresses : List Addr) → length (first_told addresses) ≤ 64
  unfolding first_told
  first-few addresses = fewest (length (take 64 addresses)) (length addresses) (length-take 64 addresses)
    where
      fewest : (n k : ℕ) → n ≡ min 64 k → n ≤ 64
      fewest n k is = omega (arith, is)

  goes-all_told : (came : Bool) (more : ℕ) (change : Change Journal) → Ready settings m (more + 64 * length stands.databases) change.after → Goes settings m more (all_told table stands m came (tabled settings change)) (all_told of_journal stands m came change)
  goes-all_told true more change ready =
      let v : View = seen of_journal stands m change in
      let few = mul-le-mul_right (length stands.databases) (first-few (named stands v)) in
      subst (λ v. Goes settings m more (each (told_all table stands m) (first_told (named stands v)) (tabled settings change)) (all_told of_journal stands m true change))
      (sym (seen-same settings m _ change ready))
      (goes-each_told (first_told (named stands v)) more (tabled settings change) change
      (record { same = refl; ready = fewer-ready settings m (more + 64 * length stands.databases) (more + length (first_told (named stands v)) * length stands.databases) change.after (omega (arith, few)) ready }))
  goes-all_told false more change ready = record { same = refl; ready = fewer-ready settings m (more + 64 * length stands.databases) more change.after (omega arith) ready }

  -- all that follows
  goes-after : (came : Bool) (more : ℕ) (change : Change Journal) → Ready settings m (more + (64 * length stands.databases + 16400)) change.after → Goes settings m more (after_changes table stands m came (tabled settings change)) (after_changes of_journal stands m came change)
  unfolding after_changes
  goes-after came more change ready =
      let j : Change Journal = all_told of_journal stands m came change in
      let reaches : Bool = reaches_resolver stands in
      let told = goes-all_told came ((more + 16) + 16384) change (fewer-ready settings m (more + (64 * length stands.databases + 16400)) (((more + 16) + 16384) + 64 * length stands.databases) change.after (omega arith) ready) in
      let sent = goes-retried_where reaches (more + 16) j told.ready in
      subst (λ t. Goes settings m more (all_probed table stands m (retried_where table stands m reaches t)) (all_probed of_journal stands m (retried_where of_journal stands m reaches j))) (sym told.same)
      (subst (λ t. Goes settings m more (all_probed table stands m t) (all_probed of_journal stands m (retried_where of_journal stands m reaches j))) (sym sent.same)
      (goes-all_probed more (retried_where of_journal stands m reaches j) sent.ready))

-- ### own locators go up and down

-- past the first that isn't due, none is
pub none-due : (m at : ℕ) (changes : List OwnChange) → AllByRecursion (λ (next : OwnChange). at ≤ next.at) changes → nat_le (seconds at) m ≡ false → due_changes m changes ≡ []
none-due m at [] later is = refl
none-due m at (change ∷ changes) later is = rw (past change.at later.0) (none-due m at changes later.1 is)
  where
    past : (n : ℕ) → at ≤ n → nat_le (seconds n) m ≡ false
    past n less = grind (arith, nat_tests)

-- the next of changes
pub next-is : (changes : List OwnChange) (n : ℕ) (change : OwnChange) (others : List OwnChange) → drop n changes ≡ change ∷ others → (slice_get changes n ≡ Some change) × (drop (suc n) changes ≡ others)
next-is [] zero change others is = cc
next-is [] (suc n) change others is = cc
next-is (first ∷ changes) zero change others is = (ap (λ l. slice_get l 0) is, ap (λ l. drop 1 l) is)
next-is (first ∷ changes) (suc n) change others is = next-is changes n change others is

-- the same of those that are left
pub turns-drop : (n : ℕ) (changes : List OwnChange) → AreInTurn changes → AreInTurn (drop n changes)
turns-drop zero changes turns = turns
turns-drop (suc n) [] turns = tt
turns-drop (suc n) (change ∷ changes) turns = turns-drop n changes turns.1

module _ (settings : Settings) (m : ℕ) where
  one-more : (journal : Journal) (e : Entry) → is_changed e ≡ true → changed (e ∷ journal) ≡ suc (changed journal)
  one-more journal e is = sym (count-more is_changed e journal) ∙ ap (λ b. cond b 1 0 + changed journal) is ∙ omega arith

  goes-made : (more : ℕ) (own : OwnChange) (change : Change Journal) → slice_get settings.changes (changed change.after) ≡ Some own → Ready settings m (suc more) change.after → Goes settings m more (made table settings m own (tabled settings change)) (made of_journal settings m own change)
  goes-made more own change next ready =
      goes-entered settings m more change (entry.Changed m own.address own.up) ready refl
      (ap (is_change own.address own.up) next ∙ rw (same-address own.address, same_up-refl own.up) refl) refl refl

  -- those of the changes that are left
  goes-all_changed : (left : List OwnChange) (more : ℕ) (t : Change Parts) (j : Change Journal) → AreInTurn left → drop (changed j.after) settings.changes ≡ left → Goes settings m (more + length left) t j → Goes settings m more (all_changed table settings m (due_changes m left) t) (all_changed of_journal settings m (due_changes m left) j)
  goes-all_changed [] more t j turns are goes = record { same = goes.same; ready = fewer-ready settings m (more + 0) more j.after (omega arith) goes.ready }
  goes-all_changed (own ∷ left) more t j turns are goes =
      by (nat_le (seconds own.at) m) refl (λ are one. goes-all_changed left more (made table settings m own t) (made of_journal settings m own j) turns.1 are one)
    where
      next : (slice_get settings.changes (changed j.after) ≡ Some own) × (drop (suc (changed j.after)) settings.changes ≡ left)
      next = next-is settings.changes (changed j.after) own left are

      after : Change Journal
      after = made of_journal settings m own j

      one : Goes settings m (more + length left) (made table settings m own t) after
      one =
          subst (λ u. Goes settings m (more + length left) (made table settings m own u) after) (sym goes.same)
          (goes-made (more + length left) own j next.0 (fewer-ready settings m (more + suc (length left)) (suc (more + length left)) j.after (omega arith) goes.ready))

      by : (b : Bool) → nat_le (seconds own.at) m ≡ b → (drop (changed after.after) settings.changes ≡ left → Goes settings m (more + length left) (made table settings m own t) after → Goes settings m more (all_changed table settings m (due_changes m left) (made table settings m own t)) (all_changed of_journal settings m (due_changes m left) after)) → Goes settings m more (all_changed table settings m (cond b (own ∷ due_changes m left) (due_changes m left)) t) (all_changed of_journal settings m (cond b (own ∷ due_changes m left) (due_changes m left)) j)
      by true is rest =
          rest
          (ap (λ n. drop n settings.changes) (one-more j.after (entry.Changed m own.address own.up) refl) ∙ next.1) one
      by false is rest =
          subst (λ l. Goes settings m more (all_changed table settings m l t) (all_changed of_journal settings m l j)) (sym (none-due m own.at left turns.0 is))
          (record { same = goes.same; ready = fewer-ready settings m (more + suc (length left)) more j.after (omega arith) goes.ready })

pub ticks-lift : TicksLift
unfolding ticked
ticks-lift settings m more before ready =
    let left : List OwnChange = drop (changed before.after) settings.changes in
    let due : List OwnChange = due_changes m left in
    let came : Bool = some_came due in
    let few : ℕ = 64 * length settings.databases + 16400 in
    let short = length-drop (changed before.after) settings.changes in
    let j : Change Journal = all_changed of_journal settings m due before in
    let goes =
    goes-all_changed settings m left (more + few) (tabled settings before) before (turns-drop (changed before.after) settings.changes ready.proper.may.turns) refl
    (record { same = refl; ready = fewer-ready settings m (more + (length settings.changes + few)) ((more + few) + length left) before.after (omega (arith, short)) ready }) in
    let long = length-map settings.databases (stood (changed j.after)) in
    subst (λ (t : Change Parts). Goes settings m more (after_changes table (standing_in settings t.after) m came t) (after_changes of_journal (standing settings j.after) m came j)) (sym goes.same)
    (subst (λ s. Goes settings m more (after_changes table s m came (tabled settings j)) (after_changes of_journal (standing settings j.after) m came j)) (sym (stands-in settings j.after))
    (goes-after settings (own_after settings j.after) (changed j.after) m came more j
    (fewer-ready settings m (more + few) _ j.after (omega (arith, long)) goes.ready)))
