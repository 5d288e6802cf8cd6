-- A second without probes leaves journals one to an instance: own locators change alike, and the same requests of it are sent
-- again.
use Rattle.std.proofs.Common.{◌≡◌, ℕ, ◌≤◌, ◌==◌, Bool, true, false, cond, List, [], ◌∷◌, Some, drop, filter, map, refl, sym, ap, subst, ◌∙◌, arith}
use Rattle.lisp_settings.specs.declared.settings.Settings.{Settings}
use Rattle.request_queue.specs.Queue.{due}
use Rattle.request_queue.specs.declared.request.Request.{Request}
use Rattle.ip_headers.specs.declared.addr.Addr.{Addr}
use Rattle.lisp_settings.specs.declared.settings.Change.{Change as OwnChange}
use Rattle.lisp_settings.specs.declared.settings.Database.{Database}
use Rattle.router_log.specs.declared.entry.Entry.TheVariants.{Changed, Retried}
use Rattle.router_log.specs.Moments.{seconds}
use Rattle.router_model.specs.Alone.{SecondsStay}
use Rattle.router_model.specs.Apart.{AreOneIn, by_number, numbered}
use Rattle.router_model.specs.Changes.{Change, each, journal as of_journal, next_nonce, unchanged}
use Rattle.router_model.specs.Isolation.{asked_in, counts_in, of_instance}
use Rattle.router_model.specs.Journal.{Journal, IsRising, changed, extended, last_moment}
use Rattle.router_model.specs.Note.{solicited}
use Rattle.router_model.specs.Requests.{open_requests}
use Rattle.router_model.specs.Site.{reaches_resolver}
use Rattle.router_model.specs.Standing.{due_changes, standing}
use Rattle.router_model.specs.Tenants.{NoncesDiffer}
use Rattle.router_model.specs.Tick.{after_changes, all_changed, all_retried, all_told, first_told, made, named, next_targets, probed, retried, retried_where, some_came, ticked, ticked_by, told, told_all}
use Rattle.router_model.specs.View.{View, view}
use Rattle.router_model.proofs.ApartLemmas.{retries-apart, retries-isolated}
use Rattle.router_model.proofs.ApartTableLemmas.{one-standing, one-steps}
use Rattle.router_model.proofs.FollowLemmas.{table-ticks}
use Rattle.router_model.proofs.RequestLemmas.{requests-open}
use Rattle.router_model.proofs.SideLemmas.{tick-grows}
use Rattle.router_model.proofs.StandsLemmas.{proper-rises}
use Rattle.router_model.proofs.TenantLemmas.{Each, Known, all-known}
use Rattle.router_model.proofs.TenantTableLemmas.{seen-then}

module _ (m : ℕ) where
  -- a journal behind which requests are sent again
  abbrev again : Journal → List Request → Journal
  again journal [] = journal
  again journal (r ∷ l) = again (Retried m r.nonce ∷ journal) l

  again-after : (settings : Settings) (l : List Request) (change : Change Journal) → (each (retried of_journal settings m) l change).after ≡ again change.after l
  again-after settings [] change = refl
  again-after settings (r ∷ l) change = again-after settings l (retried of_journal settings m r change)

  -- with numbers
  again-numbered : (journal : Journal) (l : List Request) → numbered (again journal l) ≡ again (numbered journal) (map (by_number journal) l)
  again-numbered journal [] = refl
  again-numbered journal (r ∷ l) = again-numbered (Retried m r.nonce ∷ journal) l

  -- it was asked in that journal
  abbrev IsAsked : Journal → Request → Type 0
  IsAsked journal r = asked_in r.nonce journal ≡ Some r.eid.iid

  -- of the instance
  again-mine : (i : ℕ) (journal : Journal) (l : List Request) → Each (IsAsked journal) l → of_instance (again journal l) i ≡ again (of_instance journal i) (filter (λ (r : Request). r.eid.iid == i) l)
  again-mine i journal [] asked = refl
  again-mine i journal (r ∷ l) asked =
      again-mine i (Retried m r.nonce ∷ journal) l asked.1
      ∙ ap (λ o. again (cond (counts_in i o) (Retried m r.nonce ∷ of_instance journal i) (of_instance journal i)) (filter (λ (r : Request). r.eid.iid == i) l)) asked.0
      ∙ by (r.eid.iid == i)
    where
      by : (b : Bool) → again (cond b (Retried m r.nonce ∷ of_instance journal i) (of_instance journal i)) (filter (λ (r : Request). r.eid.iid == i) l) ≡ again (of_instance journal i) (cond b (r ∷ filter (λ (r : Request). r.eid.iid == i) l) (filter (λ (r : Request). r.eid.iid == i) l))
      by true = refl
      by false = refl

  each-asked : (journal : Journal) (l : List Request) → Each (Known m journal) l → Each (IsAsked journal) (filter (due m) l)
  each-asked journal [] known = tt
  each-asked journal (r ∷ l) known = by (due m r) (each-asked journal l known.1)
    where
      by : (b : Bool) → Each (IsAsked journal) (filter (due m) l) → Each (IsAsked journal) (cond b (r ∷ filter (due m) l) (filter (due m) l))
      by true h = (known.0.0, h)
      by false h = h

  -- all that are due, behind a change
  retried-after : (settings : Settings) (change : Change Journal) → last_moment change.after ≤ m → (all_retried of_journal settings m change).after ≡ again change.after (filter (due m) (open_requests m change.after))
  retried-after settings change last =
      again-after settings (filter (due (view change.after m).now) (view change.after m).requests) change
      ∙ ap (λ (v : View). again change.after (filter (due v.now) v.requests)) (seen-then change.after m last)

  -- a journal that may be asked at that moment
  record Asks (journal : Journal) : Type 0 where
    rises : IsRising journal
    last : last_moment journal ≤ m
    differ : NoncesDiffer m journal

  retried-numbered : (i : ℕ) (settings : Settings) (change : Change Journal) → Asks change.after → let mine = of_instance change.after i in numbered (of_instance (all_retried of_journal settings m change).after i) ≡ again (numbered mine) (map (by_number mine) (filter (due m) (open_requests m mine)))
  retried-numbered i settings change asks =
      let journal = change.after in
      ap (λ j. numbered (of_instance j i)) (retried-after settings change asks.last)
      ∙ ap numbered (again-mine i journal (filter (due m) (open_requests m journal)) (each-asked journal (open_requests m journal) (subst (Each (Known m journal)) (requests-open m journal) (all-known m journal))))
      ∙ ap (λ l. numbered (again (of_instance journal i) l)) (retries-isolated journal i m asks.rises asks.differ)
      ∙ again-numbered (of_instance journal i) (filter (due m) (open_requests m (of_instance journal i)))

  -- so of two
  retries-stay : (i : ℕ) (s t : Settings) (c d : Change Journal) → Asks c.after → Asks d.after → AreOneIn i c.after d.after → AreOneIn i (all_retried of_journal s m c).after (all_retried of_journal t m d).after
  retries-stay i s t c d asks asks' same =
      retried-numbered i s c asks
      ∙ ap (again (numbered (of_instance c.after i))) (retries-apart c.after d.after i m (asks.rises, asks'.rises) (asks.differ, asks'.differ) same)
      ∙ ap (λ j. again j (map (by_number (of_instance d.after i)) (filter (due m) (open_requests m (of_instance d.after i))))) same
      ∙ sym (retried-numbered i t d asks')

  -- ### SMRs and changes

  module _ (i : ℕ) (settings : Settings) where
    -- SMRs that are sent leave a journal as it was
    record Quiet (journal : Journal) (change : Change Journal) : Type 0 where
      same : AreOneIn i change.after journal
      asks : Asks change.after

    quiet-told : (journal : Journal) (address : Addr) (database : Database) (change : Change Journal) → Quiet journal change → Quiet journal (told of_journal settings m address database change)
    quiet-told journal address database change quiet = by ((view change.after m).may_solicit address database.eid)
      where
        by : (b : Bool) → Quiet journal (cond b (solicited of_journal settings m (next_nonce of_journal settings m change) address database.eid change) change)
        by false = quiet
        by true = record {
          same = quiet.same;
          asks = record { rises = (quiet.asks.last, quiet.asks.rises); last = omega arith; differ = quiet.asks.differ };
        }

    quiet-each : {A : Type 0} (journal : Journal) (step : A → Change Journal → Change Journal) → ((a : A) (change : Change Journal) → Quiet journal change → Quiet journal (step a change)) → (items : List A) (change : Change Journal) → Quiet journal change → Quiet journal (each step items change)
    quiet-each journal step one [] change quiet = quiet
    quiet-each journal step one (a ∷ items) change quiet = quiet-each journal step one items (step a change) (one a change quiet)

    quiet-all : (came : Bool) (change : Change Journal) → Asks change.after → Quiet change.after (all_told of_journal settings m came change)
    quiet-all came change asks = by came
      where
        start : Quiet change.after change
        start = record { same = refl; asks = asks }

        by : (b : Bool) → Quiet change.after (cond b (each (told_all of_journal settings m) (first_told (named settings (view change.after m))) change) change)
        by false = start
        by true =
            quiet-each change.after (told_all of_journal settings m)
            (λ address c quiet. quiet-each change.after (told of_journal settings m address) (λ database d q. quiet-told change.after address database d q) settings.databases c quiet)
            (first_told (named settings (view change.after m))) change start

    -- own locators that change
    asks-changed : (changes : List OwnChange) (change : Change Journal) → Asks change.after → Asks (all_changed of_journal settings m changes change).after
    asks-changed [] change asks = asks
    asks-changed (own ∷ changes) change asks =
        asks-changed changes (made of_journal settings m own change) (record { rises = (asks.last, asks.rises); last = omega arith; differ = asks.differ })

    one-changed : (changes : List OwnChange) (c d : Change Journal) → AreOneIn i c.after d.after → AreOneIn i (all_changed of_journal settings m changes c).after (all_changed of_journal settings m changes d).after
    one-changed [] c d same = same
    one-changed (own ∷ changes) c d same =
        one-changed changes (made of_journal settings m own c) (made of_journal settings m own d) (ap (λ j. Changed m own.address own.up ∷ j) same)

  -- ### a second

  module _ (i : ℕ) (settings : Settings) (quiet : settings.probe ≡ false) where
    -- what follows the changes, without probes
    sent : Settings → Bool → Change Journal → Change Journal
    sent s came change = retried_where of_journal s m (reaches_resolver s) (all_told of_journal s m came change)

    sent-stays : (s t : Settings) (came : Bool) (c d : Change Journal) → s ≡ t → Asks c.after → Asks d.after → AreOneIn i c.after d.after → AreOneIn i (sent s came c).after (sent t came d).after
    unfolding sent
    sent-stays s t came c d alike asks asks' same = by (reaches_resolver s) (reaches_resolver t) (ap reaches_resolver alike)
      where
        left : Quiet i s c.after (all_told of_journal s m came c)
        left = quiet-all i s came c asks

        right : Quiet i t d.after (all_told of_journal t m came d)
        right = quiet-all i t came d asks'

        both : AreOneIn i (all_told of_journal s m came c).after (all_told of_journal t m came d).after
        both = left.same ∙ same ∙ sym right.same

        by : (a b : Bool) → a ≡ b → AreOneIn i (retried_where of_journal s m a (all_told of_journal s m came c)).after (retried_where of_journal t m b (all_told of_journal t m came d)).after
        by true true is = retries-stay i s t (all_told of_journal s m came c) (all_told of_journal t m came d) left.asks right.asks both
        by false false is = both
        by true false is = cc
        by false true is = cc

    -- that is all of it
    after-sent : (journal : Journal) (came : Bool) (change : Change Journal) → (after_changes of_journal (standing settings journal) m came change).after ≡ (sent (standing settings journal) came change).after
    unfolding after_changes sent
    after-sent journal came change =
        ap (λ b. (cond b (each (probed of_journal s m) (next_targets s (view left.after m)) left) left).after) quiet
      where
        s : Settings
        s = standing settings journal

        left : Change Journal
        left = retried_where of_journal s m (reaches_resolver s) (all_told of_journal s m came change)

    ticked-stays : (mine theirs : Journal) → Asks mine → Asks theirs → AreOneIn i mine theirs → AreOneIn i (ticked of_journal settings m (unchanged mine)).after (ticked of_journal settings m (unchanged theirs)).after
    unfolding ticked
    ticked-stays mine theirs asks asks' same =
        ap (λ j. numbered (of_instance j i)) (after-sent c.after (some_came changes) c)
        ∙ sent-stays (standing settings c.after) (standing settings d.after) (some_came changes) c d (one-standing i settings c.after d.after now)
        (asks-changed i settings changes (unchanged mine) asks) (asks-changed i settings changes (unchanged theirs) asks') now
        ∙ sym (ap (λ j. numbered (of_instance j i)) (after-sent d.after (some_came changes) d))
        ∙ ap (λ l. numbered (of_instance (ticked_by of_journal settings m l (unchanged theirs)).after i)) (ap (λ n. due_changes m (drop n settings.changes)) (one-steps i settings mine theirs same))
      where
        changes : List OwnChange
        changes = due_changes m (drop (changed mine) settings.changes)

        c : Change Journal
        c = all_changed of_journal settings m changes (unchanged mine)

        d : Change Journal
        d = all_changed of_journal settings m changes (unchanged theirs)

        now : AreOneIn i c.after d.after
        now = one-changed i settings changes (unchanged mine) (unchanged theirs) same

pub seconds-stay : SecondsStay
seconds-stay settings i s one other mine theirs both quiet =
    ap (λ l. numbered (of_instance (extended mine l) i)) (table-ticks settings one mine s both.stand.0 both.may.0).entries
    ∙ sym (ap (λ j. numbered (of_instance j i)) (tick-grows settings mine s))
    ∙ ticked-stays (seconds s) i settings quiet mine theirs
    (record { rises = proper-rises settings mine both.stand.0.proper; last = both.may.0.0; differ = both.differ.0 })
    (record { rises = proper-rises settings theirs both.stand.1.proper; last = both.may.1.0; differ = both.differ.1 })
    both.same
    ∙ ap (λ j. numbered (of_instance j i)) (tick-grows settings theirs s)
    ∙ sym (ap (λ l. numbered (of_instance (extended theirs l) i)) (table-ticks settings other theirs s both.stand.1 both.may.1).entries)
