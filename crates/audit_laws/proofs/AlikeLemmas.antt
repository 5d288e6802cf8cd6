-- A router with other nonces does alike, as long as it draws the same ones.
use Rattle.std.proofs.Common.{◌≡◌, ℕ, suc, ◌<◌, ◌≤◌, ◌%◌, ◌^◌, ◌&&◌, nat_lt, Bool, true, false, cond, List, [], ◌∷◌, filter, Option, None, ◌⊎◌, inl, inr, refl, sym, ap, subst, ◌∙◌, arith}
use Rattle.std.specs.Prelude.{is_some}
use Rattle.std.proofs.lemmas.Bool.{cases_lt}
use Rattle.ip_headers.specs.declared.addr.Addr.{Addr}
use Rattle.mapping_records.specs.declared.eid.Eid.{Eid}
use Rattle.lisp_settings.specs.Instances.{limits_in}
use Rattle.lisp_settings.specs.declared.settings.Change.{Change as OwnChange}
use Rattle.lisp_settings.specs.declared.settings.Database.{Database}
use Rattle.lisp_settings.specs.declared.settings.OwnLocator.{OwnLocator}
use Rattle.lisp_settings.specs.declared.settings.Settings.{Settings}
use Rattle.locator_state.specs.declared.target.Target.{Target}
use Rattle.request_queue.specs.Queue.{due}
use Rattle.request_queue.specs.declared.request.Request.{Request}
use Rattle.router_log.specs.declared.entry.Entry.{Entry}
use Rattle.router_log.specs.declared.entry.Entry.TheVariants as entry
use Rattle.router_log.specs.declared.notice.Notice.{Notice}
use Rattle.router_log.specs.declared.notice.Notice.TheVariants as notice
use Rattle.router_model.specs.Changes.{Change, asked, asked_with, each, entered, journal as of_journal, may_ask, next_nonce, seen}
use Rattle.router_model.specs.Journal.{Journal, changed, drawn, uses_nonce}
use Rattle.router_model.specs.Mappings.{exact}
use Rattle.router_model.specs.Note.{is_echo, is_learned, is_missing, is_news, noted, solicited}
use Rattle.router_model.specs.Site.{ours, reaches_resolver}
use Rattle.router_model.specs.Standing.{changed_by, own_after, standing, standing_with}
use Rattle.router_model.specs.Tick.{after_changes, all_changed, all_probed, all_retried, all_told, due_now, first_told, made, named, next_targets, probed, probed_with, retried, retried_where, some_came, ticked, told, told_all}
use Rattle.router_model.proofs.LiftLemmas.{nonce-next}
use Rattle.audit_laws.specs.Drawn.{nonce_at, with_nonces}
use Rattle.audit_laws.proofs.DrawnLemmas.{drawn-one, drawn-same}

-- no entry takes a drawn nonce back
drawn-kept : (n : ℕ) (e : Entry) (before : Journal) → n < drawn before → n < drawn (e ∷ before)
drawn-kept n e before more = by (uses_nonce e) refl
  where
    by : (b : Bool) → uses_nonce e ≡ b → n < drawn (e ∷ before)
    by true uses = let same = drawn-one e before uses in omega (arith, same, more)
    by false none = let same = drawn-same e before none in omega (arith, same, more)

-- the settings that stand with other nonces
own-others : (settings : Settings) (seed nonces : List ℕ) (journal : Journal) → own_after (with_nonces settings seed nonces) journal ≡ own_after settings journal
own-others settings seed nonces [] = refl
own-others settings seed nonces (e ∷ before) = ap (changed_by e) (own-others settings seed nonces before)

pub standing-others : (settings : Settings) (seed nonces : List ℕ) (journal : Journal) → standing (with_nonces settings seed nonces) journal ≡ with_nonces (standing settings journal) seed nonces
standing-others settings seed nonces journal = ap (λ (l : List OwnLocator). standing_with (with_nonces settings seed nonces) l (changed journal)) (own-others settings seed nonces journal)

-- ### alike, or past the nonces that are the same

module _ (n : ℕ) where
  -- more nonces were drawn
  abbrev pub IsPast : Change Journal → Type 0
  IsPast change = n < drawn change.after

  -- what is past stays so, and what isn't is the same
  pub record Alike (other step : Change Journal → Change Journal) : Type 0 where
    pub kept : (change : Change Journal) → IsPast change → IsPast (step change)
    pub same : (change : Change Journal) → IsPast (step change) ⊎ (other change ≡ step change)

  pub alike-self : (step : Change Journal → Change Journal) → ((change : Change Journal) → IsPast change → IsPast (step change)) → Alike step step
  alike-self step kept = record { kept = kept; same = λ change. inr refl }

  pub alike-none : Alike (λ change. change) (λ change. change)
  alike-none = record { kept = λ change past. past; same = λ change. inr refl }

  pub alike-if : (test : Change Journal → Bool) (other step : Change Journal → Change Journal) → Alike other step → Alike (λ change. cond (test change) (other change) change) (λ change. cond (test change) (step change) change)
  alike-if test other step alike = record { kept = λ change past. kept change past (test change); same = λ change. same change (test change) }
    where
      kept : (change : Change Journal) → IsPast change → (b : Bool) → IsPast (cond b (step change) change)
      kept change past true = alike.kept change past
      kept change past false = past

      same : (change : Change Journal) (b : Bool) → IsPast (cond b (step change) change) ⊎ (cond b (other change) change ≡ cond b (step change) change)
      same change true = alike.same change
      same change false = inr refl

  pub alike-then : (other step others steps : Change Journal → Change Journal) → Alike other step → Alike others steps → Alike (λ change. others (other change)) (λ change. steps (step change))
  alike-then other step others steps first next = record { kept = λ change past. next.kept (step change) (first.kept change past); same = λ change. same change (first.same change) (next.same (step change)) }
    where
      same : (change : Change Journal) → IsPast (step change) ⊎ (other change ≡ step change) → IsPast (steps (step change)) ⊎ (others (step change) ≡ steps (step change)) → IsPast (steps (step change)) ⊎ (others (other change) ≡ steps (step change))
      same change (inl past) rest = inl (next.kept (step change) past)
      same change (inr is) (inl past) = inl past
      same change (inr is) (inr rest) = inr (ap others is ∙ rest)

  pub alike-each : {A : Type 0} (other step : A → Change Journal → Change Journal) → ((a : A) → Alike (other a) (step a)) → (items : List A) → Alike (each other items) (each step items)
  alike-each other step one [] = alike-none
  alike-each other step one (a ∷ items) = alike-then (other a) (step a) (each other items) (each step items) (one a) (alike-each other step one items)

  -- items that are read of the change
  alike-read : {A : Type 0} (items : Change Journal → List A) (other step : A → Change Journal → Change Journal) → ((a : A) → Alike (other a) (step a)) → Alike (λ change. each other (items change) change) (λ change. each step (items change) change)
  alike-read items other step one = record {
    kept = λ change past. (alike-each other step one (items change)).kept change past;
    same = λ change. (alike-each other step one (items change)).same change;
  }

  module _ (settings : Settings) (seed nonces : List ℕ) (agree : (i : ℕ) → i < n → nonce_at (with_nonces settings seed nonces) i ≡ nonce_at settings i) (m : ℕ) where
    abbrev others : Settings
    others = with_nonces settings seed nonces

    abbrev next : Change Journal → ℕ
    next change = next_nonce of_journal settings m change

    -- a step with the nonce that is next, which draws it
    alike-drawn : (step : ℕ → Change Journal → Change Journal) → ((nonce : ℕ) (change : Change Journal) → drawn (step nonce change).after ≡ suc (drawn change.after))
        → Alike (λ change. step (next_nonce of_journal others m change) change) (λ change. step (next change) change)
    alike-drawn step draws = record {
      kept = λ change past. let one = draws (next change) change in omega (arith, one, past);
      same = λ change. by change (cases_lt (drawn change.after) n);
    }
      where
        by : (change : Change Journal) → (drawn change.after < n) ⊎ (n ≤ drawn change.after) → IsPast (step (next change) change) ⊎ (step (next_nonce of_journal others m change) change ≡ step (next change) change)
        by change (inl before) = inr (ap (λ (nonce : ℕ). step nonce change) (nonce-next others m change ∙ agree (drawn change.after) before ∙ sym (nonce-next settings m change)))
        by change (inr past) = inl (let one = draws (next change) change in omega (arith, one, past))

    pub alike-entered : (e : Change Journal → Entry) → Alike (λ change. entered of_journal settings m (e change) change) (λ change. entered of_journal settings m (e change) change)
    alike-entered e = alike-self (λ change. entered of_journal settings m (e change) change) (λ change past. drawn-kept n (e change) change.after past)

    pub alike-asked : (eid : Eid) (source : Option Addr) (invoked : Bool) → Alike (asked of_journal others m eid source invoked) (asked of_journal settings m eid source invoked)
    alike-asked eid source invoked =
        alike-drawn (λ nonce change. asked_with of_journal settings m nonce eid source invoked change) (λ nonce change. drawn-one (entry.Asked m eid source invoked nonce) change.after refl)

    -- ### notices

    pub alike-noted : (one : Notice) → Alike (noted of_journal others m one) (noted of_journal settings m one)
    unfolding noted
    alike-noted (notice.Ask eid source) = alike-if (λ change. is_missing settings (limits_in settings) (seen of_journal settings m change) eid) _ _ (alike-asked eid source false)
    alike-noted (notice.Refresh eid) =
        alike-if (λ change. is_learned (exact (seen of_journal settings m change).mappings eid) && may_ask settings (limits_in settings) (seen of_journal settings m change) eid) _ _ (alike-asked eid None false)
    alike-noted (notice.Bits eid rloc bits width) =
        alike-if (λ change. is_news rloc bits width (exact (seen of_journal settings m change).mappings eid)) _ _ (alike-entered (λ change. entry.Bits m eid bits width))
    alike-noted (notice.EchoWanted rloc nonce) = alike-if (λ change. (seen of_journal settings m change).may_want rloc nonce) _ _ (alike-entered (λ change. entry.EchoWanted m rloc nonce))
    alike-noted (notice.EchoHeard rloc nonce) = alike-if (λ change. is_echo nonce ((seen of_journal settings m change).echo_on rloc)) _ _ (alike-entered (λ change. entry.EchoHeard m rloc))
    alike-noted (notice.DataFrom rloc) = alike-if (λ change. (seen of_journal settings m change).data_due rloc) _ _ (alike-entered (λ change. entry.DataFrom m rloc))
    alike-noted (notice.Solicit rloc eid) =
        alike-if (λ change. is_some (ours settings.locators rloc) && (seen of_journal settings m change).may_solicit rloc eid) _ _
        (alike-drawn (λ nonce change. solicited of_journal settings m nonce rloc eid change) (λ nonce change. drawn-one (entry.Solicited m rloc eid nonce) change.after refl))
    alike-noted (notice.EchoDue rloc) =
        alike-if (λ change. settings.echo && (seen of_journal settings m change).may_start rloc) _ _
        (alike-drawn (λ nonce change. entered of_journal settings m (entry.EchoStarted m rloc (nonce % 2 ^ 24)) change) (λ nonce change. drawn-one (entry.EchoStarted m rloc (nonce % 2 ^ 24)) change.after refl))

    -- ### seconds

    alike-retried : (request : Request) → Alike (retried of_journal others m request) (retried of_journal settings m request)
    alike-retried request = alike-self (retried of_journal settings m request) (λ change past. drawn-kept n (entry.Retried m request.nonce) change.after past)

    alike-probed : (target : Target) → Alike (probed of_journal others m target) (probed of_journal settings m target)
    alike-probed target =
        alike-if (λ change. nat_lt (seen of_journal settings m change).probe_count 9600) _ _
        (alike-drawn (λ nonce change. probed_with of_journal settings m nonce target change) (λ nonce change. drawn-one (entry.Probed m target.rloc nonce) change.after refl))

    alike-all_retried : Alike (all_retried of_journal others m) (all_retried of_journal settings m)
    alike-all_retried =
        alike-read (λ change. filter (due (seen of_journal settings m change).now) (seen of_journal settings m change).requests) (retried of_journal others m) (retried of_journal settings m) alike-retried

    alike-where : (reaches : Bool) → Alike (retried_where of_journal others m reaches) (retried_where of_journal settings m reaches)
    alike-where true = alike-all_retried
    alike-where false = alike-none

    alike-all_probed : Alike (all_probed of_journal others m) (all_probed of_journal settings m)
    alike-all_probed =
        alike-if (λ change. settings.probe) _ _ (alike-read (λ change. next_targets settings (seen of_journal settings m change)) (probed of_journal others m) (probed of_journal settings m) alike-probed)

    alike-told : (address : Addr) (database : Database) → Alike (told of_journal others m address database) (told of_journal settings m address database)
    alike-told address database =
        alike-if (λ change. (seen of_journal settings m change).may_solicit address database.eid) _ _
        (alike-drawn (λ nonce change. solicited of_journal settings m nonce address database.eid change) (λ nonce change. drawn-one (entry.Solicited m address database.eid nonce) change.after refl))

    alike-told_all : (address : Addr) → Alike (told_all of_journal others m address) (told_all of_journal settings m address)
    alike-told_all address = alike-each (told of_journal others m address) (told of_journal settings m address) (alike-told address) settings.databases

    alike-all_told : (came : Bool) → Alike (all_told of_journal others m came) (all_told of_journal settings m came)
    alike-all_told came =
        alike-if (λ change. came) _ _ (alike-read (λ change. first_told (named settings (seen of_journal settings m change))) (told_all of_journal others m) (told_all of_journal settings m) alike-told_all)

    -- what follows the changes of own locators
    alike-followed : (came : Bool) → Alike (after_changes of_journal others m came) (after_changes of_journal settings m came)
    unfolding after_changes
    alike-followed came =
        let reaches : Bool = reaches_resolver settings in
        alike-then (λ change. retried_where of_journal others m reaches (all_told of_journal others m came change)) (λ change. retried_where of_journal settings m reaches (all_told of_journal settings m came change))
        (all_probed of_journal others m) (all_probed of_journal settings m)
        (alike-then (all_told of_journal others m came) (all_told of_journal settings m came) (retried_where of_journal others m reaches) (retried_where of_journal settings m reaches) (alike-all_told came) (alike-where reaches))
        alike-all_probed

  -- a second, over the settings that stand behind its changes
  module _ (settings : Settings) (seed nonces : List ℕ) (agree : (i : ℕ) → i < n → nonce_at (with_nonces settings seed nonces) i ≡ nonce_at settings i) (m : ℕ) where
    kept-changed : (changes : List OwnChange) (change : Change Journal) → IsPast change → IsPast (all_changed of_journal settings m changes change)
    kept-changed [] change past = past
    kept-changed (own ∷ changes) change past = kept-changed changes (made of_journal settings m own change) (drawn-kept n (entry.Changed m own.address own.up) change.after past)

    pub alike-ticked : Alike (ticked of_journal (with_nonces settings seed nonces) m) (ticked of_journal settings m)
    unfolding ticked
    alike-ticked = record { kept = kept; same = same }
      where
        coming : Change Journal → List OwnChange
        coming change = due_now of_journal settings m change.after

        first : Change Journal → Change Journal
        first change = all_changed of_journal settings m (coming change) change

        here : Change Journal → Settings
        here change = standing settings (first change).after

        after : Settings → Change Journal → Change Journal
        after by change = after_changes of_journal by m (some_came (coming change)) (first change)

        followed : (change : Change Journal) → Alike (after_changes of_journal (with_nonces (here change) seed nonces) m (some_came (coming change))) (after_changes of_journal (here change) m (some_came (coming change)))
        followed change = alike-followed (here change) seed nonces agree m (some_came (coming change))

        kept : (change : Change Journal) → IsPast change → IsPast (after (here change) change)
        kept change past = (followed change).kept (first change) (kept-changed (coming change) change past)

        same : (change : Change Journal) → IsPast (after (here change) change) ⊎ (after (standing (with_nonces settings seed nonces) (first change).after) change ≡ after (here change) change)
        same change =
            subst (λ (by : Settings). IsPast (after (here change) change) ⊎ (after by change ≡ after (here change) change)) (sym (standing-others settings seed nonces (first change).after)) ((followed change).same (first change))
