-- What is learned for another instance, and what an SMR of another one leads to, leaves a journal as it was to the instance.
use Rattle.std.proofs.Common.{◌≡◌, ℕ, ◌==◌, ◌&&◌, not, Bool, true, false, cond, List, [], ◌∷◌, Option, Some, None, refl, sym, ap, subst, ◌∙◌, is_some}
use Rattle.std.specs.List.{list_all}
use Rattle.mapping_records.specs.declared.eid.Eid.{Eid}
use Rattle.mapping_records.specs.declared.record.Record.{Record}
use Rattle.map_messages.specs.declared.message.MapReply.{MapReply}
use Rattle.lisp_settings.specs.Instances.{limits_in}
use Rattle.lisp_settings.specs.declared.settings.Settings.{Settings}
use Rattle.request_queue.specs.Queue.{with_nonce}
use Rattle.router_log.specs.declared.entry.Entry.{Entry}
use Rattle.router_log.specs.declared.entry.Entry.TheVariants.{Asked, Answered, Learned}
use Rattle.router_log.specs.declared.verdict.Reason.TheVariants.{Unfit}
use Rattle.router_model.specs.Alone.{OthersLearn, OthersSolicit, SolicitsStay}
use Rattle.router_model.specs.Apart.{AreOneIn}
use Rattle.router_model.specs.Changes.{Change, asked, each, entered, has_room, journal as of_journal, next_nonce, unchanged}
use Rattle.router_model.specs.Hear.{Heard, Range, asked_again, drops, is_asked_for, is_fit, is_static, ranges_of, renewed, shortened, tallied, taught}
use Rattle.router_model.specs.Isolation.{asked_in, counts_in, of_instance, told_of}
use Rattle.router_model.specs.Journal.{Journal, extended}
use Rattle.router_model.specs.Note.{noted, solicited}
use Rattle.router_model.specs.Parts.{standing_in, table, view_in}
use Rattle.router_model.specs.Requests.{open_requests}
use Rattle.router_model.specs.Site.{ours}
use Rattle.router_model.specs.Standing.{standing}
use Rattle.router_model.specs.View.{View, view}
use Rattle.router_model.proofs.ApartTableLemmas.{hears-made, renews, renews-iid, reply_made, seen-now, solicited-so, solicits-made}
use Rattle.router_model.proofs.PartsLemmas.{and_both}
use Rattle.router_model.proofs.SideLemmas.{extended-more}
use Rattle.router_model.proofs.TenantTableLemmas.{asked-iid, known-now}

module _ (i m : ℕ) (journal : Journal) where
  -- a change that leaves the journal as it was to the instance
  record Leaves (change : Change Journal) : Type 0 where
    grown : change.after ≡ extended journal change.entries
    same : of_instance change.after i ≡ of_instance journal i

  leaves-entries : (change : Change Journal) → Leaves change → of_instance (extended journal change.entries) i ≡ of_instance journal i
  leaves-entries change leaves = ap (λ j. of_instance j i) (sym leaves.grown) ∙ leaves.same

  module _ (settings : Settings) where
    -- an entry of another instance does
    leaves-entered : (e : Entry) (change : Change Journal) → counts_in i (told_of e change.after) ≡ false → Leaves change → Leaves (entered of_journal settings m e change)
    leaves-entered e change other leaves = record {
      grown = ap (λ j. e ∷ j) leaves.grown ∙ sym (extended-more journal change.entries (e ∷ []));
      same = ap (λ b. cond b (e ∷ of_instance change.after i) (of_instance change.after i)) other ∙ leaves.same;
    }

    leaves-taught : (asked : Eid) (mappings : List Record) → (asked.iid == i) ≡ false → (mapping : Record) (change : Change Journal) → Leaves change → Leaves (taught of_journal settings m asked mappings mapping change)
    leaves-taught asked mappings isn't mapping change leaves = by (is_asked_for asked mappings mapping) refl (not (is_static settings mapping) && has_room (limits_in settings) (view change.after m) mapping)
      where
        e : Entry
        e = Learned m (shortened mapping) false

        by : (b : Bool) → is_asked_for asked mappings mapping ≡ b → (c : Bool) → Leaves (cond (b && c) (entered of_journal settings m e change) change)
        by true fit true = leaves-entered e change (ap (λ n. n == i) (asked-iid asked mapping mappings fit) ∙ isn't) leaves
        by true fit false = leaves
        by false fit c = leaves

    leaves-each : {A : Type 0} (step : A → Change Journal → Change Journal) → ((a : A) (change : Change Journal) → Leaves change → Leaves (step a change)) → (items : List A) (change : Change Journal) → Leaves change → Leaves (each step items change)
    leaves-each step one [] change leaves = leaves
    leaves-each step one (a ∷ items) change leaves = leaves-each step one items (step a change) (one a change leaves)

    -- a reply to its request
    leaves-reply : (reply : MapReply) (eid : Eid) → (eid.iid == i) ≡ false → asked_in reply.nonce journal ≡ Some eid.iid → Leaves (reply_made settings m reply eid journal).change
    leaves-reply reply eid isn't asked = by (is_fit eid reply.mappings)
      where
        told : Change Journal
        told = entered of_journal settings m (Answered m reply.nonce) (unchanged journal)

        by : (b : Bool) → Leaves (cond b (tallied of_journal settings m reply (each (taught of_journal settings m eid reply.mappings) reply.mappings told)) (drops Unfit (unchanged journal))).change
        by true =
            leaves-each (taught of_journal settings m eid reply.mappings) (leaves-taught eid reply.mappings isn't) reply.mappings told
            (leaves-entered (Answered m reply.nonce) (unchanged journal) (ap (counts_in i) asked ∙ isn't) (record { grown = refl; same = refl }))
        by false = record { grown = refl; same = refl }

    -- an SMR of its ranges
    leaves-renewed : (range : Range) (change : Change Journal) → (range.iid == i) ≡ false → Leaves change → Leaves (renewed of_journal settings m range change)
    leaves-renewed range change isn't leaves = by (renews settings m range change.after) refl
      where
        by : (o : Option Eid) → renews settings m range change.after ≡ o → Leaves (asked_again of_journal settings m o change)
        by None is = leaves
        by (Some eid) is =
            let made = leaves-entered (Asked m eid None true (next_nonce of_journal settings m change)) change (ap (λ n. n == i) (renews-iid settings m range change.after eid is) ∙ isn't) leaves in
            record { grown = made.grown; same = made.same }

    leaves-ranges : (ranges : List Range) (change : Change Journal) → list_all (λ (range : Range). not (range.iid == i)) ranges ≡ true → Leaves change → Leaves (each (renewed of_journal settings m) ranges change)
    leaves-ranges [] change all leaves = leaves
    leaves-ranges (range ∷ ranges) change all leaves =
        let its = and_both (not (range.iid == i)) _ all in
        leaves-ranges ranges (renewed of_journal settings m range change) its.1 (leaves-renewed range change (is (range.iid == i) its.0) leaves)
      where
        is : (b : Bool) → not b ≡ true → b ≡ false
        is true isn't = cc
        is false isn't = refl

pub others-learn : OthersLearn
others-learn settings i m p journal from reply request stands may read plain found isn't =
    ap (λ l. of_instance (extended journal l) i) (hears-made settings m p journal from reply request stands may read plain here).entries
    ∙ leaves-entries i m journal _ (leaves-reply i m journal (standing settings journal) reply request.eid isn't (known-now settings i m journal reply.nonce request here))
  where
    here : with_nonce (open_requests m journal) reply.nonce ≡ Some request
    here = ap (λ (v : View). with_nonce v.requests reply.nonce) (sym (seen-now settings p journal m stands may)) ∙ found

pub others-solicit : OthersSolicit
others-solicit settings i m p journal asker request stands may smr plain few all =
    ap (λ l. of_instance (extended journal l) i) (solicits-made settings m p journal asker request stands may few).entries
    ∙ subst (λ (h : Heard Journal). of_instance (extended journal h.change.entries) i ≡ of_instance journal i) (sym (solicited-so (standing settings journal) m asker request journal smr plain))
    (leaves-entries i m journal _ (leaves-ranges i m journal (standing settings journal) (ranges_of request) (unchanged journal) all (record { grown = refl; same = refl })))

pub solicits-stay : SolicitsStay
unfolding noted
solicits-stay settings i m p journal rloc eid = by (is_some (ours (standing_in settings p).locators rloc) && (view_in p m).may_solicit rloc eid)
  where
    stands : Settings
    stands = standing_in settings p

    by : (b : Bool) → AreOneIn i (extended journal (cond b (solicited table stands m (next_nonce table stands m (unchanged p)) rloc eid (unchanged p)) (unchanged p)).entries) journal
    by true = refl
    by false = refl
