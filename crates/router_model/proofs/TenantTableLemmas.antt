-- What an instance learns is the same by a journal and by its part.
use Rattle.std.proofs.Common.{◌≡◌, ℕ, max, ◌≤◌, ◌==◌, ◌||◌, ◌&&◌, not, Bool, true, false, cond, List, [], ◌∷◌, ◌++◌, Some, refl, sym, ap, subst, ◌∙◌, arith}
use Rattle.std.proofs.lemmas.Bool.{eq-eqb, eqb-true}
use Rattle.ip_headers.specs.declared.addr.Addr.{Addr}
use Rattle.mapping_records.specs.declared.eid.Eid.{Eid}
use Rattle.mapping_records.specs.declared.record.Record.{Record}
use Rattle.mapping_records.specs.Eids.{covers_eid}
use Rattle.map_messages.specs.declared.message.MapReply.{MapReply}
use Rattle.lisp_settings.specs.Instances.{limits_in}
use Rattle.lisp_settings.specs.declared.settings.Settings.{Settings}
use Rattle.request_queue.specs.Queue.{with_nonce}
use Rattle.request_queue.specs.declared.request.Request.{Request}
use Rattle.router_log.specs.declared.entry.Entry.{Entry}
use Rattle.router_log.specs.declared.entry.Entry.TheVariants.{Learned, Answered}
use Rattle.router_model.specs.Changes.{Change, asked, each, entered, has_room, journal as of_journal, unchanged}
use Rattle.router_log.specs.declared.verdict.Reason.TheVariants.{Unfit}
use Rattle.router_model.specs.Hear.{drops, is_asked_for, is_fit, is_static, probe_replied, replied_to, reply_heard, shortened, tallied, taught}
use Rattle.router_model.specs.Isolation.{asked_in, counts_in, of_instance}
use Rattle.router_model.specs.Journal.{Journal, last_moment}
use Rattle.router_model.specs.Requests.{open_requests}
use Rattle.router_model.specs.Tenants.{AreAlike, LearningIsolated}
use Rattle.router_model.specs.View.{View, seen_at, view}
use Rattle.router_model.proofs.IsolationLemmas.{mine-before}
use Rattle.router_model.proofs.PartsLemmas.{and_both}
use Rattle.router_model.proofs.RequestLemmas.{requests-open}
use Rattle.router_model.proofs.TenantLemmas.{Each, Known, all-known, find-each, nonces-isolated, room-mine}

-- ### what is learned

-- a record that was asked for is of the instance of the EID
pub asked-iid : (asked : Eid) (mapping : Record) (mappings : List Record) → is_asked_for asked mappings mapping ≡ true → mapping.eid.iid ≡ asked.iid
asked-iid asked mapping [] is = cc
asked-iid asked mapping (wider ∷ mappings) is = by (covers_eid wider.eid asked && covers_eid wider.eid mapping.eid) refl is (asked-iid asked mapping mappings)
  where
    by : (b : Bool) → (covers_eid wider.eid asked && covers_eid wider.eid mapping.eid) ≡ b → (b || is_asked_for asked mappings mapping) ≡ true → (is_asked_for asked mappings mapping ≡ true → mapping.eid.iid ≡ asked.iid) → mapping.eid.iid ≡ asked.iid
    by true both is h =
        let covers = and_both (covers_eid wider.eid asked) (covers_eid wider.eid mapping.eid) both in
        sym (eqb-true wider.eid.iid mapping.eid.iid (and_both (wider.eid.iid == mapping.eid.iid) _ covers.1).0)
        ∙ eqb-true wider.eid.iid asked.iid (and_both (wider.eid.iid == asked.iid) _ covers.0).0
    by false both is h = h is

-- seen at a moment that isn't before the last entry's
pub seen-then : (journal : Journal) (m : ℕ) → last_moment journal ≤ m → view journal m ≡ seen_at journal m
unfolding view
seen-then journal m last = ap (seen_at journal) (at-then (last_moment journal) last)
  where
    at-then : (n : ℕ) → n ≤ m → max m n ≡ m
    at-then n less = omega (arith, less)

module _ (settings : Settings) (i m : ℕ) where
  -- changes of a journal and of that of the instance, which came so far alike
  record Apart (all mine : Change Journal) : Type 0 where
    entries : all.entries ≡ mine.entries
    after : of_instance all.after i ≡ mine.after
    last : last_moment all.after ≤ m
    mine_last : last_moment mine.after ≤ m

  module _ (asked : Eid) (mappings : List Record) (is : asked.iid ≡ i) where
    -- a record is learned of both
    entered-apart : (mapping : Record) (all mine : Change Journal) → mapping.eid.iid ≡ i → Apart all mine → Apart (entered of_journal settings m (Learned m (shortened mapping) false) all) (entered of_journal settings m (Learned m (shortened mapping) false) mine)
    entered-apart mapping all mine its apart = record {
      entries = ap (λ l. l ++ Learned m (shortened mapping) false ∷ []) apart.entries;
      after =
          ap (λ b. cond b (Learned m (shortened mapping) false ∷ of_instance all.after i) (of_instance all.after i)) (eq-eqb mapping.eid.iid i its)
          ∙ ap (λ j. Learned m (shortened mapping) false ∷ j) apart.after;
      last = omega arith;
      mine_last = omega arith;
    }

    taught-apart : (mapping : Record) (all mine : Change Journal) → Apart all mine → Apart (taught of_journal settings m asked mappings mapping all) (taught of_journal settings m asked mappings mapping mine)
    taught-apart mapping all mine apart = by (is_asked_for asked mappings mapping) refl
      where
        told : Change Journal → Change Journal
        told = entered of_journal settings m (Learned m (shortened mapping) false)

        passes : Change Journal → Bool
        passes change = not (is_static settings mapping) && has_room (limits_in settings) (view change.after m) mapping

        alike : mapping.eid.iid ≡ i → passes all ≡ passes mine
        alike its =
            ap (λ b. not (is_static settings mapping) && b)
            (ap (λ v. has_room (limits_in settings) v mapping) (seen-then all.after m apart.last)
            ∙ room-mine all.after i m (limits_in settings) mapping its
            ∙ ap (λ j. has_room (limits_in settings) (seen_at j m) mapping) apart.after
            ∙ ap (λ v. has_room (limits_in settings) v mapping) (sym (seen-then mine.after m apart.mine_last)))

        both : (b c : Bool) → b ≡ c → mapping.eid.iid ≡ i → Apart (cond b (told all) all) (cond c (told mine) mine)
        both true true same its = entered-apart mapping all mine its apart
        both false false same its = apart
        both true false same its = cc
        both false true same its = cc

        by : (b : Bool) → is_asked_for asked mappings mapping ≡ b → Apart (cond (b && passes all) (told all) all) (cond (b && passes mine) (told mine) mine)
        by false fit = apart
        by true fit =
            let its = asked-iid asked mapping mappings fit ∙ is in
            both (passes all) (passes mine) (alike its) its

    each-apart : (records : List Record) (all mine : Change Journal) → Apart all mine → Apart (each (taught of_journal settings m asked mappings) records all) (each (taught of_journal settings m asked mappings) records mine)
    each-apart [] all mine apart = apart
    each-apart (mapping ∷ records) all mine apart = each-apart records _ _ (taught-apart mapping all mine apart)

  -- a reply to an open request of the instance
  replied-apart : (reply : MapReply) (request : Request) (journal : Journal) → request.eid.iid ≡ i → asked_in reply.nonce journal ≡ Some request.eid.iid → last_moment journal ≤ m → last_moment (of_instance journal i) ≤ m → AreAlike (replied_to of_journal settings m reply (Some request) (unchanged journal)) (replied_to of_journal settings m reply (Some request) (unchanged (of_instance journal i)))
  replied-apart reply request journal its asked last mine_last = by (is_fit request.eid reply.mappings)
    where
      told : Journal → Change Journal
      told j = entered of_journal settings m (Answered m reply.nonce) (unchanged j)

      answered : Apart (told journal) (told (of_instance journal i))
      answered = record {
        entries = refl;
        after =
            ap (λ b. cond b (Answered m reply.nonce ∷ of_instance journal i) (of_instance journal i))
            (ap (counts_in i) asked ∙ eq-eqb request.eid.iid i its);
        last = omega arith;
        mine_last = omega arith;
      }

      learned : Apart (each (taught of_journal settings m request.eid reply.mappings) reply.mappings (told journal)) (each (taught of_journal settings m request.eid reply.mappings) reply.mappings (told (of_instance journal i)))
      learned = each-apart request.eid reply.mappings its reply.mappings _ _ answered

      tallied-alike : (all mine : Change Journal) → all.entries ≡ mine.entries → AreAlike (tallied of_journal settings m reply all) (tallied of_journal settings m reply mine)
      tallied-alike all mine same = record {
        verdict = ap (λ (l : List Entry). (tallied of_journal settings m reply (record { after = journal; entries = l; emits = [] })).verdict) same;
        entries = same;
      }

      by : (b : Bool) → AreAlike (cond b (tallied of_journal settings m reply (each (taught of_journal settings m request.eid reply.mappings) reply.mappings (told journal))) (drops Unfit (unchanged journal))) (cond b (tallied of_journal settings m reply (each (taught of_journal settings m request.eid reply.mappings) reply.mappings (told (of_instance journal i)))) (drops Unfit (unchanged (of_instance journal i))))
      by true = tallied-alike _ _ learned.entries
      by false = record { verdict = refl; entries = refl }

-- a reply that answers no probe
pub reply-plain : (settings : Settings) (m : ℕ) (from : Addr) (reply : MapReply) (journal : Journal) → reply.probe ≡ false → reply_heard of_journal settings m from reply (unchanged journal) ≡ replied_to of_journal settings m reply (with_nonce (view journal m).requests reply.nonce) (unchanged journal)
unfolding reply_heard
reply-plain settings m from reply journal plain =
    ap (λ b. cond b (probe_replied of_journal settings m from reply ((view journal m).probe_open reply.nonce) (unchanged journal)) (replied_to of_journal settings m reply (with_nonce (view journal m).requests reply.nonce) (unchanged journal))) plain

module _ (settings : Settings) (i m : ℕ) where
  -- what is known of an open request
  pub known-now : (journal : Journal) (nonce : ℕ) (request : Request) → with_nonce (open_requests m journal) nonce ≡ Some request → asked_in nonce journal ≡ Some request.eid.iid
  known-now journal nonce request found =
      let known = find-each (Known m journal) (λ r. r.nonce == nonce) (open_requests m journal) request (subst (Each (Known m journal)) (requests-open m journal) (all-known m journal)) found in
      ap (λ n. asked_in n journal) (sym (eqb-true request.nonce nonce known.1)) ∙ known.0.0

-- ### what is promised

pub learning-isolated : LearningIsolated
learning-isolated settings journal i m from reply request rising last differ plain found is =
    subst (λ h. AreAlike h (reply_heard of_journal settings m from reply (unchanged (of_instance journal i)))) (sym (replied journal last found))
    (subst (λ h. AreAlike (replied_to of_journal settings m reply (Some request) (unchanged journal)) h) (sym (replied (of_instance journal i) mine_last own))
    (replied-apart settings i m reply request journal is (known-now settings i m journal reply.nonce request found) last mine_last))
  where
    mine_last : last_moment (of_instance journal i) ≤ m
    mine_last = (let before = mine-before i journal rising in omega (arith, before, last))

    own : with_nonce (open_requests m (of_instance journal i)) reply.nonce ≡ Some request
    own = (nonces-isolated journal i m reply.nonce request rising differ).0 found is

    replied : (j : Journal) → last_moment j ≤ m → with_nonce (open_requests m j) reply.nonce ≡ Some request → reply_heard of_journal settings m from reply (unchanged j) ≡ replied_to of_journal settings m reply (Some request) (unchanged j)
    replied j before waits =
        reply-plain settings m from reply j plain
        ∙ ap (λ o. replied_to of_journal settings m reply o (unchanged j)) (ap (λ (v : View). with_nonce v.requests reply.nonce) (seen-then j m before) ∙ waits)
