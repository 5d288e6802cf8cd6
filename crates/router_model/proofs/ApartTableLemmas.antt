-- Tables that stand for journals which are one to an instance, but for nonces, ask, learn and are solicited alike for it.
use Rattle.std.proofs.Common.{◌≡◌, ℕ, suc, ◌+◌, ◌≤◌, ◌==◌, ◌||◌, ◌&&◌, not, nat_lt, Bool, true, false, cond, List, [], ◌∷◌, ◌++◌, Option, Some, None, option_map, length, map, refl, sym, ap, ap₂, subst, ◌∙◌, arith}
use Rattle.std.specs.List.{list_all}
use Rattle.std.specs.Prelude.{IfSome}
use Rattle.std.proofs.lemmas.Bool.{eq-eqb, eqb-true}
use Rattle.std.proofs.lemmas.List.{length-map, map-append}
use Rattle.std.proofs.lemmas.Option.{same_Some}
use Rattle.ip_headers.specs.declared.addr.Addr.{Addr}
use Rattle.mapping_records.specs.Eids.{IsLongest}
use Rattle.mapping_records.specs.declared.eid.Eid.{Eid}
use Rattle.mapping_records.specs.declared.record.Record.{Record}
use Rattle.mapping_records.proofs.LongestLemmas.{longest_is}
use Rattle.map_messages.specs.declared.message.MapReply.{MapReply}
use Rattle.map_messages.specs.declared.message.MapRequest.{MapRequest}
use Rattle.lisp_settings.specs.Instances.{limits_in, mappings_in}
use Rattle.lisp_settings.specs.declared.settings.LimitItem.{LimitItem}
use Rattle.lisp_settings.specs.declared.settings.Settings.{Settings}
use Rattle.request_queue.specs.Queue.{with_nonce}
use Rattle.request_queue.specs.declared.request.Request.{Request}
use Rattle.router_log.specs.declared.emit.Emit.{Emit}
use Rattle.router_log.specs.declared.emit.Emit.TheVariants as emit
use Rattle.router_log.specs.declared.entry.Entry.{Entry}
use Rattle.router_log.specs.declared.entry.Entry.TheVariants.{Learned, Asked, Answered, Bits}
use Rattle.router_log.specs.declared.notice.Notice.{Notice}
use Rattle.router_log.specs.declared.notice.Notice.TheVariants as notice
use Rattle.router_log.specs.declared.verdict.Done.TheVariants.{Solicited}
use Rattle.router_log.specs.declared.verdict.Reason.TheVariants.{Unfit}
use Rattle.router_log.specs.declared.verdict.Verdict.TheVariants as outcome
use Rattle.router_model.specs.Alone.{OthersNote, SolicitedApart, TablesAsk, TablesLearn, TablesSolicited}
use Rattle.router_model.specs.Apart.{AreOneIn, HeardAsOne, StayOne, asked_count, by_number, emit_apart, entry_apart, number_of, numbered}
use Rattle.router_model.specs.Changes.{Change, asked, each, entered, has_room, journal as of_journal, learned_in, may_ask, may_replace, next_nonce, unchanged}
use Rattle.router_model.specs.Hear.{Asker, Heard, Range, answered, asked_again, counted, drops, is_asked_for, is_fit, is_static, ranges_of, renewable, renewed, replied_to, reply_heard, requested, shortened, tallied, taught}
use Rattle.router_model.specs.Isolation.{asked_in, counts_in, of_instance, told_of}
use Rattle.router_model.specs.Journal.{Journal, IsRising, changed, extended, last_moment}
use Rattle.router_model.specs.Lifting.{MayGo, Ready}
use Rattle.router_model.specs.Limits.{most_heard}
use Rattle.router_model.specs.Mappings.{Held, exact, force}
use Rattle.router_model.specs.Note.{is_learned, is_missing, is_news, is_wanting, noted}
use Rattle.router_model.specs.Parts.{Parts, Stands, parts_in, standing_in, table, view_in}
use Rattle.router_model.specs.Requests.{open_requests}
use Rattle.router_model.specs.Standing.{own_after, standing}
use Rattle.router_model.specs.Tenants.{IsRead, NoncesDiffer, notice_eid}
use Rattle.router_model.specs.View.{View, seen_at, view}
use Rattle.router_model.proofs.ApartLemmas.{may_ask-numbered, mine-differ, numbered-asked, numbered-live, numbered-nonce, numbered-standing, numbered-steps}
use Rattle.router_model.proofs.HearLemmas.{reply_heard-alike, requested-alike}
use Rattle.router_model.proofs.IsolationLemmas.{all-standing, all-steps, mine-force, mine-rises}
use Rattle.router_model.proofs.PartsLemmas.{and_both}
use Rattle.router_model.proofs.SideLemmas.{extended-more}
use Rattle.router_model.proofs.StandsLemmas.{proper-rises, standing-sees}
use Rattle.router_model.proofs.TenantLemmas.{asks, asks-mine, exact-mine, may_ask-mine, nonces-isolated, room-mine}
use Rattle.router_model.proofs.TenantTableLemmas.{asked-iid, known-now, reply-plain, seen-then}
use Rattle.router_model.proofs.UpsLemmas.{stands-in}

-- the moment of a table that may be asked
pub seen-now : (settings : Settings) (p : Parts) (journal : Journal) (m : ℕ) → Stands settings p journal → MayGo journal m → view_in p m ≡ seen_at journal m
seen-now settings p journal m stands may = standing-sees settings p journal m stands ∙ seen-then journal m may.0

-- ### an entry more

module _ (i : ℕ) where
  -- entries of the instance that are one but for nonces
  one-more : (e f : Entry) (mine theirs : Journal) → counts_in i (told_of e mine) ≡ true → counts_in i (told_of f theirs) ≡ true → numbered (e ∷ of_instance mine i) ≡ numbered (f ∷ of_instance theirs i) → AreOneIn i (e ∷ mine) (f ∷ theirs)
  one-more e f mine theirs counts counts' alike =
      ap (λ b. numbered (cond b (e ∷ of_instance mine i) (of_instance mine i))) counts
      ∙ alike
      ∙ sym (ap (λ b. numbered (cond b (f ∷ of_instance theirs i) (of_instance theirs i))) counts')

  -- a request for an EID of the instance
  one-asked : (m : ℕ) (eid : Eid) (source : Option Addr) (invoked : Bool) (a b : ℕ) (mine theirs : Journal) → eid.iid ≡ i → AreOneIn i mine theirs → AreOneIn i (Asked m eid source invoked a ∷ mine) (Asked m eid source invoked b ∷ theirs)
  one-asked m eid source invoked a b mine theirs is same =
      one-more (Asked m eid source invoked a) (Asked m eid source invoked b) mine theirs (eq-eqb eid.iid i is) (eq-eqb eid.iid i is)
      (ap₂ (λ n j. Asked m eid source invoked (suc n) ∷ j) (sym (numbered-asked (of_instance mine i)) ∙ ap asked_count same ∙ numbered-asked (of_instance theirs i)) same)

  one-bits : (m : ℕ) (eid : Eid) (bits width : ℕ) (mine theirs : Journal) → eid.iid ≡ i → AreOneIn i mine theirs → AreOneIn i (Bits m eid bits width ∷ mine) (Bits m eid bits width ∷ theirs)
  one-bits m eid bits width mine theirs is same =
      one-more (Bits m eid bits width) (Bits m eid bits width) mine theirs (eq-eqb eid.iid i is) (eq-eqb eid.iid i is)
      (ap (λ j. Bits m eid bits width ∷ j) same)

  -- the settings that stand
  pub one-standing : (settings : Settings) (mine theirs : Journal) → AreOneIn i mine theirs → standing settings mine ≡ standing settings theirs
  one-standing settings mine theirs same = by mine ∙ ap (standing settings) same ∙ sym (by theirs)
    where
      by : (journal : Journal) → standing settings journal ≡ standing settings (numbered (of_instance journal i))
      by journal = sym (all-standing settings i journal) ∙ sym (numbered-standing settings (of_instance journal i))

  -- and the changes that were made
  pub one-steps : (settings : Settings) (mine theirs : Journal) → AreOneIn i mine theirs → changed mine ≡ changed theirs
  one-steps settings mine theirs same = by mine ∙ ap changed same ∙ sym (by theirs)
    where
      by : (journal : Journal) → changed journal ≡ changed (numbered (of_instance journal i))
      by journal = sym (all-steps settings i journal) ∙ sym (numbered-steps settings (of_instance journal i))

-- ### notices

-- a notice of an EID leads to an entry
abbrev heeds : Settings → List LimitItem → View → Notice → Bool
heeds settings limits v (notice.Ask eid source) = asks settings limits v (notice.Ask eid source)
heeds settings limits v (notice.Refresh eid) = asks settings limits v (notice.Refresh eid)
heeds settings limits v (notice.Bits eid rloc bits width) = is_news rloc bits width (exact v.mappings eid)
heeds settings limits v _ = false

-- that entry, and the packet that goes out
abbrev entries_of : ℕ → ℕ → Notice → List Entry
entries_of m n (notice.Ask eid source) = Asked m eid source false n ∷ []
entries_of m n (notice.Refresh eid) = Asked m eid None false n ∷ []
entries_of m n (notice.Bits eid rloc bits width) = Bits m eid bits width ∷ []
entries_of m n _ = []

abbrev emits_of : ℕ → Notice → List Emit
emits_of n (notice.Ask eid source) = emit.Request eid source false n ∷ []
emits_of n (notice.Refresh eid) = emit.Request eid None false n ∷ []
emits_of n _ = []

record Made (heed : Bool) (m n : ℕ) (told : Notice) (change : Change Parts) : Type 0 where
  entries : change.entries ≡ cond heed (entries_of m n told) []
  emits : change.emits ≡ cond heed (emits_of n told) []

noted-made : (settings : Settings) (p : Parts) (m : ℕ) (told : Notice) (eid : Eid) → notice_eid told ≡ Some eid → Made (heeds settings p.limits (view_in p m) told) m (next_nonce table settings m (unchanged p)) told (noted table settings m told (unchanged p))
unfolding noted
noted-made settings p m (notice.Ask k source) eid names = by (is_missing settings p.limits (view_in p m) k)
  where
    by : (b : Bool) → Made b m (next_nonce table settings m (unchanged p)) (notice.Ask k source) (cond b (asked table settings m k source false (unchanged p)) (unchanged p))
    by true = record { entries = refl; emits = refl }
    by false = record { entries = refl; emits = refl }
noted-made settings p m (notice.Refresh k) eid names = by (is_learned (exact (view_in p m).mappings k) && may_ask settings p.limits (view_in p m) k)
  where
    by : (b : Bool) → Made b m (next_nonce table settings m (unchanged p)) (notice.Refresh k) (cond b (asked table settings m k None false (unchanged p)) (unchanged p))
    by true = record { entries = refl; emits = refl }
    by false = record { entries = refl; emits = refl }
noted-made settings p m (notice.Bits k rloc bits width) eid names = by (is_news rloc bits width (exact (view_in p m).mappings k))
  where
    by : (b : Bool) → Made b m (next_nonce table settings m (unchanged p)) (notice.Bits k rloc bits width) (cond b (entered table settings m (Bits m k bits width) (unchanged p)) (unchanged p))
    by true = record { entries = refl; emits = refl }
    by false = record { entries = refl; emits = refl }
noted-made settings p m _ eid names = cc

module _ (i m : ℕ) (told : Notice) (eid : Eid) (names : notice_eid told ≡ Some eid) where
  -- what was made so stays one
  stay-made : (mine theirs : Journal) (b : Bool) (n k : ℕ) (one other : Change Parts) → eid.iid ≡ i → AreOneIn i mine theirs → Made b m n told one → Made b m k told other → StayOne i mine theirs one other
  stay-made mine theirs b n k one other is same made made' = record {
    apart = record {
      entries = ap (map entry_apart) made.entries ∙ entries told b ∙ sym (ap (map entry_apart) made'.entries);
      emits = ap (map emit_apart) made.emits ∙ emits told b ∙ sym (ap (map emit_apart) made'.emits);
    };
    same =
        ap (λ l. numbered (of_instance (extended mine l) i)) made.entries
        ∙ stay told b names
        ∙ sym (ap (λ l. numbered (of_instance (extended theirs l) i)) made'.entries);
  }
    where
      entries : (told : Notice) (b : Bool) → map entry_apart (cond b (entries_of m n told) []) ≡ map entry_apart (cond b (entries_of m k told) [])
      entries told false = refl
      entries (notice.Ask eid source) true = refl
      entries (notice.Refresh eid) true = refl
      entries (notice.Bits eid rloc bits width) true = refl
      entries _ true = refl

      emits : (told : Notice) (b : Bool) → map emit_apart (cond b (emits_of n told) []) ≡ map emit_apart (cond b (emits_of k told) [])
      emits told false = refl
      emits (notice.Ask eid source) true = refl
      emits (notice.Refresh eid) true = refl
      emits _ true = refl

      its : (j : Eid) → Some j ≡ Some eid → j.iid ≡ i
      its j names = ap (λ (e : Eid). e.iid) (same_Some j eid names) ∙ is

      stay : (told : Notice) (b : Bool) → notice_eid told ≡ Some eid → AreOneIn i (extended mine (cond b (entries_of m n told) [])) (extended theirs (cond b (entries_of m k told) []))
      stay told false names = same
      stay (notice.Ask j source) true names = one-asked i m j source false n k mine theirs (its j names) same
      stay (notice.Refresh j) true names = one-asked i m j None false n k mine theirs (its j names) same
      stay (notice.Bits j rloc bits width) true names = one-bits i m j bits width mine theirs (its j names) same
      stay _ true names = cc

  -- a table heeds a notice as the journal of the instance, with numbers, would
  heeds-as : (settings : Settings) (p : Parts) (journal : Journal) → Stands settings p journal → MayGo journal m → NoncesDiffer m journal → eid.iid ≡ i → let j = numbered (of_instance journal i) in heeds (standing_in settings p) p.limits (view_in p m) told ≡ heeds (standing settings j) (limits_in settings) (seen_at j m) told
  heeds-as settings p journal stands may differ is =
      ap (λ q. heeds (standing_in settings q) q.limits (view_in p m) told) stands.whole
      ∙ ap₂ (λ s v. heeds s (limits_in settings) v told) (stands-in settings journal ∙ sym (all-standing settings i journal) ∙ sym (numbered-standing settings mine)) (seen-now settings p journal m stands may)
      ∙ by told names
    where
      mine : Journal
      mine = of_instance journal i

      s : Settings
      s = standing settings (numbered mine)

      rising : IsRising journal
      rising = proper-rises settings journal stands.proper

      its : (j : Eid) → Some j ≡ Some eid → j.iid ≡ i
      its j names = ap (λ (e : Eid). e.iid) (same_Some j eid names) ∙ is

      may_ask-as : (j : Eid) → may_ask s (limits_in settings) (seen_at mine m) j ≡ may_ask s (limits_in settings) (seen_at (numbered mine) m) j
      may_ask-as j = may_ask-numbered s (limits_in settings) m mine j (mine-rises i journal rising) (mine-differ i m journal differ)

      by : (told : Notice) → notice_eid told ≡ Some eid → heeds s (limits_in settings) (seen_at journal m) told ≡ heeds s (limits_in settings) (seen_at (numbered mine) m) told
      by (notice.Ask j source) names =
          asks-mine journal i m rising differ s (limits_in settings) (notice.Ask j source) j refl (its j names)
          ∙ ap₂ (λ b l. b && is_wanting (force l j.iid j.prefix.addr j.prefix.len)) (may_ask-as j) (sym (numbered-live m mine))
      by (notice.Refresh j) names =
          asks-mine journal i m rising differ s (limits_in settings) (notice.Refresh j) j refl (its j names)
          ∙ ap₂ (λ b l. is_learned (exact l j) && b) (may_ask-as j) (sym (numbered-live m mine))
      by (notice.Bits j rloc bits width) names =
          ap (is_news rloc bits width) (exact-mine journal i m j (its j names) ∙ ap (λ l. exact l j) (sym (numbered-live m mine)))
      by _ names = cc

pub tables-ask : TablesAsk
tables-ask settings i m one other mine theirs told eid both names is =
    stay-made i m told eid names mine theirs _ _ _ _ _ is both.same (noted-made (standing_in settings one) one m told eid names)
    (subst (λ b. Made b m (next_nonce table (standing_in settings other) m (unchanged other)) told (noted table (standing_in settings other) m told (unchanged other))) (sym alike) (noted-made (standing_in settings other) other m told eid names))
  where
    alike : heeds (standing_in settings one) one.limits (view_in one m) told ≡ heeds (standing_in settings other) other.limits (view_in other m) told
    alike =
        heeds-as i m told eid names settings one mine both.stand.0 both.may.0 both.differ.0 is
        ∙ ap (λ j. heeds (standing settings j) (limits_in settings) (seen_at j m) told) both.same
        ∙ sym (heeds-as i m told eid names settings other theirs both.stand.1 both.may.1 both.differ.1 is)

pub others-note : OthersNote
others-note settings i m p journal told eid names isn't =
    ap (λ l. of_instance (extended journal l) i) (noted-made (standing_in settings p) p m told eid names).entries
    ∙ by told (heeds (standing_in settings p) p.limits (view_in p m) told) names
  where
    n : ℕ
    n = next_nonce table (standing_in settings p) m (unchanged p)

    others : (j : Eid) (e : Entry) → Some j ≡ Some eid → cond (j.iid == i) (e ∷ of_instance journal i) (of_instance journal i) ≡ of_instance journal i
    others j e names = ap (λ b. cond b (e ∷ of_instance journal i) (of_instance journal i)) (ap (λ (k : Eid). k.iid == i) (same_Some j eid names) ∙ isn't)

    by : (told : Notice) (b : Bool) → notice_eid told ≡ Some eid → of_instance (extended journal (cond b (entries_of m n told) [])) i ≡ of_instance journal i
    by told false names = refl
    by (notice.Ask j source) true names = others j (Asked m j source false n) names
    by (notice.Refresh j) true names = others j (Asked m j None false n) names
    by (notice.Bits j rloc bits width) true names = others j (Bits m j bits width) names
    by _ true names = cc

-- ### what is heard

-- a table heard what the journal says
pub record Tells (h : Heard Parts) (g : Heard Journal) : Type 0 where
  pub verdict : h.verdict ≡ g.verdict
  pub entries : h.change.entries ≡ g.change.entries
  pub emits : h.change.emits ≡ g.change.emits

-- so two tables hear as one where the journals do
pub tables-as : (i : ℕ) (mine theirs : Journal) (h h' : Heard Parts) (g g' : Heard Journal) → Tells h g → Tells h' g' → HeardAsOne i mine theirs g g' → HeardAsOne i mine theirs h h'
tables-as i mine theirs h h' g g' tells tells' as_one = record {
  verdict = tells.verdict ∙ as_one.verdict ∙ sym tells'.verdict;
  change = record {
    apart = record {
      entries = ap (map entry_apart) tells.entries ∙ as_one.change.apart.entries ∙ sym (ap (map entry_apart) tells'.entries);
      emits = ap (map emit_apart) tells.emits ∙ as_one.change.apart.emits ∙ sym (ap (map emit_apart) tells'.emits);
    };
    same =
        ap (λ l. numbered (of_instance (extended mine l) i)) tells.entries ∙ as_one.change.same
        ∙ sym (ap (λ l. numbered (of_instance (extended theirs l) i)) tells'.entries);
  };
}

-- ### what is learned

room-numbered : (limits : List LimitItem) (m : ℕ) (journal : Journal) (mapping : Record) → has_room limits (seen_at journal m) mapping ≡ has_room limits (seen_at (numbered journal) m) mapping
room-numbered limits m journal mapping =
    ap (λ l. may_replace limits v mapping (exact l mapping.eid)) (sym (numbered-live m journal)) ∙ by (exact w.mappings mapping.eid)
  where
    v : View
    v = seen_at journal m

    w : View
    w = seen_at (numbered journal) m

    by : (o : Option Held) → may_replace limits v mapping o ≡ may_replace limits w mapping o
    by (Some held) = refl
    by None = ap (λ l. (mapping.ttl == 0) || nat_lt (learned_in mapping.eid.iid l) (mappings_in limits mapping.eid.iid)) (sym (numbered-live m journal))

module _ (i m : ℕ) (mine theirs : Journal) (a b : ℕ) where
  -- changes of the journals by an answer to each, and by the same records
  record Learns (one other : Change Journal) : Type 0 where
    learned : List Entry
    entries : one.entries ≡ Answered m a ∷ learned
    entries' : other.entries ≡ Answered m b ∷ learned
    emits : one.emits ≡ []
    emits' : other.emits ≡ []
    grown : one.after ≡ extended mine one.entries
    grown' : other.after ≡ extended theirs other.entries
    last : last_moment one.after ≤ m
    last' : last_moment other.after ≤ m
    same : AreOneIn i one.after other.after

  module _ (settings : Settings) where
    entered-learns : (mapping : Record) (one other : Change Journal) → mapping.eid.iid ≡ i → Learns one other → Learns (entered of_journal settings m (Learned m (shortened mapping) false) one) (entered of_journal settings m (Learned m (shortened mapping) false) other)
    entered-learns mapping one other is l = record {
      learned = l.learned ++ e ∷ [];
      entries = ap (λ k. k ++ e ∷ []) l.entries;
      entries' = ap (λ k. k ++ e ∷ []) l.entries';
      emits = l.emits;
      emits' = l.emits';
      grown = ap (λ j. e ∷ j) l.grown ∙ sym (extended-more mine one.entries (e ∷ []));
      grown' = ap (λ j. e ∷ j) l.grown' ∙ sym (extended-more theirs other.entries (e ∷ []));
      last = omega arith;
      last' = omega arith;
      same = one-more i e e one.after other.after (eq-eqb mapping.eid.iid i is) (eq-eqb mapping.eid.iid i is) (ap (λ j. Learned m (shortened mapping) false ∷ j) l.same);
    }
      where
        e : Entry
        e = Learned m (shortened mapping) false

    -- whether there is room is the same
    room-alike : (mapping : Record) (one other : Change Journal) → mapping.eid.iid ≡ i → Learns one other → has_room (limits_in settings) (view one.after m) mapping ≡ has_room (limits_in settings) (view other.after m) mapping
    room-alike mapping one other is l =
        by one.after l.last ∙ ap (λ j. has_room (limits_in settings) (seen_at j m) mapping) l.same ∙ sym (by other.after l.last')
      where
        by : (journal : Journal) → last_moment journal ≤ m → has_room (limits_in settings) (view journal m) mapping ≡ has_room (limits_in settings) (seen_at (numbered (of_instance journal i)) m) mapping
        by journal last =
            ap (λ v. has_room (limits_in settings) v mapping) (seen-then journal m last)
            ∙ room-mine journal i m (limits_in settings) mapping is
            ∙ room-numbered (limits_in settings) m (of_instance journal i) mapping

    module _ (asked : Eid) (mappings : List Record) (is : asked.iid ≡ i) where
      taught-learns : (mapping : Record) (one other : Change Journal) → Learns one other → Learns (taught of_journal settings m asked mappings mapping one) (taught of_journal settings m asked mappings mapping other)
      taught-learns mapping one other l = by (is_asked_for asked mappings mapping) refl
        where
          told : Change Journal → Change Journal
          told = entered of_journal settings m (Learned m (shortened mapping) false)

          passes : Change Journal → Bool
          passes change = not (is_static settings mapping) && has_room (limits_in settings) (view change.after m) mapping

          both : (c d : Bool) → c ≡ d → mapping.eid.iid ≡ i → Learns (cond c (told one) one) (cond d (told other) other)
          both true true alike its = entered-learns mapping one other its l
          both false false alike its = l
          both true false alike its = cc
          both false true alike its = cc

          by : (c : Bool) → is_asked_for asked mappings mapping ≡ c → Learns (cond (c && passes one) (told one) one) (cond (c && passes other) (told other) other)
          by false fit = l
          by true fit =
              let its = asked-iid asked mapping mappings fit ∙ is in
              both (passes one) (passes other) (ap (λ b. not (is_static settings mapping) && b) (room-alike mapping one other its l)) its

      each-learns : (records : List Record) (one other : Change Journal) → Learns one other → Learns (each (taught of_journal settings m asked mappings) records one) (each (taught of_journal settings m asked mappings) records other)
      each-learns [] one other l = l
      each-learns (mapping ∷ records) one other l = each-learns records _ _ (taught-learns mapping one other l)

    -- what such changes are
    learns-as : (reply reply' : MapReply) (one other : Change Journal) → reply.mappings ≡ reply'.mappings → Learns one other → HeardAsOne i mine theirs (tallied of_journal settings m reply one) (tallied of_journal settings m reply' other) × (a ≡ b → one.entries ≡ other.entries)
    learns-as reply reply' one other mappings l = (
      record {
        verdict =
            ap (λ (k : List Entry). (tallied of_journal settings m reply (made k)).verdict) l.entries
            ∙ ap (λ (k : List Record). (tallied of_journal settings m (record reply { mappings = k }) (made (Answered m a ∷ l.learned))).verdict) mappings
            ∙ sym (ap (λ (k : List Entry). (tallied of_journal settings m reply' (made k)).verdict) l.entries');
        change = record {
          apart = record {
            entries = ap (map entry_apart) l.entries ∙ sym (ap (map entry_apart) l.entries');
            emits = ap (map emit_apart) l.emits ∙ sym (ap (map emit_apart) l.emits');
          };
          same = ap (λ j. numbered (of_instance j i)) (sym l.grown) ∙ l.same ∙ ap (λ j. numbered (of_instance j i)) l.grown';
        };
      },
      λ nonces. l.entries ∙ ap (λ n. Answered m n ∷ l.learned) nonces ∙ sym l.entries',
    )
      where
        made : List Entry → Change Journal
        made entries = record { after = mine; entries = entries; emits = [] }

-- what a reply makes of a journal by which an EID was asked for
abbrev pub reply_made : Settings → ℕ → MapReply → Eid → Journal → Heard Journal
reply_made settings m reply eid journal =
    cond (is_fit eid reply.mappings)
    (tallied of_journal settings m reply (each (taught of_journal settings m eid reply.mappings) reply.mappings (entered of_journal settings m (Answered m reply.nonce) (unchanged journal))))
    (drops Unfit (unchanged journal))

-- two replies that are one but for the nonce
made-as : (settings : Settings) (i m : ℕ) (mine theirs : Journal) (reply : MapReply) (n : ℕ) (eid : Eid) → eid.iid ≡ i → asked_in reply.nonce mine ≡ Some i → asked_in n theirs ≡ Some i → number_of reply.nonce (of_instance mine i) ≡ number_of n (of_instance theirs i) → AreOneIn i mine theirs → let one = reply_made settings m reply eid mine in let other = reply_made settings m (record reply { nonce = n }) eid theirs in HeardAsOne i mine theirs one other × (reply.nonce ≡ n → one.change.entries ≡ other.change.entries)
made-as settings i m mine theirs reply n eid is asked asked' number same = by (is_fit eid reply.mappings)
  where
    told : ℕ → Journal → Change Journal
    told nonce journal = entered of_journal settings m (Answered m nonce) (unchanged journal)

    taught_all : Change Journal → Change Journal
    taught_all change = each (taught of_journal settings m eid reply.mappings) reply.mappings change

    counts : (nonce : ℕ) (journal : Journal) → asked_in nonce journal ≡ Some i → counts_in i (asked_in nonce journal) ≡ true
    counts nonce journal asked = ap (counts_in i) asked ∙ eq-eqb i i refl

    answered : Learns i m mine theirs reply.nonce n (told reply.nonce mine) (told n theirs)
    answered = record {
      learned = [];
      entries = refl;
      entries' = refl;
      emits = refl;
      emits' = refl;
      grown = refl;
      grown' = refl;
      last = omega arith;
      last' = omega arith;
      same =
          one-more i (Answered m reply.nonce) (Answered m n) mine theirs (counts reply.nonce mine asked) (counts n theirs asked')
          (ap₂ (λ k j. Answered m k ∷ j) number same);
    }

    by : (b : Bool) → let one = cond b (tallied of_journal settings m reply (taught_all (told reply.nonce mine))) (drops Unfit (unchanged mine)) in let other = cond b (tallied of_journal settings m (record reply { nonce = n }) (taught_all (told n theirs))) (drops Unfit (unchanged theirs)) in HeardAsOne i mine theirs one other × (reply.nonce ≡ n → one.change.entries ≡ other.change.entries)
    by true =
        learns-as i m mine theirs reply.nonce n settings reply (record reply { nonce = n }) (taught_all (told reply.nonce mine)) (taught_all (told n theirs)) refl
        (each-learns i m mine theirs reply.nonce n settings eid reply.mappings is reply.mappings _ _ answered)
    by false = (record { verdict = refl; change = record { apart = record { entries = refl; emits = refl }; same = same } }, λ nonces. refl)

-- a table hears a reply to an open request so
pub hears-made : (settings : Settings) (m : ℕ) (p : Parts) (journal : Journal) (from : Addr) (reply : MapReply) (request : Request) → Stands settings p journal → MayGo journal m → IsRead reply → reply.probe ≡ false → with_nonce (open_requests m journal) reply.nonce ≡ Some request → Tells (reply_heard table (standing_in settings p) m from reply (unchanged p)) (reply_made (standing settings journal) m reply request.eid journal)
hears-made settings m p journal from reply request stands may read plain found =
    subst (λ q. Tells (reply_heard table (standing_in settings q) m from reply (unchanged q)) (reply_made (standing settings journal) m reply request.eid journal)) (sym stands.whole)
    (subst (λ s. Tells (reply_heard table s m from reply (unchanged (parts_in settings journal))) (reply_made (standing settings journal) m reply request.eid journal)) (sym (stands-in settings journal))
    (subst (Tells (reply_heard table (standing settings journal) m from reply (unchanged (parts_in settings journal)))) replied told))
  where
    ready : Ready settings m (suc (0 + length reply.mappings)) journal
    ready = record { proper = stands.proper; last = may.0; room = (let room = may.1 in let few = read.few in omega (arith, room, few)) }

    told : Tells (reply_heard table (standing settings journal) m from reply (unchanged (parts_in settings journal))) (reply_heard of_journal (standing settings journal) m from reply (unchanged journal))
    told =
        let hears = reply_heard-alike settings (own_after settings journal) (changed journal) m 0 from reply (unchanged journal) read.bounded ready in
        record {
          verdict = ap (λ (h : Heard Parts). h.verdict) hears.same;
          entries = ap (λ (h : Heard Parts). h.change.entries) hears.same;
          emits = ap (λ (h : Heard Parts). h.change.emits) hears.same;
        }

    replied : reply_heard of_journal (standing settings journal) m from reply (unchanged journal) ≡ replied_to of_journal (standing settings journal) m reply (Some request) (unchanged journal)
    replied =
        reply-plain (standing settings journal) m from reply journal plain
        ∙ ap (λ o. replied_to of_journal (standing settings journal) m reply o (unchanged journal)) (ap (λ (v : View). with_nonce v.requests reply.nonce) (seen-then journal m may.0) ∙ found)

-- the request with the same number is open in the other journal, for the same EID
record Other (i m n : ℕ) (theirs : Journal) (eid : Eid) : Type 0 where
  request : Request
  open_there : with_nonce (open_requests m theirs) n ≡ Some request
  its : request.eid ≡ eid

other-open : (i m a n : ℕ) (mine theirs : Journal) (request : Request) → IsRising mine × IsRising theirs → NoncesDiffer m mine × NoncesDiffer m theirs → AreOneIn i mine theirs → number_of a (of_instance mine i) ≡ number_of n (of_instance theirs i) → with_nonce (open_requests m mine) a ≡ Some request → request.eid.iid ≡ i → Other i m n theirs request.eid
other-open i m a n mine theirs request rising differ same number found is = by (with_nonce (open_requests m (of_instance theirs i)) n) refl
  where
    own : with_nonce (open_requests m (of_instance mine i)) a ≡ Some request
    own = (nonces-isolated mine i m a request rising.0 differ.0).0 found is

    by_numbers : (journal : Journal) (k : ℕ) → IsRising journal → NoncesDiffer m journal → with_nonce (open_requests m (numbered (of_instance journal i))) (number_of k (of_instance journal i)) ≡ option_map (by_number (of_instance journal i)) (with_nonce (open_requests m (of_instance journal i)) k)
    by_numbers journal k rising differ = numbered-nonce m k (of_instance journal i) (mine-rises i journal rising) (mine-differ i m journal differ)

    alike : option_map (by_number (of_instance theirs i)) (with_nonce (open_requests m (of_instance theirs i)) n) ≡ Some (by_number (of_instance mine i) request)
    alike =
        sym (by_numbers theirs n rising.1 differ.1)
        ∙ ap₂ (λ j k. with_nonce (open_requests m j) k) (sym same) (sym number)
        ∙ by_numbers mine a rising.0 differ.0
        ∙ ap (option_map (by_number (of_instance mine i))) own

    by : (o : Option Request) → with_nonce (open_requests m (of_instance theirs i)) n ≡ o → Other i m n theirs request.eid
    by None none = let alike' = sym (ap (option_map (by_number (of_instance theirs i))) none) ∙ alike in cc alike'
    by (Some r) one = record {
      request = r;
      open_there = (nonces-isolated theirs i m n r rising.1 differ.1).1 one;
      its = ap (λ (x : Request). x.eid) (same_Some _ _ (sym (ap (option_map (by_number (of_instance theirs i))) one) ∙ alike));
    }

pub tables-learn : TablesLearn
tables-learn settings i m one other mine theirs from reply nonce request both read plain found is number =
    (tables-as i mine theirs _ _ _ _ tells tells' as_one.0, λ nonces. tells.entries ∙ as_one.1 nonces ∙ sym tells'.entries)
  where
    there : MapReply
    there = record reply { nonce = nonce }

    rising : IsRising mine × IsRising theirs
    rising = (proper-rises settings mine both.stand.0.proper, proper-rises settings theirs both.stand.1.proper)

    here : with_nonce (open_requests m mine) reply.nonce ≡ Some request
    here = ap (λ (v : View). with_nonce v.requests reply.nonce) (sym (seen-now settings one mine m both.stand.0 both.may.0)) ∙ found

    open_other : Other i m nonce theirs request.eid
    open_other = other-open i m reply.nonce nonce mine theirs request rising both.differ both.same number here is

    tells : Tells (reply_heard table (standing_in settings one) m from reply (unchanged one)) (reply_made (standing settings mine) m reply request.eid mine)
    tells = hears-made settings m one mine from reply request both.stand.0 both.may.0 read plain here

    tells' : Tells (reply_heard table (standing_in settings other) m from there (unchanged other)) (reply_made (standing settings mine) m there request.eid theirs)
    tells' =
        subst (λ e. Tells (reply_heard table (standing_in settings other) m from there (unchanged other)) (reply_made (standing settings mine) m there e theirs)) open_other.its
        (subst (λ s. Tells (reply_heard table (standing_in settings other) m from there (unchanged other)) (reply_made s m there open_other.request.eid theirs)) (sym (one-standing i settings mine theirs both.same))
        (hears-made settings m other theirs from there open_other.request both.stand.1 both.may.1 (record { bounded = read.bounded; few = read.few }) plain open_other.open_there))

    as_one : HeardAsOne i mine theirs (reply_made (standing settings mine) m reply request.eid mine) (reply_made (standing settings mine) m there request.eid theirs) × (reply.nonce ≡ nonce → (reply_made (standing settings mine) m reply request.eid mine).change.entries ≡ (reply_made (standing settings mine) m there request.eid theirs).change.entries)
    as_one =
        made-as (standing settings mine) i m mine theirs reply nonce request.eid is
        (known-now settings i m mine reply.nonce request here ∙ ap (λ k. Some k) is)
        (known-now settings i m theirs nonce open_other.request open_other.open_there ∙ ap (λ (e : Eid). Some e.iid) open_other.its ∙ ap (λ k. Some k) is)
        number both.same

-- ### SMRs

-- a mapping in force is of the instance that was asked for
pub force-iid : (l : List Held) (iid : ℕ) (addr : Addr) (len : ℕ) (held : Held) → force l iid addr len ≡ Some held → held.eid.iid ≡ iid
force-iid l iid addr len held is =
    let one : IsLongest (λ (h : Held). h.eid) l iid addr len held = subst (λ (o : Option Held). IfSome o (IsLongest (λ (h : Held). h.eid) l iid addr len)) is (longest_is (λ (h : Held). h.eid) l iid addr len) in
    eqb-true held.eid.iid iid (and_both (held.eid.iid == iid) _ one.covering).0

module _ (settings : Settings) (m : ℕ) where
  -- the EID that is asked for again
  abbrev pub renews : Range → Journal → Option Eid
  renews range journal = renewable settings (limits_in settings) (view journal m) (force (view journal m).mappings range.iid range.addr range.len)

  -- it is of the instance of the range
  pub renews-iid : (range : Range) (journal : Journal) (eid : Eid) → renews range journal ≡ Some eid → eid.iid ≡ range.iid
  renews-iid range journal eid is = by (force (view journal m).mappings range.iid range.addr range.len) refl is
    where
      by : (o : Option Held) → force (view journal m).mappings range.iid range.addr range.len ≡ o → renewable settings (limits_in settings) (view journal m) o ≡ Some eid → eid.iid ≡ range.iid
      by None found is = cc
      by (Some held) found is = may (not held.fixed && may_ask settings (limits_in settings) (view journal m) held.eid) is
        where
          may : (b : Bool) → cond b (Some held.eid) None ≡ Some eid → eid.iid ≡ range.iid
          may true is = ap (λ (e : Eid). e.iid) (sym (same_Some held.eid eid is)) ∙ force-iid (view journal m).mappings range.iid range.addr range.len held found
          may false is = cc

module _ (i m : ℕ) (mine theirs : Journal) where
  -- changes of the journals by requests for the same EIDs
  record Asks (one other : Change Journal) : Type 0 where
    entries : map entry_apart one.entries ≡ map entry_apart other.entries
    emits : map emit_apart one.emits ≡ map emit_apart other.emits
    grown : one.after ≡ extended mine one.entries
    grown' : other.after ≡ extended theirs other.entries
    rises : IsRising one.after
    rises' : IsRising other.after
    last : last_moment one.after ≤ m
    last' : last_moment other.after ≤ m
    same : AreOneIn i one.after other.after

  module _ (settings : Settings) where
    asked-asks : (eid : Eid) (one other : Change Journal) → eid.iid ≡ i → Asks one other → Asks (asked of_journal settings m eid None true one) (asked of_journal settings m eid None true other)
    asked-asks eid one other is a = record {
      entries =
          map-append entry_apart one.entries (Asked m eid None true n ∷ [])
          ∙ ap (λ l. l ++ Asked m eid None true 0 ∷ []) a.entries
          ∙ sym (map-append entry_apart other.entries (Asked m eid None true k ∷ []));
      emits =
          map-append emit_apart one.emits (emit.Request eid None true n ∷ [])
          ∙ ap (λ l. l ++ emit.Request eid None true 0 ∷ []) a.emits
          ∙ sym (map-append emit_apart other.emits (emit.Request eid None true k ∷ []));
      grown = ap (λ j. Asked m eid None true n ∷ j) a.grown ∙ sym (extended-more mine one.entries (Asked m eid None true n ∷ []));
      grown' = ap (λ j. Asked m eid None true k ∷ j) a.grown' ∙ sym (extended-more theirs other.entries (Asked m eid None true k ∷ []));
      rises = (a.last, a.rises);
      rises' = (a.last', a.rises');
      last = omega arith;
      last' = omega arith;
      same = one-asked i m eid None true n k one.after other.after is a.same;
    }
      where
        n : ℕ
        n = next_nonce of_journal settings m one

        k : ℕ
        k = next_nonce of_journal settings m other

    -- it is the one by the journal of the instance, with numbers
    renews-as : (range : Range) (journal : Journal) → range.iid ≡ i → IsRising journal → last_moment journal ≤ m → NoncesDiffer m journal → let j = numbered (of_instance journal i) in renews settings m range journal ≡ renewable settings (limits_in settings) (seen_at j m) (force (seen_at j m).mappings range.iid range.addr range.len)
    renews-as range journal is rising last differ =
        ap (λ (v : View). renewable settings (limits_in settings) v (force v.mappings range.iid range.addr range.len)) (seen-then journal m last)
        ∙ by (force (seen_at journal m).mappings range.iid range.addr range.len) refl
        ∙ ap (renewable settings (limits_in settings) w)
        (subst (λ n. force (seen_at journal m).mappings n range.addr range.len ≡ force (seen_at own m).mappings n range.addr range.len) (sym is) (mine-force i m journal range.addr range.len)
        ∙ ap (λ l. force l range.iid range.addr range.len) (sym (numbered-live m own)))
      where
        own : Journal
        own = of_instance journal i

        w : View
        w = seen_at (numbered own) m

        by : (o : Option Held) → force (seen_at journal m).mappings range.iid range.addr range.len ≡ o → renewable settings (limits_in settings) (seen_at journal m) o ≡ renewable settings (limits_in settings) w o
        by None found = refl
        by (Some held) found =
            ap (λ b. cond (not held.fixed && b) (Some held.eid) None)
            (may_ask-mine journal i m rising differ settings (limits_in settings) held.eid (force-iid (seen_at journal m).mappings range.iid range.addr range.len held found ∙ is)
            ∙ may_ask-numbered settings (limits_in settings) m own held.eid (mine-rises i journal rising) (mine-differ i m journal differ))

    renewed-asks : (range : Range) (one other : Change Journal) → range.iid ≡ i → NoncesDiffer m one.after → NoncesDiffer m other.after → Asks one other → Asks (renewed of_journal settings m range one) (renewed of_journal settings m range other)
    renewed-asks range one other is differ differ' a = by (renews settings m range one.after) (renews settings m range other.after) refl alike
      where
        alike : renews settings m range one.after ≡ renews settings m range other.after
        alike =
            renews-as range one.after is a.rises a.last differ
            ∙ ap (λ j. renewable settings (limits_in settings) (seen_at j m) (force (seen_at j m).mappings range.iid range.addr range.len)) a.same
            ∙ sym (renews-as range other.after is a.rises' a.last' differ')

        by : (o p : Option Eid) → renews settings m range one.after ≡ o → o ≡ p → Asks (asked_again of_journal settings m o one) (asked_again of_journal settings m p other)
        by None None here same = a
        by (Some eid) (Some k) here same =
            subst (λ e. Asks (asked of_journal settings m eid None true one) (asked of_journal settings m e None true other)) (same_Some eid k same)
            (asked-asks eid one other (renews-iid settings m range one.after eid here ∙ is) a)
        by None (Some k) here same = cc
        by (Some eid) None here same = cc

    -- what came before has no two alike either
    differ-renewed : (range : Range) (change : Change Journal) → NoncesDiffer m (renewed of_journal settings m range change).after → NoncesDiffer m change.after
    differ-renewed range change differ = by (renews settings m range change.after) differ
      where
        by : (o : Option Eid) → NoncesDiffer m (asked_again of_journal settings m o change).after → NoncesDiffer m change.after
        by None differ = differ
        by (Some eid) differ = differ.1

    differ-each : (ranges : List Range) (change : Change Journal) → NoncesDiffer m (each (renewed of_journal settings m) ranges change).after → NoncesDiffer m change.after
    differ-each [] change differ = differ
    differ-each (range ∷ ranges) change differ = differ-renewed range change (differ-each ranges (renewed of_journal settings m range change) differ)

    each-asks : (ranges : List Range) (one other : Change Journal) → list_all (λ (range : Range). range.iid == i) ranges ≡ true → NoncesDiffer m (each (renewed of_journal settings m) ranges one).after → NoncesDiffer m (each (renewed of_journal settings m) ranges other).after → Asks one other → Asks (each (renewed of_journal settings m) ranges one) (each (renewed of_journal settings m) ranges other)
    each-asks [] one other all differ differ' a = a
    each-asks (range ∷ ranges) one other all differ differ' a =
        let its = and_both (range.iid == i) _ all in
        each-asks ranges _ _ its.1 differ differ'
        (renewed-asks range one other (eqb-true range.iid i its.0)
        (differ-renewed range one (differ-each ranges (renewed of_journal settings m range one) differ))
        (differ-renewed range other (differ-each ranges (renewed of_journal settings m range other) differ')) a)

  -- how many requests came of it
  counted-asks : (settings : Settings) (one other : Change Journal) → Asks one other → HeardAsOne i mine theirs (counted of_journal settings m one) (counted of_journal settings m other)
  counted-asks settings one other a = record {
    verdict = ap (λ n. outcome.Control (Solicited n)) (sym (length-map one.entries entry_apart) ∙ ap (λ (l : List Entry). length l) a.entries ∙ length-map other.entries entry_apart);
    change = record {
      apart = record { entries = a.entries; emits = a.emits };
      same = ap (λ j. numbered (of_instance j i)) (sym a.grown) ∙ a.same ∙ ap (λ j. numbered (of_instance j i)) a.grown';
    };
  }

pub solicited-so : (settings : Settings) (m : ℕ) (asker : Asker) (request : MapRequest) (journal : Journal) → request.smr ≡ true → asker.probe ≡ false → requested of_journal settings m asker request (unchanged journal) ≡ counted of_journal settings m (each (renewed of_journal settings m) (ranges_of request) (unchanged journal))
unfolding requested
solicited-so settings m asker request journal smr plain =
    ap₂ (λ a b. cond (a && not b) (counted of_journal settings m (each (renewed of_journal settings m) (ranges_of request) (unchanged journal))) (answered settings asker request (unchanged journal))) smr plain

pub solicited-apart : SolicitedApart
solicited-apart settings i m mine theirs asker request rising last same smr plain all differ =
    subst (λ h. HeardAsOne i mine theirs (requested of_journal stands m asker request (unchanged mine)) h) (ap (λ s. requested of_journal s m asker request (unchanged theirs)) own)
    (subst (λ h. HeardAsOne i mine theirs (requested of_journal stands m asker request (unchanged mine)) h) (sym there)
    (subst (λ h. HeardAsOne i mine theirs h (counted of_journal stands m (renewed_all theirs))) (sym here)
    (counted-asks i m mine theirs stands (renewed_all mine) (renewed_all theirs)
    (each-asks i m mine theirs stands (ranges_of request) (unchanged mine) (unchanged theirs) all
    (subst (λ (h : Heard Journal). NoncesDiffer m h.change.after) here differ.0)
    (subst (λ (h : Heard Journal). NoncesDiffer m h.change.after) (sym (ap (λ s. requested of_journal s m asker request (unchanged theirs)) own) ∙ there) differ.1)
    (record { entries = refl; emits = refl; grown = refl; grown' = refl; rises = rising.0; rises' = rising.1; last = last.0; last' = last.1; same = same })))))
  where
    stands : Settings
    stands = standing settings mine

    own : standing settings mine ≡ standing settings theirs
    own = one-standing i settings mine theirs same

    renewed_all : Journal → Change Journal
    renewed_all journal = each (renewed of_journal stands m) (ranges_of request) (unchanged journal)

    here : requested of_journal stands m asker request (unchanged mine) ≡ counted of_journal stands m (renewed_all mine)
    here = solicited-so stands m asker request mine smr plain

    there : requested of_journal stands m asker request (unchanged theirs) ≡ counted of_journal stands m (renewed_all theirs)
    there = solicited-so stands m asker request theirs smr plain

-- ### SMRs, by tables

-- what an SMR of few ranges makes of a table
pub solicits-made : (settings : Settings) (m : ℕ) (p : Parts) (journal : Journal) (asker : Asker) (request : MapRequest) → Stands settings p journal → MayGo journal m → length (ranges_of request) ≤ most_heard → Tells (requested table (standing_in settings p) m asker request (unchanged p)) (requested of_journal (standing settings journal) m asker request (unchanged journal))
solicits-made settings m p journal asker request stands may few =
    subst (λ q. Tells (requested table (standing_in settings q) m asker request (unchanged q)) (requested of_journal (standing settings journal) m asker request (unchanged journal))) (sym stands.whole)
    (subst (λ s. Tells (requested table s m asker request (unchanged (parts_in settings journal))) (requested of_journal (standing settings journal) m asker request (unchanged journal))) (sym (stands-in settings journal))
    (let hears = requested-alike settings (own_after settings journal) (changed journal) m 0 asker request (unchanged journal) (record { proper = stands.proper; last = may.0; room = (let room = may.1 in omega (arith, room, few)) }) in
    record {
      verdict = ap (λ (h : Heard Parts). h.verdict) hears.same;
      entries = ap (λ (h : Heard Parts). h.change.entries) hears.same;
      emits = ap (λ (h : Heard Parts). h.change.emits) hears.same;
    }))

module _ (settings : Settings) (m : ℕ) (journal : Journal) where
  -- what is left is the journal with what was asked
  grown-renewed : (range : Range) (change : Change Journal) → change.after ≡ extended journal change.entries → (renewed of_journal settings m range change).after ≡ extended journal (renewed of_journal settings m range change).entries
  grown-renewed range change grown = by (renews settings m range change.after)
    where
      by : (o : Option Eid) → (asked_again of_journal settings m o change).after ≡ extended journal (asked_again of_journal settings m o change).entries
      by None = grown
      by (Some eid) =
          let e : Entry = Asked m eid None true (next_nonce of_journal settings m change) in
          ap (λ j. e ∷ j) grown ∙ sym (extended-more journal change.entries (e ∷ []))

  grown-ranges : (ranges : List Range) (change : Change Journal) → change.after ≡ extended journal change.entries → (each (renewed of_journal settings m) ranges change).after ≡ extended journal (each (renewed of_journal settings m) ranges change).entries
  grown-ranges [] change grown = grown
  grown-ranges (range ∷ ranges) change grown = grown-ranges ranges (renewed of_journal settings m range change) (grown-renewed range change grown)

  -- so behind an SMR
  pub grown-solicited : (asker : Asker) (request : MapRequest) → request.smr ≡ true → asker.probe ≡ false → let heard = requested of_journal settings m asker request (unchanged journal) in heard.change.after ≡ extended journal heard.change.entries
  grown-solicited asker request smr plain =
      subst (λ (h : Heard Journal). h.change.after ≡ extended journal h.change.entries) (sym (solicited-so settings m asker request journal smr plain))
      (grown-ranges (ranges_of request) (unchanged journal) refl)

pub tables-solicited : TablesSolicited
tables-solicited settings i m one other mine theirs asker request both smr plain few all differ =
    tables-as i mine theirs _ _ _ _ tells tells'
    (solicited-apart settings i m mine theirs asker request (proper-rises settings mine both.stand.0.proper, proper-rises settings theirs both.stand.1.proper) (both.may.0.0, both.may.1.0) both.same smr plain all (
      subst (NoncesDiffer m) (ap (extended mine) tells.entries ∙ sym (grown-solicited (standing settings mine) m mine asker request smr plain)) differ.0,
      subst (NoncesDiffer m) (ap (extended theirs) tells'.entries ∙ sym (grown-solicited (standing settings theirs) m theirs asker request smr plain)) differ.1,
    ))
  where
    tells : Tells (requested table (standing_in settings one) m asker request (unchanged one)) (requested of_journal (standing settings mine) m asker request (unchanged mine))
    tells = solicits-made settings m one mine asker request both.stand.0 both.may.0 few

    tells' : Tells (requested table (standing_in settings other) m asker request (unchanged other)) (requested of_journal (standing settings theirs) m asker request (unchanged theirs))
    tells' = solicits-made settings m other theirs asker request both.stand.1 both.may.1 few
