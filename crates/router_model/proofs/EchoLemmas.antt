-- What is kept of echoes and SMRs is what the journal says of them.
use Rattle.std.proofs.Common.{◌≡◌, ℕ, ◌||◌, Bool, true, false, cond, List, [], ◌∷◌, ◌++◌, Option, Some, None, option_and_then, option_to_list, filter, refl, sym, ap, ap₂, subst, ◌∙◌}
use Rattle.std.specs.List.{list_any}
use Rattle.std.proofs.lemmas.List.{append-nil}
use Rattle.std.proofs.lemmas.Option.{same_Some}
use Rattle.ip_headers.specs.declared.addr.Addr.{Addr}
use Rattle.router_log.specs.declared.entry.Entry.{Entry}
use Rattle.router_log.specs.declared.entry.Entry.TheVariants.{EchoStarted, EchoHeard, DataFrom, EchoWanted, Solicited}
use Rattle.router_log.specs.declared.kept.EchoStart.{EchoStart}
use Rattle.router_log.specs.declared.kept.EchoWish.{EchoWish}
use Rattle.router_log.specs.declared.kept.Solicitation.{Solicitation}
use Rattle.mapping_records.specs.Eids.{same_address}
use Rattle.locator_state.specs.Echoes.{start_counts, wish_counts}
use Rattle.locator_state.specs.Solicits.{solicit_counts}
use Rattle.router_model.specs.Journal.{Journal, IsRising, moment_of}
use Rattle.router_model.specs.Kept.{Kind, counting, carried, scanned, last_put, any}
use Rattle.router_model.specs.Observed.{begun_solicit, begun_start, begun_wish, has_come, is_heard, solicit_kind, solicits, start_kind, start_step, starts, wish_kind, wishes}
use Rattle.router_model.proofs.AgedLemmas.{Rises, aged-keeps, scanned-rises, young-scanned}
use Rattle.router_model.proofs.KeptLemmas.{Keeps}
use Rattle.router_model.proofs.KeyLemmas.{changed-keeps}

-- ### echoes that are asked for

abbrev rloc_of : EchoStart → Addr
rloc_of start = start.rloc

abbrev pub started_at : EchoStart → ℕ
started_at start = start.moment

step-started_at : (entry : Entry) (i j : EchoStart) → start_step entry i ≡ Some j → j.moment ≡ i.moment
step-started_at (EchoHeard moment from) i j is = changed-keeps rloc_of same_address started_at from (λ s. record s { heard = true }) (λ s. refl) i j is
step-started_at (DataFrom moment from) i j is = changed-keeps rloc_of same_address started_at from (λ s. record s { came = true }) (λ s. refl) i j is
step-started_at _ i j is = sym (ap started_at (same_Some i j is))

started : (entry : Entry) (i : EchoStart) → begun_start entry ≡ Some i → i.moment ≡ moment_of entry
started (EchoStarted moment rloc nonce) i is = sym (ap started_at (same_Some _ i is))
started _ i is = cc

pub starts-keep : Keeps start_kind start_counts
starts-keep = aged-keeps begun_start start_step started_at 60 step-started_at

-- what further entries leave of a start
abbrev CarriedIs : List Entry → Type 0
CarriedIs later = (s : EchoStart) (h d : Bool) → h ≡ (s.heard || list_any (is_heard s.rloc) later) → d ≡ (s.came || list_any (has_come s.rloc) later) → carried start_kind later s ≡ Some (record s { heard = h; came = d })

or-false : (b : Bool) → (b || false) ≡ b
or-false true = refl
or-false false = refl

or-true : (b : Bool) → (b || true) ≡ true
or-true true = refl
or-true false = refl

carried-is : (later : List Entry) → CarriedIs later
carried-is [] s h d heard came = ap₂ (λ a b. Some (record s { heard = a; came = b })) (sym (heard ∙ or-false s.heard)) (sym (came ∙ or-false s.came))
carried-is (entry ∷ later) s h d heard came = by entry heard came (carried-is later)
  where
    by : (entry : Entry) → h ≡ (s.heard || (is_heard s.rloc entry || list_any (is_heard s.rloc) later)) → d ≡ (s.came || (has_come s.rloc entry || list_any (has_come s.rloc) later)) → CarriedIs later → option_and_then (carried start_kind later) (start_step entry s) ≡ Some (record s { heard = h; came = d })
    by (EchoHeard moment from) heard came rest = at_heard (same_address s.rloc from) heard
      where
        at_heard : (b : Bool) → h ≡ (s.heard || (b || list_any (is_heard s.rloc) later)) → carried start_kind later (cond b (record s { heard = true }) s) ≡ Some (record s { heard = h; came = d })
        at_heard true is = rest (record s { heard = true }) h d (is ∙ or-true s.heard) came
        at_heard false is = rest s h d is came
    by (DataFrom moment from) heard came rest = at_data (same_address s.rloc from) came
      where
        at_data : (b : Bool) → d ≡ (s.came || (b || list_any (has_come s.rloc) later)) → carried start_kind later (cond b (record s { came = true }) s) ≡ Some (record s { heard = h; came = d })
        at_data true is = rest (record s { came = true }) h d heard (is ∙ or-true s.came)
        at_data false is = rest s h d heard is
    by _ heard came rest = rest s h d heard came

pub starts-scanned : (later : List Entry) (journal : Journal) → scanned start_kind any later journal ≡ starts later journal
starts-scanned later [] = refl
starts-scanned later (entry ∷ older) = by entry (starts-scanned (entry ∷ later) older)
  where
    by : (entry : Entry) → scanned start_kind any (entry ∷ later) older ≡ starts (entry ∷ later) older → scanned start_kind any later (entry ∷ older) ≡ starts later (entry ∷ older)
    by (EchoStarted moment rloc nonce) h = ap₂ (λ l o. l ++ option_to_list o) h (carried-is later _ _ _ refl refl)
    by entry h = append-nil _ ∙ h

-- the starts that are kept are those that count
pub starts-counting : (t : ℕ) (journal : Journal) → filter (start_counts t) (starts [] journal) ≡ counting start_kind (start_counts t) journal
starts-counting t journal =
    ap (filter (start_counts t)) (sym (starts-scanned [] journal)) ∙ young-scanned begun_start start_step started_at 60 step-started_at t journal

pub starts-rise : (journal : Journal) → IsRising journal → Rises started_at (starts [] journal)
starts-rise journal rising =
    subst (Rises started_at) (starts-scanned [] journal) (scanned-rises begun_start start_step started_at 60 step-started_at started journal rising)

-- ### items that nothing changes

module _ {I : Type 0} (begins : Entry → Option I) where
  abbrev still : Kind Entry I
  still = record { begins = begins; step = (λ entry i. Some i); put = last_put }

  carried-still : (later : List Entry) (i : I) → carried still later i ≡ Some i
  carried-still [] i = refl
  carried-still (entry ∷ later) i = carried-still later i

  left-still : (later : List Entry) (o : Option I) → option_and_then (λ i. cond (any i) (carried still later i) None) o ≡ o
  left-still later None = refl
  left-still later (Some i) = carried-still later i

same-still : {I : Type 0} (start : I → ℕ) (entry : Entry) (i j : I) → Some i ≡ Some j → start j ≡ start i
same-still start entry i j is = sym (ap start (same_Some i j is))

-- ### echoes that are wanted

abbrev pub wished_at : EchoWish → ℕ
wished_at wish = wish.moment

wished : (entry : Entry) (i : EchoWish) → begun_wish entry ≡ Some i → i.moment ≡ moment_of entry
wished (EchoWanted moment rloc nonce) i is = sym (ap wished_at (same_Some _ i is))
wished _ i is = cc

pub wishes-keep : Keeps wish_kind wish_counts
wishes-keep = aged-keeps begun_wish (λ entry w. Some w) wished_at 2 (same-still wished_at)

pub wishes-scanned : (later : List Entry) (journal : Journal) → scanned wish_kind any later journal ≡ wishes journal
wishes-scanned later [] = refl
wishes-scanned later (entry ∷ older) = by entry (wishes-scanned (entry ∷ later) older)
  where
    by : (entry : Entry) → scanned wish_kind any (entry ∷ later) older ≡ wishes older → scanned wish_kind any later (entry ∷ older) ≡ wishes (entry ∷ older)
    by (EchoWanted moment rloc nonce) h = ap₂ (λ l o. l ++ option_to_list o) h (left-still begun_wish later (begun_wish (EchoWanted moment rloc nonce)))
    by entry h = append-nil _ ∙ h

pub wishes-counting : (t : ℕ) (journal : Journal) → filter (wish_counts t) (wishes journal) ≡ counting wish_kind (wish_counts t) journal
wishes-counting t journal =
    ap (filter (wish_counts t)) (sym (wishes-scanned [] journal)) ∙ young-scanned begun_wish (λ entry w. Some w) wished_at 2 (same-still wished_at) t journal

pub wishes-rise : (journal : Journal) → IsRising journal → Rises wished_at (wishes journal)
wishes-rise journal rising =
    subst (Rises wished_at) (wishes-scanned [] journal) (scanned-rises begun_wish (λ entry w. Some w) wished_at 2 (same-still wished_at) wished journal rising)

-- ### SMRs

abbrev solicited_at : Solicitation → ℕ
solicited_at solicit = solicit.moment

pub solicits-keep : Keeps solicit_kind solicit_counts
solicits-keep = aged-keeps begun_solicit (λ entry s. Some s) solicited_at 10 (same-still solicited_at)

pub solicits-scanned : (later : List Entry) (journal : Journal) → scanned solicit_kind any later journal ≡ solicits journal
solicits-scanned later [] = refl
solicits-scanned later (entry ∷ older) = by entry (solicits-scanned (entry ∷ later) older)
  where
    by : (entry : Entry) → scanned solicit_kind any (entry ∷ later) older ≡ solicits older → scanned solicit_kind any later (entry ∷ older) ≡ solicits (entry ∷ older)
    by (Solicited moment rloc eid nonce) h = ap₂ (λ l o. l ++ option_to_list o) h (left-still begun_solicit later (begun_solicit (Solicited moment rloc eid nonce)))
    by entry h = append-nil _ ∙ h

pub solicits-counting : (t : ℕ) (journal : Journal) → filter (solicit_counts t) (solicits journal) ≡ counting solicit_kind (solicit_counts t) journal
solicits-counting t journal =
    ap (filter (solicit_counts t)) (sym (solicits-scanned [] journal)) ∙ young-scanned begun_solicit (λ entry s. Some s) solicited_at 10 (same-still solicited_at) t journal
