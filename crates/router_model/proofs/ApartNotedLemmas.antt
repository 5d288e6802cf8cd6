-- What is noted of a frame of an instance leaves the journals of two tables one to it.
use Rattle.std.proofs.Common.{◌≡◌, ℕ, ◌%◌, ◌^◌, ◌&&◌, Bool, true, false, cond, List, [], ◌∷◌, refl, sym, ap, ◌∙◌}
use Rattle.std.proofs.lemmas.Bool.{eqb-true}
use Rattle.lisp_settings.specs.declared.settings.Settings.{Settings}
use Rattle.locator_state.specs.Echoes.{data_due, echo_on, may_want}
use Rattle.locator_state.specs.Observed.{Observed}
use Rattle.router_log.specs.declared.entry.Entry.{Entry}
use Rattle.router_log.specs.declared.entry.Entry.TheVariants as entry
use Rattle.router_log.specs.declared.kept.EchoStart.{EchoStart}
use Rattle.router_log.specs.declared.kept.EchoWish.{EchoWish}
use Rattle.router_log.specs.declared.notice.Notice.TheVariants as notice
use Rattle.router_model.specs.Alone.{NotesStay}
use Rattle.router_model.specs.Apart.{AreOneIn, numbered}
use Rattle.router_model.specs.Changes.{Change, entered, next_nonce, unchanged}
use Rattle.router_model.specs.Isolation.{of_instance}
use Rattle.router_model.specs.Journal.{Journal, extended}
use Rattle.router_model.specs.Note.{is_echo, noted}
use Rattle.router_model.specs.Observed.{starts, wishes}
use Rattle.router_model.specs.Parts.{Parts, standing_in, table, view_in}
use Rattle.router_model.specs.View.{View}
use Rattle.router_model.proofs.ApartLemmas.{numbered-observed}
use Rattle.router_model.proofs.ApartOtherLemmas.{solicits-stay}
use Rattle.router_model.proofs.ApartTableLemmas.{seen-now, tables-ask}
use Rattle.router_model.proofs.IsolationLemmas.{all-observed}

module _ (i : ℕ) where
  -- the echoes that are asked for and wanted are those by numbers
  starts-as : (journal : Journal) → starts [] journal ≡ starts [] (numbered (of_instance journal i))
  starts-as journal = ap (λ (o : Observed). o.starts) (sym (all-observed journal i) ∙ sym (numbered-observed (of_instance journal i)))

  wishes-as : (journal : Journal) → wishes journal ≡ wishes (numbered (of_instance journal i))
  wishes-as journal = ap (λ (o : Observed). o.wishes) (sym (all-observed journal i) ∙ sym (numbered-observed (of_instance journal i)))

  -- so they are the same in two journals that are one
  one-starts : (mine theirs : Journal) → AreOneIn i mine theirs → starts [] mine ≡ starts [] theirs
  one-starts mine theirs same = starts-as mine ∙ ap (starts []) same ∙ sym (starts-as theirs)

  one-wishes : (mine theirs : Journal) → AreOneIn i mine theirs → wishes mine ≡ wishes theirs
  one-wishes mine theirs same = wishes-as mine ∙ ap wishes same ∙ sym (wishes-as theirs)

-- an entry that both make, or neither does
both-made : (i m : ℕ) (mine theirs : Journal) (s t : Settings) (one other : Parts) (e : Entry) (b c : Bool) → b ≡ c → AreOneIn i (e ∷ mine) (e ∷ theirs) → AreOneIn i mine theirs → AreOneIn i (extended mine (cond b (entered table s m e (unchanged one)) (unchanged one)).entries) (extended theirs (cond c (entered table t m e (unchanged other)) (unchanged other)).entries)
both-made i m mine theirs s t one other e true true alike made same = made
both-made i m mine theirs s t one other e false false alike made same = same
both-made i m mine theirs s t one other e true false alike made same = cc
both-made i m mine theirs s t one other e false true alike made same = cc

pub notes-stay : NotesStay
unfolding noted
notes-stay settings i m one other mine theirs (notice.Ask eid source) both plain is =
    (tables-ask settings i m one other mine theirs (notice.Ask eid source) eid both refl (eqb-true eid.iid i is)).same
notes-stay settings i m one other mine theirs (notice.Refresh eid) both plain is =
    (tables-ask settings i m one other mine theirs (notice.Refresh eid) eid both refl (eqb-true eid.iid i is)).same
notes-stay settings i m one other mine theirs (notice.Bits eid rloc bits width) both plain is =
    (tables-ask settings i m one other mine theirs (notice.Bits eid rloc bits width) eid both refl (eqb-true eid.iid i is)).same
notes-stay settings i m one other mine theirs (notice.Solicit rloc eid) both plain is =
    solicits-stay settings i m one mine rloc eid ∙ both.same ∙ sym (solicits-stay settings i m other theirs rloc eid)
notes-stay settings i m one other mine theirs (notice.EchoWanted rloc nonce) both plain is =
    both-made i m mine theirs (standing_in settings one) (standing_in settings other) one other (entry.EchoWanted m rloc nonce) _ _
    (ap (λ (v : View). v.may_want rloc nonce) (seen-now settings one mine m both.stand.0 both.may.0)
    ∙ ap (λ (l : List EchoWish). may_want m l rloc nonce) (one-wishes i mine theirs both.same)
    ∙ sym (ap (λ (v : View). v.may_want rloc nonce) (seen-now settings other theirs m both.stand.1 both.may.1)))
    (ap (λ j. entry.EchoWanted m rloc nonce ∷ j) both.same) both.same
notes-stay settings i m one other mine theirs (notice.EchoHeard rloc nonce) both plain is =
    both-made i m mine theirs (standing_in settings one) (standing_in settings other) one other (entry.EchoHeard m rloc) _ _
    (ap (λ (v : View). is_echo nonce (v.echo_on rloc)) (seen-now settings one mine m both.stand.0 both.may.0)
    ∙ ap (λ (l : List EchoStart). is_echo nonce (echo_on m l rloc)) (one-starts i mine theirs both.same)
    ∙ sym (ap (λ (v : View). is_echo nonce (v.echo_on rloc)) (seen-now settings other theirs m both.stand.1 both.may.1)))
    (ap (λ j. entry.EchoHeard m rloc ∷ j) both.same) both.same
notes-stay settings i m one other mine theirs (notice.DataFrom rloc) both plain is =
    both-made i m mine theirs (standing_in settings one) (standing_in settings other) one other (entry.DataFrom m rloc) _ _
    (ap (λ (v : View). v.data_due rloc) (seen-now settings one mine m both.stand.0 both.may.0)
    ∙ ap (λ (l : List EchoStart). data_due m l rloc) (one-starts i mine theirs both.same)
    ∙ sym (ap (λ (v : View). v.data_due rloc) (seen-now settings other theirs m both.stand.1 both.may.1)))
    (ap (λ j. entry.DataFrom m rloc ∷ j) both.same) both.same
notes-stay settings i m one other mine theirs (notice.EchoDue rloc) both plain is =
    ap (λ b. numbered (of_instance (extended mine (started one b).entries) i)) plain
    ∙ both.same
    ∙ sym (ap (λ b. numbered (of_instance (extended theirs (started other b).entries) i)) plain)
  where
    started : Parts → Bool → Change Parts
    started p b = cond (b && (view_in p m).may_start rloc) (entered table (standing_in settings p) m (entry.EchoStarted m rloc (next_nonce table (standing_in settings p) m (unchanged p) % 2 ^ 24)) (unchanged p)) (unchanged p)
