-- What is kept of probes is what the journal says of them.
use Rattle.std.proofs.Common.{◌≡◌, ℕ, ◌≤◌, ◌==◌, ◌||◌, not, nat_eq, Bool, true, false, cond, List, [], ◌∷◌, ◌++◌, Option, Some, None, option_and_then, option_to_list, filter, refl, sym, ap, ap₂, subst, ◌∙◌, arith}
use Rattle.std.proofs.lemmas.Bool.Decides.{nat_tests}
use Rattle.std.proofs.lemmas.Cmp.{nat_eq_equiv}
use Rattle.std.proofs.lemmas.List.{append-nil}
use Rattle.std.proofs.lemmas.Option.{same_Some}
use Rattle.router_log.specs.declared.entry.Entry.{Entry}
use Rattle.router_log.specs.declared.entry.Entry.TheVariants.{Probed, ProbeAnswered}
use Rattle.router_log.specs.declared.kept.Probe.{Probe}
use Rattle.router_log.specs.declared.kept.ProbeState.{ProbeState}
use Rattle.router_log.specs.declared.kept.ProbeState.TheVariants.{Open, Answered, Lost}
use Rattle.router_model.specs.Journal.{Journal, IsRising, moment_of}
use Rattle.router_log.specs.Moments.{younger}
use Rattle.router_model.specs.Kept.{counting, carried, scanned, any}
use Rattle.locator_state.specs.Lists.{only_if}
use Rattle.locator_state.specs.Probes.{is_answered, is_judged, probe_counts, settle, settled, up_by}
use Rattle.router_model.specs.Observed.{begun_probe, probe_kind, probe_step, probes, state_after}
use Rattle.router_model.proofs.AgedLemmas.{Rises, aged-keeps, scanned-rises, young-scanned, younger-wide}
use Rattle.router_model.proofs.KeptLemmas.{Keeps}
use Rattle.router_model.proofs.KeyLemmas.{changed-keeps}

abbrev nonce_of : Probe → ℕ
nonce_of probe = probe.nonce

abbrev pub begun_at : Probe → ℕ
begun_at probe = probe.moment

step-begun_at : (entry : Entry) (i j : Probe) → probe_step entry i ≡ Some j → j.moment ≡ i.moment
step-begun_at (Probed moment rloc nonce) i j is = changed-keeps nonce_of nat_eq begun_at nonce (settle Lost) (λ p. refl) i j is
step-begun_at (ProbeAnswered moment nonce) i j is = changed-keeps nonce_of nat_eq begun_at nonce (settle Answered) (λ p. refl) i j is
step-begun_at _ i j is = sym (ap begun_at (same_Some i j is))

begun : (entry : Entry) (i : Probe) → begun_probe entry ≡ Some i → i.moment ≡ moment_of entry
begun (Probed moment rloc nonce) i is = sym (ap begun_at (same_Some _ i is))
begun _ i is = cc

pub probes-keep : Keeps probe_kind probe_counts
probes-keep = aged-keeps begun_probe probe_step begun_at 600 step-begun_at

settled-Open : (s : ProbeState) → settled Open s ≡ s
settled-Open Open = refl
settled-Open Answered = refl
settled-Open Lost = refl

settled-Answered : (a s : ProbeState) → settled a (settled Answered s) ≡ settled Answered s
settled-Answered a Open = refl
settled-Answered a Answered = refl
settled-Answered a Lost = refl

settled-Lost : (a s : ProbeState) → settled a (settled Lost s) ≡ settled Lost s
settled-Lost a Open = refl
settled-Lost a Answered = refl
settled-Lost a Lost = refl

-- what further entries leave of a probe
abbrev CarriedIs : List Entry → Type 0
CarriedIs later = (p : Probe) → carried probe_kind later p ≡ Some (settle (state_after p.nonce later) p)

carried-is : (later : List Entry) → CarriedIs later
carried-is [] p = ap (λ s. Some (record p { state = s })) (sym (settled-Open p.state))
carried-is (entry ∷ later) p = by entry (carried-is later)
  where
    by : (entry : Entry) → CarriedIs later → option_and_then (carried probe_kind later) (probe_step entry p) ≡ Some (settle (state_after p.nonce (entry ∷ later)) p)
    by (Probed moment rloc k) h = rw (nat_eq_equiv.symm p.nonce k) (again (k == p.nonce))
      where
        again : (b : Bool) → carried probe_kind later (cond b (settle Lost p) p) ≡ Some (settle (cond b Lost (state_after p.nonce later)) p)
        again true = h (settle Lost p) ∙ ap (λ s. Some (record p { state = s })) (settled-Lost (state_after p.nonce later) p.state)
        again false = h p
    by (ProbeAnswered moment k) h = rw (nat_eq_equiv.symm p.nonce k) (done (k == p.nonce))
      where
        done : (b : Bool) → carried probe_kind later (cond b (settle Answered p) p) ≡ Some (settle (cond b Answered (state_after p.nonce later)) p)
        done true = h (settle Answered p) ∙ ap (λ s. Some (record p { state = s })) (settled-Answered (state_after p.nonce later) p.state)
        done false = h p
    by _ h = h p

pub probes-scanned : (later : List Entry) (journal : Journal) → scanned probe_kind any later journal ≡ probes later journal
probes-scanned later [] = refl
probes-scanned later (entry ∷ older) = by entry (probes-scanned (entry ∷ later) older)
  where
    by : (entry : Entry) → scanned probe_kind any (entry ∷ later) older ≡ probes (entry ∷ later) older → scanned probe_kind any later (entry ∷ older) ≡ probes later (entry ∷ older)
    by (Probed moment rloc k) h = ap₂ (λ l o. l ++ option_to_list o) h (carried-is later _)
    by entry h = append-nil _ ∙ h

-- the probes that are kept are those that count
pub probes-counting : (t : ℕ) (journal : Journal) → filter (probe_counts t) (probes [] journal) ≡ counting probe_kind (probe_counts t) journal
probes-counting t journal =
    ap (filter (probe_counts t)) (sym (probes-scanned [] journal)) ∙ young-scanned begun_probe probe_step begun_at 600 step-begun_at t journal

pub probes-rise : (journal : Journal) → IsRising journal → Rises begun_at (probes [] journal)
probes-rise journal rising =
    subst (Rises begun_at) (probes-scanned [] journal) (scanned-rises begun_probe probe_step begun_at 600 step-begun_at begun journal rising)

-- a probe that isn't judged counts
pub unjudged-counts : (s t : ℕ) → s ≤ t → (p : Probe) → not (is_judged t p) ≡ true → probe_counts s p ≡ true
unjudged-counts s t later p is = by (is_answered p) (younger t 3 p.moment) refl is
  where
    by : (b c : Bool) → younger t 3 p.moment ≡ c → not (b || not c) ≡ true → probe_counts s p ≡ true
    by true c young is = cc
    by false true young is = younger-wide 3 600 s t p.moment later (omega arith) young
    by false false young is = cc

-- what doesn't count any more is up by its age
pub up-counting : (s t : ℕ) → s ≤ t → (o : Option Probe) → up_by t (only_if (probe_counts s) o) ≡ up_by t o
up-counting s t later None = refl
up-counting s t later (Some p) = by (probe_counts s p) refl
  where
    or-true : (b : Bool) → true ≡ (b || true)
    or-true true = refl
    or-true false = refl

    old : probe_counts s p ≡ false → younger t 600 p.moment ≡ false
    old is = grind (arith, nat_tests)

    by : (b : Bool) → probe_counts s p ≡ b → up_by t (cond b (Some p) None) ≡ (is_answered p || not (younger t 600 p.moment))
    by true is = refl
    by false is = or-true (is_answered p) ∙ ap (λ b. is_answered p || not b) (sym (old is))
