-- What a journal says of an instance, its part says that is of the instance.
use Rattle.std.proofs.Common.{◌≡◌, ℕ, ◌+◌, ◌≤◌, ◌==◌, ◌||◌, not, max, Bool, true, false, cond, List, [], ◌∷◌, Option, Some, None, filter, filter_map, fold, map, refl, sym, ap, ◌∙◌, arith}
use Rattle.std.proofs.lemmas.Bool.Decides.{nat_tests}
use Rattle.std.proofs.lemmas.Option.{same_Some}
use Rattle.ip_headers.specs.declared.addr.Addr.{Addr}
use Rattle.mapping_records.specs.declared.eid.Eid.{Eid}
use Rattle.lisp_settings.specs.declared.settings.OwnLocator.{OwnLocator}
use Rattle.lisp_settings.specs.declared.settings.Settings.{Settings}
use Rattle.mapping_records.specs.Eids.{covers_prefix, longer}
use Rattle.mapping_records.specs.Orders.{eid_order, put_in_order}
use Rattle.mapping_records.proofs.OrderLemmas.{eid_order-total}
use Rattle.map_cache.specs.Cache.{fresh, lasts}
use Rattle.map_cache.specs.declared.mapping.Mapping.{Mapping}
use Rattle.locator_state.specs.Echoes.{echo_out, may_start}
use Rattle.locator_state.specs.Observed.{Observed, is_up}
use Rattle.router_log.specs.declared.entry.Entry.{Entry}
use Rattle.router_log.specs.declared.kept.EchoStart.{EchoStart}
use Rattle.router_log.specs.declared.kept.Probe.{Probe}
use Rattle.router_log.specs.declared.entry.Entry.TheVariants.{Learned, Probed, ProbeAnswered, Bits, EchoStarted, EchoHeard, DataFrom, EchoWanted, Solicited, Changed}
use Rattle.router_model.specs.Cache.{begun_mapping, held_of, mapping_kind, mapping_step}
use Rattle.router_model.specs.Decide.{decide_by}
use Rattle.router_model.specs.Isolation.{AgreesIn, DecisionIsolated, MomentIsolated, RisingIsolated, TableIsolated, counts_in, of_instance, told_of}
use Rattle.router_model.specs.Journal.{Journal, IsRising, at, changed, is_changed, last_moment, moment_of}
use Rattle.router_model.specs.Kept.{Kind, any, counting, placed}
use Rattle.router_model.specs.Mappings.{Held, force, live_mappings}
use Rattle.router_model.specs.Observed.{begun_probe, begun_solicit, begun_start, begun_wish, observed, probe_kind, probe_step, start_step, solicit_kind, start_kind, wish_kind}
use Rattle.router_model.specs.Parts.{parts_in, view_in}
use Rattle.router_model.specs.Standing.{changed_by, own_after, standing, standing_with}
use Rattle.router_model.specs.View.{seen_at, view}
use Rattle.router_model.proofs.EchoLemmas.{solicits-scanned, starts-scanned, wishes-scanned}
use Rattle.router_model.proofs.EidLemmas.{same_eid-tied}
use Rattle.router_model.proofs.FollowLemmas.{table-decides}
use Rattle.router_model.proofs.InstanceLemmas.{agrees-decides}
use Rattle.router_model.proofs.KeptLemmas.{filter-filter, filter-step, scanned-counting}
use Rattle.router_model.proofs.MappingLemmas.{eid_of, mappings-held, mappings-live, step-drops, step-keeps}
use Rattle.router_model.proofs.PartsLemmas.{and_both, answers, count-more}
use Rattle.router_model.proofs.ProbeLemmas.{probes-scanned}
use Rattle.router_model.proofs.SortedLemmas.{puts_in_order}
use Rattle.router_model.proofs.StandingLemmas.{instance-stands}
use Rattle.router_model.proofs.StandsLemmas.{proper-rises}
use Rattle.router_model.proofs.UpsLemmas.{stands-in}

-- ### what tells of locators

-- an entry that is of an instance begins no item of a kind, and changes none
pub record Passes {I : Type 0} (kind : Kind Entry I) : Type 0 where
  pub begins : (i : ℕ) (entry : Entry) (before : Journal) → counts_in i (told_of entry before) ≡ false → kind.begins entry ≡ None
  pub step : (i : ℕ) (entry : Entry) (before : Journal) (item : I) → counts_in i (told_of entry before) ≡ false → kind.step entry item ≡ Some item

module _ {I : Type 0} (kind : Kind Entry I) (passes : Passes kind) (i : ℕ) where
  all-counting : (test : I → Bool) (journal : Journal) → counting kind test (of_instance journal i) ≡ counting kind test journal
  all-counting test [] = refl
  all-counting test (entry ∷ older) = by (counts_in i (told_of entry older)) refl (all-counting test older)
    where
      still : counts_in i (told_of entry older) ≡ false → (items : List I) → filter_map (kind.step entry) items ≡ items
      still is [] = refl
      still is (item ∷ items) = rw (passes.step i entry older item is) (ap (λ l. item ∷ l) (still is items))

      by : (b : Bool) → counts_in i (told_of entry older) ≡ b → counting kind test (of_instance older i) ≡ counting kind test older → counting kind test (cond b (entry ∷ of_instance older i) (of_instance older i)) ≡ counting kind test (entry ∷ older)
      by true is h = ap (λ l. placed test kind.put (kind.begins entry) (filter_map (kind.step entry) l)) h
      by false is h =
          h ∙ sym (still is (counting kind test older))
          ∙ ap (λ o. placed test kind.put o (filter_map (kind.step entry) (counting kind test older))) (sym (passes.begins i entry older is))

probes-pass : Passes probe_kind
probes-pass = record {
  begins = λ i entry before is. begins i entry before is;
  step = λ i entry before item is. step i entry before item is;
}
  where
    begins : (i : ℕ) (entry : Entry) (before : Journal) → counts_in i (told_of entry before) ≡ false → probe_kind.begins entry ≡ None
    begins i (Probed moment rloc nonce) before is = cc
    begins i _ before is = refl

    step : (i : ℕ) (entry : Entry) (before : Journal) (item : Probe) → counts_in i (told_of entry before) ≡ false → probe_kind.step entry item ≡ Some item
    step i (Probed moment rloc nonce) before item is = cc
    step i (ProbeAnswered moment nonce) before item is = cc
    step i _ before item is = refl

starts-pass : Passes start_kind
starts-pass = record {
  begins = λ i entry before is. begins i entry before is;
  step = λ i entry before item is. step i entry before item is;
}
  where
    begins : (i : ℕ) (entry : Entry) (before : Journal) → counts_in i (told_of entry before) ≡ false → start_kind.begins entry ≡ None
    begins i (EchoStarted moment rloc nonce) before is = cc
    begins i _ before is = refl

    step : (i : ℕ) (entry : Entry) (before : Journal) (item : EchoStart) → counts_in i (told_of entry before) ≡ false → start_kind.step entry item ≡ Some item
    step i (EchoHeard moment rloc) before item is = cc
    step i (DataFrom moment rloc) before item is = cc
    step i _ before item is = refl

wishes-pass : Passes wish_kind
wishes-pass = record {
  begins = λ i entry before is. begins i entry before is;
  step = λ i entry before item is. refl;
}
  where
    begins : (i : ℕ) (entry : Entry) (before : Journal) → counts_in i (told_of entry before) ≡ false → wish_kind.begins entry ≡ None
    begins i (EchoWanted moment rloc nonce) before is = cc
    begins i _ before is = refl

solicits-pass : Passes solicit_kind
solicits-pass = record {
  begins = λ i entry before is. begins i entry before is;
  step = λ i entry before item is. refl;
}
  where
    begins : (i : ℕ) (entry : Entry) (before : Journal) → counts_in i (told_of entry before) ≡ false → solicit_kind.begins entry ≡ None
    begins i (Solicited moment rloc eid nonce) before is = cc
    begins i _ before is = refl

-- what is observed of locators is of all instances
pub all-observed : (journal : Journal) (i : ℕ) → observed (of_instance journal i) ≡ observed journal
all-observed journal i = λ j. record {
  probes = (sym (probes-scanned [] mine) ∙ scanned-counting begun_probe probe_step any mine ∙ all-counting probe_kind probes-pass i any journal ∙ sym (scanned-counting begun_probe probe_step any journal) ∙ probes-scanned [] journal) j;
  starts = (sym (starts-scanned [] mine) ∙ scanned-counting begun_start start_step any mine ∙ all-counting start_kind starts-pass i any journal ∙ sym (scanned-counting begun_start start_step any journal) ∙ starts-scanned [] journal) j;
  wishes = (sym (wishes-scanned [] mine) ∙ scanned-counting begun_wish (λ entry wish. Some wish) any mine ∙ all-counting wish_kind wishes-pass i any journal ∙ sym (scanned-counting begun_wish (λ entry wish. Some wish) any journal) ∙ wishes-scanned [] journal) j;
  solicits = (sym (solicits-scanned [] mine) ∙ scanned-counting begun_solicit (λ entry solicit. Some solicit) any mine ∙ all-counting solicit_kind solicits-pass i any journal ∙ sym (scanned-counting begun_solicit (λ entry solicit. Some solicit) any journal) ∙ solicits-scanned [] journal) j;
}
  where
    mine : Journal
    mine = of_instance journal i

-- own locators and versions stand as in the whole journal
module _ (settings : Settings) (i : ℕ) where
  still-own : (entry : Entry) (before : Journal) (locators : List OwnLocator) → counts_in i (told_of entry before) ≡ false → changed_by entry locators ≡ locators
  still-own (Changed moment address up) before locators is = cc
  still-own _ before locators is = refl

  still-steps : (entry : Entry) (before : Journal) → counts_in i (told_of entry before) ≡ false → is_changed entry ≡ false
  still-steps (Changed moment address up) before is = cc
  still-steps _ before is = refl

  all-own : (journal : Journal) → own_after settings (of_instance journal i) ≡ own_after settings journal
  all-own [] = refl
  all-own (entry ∷ older) = by (counts_in i (told_of entry older)) refl (all-own older)
    where
      by : (b : Bool) → counts_in i (told_of entry older) ≡ b → own_after settings (of_instance older i) ≡ own_after settings older → own_after settings (cond b (entry ∷ of_instance older i) (of_instance older i)) ≡ own_after settings (entry ∷ older)
      by true is h = ap (changed_by entry) h
      by false is h = h ∙ sym (still-own entry older (own_after settings older) is)

  pub all-steps : (journal : Journal) → changed (of_instance journal i) ≡ changed journal
  all-steps [] = refl
  all-steps (entry ∷ older) = by (counts_in i (told_of entry older)) refl (all-steps older)
    where
      more : (journal : Journal) → changed (entry ∷ journal) ≡ cond (is_changed entry) 1 0 + changed journal
      more journal = sym (count-more is_changed entry journal)

      by : (b : Bool) → counts_in i (told_of entry older) ≡ b → changed (of_instance older i) ≡ changed older → changed (cond b (entry ∷ of_instance older i) (of_instance older i)) ≡ changed (entry ∷ older)
      by true is h = more (of_instance older i) ∙ ap (λ n. cond (is_changed entry) 1 0 + n) h ∙ sym (more older)
      by false is h = h ∙ sym (more older ∙ ap (λ b. cond b 1 0 + changed older) (still-steps entry older is) ∙ omega arith)

  pub all-standing : (journal : Journal) → standing settings (of_instance journal i) ≡ standing settings journal
  all-standing journal = λ j. standing_with settings (all-own journal j) (all-steps journal j)

-- ### mappings

-- different numbers aren't both i
apart : (a b i : ℕ) → (a == i) ≡ true → (b == i) ≡ false → (a == b) ≡ false
apart a b i is isn't = grind (arith, nat_tests)

module _ (i t : ℕ) where
  -- the mapping is of the instance
  abbrev is_mine : Mapping → Bool
  is_mine mapping = mapping.eid.iid == i

  stays : (entry : Entry) (x y : Mapping) → mapping_step entry x ≡ Some y → is_mine y ≡ is_mine x
  stays entry x y is = ap (λ (k : Eid). k.iid == i) (step-keeps eid_of (λ bits width x. refl) entry x y is)

  puts : (x : Mapping) (entry : Entry) (older : Journal) → let items = filter_map (mapping_step entry) (counting mapping_kind (lasts t) older) in filter is_mine (put_in_order eid_of eid_order x items) ≡ cond (is_mine x) (put_in_order eid_of eid_order x (filter is_mine items)) (filter is_mine items)
  puts x entry older =
      puts_in_order eid_of eid_order eid_order-total begun_mapping mapping_step (step-keeps eid_of (λ bits width x. refl))
      (λ entry x i j made is. ap (λ same. same j.eid x.eid) same_eid-tied ∙ step-drops entry x i j made is) (lasts t) is_mine x entry older

  -- what an entry begins is of its instance
  begun-mine : (entry : Entry) (older : Journal) (x : Mapping) → begun_mapping entry ≡ Some x → counts_in i (told_of entry older) ≡ is_mine x
  begun-mine (Learned moment mapping fixed) older x is = by (fixed || not (mapping.ttl == 0)) is
    where
      by : (b : Bool) → cond b (Some (fresh moment mapping fixed)) None ≡ Some x → (mapping.eid.iid == i) ≡ is_mine x
      by true is = ap is_mine (same_Some (fresh moment mapping fixed) x is)
      by false is = cc
  begun-mine _ older x is = cc

  -- an entry of another instance leaves it
  others-leave : (entry : Entry) (older : Journal) (x : Mapping) → counts_in i (told_of entry older) ≡ false → is_mine x ≡ true → mapping_step entry x ≡ Some x
  others-leave (Learned moment mapping fixed) older x other is = rw (apart x.eid.iid mapping.eid.iid i is other) refl
  others-leave (Bits moment eid bits width) older x other is = rw (apart x.eid.iid eid.iid i is other) refl
  others-leave _ older x other is = refl

  mine-counting : (journal : Journal) → filter is_mine (counting mapping_kind (lasts t) journal) ≡ counting mapping_kind (lasts t) (of_instance journal i)
  mine-counting [] = refl
  mine-counting (entry ∷ older) = by (counts_in i (told_of entry older)) refl (mine-counting older)
    where
      all : List Mapping
      all = counting mapping_kind (lasts t) older

      theirs : List Mapping
      theirs = counting mapping_kind (lasts t) (of_instance older i)

      items : List Mapping
      items = filter_map (mapping_step entry) all

      left : filter is_mine items ≡ filter_map (mapping_step entry) (filter is_mine all)
      left = filter-step is_mine (mapping_step entry) (stays entry) all

      still : counts_in i (told_of entry older) ≡ false → (l : List Mapping) → filter_map (mapping_step entry) (filter is_mine l) ≡ filter is_mine l
      still other [] = refl
      still other (x ∷ l) = one (is_mine x) refl (still other l)
        where
          one : (b : Bool) → is_mine x ≡ b → filter_map (mapping_step entry) (filter is_mine l) ≡ filter is_mine l → filter_map (mapping_step entry) (cond b (x ∷ filter is_mine l) (filter is_mine l)) ≡ cond b (x ∷ filter is_mine l) (filter is_mine l)
          one true is h = rw (others-leave entry older x other is) (ap (λ l. x ∷ l) h)
          one false is h = h

      begun : (x : Mapping) (b d : Bool) → is_mine x ≡ b → filter is_mine (cond d (put_in_order eid_of eid_order x items) items) ≡ cond d (cond b (put_in_order eid_of eid_order x (filter is_mine items)) (filter is_mine items)) (filter is_mine items)
      begun x b true is = puts x entry older ∙ ap (λ b. cond b (put_in_order eid_of eid_order x (filter is_mine items)) (filter is_mine items)) is
      begun x b false is = refl

      kept : (o : Option Mapping) → begun_mapping entry ≡ o → counts_in i (told_of entry older) ≡ true → filter is_mine items ≡ filter_map (mapping_step entry) theirs → filter is_mine (placed (lasts t) (put_in_order eid_of eid_order) o items) ≡ placed (lasts t) (put_in_order eid_of eid_order) o (filter_map (mapping_step entry) theirs)
      kept None made is h = h
      kept (Some x) made is h = begun x true (lasts t x) (sym (begun-mine entry older x made) ∙ is) ∙ ap (λ l. cond (lasts t x) (put_in_order eid_of eid_order x l) l) h

      gone : (o : Option Mapping) → begun_mapping entry ≡ o → counts_in i (told_of entry older) ≡ false → filter is_mine (placed (lasts t) (put_in_order eid_of eid_order) o items) ≡ filter is_mine items
      gone None made is = refl
      gone (Some x) made is = begun x false (lasts t x) (sym (begun-mine entry older x made) ∙ is) ∙ same (lasts t x)
        where
          same : (d : Bool) → cond d (filter is_mine items) (filter is_mine items) ≡ filter is_mine items
          same true = refl
          same false = refl

      by : (b : Bool) → counts_in i (told_of entry older) ≡ b → filter is_mine all ≡ theirs → filter is_mine (placed (lasts t) (put_in_order eid_of eid_order) (begun_mapping entry) items) ≡ counting mapping_kind (lasts t) (cond b (entry ∷ of_instance older i) (of_instance older i))
      by true is h = kept (begun_mapping entry) refl is (left ∙ ap (filter_map (mapping_step entry)) h)
      by false is h = gone (begun_mapping entry) refl is ∙ left ∙ still is all ∙ h

  -- as decisions see them
  abbrev is_held : Held → Bool
  is_held held = held.eid.iid == i

  filter-held : (l : List Mapping) → filter is_held (map held_of l) ≡ map held_of (filter is_mine l)
  filter-held [] = refl
  filter-held (x ∷ l) = by (is_mine x) (filter-held l)
    where
      by : (b : Bool) → filter is_held (map held_of l) ≡ map held_of (filter is_mine l) → cond b (held_of x ∷ filter is_held (map held_of l)) (filter is_held (map held_of l)) ≡ map held_of (cond b (x ∷ filter is_mine l) (filter is_mine l))
      by true h = ap (λ l. held_of x ∷ l) h
      by false h = h

  counted : (journal : Journal) → live_mappings t journal ≡ map held_of (counting mapping_kind (lasts t) journal)
  counted journal = sym (mappings-held t journal) ∙ ap (map held_of) (sym (mappings-live t journal))

  -- the live mappings of the instance are those of its journal
  pub mine-live : (journal : Journal) → filter is_held (live_mappings t journal) ≡ live_mappings t (of_instance journal i)
  mine-live journal =
      ap (filter is_held) (counted journal) ∙ filter-held (counting mapping_kind (lasts t) journal)
      ∙ ap (map held_of) (mine-counting journal) ∙ sym (counted (of_instance journal i))

  -- so is the one in force for a prefix of the instance
  pub mine-force : (journal : Journal) (addr : Addr) (len : ℕ) → force (live_mappings t journal) i addr len ≡ force (live_mappings t (of_instance journal i)) i addr len
  mine-force journal addr len =
      ap (fold (longer (λ (held : Held). held.eid)) None)
      (sym (filter-filter is_held (λ held. covers_prefix held.eid i addr len) (λ held is. (and_both (held.eid.iid == i) _ is).0) (live_mappings t journal))
      ∙ ap (filter (λ (held : Held). covers_prefix held.eid i addr len)) (mine-live journal))

-- ### the promises

pub agrees-mine : (journal : Journal) (i now : ℕ) → AgreesIn i (seen_at journal now) (seen_at (of_instance journal i) now)
agrees-mine journal i now = record {
  in_force = mine-force i now journal;
  up = λ rloc. ap (λ o. is_up now o rloc) (sym (all-observed journal i));
  echo_out = λ rloc. ap (λ (o : Observed). echo_out now o.starts o.wishes rloc) (sym (all-observed journal i));
  may_start = λ rloc. ap (λ (o : Observed). may_start now o.starts o.wishes rloc) (sym (all-observed journal i));
}

pub moment-isolated : MomentIsolated
moment-isolated settings journal i now frame is =
    agrees-decides (standing settings journal) i (seen_at journal now) (seen_at (of_instance journal i) now) frame (agrees-mine journal i now)
    (instance-stands settings journal frame ∙ is)
    ∙ ap (λ stands. decide_by stands (seen_at (of_instance journal i) now) frame) (sym (all-standing settings i journal))

pub decision-isolated : DecisionIsolated
unfolding view
decision-isolated settings journal i m n frame is same =
    moment-isolated settings journal i (at journal m) frame is ∙ ap (λ now. decide_by (standing settings (of_instance journal i)) (seen_at (of_instance journal i) now) frame) same

-- the journal of an instance ends no later
pub mine-before : (i : ℕ) (journal : Journal) → IsRising journal → last_moment (of_instance journal i) ≤ last_moment journal
mine-before i [] rising = omega arith
mine-before i (entry ∷ older) rising = by (counts_in i (told_of entry older)) (mine-before i older rising.1)
  where
    by : (b : Bool) → last_moment (of_instance older i) ≤ last_moment older → last_moment (cond b (entry ∷ of_instance older i) (of_instance older i)) ≤ moment_of entry
    by true h = omega arith
    by false h = let later = rising.0 in omega (arith, h, later)

-- and its moments don't fall
pub mine-rises : (i : ℕ) (journal : Journal) → IsRising journal → IsRising (of_instance journal i)
mine-rises i [] rising = tt
mine-rises i (entry ∷ older) rising = by (counts_in i (told_of entry older)) (mine-rises i older rising.1)
  where
    by : (b : Bool) → IsRising (of_instance older i) → IsRising (cond b (entry ∷ of_instance older i) (of_instance older i))
    by true h = ((let before = mine-before i older rising.1 in let later = rising.0 in omega (arith, before, later)), h)
    by false h = h

max-twice : (a b m : ℕ) → b ≤ a → max m a ≡ max (max m a) b
max-twice a b m less = omega (arith, less)

pub rising-isolated : RisingIsolated
rising-isolated settings journal i m frame rising is =
    decision-isolated settings journal i m (at journal m) frame is (max-twice (last_moment journal) (last_moment (of_instance journal i)) m (mine-before i journal rising))

pub table-isolated : TableIsolated
table-isolated settings parts journal i m frame stands is =
    let rising = proper-rises settings journal stands.proper in
    table-decides settings parts journal m frame stands
    ∙ rising-isolated settings journal i m frame rising is
    ∙ ap (λ v. decide_by (standing settings (of_instance journal i)) v frame) (sym (answers settings (of_instance journal i) (at journal m) (mine-rises i journal rising)))
    ∙ ap (λ p. decide_by (standing settings (of_instance journal i)) (view_in (parts_in settings (of_instance journal i)) (max m p.now)) frame) (sym stands.whole)
    ∙ ap (λ s. decide_by s (view_in (parts_in settings (of_instance journal i)) (max m parts.now)) frame) (sym (stands-in settings (of_instance journal i)))
