-- A second at which own locators change: which changes are due, what they leave, and what follows them.
use Rattle.std.proofs.Common.{◌≡◌, ℕ, zero, suc, ◌*◌, ◌/◌, Result, Ok, Err, OnOk, ◌+◌, ◌-◌, ◌<◌, ◌≤◌, ◌||◌, nat_le, nat_lt, Bool, true, false, cond, if◌then◌else◌, List, [], ◌∷◌, ◌++◌, drop, get_or, length, take, refl, sym, ap, ap₂, ◌∙◌, arith}
use Rattle.std.specs.List.{slice_index_or, slice_set}
use Rattle.std.specs.Result.{IfOk}
use Rattle.std.proofs.Math.Nat.{mul-le-mul_left, mul-le-mul_right}
use Rattle.std.proofs.lemmas.Bool.Decides.{nat_tests}
use Rattle.std.proofs.lemmas.List.{take_all}
use Rattle.std.proofs.lemmas.Result.{on_ok_weaker}
use Rattle.ip_headers.specs.declared.addr.Addr.{Addr}
use Rattle.lisp_settings.specs.declared.settings.Change.{Change as OwnChange}
use Rattle.lisp_settings.specs.declared.settings.OwnLocator.{OwnLocator}
use Rattle.lisp_settings.specs.declared.settings.Settings.{Settings}
use Rattle.map_cache.proofs.PlaceLemmas.{filter_again}
use Rattle.mapping_records.specs.Eids.{same_address}
use Rattle.request_queue.specs.Queue.{is_waiting, waiting}
use Rattle.router_log.specs.Moments.{seconds}
use Rattle.router_log.specs.declared.emit.Emit.{Emit}
use Rattle.router_log.specs.declared.entry.Entry.{Entry}
use Rattle.router_log.specs.declared.entry.Entry.TheVariants.{Changed}
use Rattle.router_model.proofs.KeptLemmas.{filter_map-Some}
use Rattle.router_model.proofs.UpsLemmas.{changed-site, ups-tell}
use Rattle.router_model.specs.Changes.{Change, unchanged}
use Rattle.router_model.specs.Parts.{Parts, absorbed, admits, standing_in, table, with_entry}
use Rattle.router_model.specs.Standing.{changing, due_changes, own_in, standing_by, with_ups, without_ups}
use Rattle.router_model.specs.Tick.{after_changes, all_changed, made, all_told, all_probed, retried_where, some_came, ticked, ticked_by}
use Rattle.router_model.specs.Site.{own_bits, reaches_resolver}
use Rattle.router_core.specs.Steps.{HasEntered, IsSecond, IsStep}
use Rattle.router_core.specs.Table.{change_of}
use Rattle.router_core.specs.Telling.{is_some_due}
use Rattle.router_core.proofs.ChangeLemmas.{both}

-- ### own locators, one after another

-- one of them
abbrev pub changed_one : Addr → Bool → OwnLocator → OwnLocator
changed_one address up own = record own { up = if same_address own.addr address then up else own.up }

-- where so many are done, and the others are still to be
abbrev pub still : Addr → Bool → ℕ → List OwnLocator → List OwnLocator
still address up zero items = changing address up items
still address up (suc n) [] = []
still address up (suc n) (own ∷ others) = own ∷ still address up n others

next-still : (address : Addr) (up : Bool) (items : List OwnLocator) (i : ℕ) (new d : OwnLocator) → i < length items → new ≡ changed_one address up (slice_index_or items i d) → still address up (suc i) (slice_set items i new) ≡ still address up i items
next-still address up [] i new d within is = absurd (omega (arith, within))
next-still address up (own ∷ others) zero new d within is = ap (λ (o : OwnLocator). o ∷ changing address up others) is
next-still address up (own ∷ others) (suc i) new d within is =
    ap (λ (l : List OwnLocator). own ∷ l) (next-still address up others i new d (omega (arith, within)) is)

-- one more
pub still-next : (address : Addr) (up : Bool) (items : List OwnLocator) (i : ℕ) (new d : OwnLocator) → i < length items → new ≡ changed_one address up (slice_index_or items i d) → still address up (i + 1) (slice_set items i new) ≡ still address up i items
still-next address up items i new d within is =
    let one : i + 1 ≡ suc i = omega arith in
    ap (λ (n : ℕ). still address up n (slice_set items i new)) one ∙ next-still address up items i new d within is

-- all are done
pub still-none : (address : Addr) (up : Bool) (items : List OwnLocator) (i : ℕ) → length items ≤ i → still address up i items ≡ items
still-none address up [] zero past = refl
still-none address up [] (suc i) past = refl
still-none address up (own ∷ others) zero past = absurd (omega (arith, past))
still-none address up (own ∷ others) (suc i) past = ap (λ (l : List OwnLocator). own ∷ l) (still-none address up others i (omega (arith, past)))

-- ### an entry of a change

-- fewer were made than may be
pub admitted-few : (p : Parts) (m : ℕ) (address : Addr) (up : Bool) → admits p (Changed m address up) ≡ true → p.steps < 256
unfolding admits
admitted-few p m address up is = few p.steps (both _ _ (both _ _ is).1).1
  where
    few : (n : ℕ) → nat_lt n 256 ≡ true → n < 256
    few n is = grind (arith, nat_tests)

-- it is taken
pub absorbed-so : (p : Parts) (e : Entry) → admits p e ≡ true → with_entry e p ≡ absorbed p e
unfolding absorbed
absorbed-so p e is = sym (ap (λ b. cond b (with_entry e p) p) is)

-- or not
pub absorbed-not : (p : Parts) (e : Entry) → admits p e ≡ false → p ≡ absorbed p e
unfolding absorbed
absorbed-not p e isn't = sym (ap (λ b. cond b (with_entry e p) p) isn't)

-- requests wait as before
pub changed-waits : (p : Parts) (m : ℕ) (address : Addr) (up : Bool) → waiting m (with_entry (Changed m address up) p).requests ≡ waiting m p.requests
changed-waits p m address up =
    ap (waiting m) (filter_map-Some (waiting m p.requests)) ∙ filter_again (is_waiting m) p.requests

-- ### changes, one after another

behind : {A : Type 0} (items : List A) → take (length items - 1) (drop 1 items) ≡ drop 1 items
behind [] = refl
behind (first ∷ others) = take_all (length (first ∷ others) - 1) others (omega arith)

module _ (m : ℕ) where
  -- one that isn't due
  pub later-none : (change : OwnChange) → m < seconds change.at → due_changes m (change ∷ []) ≡ []
  later-none change later = ap (λ b. cond b (change ∷ []) []) (not_yet (seconds change.at) later)
    where
      not_yet : (n : ℕ) → m < n → nat_le n m ≡ false
      not_yet n less = grind (arith, nat_tests)

  -- one that is
  pub due-one : (change : OwnChange) → seconds change.at ≤ m → due_changes m (change ∷ []) ≡ change ∷ []
  due-one change due = ap (λ b. cond b (change ∷ []) []) (now (seconds change.at) due)
    where
      now : (n : ℕ) → n ≤ m → nat_le n m ≡ true
      now n less = grind (arith, nat_tests)

  module _ (settings : Settings) where
    -- one that isn't due is not made
    pub made-none : (change : OwnChange) (c : Change Parts) → m < seconds change.at → c ≡ all_changed table settings m (due_changes m (change ∷ [])) c
    made-none change c later = sym (ap (λ l. all_changed table settings m l c) (later-none change later))

    -- one that is, is
    pub made-one : (change : OwnChange) (p q : Parts) (entries written : List Entry) → seconds change.at ≤ m → q ≡ absorbed p (Changed m change.address change.up) → written ≡ entries ++ Changed m change.address change.up ∷ [] → change_of q written [] ≡ all_changed table settings m (due_changes m (change ∷ [])) (change_of p entries [])
    made-one change p q entries written due is adds =
        ap₂ (λ (r : Parts) (l : List Entry). change_of r l []) is adds
        ∙ sym (ap (λ l. all_changed table settings m l (change_of p entries [])) (due-one change due))

    -- the first, and those behind it
    pub made-left : (changes : List OwnChange) (d : OwnChange) (c : Change Parts) → 1 ≤ length changes → all_changed table settings m (due_changes m (take (length changes - 1) (drop 1 changes))) (all_changed table settings m (due_changes m (get_or changes 0 d ∷ [])) c) ≡ all_changed table settings m (due_changes m changes) c
    made-left [] d c some = absurd (omega (arith, some))
    made-left (first ∷ others) d c some =
        ap (λ (l : List OwnChange). all_changed table settings m (due_changes m l) (all_changed table settings m (due_changes m (first ∷ [])) c)) (behind (first ∷ others))
        ∙ by (nat_le (seconds first.at) m)
      where
        by : (b : Bool) → all_changed table settings m (due_changes m others) (all_changed table settings m (cond b (first ∷ []) []) c) ≡ all_changed table settings m (cond b (first ∷ due_changes m others) (due_changes m others)) c
        by true = refl
        by false = refl

  -- ### whether some are due

  -- none
  pub none-due : (changes : List OwnChange) → is_some_due m changes ≡ false → due_changes m changes ≡ []
  none-due [] isn't = refl
  none-due (first ∷ others) isn't = by (nat_le (seconds first.at) m) isn't (none-due others)
    where
      by : (b : Bool) → (b || is_some_due m others) ≡ false → (is_some_due m others ≡ false → due_changes m others ≡ []) → cond b (first ∷ due_changes m others) (due_changes m others) ≡ []
      by true isn't rest = absurd cc
      by false isn't rest = rest isn't

  -- some
  pub some-due : (changes : List OwnChange) → is_some_due m changes ≡ true → some_came (due_changes m changes) ≡ true
  some-due [] is = absurd cc
  some-due (first ∷ others) is = by (nat_le (seconds first.at) m) is (some-due others)
    where
      by : (b : Bool) → (b || is_some_due m others) ≡ true → (is_some_due m others ≡ true → some_came (due_changes m others) ≡ true) → some_came (cond b (first ∷ due_changes m others) (due_changes m others)) ≡ true
      by true is rest = refl
      by false is rest = rest is

  -- ### a second

  module _ (settings : Settings) (p : Parts) (left : List OwnChange) where
    -- the changes that are left are the settings' next ones
    pub ticked-left : left ≡ drop p.steps settings.changes → ticked_by table settings m (due_changes m left) (unchanged p) ≡ ticked table settings m (unchanged p)
    unfolding ticked
    ticked-left is = ap (λ l. ticked_by table settings m (due_changes m l) (unchanged p)) is

    -- none of them is due
    pub ticked-still : (site : Settings) → left ≡ drop p.steps settings.changes → is_some_due m left ≡ false → site ≡ standing_in settings p → after_changes table site m false (unchanged p) ≡ ticked table settings m (unchanged p)
    ticked-still site is none stands =
        ap (λ s. after_changes table s m false (unchanged p)) stands
        ∙ sym (ap (λ l. ticked_by table settings m l (unchanged p)) (none-due left none))
        ∙ ticked-left is

    -- some are, and what follows them
    pub ticked-from : (site : Settings) (q : Parts) (entries : List Entry) (emits : List Emit) (after : Change Parts) → is_some_due m left ≡ true → change_of q entries [] ≡ all_changed table settings m (due_changes m left) (unchanged p) → site ≡ standing_in settings q → emits ≡ [] → after ≡ after_changes table site m true (change_of q entries emits) → after ≡ ticked_by table settings m (due_changes m left) (unchanged p)
    ticked-from site q entries emits after some made stands none is =
        is
        ∙ ap₂ (λ s l. after_changes table s m true (change_of q entries l)) stands none
        ∙ ap (λ (c : Change Parts). after_changes table (standing_in settings c.after) m true c) made
        ∙ sym (ap (λ b. after_changes table (standing_in settings (all_changed table settings m (due_changes m left) (unchanged p)).after) m b (all_changed table settings m (due_changes m left) (unchanged p))) (some-due left some))

-- what follows changes, step by step
pub told-from : (site : Settings) (m : ℕ) (one two three : Change Parts) (before : Change Parts) → one ≡ all_told table site m true before → two ≡ retried_where table site m (reaches_resolver site) one → three ≡ all_probed table site m two → three ≡ after_changes table site m true before
unfolding after_changes
told-from site m one two three before tells retries probes =
    probes ∙ ap (all_probed table site m) (retries ∙ ap (retried_where table site m (reaches_resolver site)) tells)

-- ### what a step leaves

-- own locators that stay stand as before
pub stands-on : (settings : Settings) (p q : Parts) → q.own ≡ p.own → q.steps ≡ p.steps → standing_in settings p ≡ standing_in settings q
stands-on settings p q own steps =
    ap₂ (λ (l : List OwnLocator) (n : ℕ). standing_by settings (own_in l n)) (sym own) (sym steps)

-- a second at which none changes
pub second-of : {T E : Type 0} (most m : ℕ) (old new : Parts) (r : Result T E) → IsStep most m old new r → IsSecond most m old new r
second-of most m old new r step = record {
  entered = on_ok_weaker r (λ (e : HasEntered most m old new). record { now = e.now; count = e.count }) step.entered;
  err = step.err;
}

-- what holds of a value, by what else holds where there is one
pub if_ok-with : {T E H : Type 0} (r : Result T E) (P Q : T → Type 0) → (H → (x : T) → P x → Q x) → OnOk r H → IfOk r P → IfOk r Q
if_ok-with (Ok x) P Q next h p = next h x p
if_ok-with (Err e) P Q next h p = p

-- the prefixes of all locators that are told
pub few-told : (a b : ℕ) → a ≤ 64 → b ≤ 64 → a * b ≤ 4096
few-told a b few_a few_b =
    let one = mul-le-mul_right b few_a in
    let other = mul-le-mul_left 64 few_b in
    omega (arith, one, other)

-- ### own locators behind changes

without-with : (ups : ℕ) (locators : List OwnLocator) → without_ups (with_ups ups locators) ≡ without_ups locators
without-with ups [] = refl
without-with ups (own ∷ others) = ap (λ (l : List OwnLocator). record own { up = false } ∷ l) (without-with (ups / 2) others)

absorbed-site : (p : Parts) (e : Entry) → without_ups (absorbed p e).own ≡ without_ups p.own
unfolding absorbed
absorbed-site p e = by (admits p e)
  where
    by : (b : Bool) → without_ups (cond b (with_entry e p) p).own ≡ without_ups p.own
    by true = changed-site e p.own
    by false = refl

changes-site : (settings : Settings) (m : ℕ) (changes : List OwnChange) (change : Change Parts) → without_ups (all_changed table settings m changes change).after.own ≡ without_ups change.after.own
changes-site settings m [] change = refl
changes-site settings m (one ∷ others) change =
    changes-site settings m others (made table settings m one change)
    ∙ absorbed-site change.after (Changed m one.address one.up)

-- the site that stands behind changes has the own locators of the table, if it had them before
pub own-stands : (settings : Settings) (m : ℕ) (changes : List OwnChange) (p q : Parts) (written before : List Entry) → (standing_in settings p).locators ≡ p.own → change_of q written [] ≡ all_changed table settings m changes (change_of p before []) → (standing_in settings q).locators ≡ q.own
own-stands settings m changes p q written before own is =
    ups-tell q.own settings.locators
    (ap (λ (change : Change Parts). without_ups change.after.own) is
    ∙ changes-site settings m changes (change_of p before [])
    ∙ ap without_ups (sym own)
    ∙ without-with (own_bits p.own) settings.locators)
