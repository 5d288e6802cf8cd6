-- What is noticed, as a table notes it.
use Rattle.std.proofs.Common.{◌≡◌, ◌∙◌, ℕ, ◌^◌, ◌%◌, ◌<◌, ◌≤◌, ◌==◌, ◌||◌, ◌&&◌, nat_lt, Bool, true, false, cond, List, [], ◌∷◌, ◌++◌, append_assoc, Option, Some, None, is_some, refl, sym, ap, ap₂, arith, mod-lt}
use Rattle.std.proofs.lemmas.Bool.Decides.{nat_tests}
use Rattle.std.proofs.lemmas.List.{append-nil}
use Rattle.std.proofs.lemmas.Nat.{pow_pos}
use Rattle.ip_headers.specs.declared.addr.Addr.{Addr}
use Rattle.mapping_records.specs.declared.eid.Eid.{Eid}
use Rattle.lisp_settings.specs.Nonces.{nonce_of}
use Rattle.lisp_settings.specs.declared.settings.Settings.{Settings}
use Rattle.router_log.specs.declared.emit.Emit.{Emit}
use Rattle.router_log.specs.declared.emit.Emit.TheVariants as emit
use Rattle.router_log.specs.declared.entry.Entry.{Entry}
use Rattle.router_log.specs.declared.entry.Entry.TheVariants.{Bits, DataFrom, EchoHeard, EchoStarted, EchoWanted, Solicited}
use Rattle.router_log.specs.declared.notice.Notice.{Notice}
use Rattle.router_log.specs.declared.notice.Notice.TheVariants as notice
use Rattle.router_model.specs.Changes.{Change, each, entered, may_ask, next_nonce, unchanged}
use Rattle.router_model.specs.Mappings.{exact}
use Rattle.router_model.specs.Note.{is_echo, is_learned, is_missing, is_news, noted, solicited}
use Rattle.router_model.specs.Parts.{Parts, table, view_in, with_entry}
use Rattle.router_model.specs.Proper.{is_short, suits}
use Rattle.router_model.specs.Site.{ours}
use Rattle.router_model.proofs.NoteLemmas.{news-some}
use Rattle.router_core.specs.Table.{change_of, changed_seen}
use Rattle.router_core.specs.declared.changed.Changed.{Changed}
use Rattle.router_core.proofs.ChangeLemmas.{both, taken, IsOther}
use Rattle.router_core.proofs.HeldLemmas.{drawn-seen}

two : (a b : Bool) → a ≡ true → b ≡ true → (a && b) ≡ true
two a b p q = rw (p, q) refl

-- what comes of one entry, by its parts
pub one-entered : (p q : Parts) (e : Entry) (entries : List Entry) (emits emitted : List Emit) → q ≡ with_entry e p → entries ≡ e ∷ [] → emits ≡ emitted → change_of q entries emits ≡ change_of (with_entry e p) (e ∷ []) emitted
one-entered p q e entries emits emitted after is sent =
    ap (λ (q : Parts). change_of q entries emits) after ∙ ap₂ (change_of (with_entry e p)) is sent

-- the same without emits
pub quiet-entered : (p q : Parts) (e : Entry) (entries : List Entry) (changed : Changed) → q ≡ with_entry e p → entries ≡ e ∷ [] → changed ≡ record { entries = entries; emits = [] } → changed_seen q changed ≡ change_of (with_entry e p) (e ∷ []) []
quiet-entered p q e entries changed after is quiet = ap (changed_seen q) quiet ∙ one-entered p q e entries [] [] after is refl

module _ (settings : Settings) (m : ℕ) (p : Parts) (after : p.now ≤ m) (few : p.count < 2 ^ 62) where
  -- an entry that suits is entered
  entered-so : (e : Entry) → IsOther m e → suits p.limits (view_in p m) e ≡ true → change_of (with_entry e p) (e ∷ []) [] ≡ entered table settings m e (unchanged p)
  entered-so e now suit = ap (λ (q : Parts). change_of q (e ∷ []) []) (sym (taken p m e now after few suit))

  -- and so it is where a test holds
  entered-if : (e : Entry) (test : Bool) → IsOther m e → suits p.limits (view_in p m) e ≡ true → test ≡ true → change_of (with_entry e p) (e ∷ []) [] ≡ cond test (entered table settings m e (unchanged p)) (unchanged p)
  entered-if e test now suit is =
      entered-so e now suit ∙ sym (ap (λ b. cond b (entered table settings m e (unchanged p)) (unchanged p)) is)

  -- status bits that tell something new
  pub told-change : (eid : Eid) (rloc : Addr) (bits width : ℕ) → is_news rloc bits width (exact (view_in p m).mappings eid) ≡ true → ((width == 8) || (width == 32)) ≡ true → change_of (with_entry (Bits m eid bits width) p) (Bits m eid bits width ∷ []) [] ≡ noted table settings m (notice.Bits eid rloc bits width) (unchanged p)
  unfolding noted
  told-change eid rloc bits width news sound =
      entered-if (Bits m eid bits width) _ (refl, λ own steps. refl) (two _ _ (news-some rloc bits width _ news) sound) news

  -- an echo that is wanted
  pub wanted-change : (rloc : Addr) (nonce : ℕ) → (view_in p m).may_want rloc nonce ≡ true → is_short nonce ≡ true → change_of (with_entry (EchoWanted m rloc nonce) p) (EchoWanted m rloc nonce ∷ []) [] ≡ noted table settings m (notice.EchoWanted rloc nonce) (unchanged p)
  unfolding noted
  wanted-change rloc nonce may short = entered-if (EchoWanted m rloc nonce) _ (refl, λ own steps. refl) (two _ _ may short) may

  -- an echo that came
  pub heard-change : (rloc : Addr) (nonce : ℕ) → is_echo nonce ((view_in p m).echo_on rloc) ≡ true → change_of (with_entry (EchoHeard m rloc) p) (EchoHeard m rloc ∷ []) [] ≡ noted table settings m (notice.EchoHeard rloc nonce) (unchanged p)
  unfolding noted
  heard-change rloc nonce echo = entered-if (EchoHeard m rloc) _ (refl, λ own steps. refl) (some _ echo) echo
    where
      some : (o : Option ℕ) → is_echo nonce o ≡ true → is_some o ≡ true
      some None is = cc
      some (Some asked) is = refl

  -- a packet that came
  pub data-change : (rloc : Addr) → (view_in p m).data_due rloc ≡ true → change_of (with_entry (DataFrom m rloc) p) (DataFrom m rloc ∷ []) [] ≡ noted table settings m (notice.DataFrom rloc) (unchanged p)
  unfolding noted
  data-change rloc due = entered-if (DataFrom m rloc) _ (refl, λ own steps. refl) due due

  next-drawn : (n : ℕ) → n ≡ nonce_of settings.seed settings.nonces p.drawn → n ≡ next_nonce table settings m (unchanged p)
  next-drawn n is = is ∙ ap (nonce_of settings.seed settings.nonces) (sym (drawn-seen p m))

  -- an echo that is asked for, with the low bits of the next nonce
  pub due-change : (rloc : Addr) (n : ℕ) → n ≡ nonce_of settings.seed settings.nonces p.drawn → (settings.echo && (view_in p m).may_start rloc) ≡ true → change_of (with_entry (EchoStarted m rloc (n % 2 ^ 24)) p) (EchoStarted m rloc (n % 2 ^ 24) ∷ []) [] ≡ noted table settings m (notice.EchoDue rloc) (unchanged p)
  unfolding noted
  due-change rloc n is due =
      entered-if (started n) _ (refl, λ own steps. refl) (two _ _ (both _ _ due).1 short) due
      ∙ ap (λ (n : ℕ). cond (settings.echo && (view_in p m).may_start rloc) (entered table settings m (started n) (unchanged p)) (unchanged p)) (next-drawn n is)
    where
      started : ℕ → Entry
      started n = EchoStarted m rloc (n % 2 ^ 24)

      short : nat_lt (n % 2 ^ 24) (2 ^ 24) ≡ true
      short = let less : n % 2 ^ 24 < 2 ^ 24 = mod-lt n (pow_pos 24) in grind (arith, nat_tests)

  -- a locator that is solicited, with the next nonce
  pub solicited-change : (rloc : Addr) (eid : Eid) (n : ℕ) → n ≡ nonce_of settings.seed settings.nonces p.drawn → (is_some (ours settings.locators rloc) && (view_in p m).may_solicit rloc eid) ≡ true → change_of (with_entry (Solicited m rloc eid n) p) (Solicited m rloc eid n ∷ []) (emit.Solicit rloc eid n ∷ []) ≡ noted table settings m (notice.Solicit rloc eid) (unchanged p)
  unfolding noted
  solicited-change rloc eid n is may =
      ap (λ (q : Parts). change_of q (Solicited m rloc eid n ∷ []) (emit.Solicit rloc eid n ∷ [])) (sym (taken p m (Solicited m rloc eid n) (refl, λ own steps. refl) after few (both _ _ may).1))
      ∙ ap (λ (n : ℕ). solicited table settings m n rloc eid (unchanged p)) (next-drawn n is)
      ∙ sym (ap (λ b. cond b (solicited table settings m (next_nonce table settings m (unchanged p)) rloc eid (unchanged p)) (unchanged p)) may)

-- ### a notice that is known

module _ (settings : Settings) (m : ℕ) (p : Parts) (change : Change Parts) (known given : Notice) (same : given ≡ known) where
  pub noted-as : change ≡ noted table settings m known (unchanged p) → change ≡ noted table settings m given (unchanged p)
  noted-as is = is ∙ ap (λ (n : Notice). noted table settings m n (unchanged p)) (sym same)

-- ### notices that are noted one after another

-- a change behind entries and emits that came before
abbrev pub behind : List Entry → List Emit → Change Parts → Change Parts
behind entries emits change = change_of change.after (entries ++ change.entries) (emits ++ change.emits)

-- nothing came
nothing-behind : (p : Parts) (entries : List Entry) (emits : List Emit) → change_of p entries emits ≡ behind entries emits (unchanged p)
nothing-behind p entries emits = ap₂ (change_of p) (sym (append-nil entries)) (sym (append-nil emits))

-- a test that is asked of what stands alone
if-behind : (p : Parts) (entries : List Entry) (emits : List Emit) (b : Bool) (x y : Change Parts) → x ≡ behind entries emits y → cond b x (change_of p entries emits) ≡ behind entries emits (cond b y (unchanged p))
if-behind p entries emits true x y is = is
if-behind p entries emits false x y is = nothing-behind p entries emits

-- an entry alone
quiet-behind : (p : Parts) (entries : List Entry) (emits : List Emit) (e : Entry) (q : Parts) → change_of q (entries ++ e ∷ []) emits ≡ behind entries emits (change_of q (e ∷ []) [])
quiet-behind p entries emits e q = ap (change_of q (entries ++ e ∷ [])) (sym (append-nil emits))

module _ (settings : Settings) (m : ℕ) where
  -- a notice adds to what came before
  pub noted-behind : (n : Notice) (p : Parts) (entries : List Entry) (emits : List Emit) → noted table settings m n (change_of p entries emits) ≡ behind entries emits (noted table settings m n (unchanged p))
  unfolding noted
  noted-behind (notice.Ask eid source) p entries emits =
      if-behind p entries emits (is_missing settings p.limits (table.see p m) eid) _ _ refl
  noted-behind (notice.Refresh eid) p entries emits =
      if-behind p entries emits (is_learned (exact (table.see p m).mappings eid) && may_ask settings p.limits (table.see p m) eid) _ _ refl
  noted-behind (notice.Bits eid rloc bits width) p entries emits =
      if-behind p entries emits (is_news rloc bits width (exact (table.see p m).mappings eid)) _ _ (quiet-behind p entries emits _ _)
  noted-behind (notice.EchoWanted rloc nonce) p entries emits =
      if-behind p entries emits ((table.see p m).may_want rloc nonce) _ _ (quiet-behind p entries emits _ _)
  noted-behind (notice.EchoHeard rloc nonce) p entries emits =
      if-behind p entries emits (is_echo nonce ((table.see p m).echo_on rloc)) _ _ (quiet-behind p entries emits _ _)
  noted-behind (notice.DataFrom rloc) p entries emits =
      if-behind p entries emits ((table.see p m).data_due rloc) _ _ (quiet-behind p entries emits _ _)
  noted-behind (notice.Solicit rloc eid) p entries emits =
      if-behind p entries emits (is_some (ours settings.locators rloc) && (table.see p m).may_solicit rloc eid) _ _ refl
  noted-behind (notice.EchoDue rloc) p entries emits =
      if-behind p entries emits (settings.echo && (table.see p m).may_start rloc) _ _ (quiet-behind p entries emits _ _)

  abbrev pub all : List Notice → Change Parts → Change Parts
  all notices change = each (noted table settings m) notices change

  -- so do all
  pub all-behind : (notices : List Notice) (p : Parts) (entries : List Entry) (emits : List Emit) → all notices (change_of p entries emits) ≡ behind entries emits (all notices (unchanged p))
  all-behind [] p entries emits = nothing-behind p entries emits
  all-behind (n ∷ others) p entries emits =
      let first : Change Parts = noted table settings m n (unchanged p) in
      let left : Change Parts = all others (unchanged first.after) in
      ap (all others) (noted-behind n p entries emits)
      ∙ all-behind others first.after (entries ++ first.entries) (emits ++ first.emits)
      ∙ ap₂ (change_of left.after) (append_assoc entries first.entries left.entries) (append_assoc emits first.emits left.emits)
      ∙ ap (behind entries emits) (sym (all-behind others first.after first.entries first.emits))

  -- all by the first of them, and what it left
  pub all-from : (n : Notice) (others : List Notice) (p mid : Parts) (entries : List Entry) (emits : List Emit) → change_of mid entries emits ≡ noted table settings m n (unchanged p) → all (n ∷ others) (unchanged p) ≡ behind entries emits (all others (unchanged mid))
  all-from n others p mid entries emits is = ap (all others) (sym is) ∙ all-behind others mid entries emits
