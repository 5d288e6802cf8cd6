-- Locators that are told of prefixes, one after another.
use Rattle.std.proofs.Common.{◌≡◌, ◌≤◌, ◌<◌, ◌-◌, ◌^◌, ℕ, Bool, true, false, cond, List, [], ◌∷◌, ◌++◌, drop, filter_map, get_or, length, map, take, refl, sym, ap, ◌∙◌, arith}
use Rattle.std.proofs.lemmas.List.{take_all}
use Rattle.ip_headers.specs.declared.addr.Addr.{Addr}
use Rattle.mapping_records.specs.declared.eid.Eid.{Eid}
use Rattle.lisp_settings.specs.Nonces.{nonce_of}
use Rattle.lisp_settings.specs.declared.settings.Database.{Database}
use Rattle.lisp_settings.specs.declared.settings.Settings.{Settings}
use Rattle.request_queue.specs.Queue.{is_waiting, waiting}
use Rattle.request_queue.specs.declared.request.Request.{Request}
use Rattle.router_log.specs.declared.emit.Emit.{Emit}
use Rattle.router_log.specs.declared.emit.Emit.TheVariants as emit
use Rattle.router_log.specs.declared.entry.Entry.{Entry}
use Rattle.router_log.specs.declared.entry.Entry.TheVariants.{Solicited}
use Rattle.router_model.specs.Changes.{Change, each, next_nonce}
use Rattle.router_model.specs.Note.{solicited}
use Rattle.router_model.specs.Parts.{Parts, absorbed, table, view_in, with_entry}
use Rattle.router_model.specs.Requests.{request_step}
use Rattle.router_model.specs.Tick.{told}
use Rattle.router_core.specs.Table.{change_of}
use Rattle.router_core.proofs.ChangeLemmas.{taken}
use Rattle.router_core.proofs.HeldLemmas.{drawn-seen}
use Rattle.router_core.proofs.ToldLemmas.{none-below}

-- ### one prefix

module _ (settings : Settings) (m : ℕ) (address : Addr) (database : Database) where
  -- an SMR that is sent is entered
  pub told-so : (p : Parts) (entries : List Entry) (emits : List Emit) → p.now ≤ m → p.count < 2 ^ 62 → (view_in p m).may_solicit address database.eid ≡ true
      → let nonce = nonce_of settings.seed settings.nonces p.drawn in change_of (with_entry (Solicited m address database.eid nonce) p) (entries ++ Solicited m address database.eid nonce ∷ []) (emits ++ emit.Solicit address database.eid nonce ∷ []) ≡ told table settings m address database (change_of p entries emits)
  told-so p entries emits after few may =
      ap (λ (q : Parts). change_of q (entries ++ entry nonce ∷ []) (emits ++ packet nonce ∷ [])) (sym (taken p m (entry nonce) (refl, λ own steps. refl) after few may))
      ∙ ap (λ (n : ℕ). change_of (absorbed p (entry n)) (entries ++ entry n ∷ []) (emits ++ packet n ∷ [])) (ap (nonce_of settings.seed settings.nonces) (sym (drawn-seen p m)))
      ∙ sym (ap (λ b. cond b (solicited table settings m (next_nonce table settings m (change_of p entries emits)) address database.eid (change_of p entries emits)) (change_of p entries emits)) may)
    where
      nonce : ℕ
      nonce = nonce_of settings.seed settings.nonces p.drawn

      entry : ℕ → Entry
      entry n = Solicited m address database.eid n

      packet : ℕ → Emit
      packet n = emit.Solicit address database.eid n

  -- where it may not be, none is
  pub told-not : (change : Change Parts) → (view_in change.after m).may_solicit address database.eid ≡ false → change ≡ told table settings m address database change
  told-not change isn't =
      sym (ap (λ b. cond b (solicited table settings m (next_nonce table settings m change) address database.eid change) change) isn't)

-- requests that wait go on waiting
pub still-waiting : (m : ℕ) (address : Addr) (eid : Eid) (nonce : ℕ) (requests : List Request) → waiting m (filter_map (request_step (Solicited m address eid nonce)) (waiting m requests)) ≡ waiting m requests
still-waiting m address eid nonce [] = refl
still-waiting m address eid nonce (r ∷ rs) = by (is_waiting m r) refl (still-waiting m address eid nonce rs)
  where
    by : (w : Bool) → is_waiting m r ≡ w → waiting m (filter_map (request_step (Solicited m address eid nonce)) (waiting m rs)) ≡ waiting m rs
        → waiting m (filter_map (request_step (Solicited m address eid nonce)) (cond w (r ∷ waiting m rs) (waiting m rs))) ≡ cond w (r ∷ waiting m rs) (waiting m rs)
    by true is h = rw (is, h) refl
    by false is h = h

-- ### item by item

behind : {A : Type 0} (items : List A) → take (length items - 1) (drop 1 items) ≡ drop 1 items
behind [] = refl
behind (first ∷ others) = take_all (length (first ∷ others) - 1) others (omega arith)

-- the first step, and those that are left, each of what becomes of its item
pub each-mapped : {A B S : Type 0} (step : B → Change S → Change S) (f : A → B) (items : List A) (d : A) (change : Change S) → 1 ≤ length items → each step (map f (take (length items - 1) (drop 1 items))) (step (f (get_or items 0 d)) change) ≡ each step (map f items) change
each-mapped step f [] d change some = absurd (omega (arith, some))
each-mapped step f (first ∷ others) d change some =
    ap (λ (l : List _). each step (map f l) (step (f first) change)) (behind (first ∷ others))

-- where there is none
pub each-none : {A B S : Type 0} (step : B → Change S → Change S) (f : A → B) (items : List A) (change : Change S) → length items < 1 → change ≡ each step (map f items) change
each-none step f items change few = sym (ap (λ (l : List _). each step (map f l) change) (none-below items few))
