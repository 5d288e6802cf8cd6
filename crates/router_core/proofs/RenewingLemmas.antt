-- What an SMR makes of a table.
use Rattle.std.proofs.Common.{◌≡◌, ℕ, ◌<◌, ◌≤◌, ◌^◌, ◌&&◌, not, Bool, true, false, cond, List, [], ◌∷◌, ◌++◌, Option, Some, None, refl, sym, ap, subst, ◌∙◌}
use Rattle.std.proofs.lemmas.Option.{same_Some}
use Rattle.mapping_records.specs.declared.eid.Eid.{Eid}
use Rattle.request_queue.specs.Queue.{open_in, waiting}
use Rattle.lisp_settings.specs.Instances.{requests_in}
use Rattle.lisp_settings.specs.Nonces.{nonce_of}
use Rattle.lisp_settings.specs.declared.settings.LimitItem.{LimitItem}
use Rattle.lisp_settings.specs.declared.settings.Settings.{Settings}
use Rattle.router_log.specs.declared.emit.Emit.{Emit}
use Rattle.router_log.specs.declared.emit.Emit.TheVariants.{Request}
use Rattle.router_log.specs.declared.entry.Entry.{Entry}
use Rattle.router_log.specs.declared.entry.Entry.TheVariants.{Asked}
use Rattle.router_model.specs.Changes.{may_ask}
use Rattle.router_model.specs.Hear.{Range, asked_again, renewable, renewed}
use Rattle.router_model.specs.Mappings.{Held, force}
use Rattle.router_model.specs.Parts.{Parts, table, view_in, with_entry}
use Rattle.router_model.specs.View.{View}
use Rattle.router_model.proofs.LiftLemmas.{may_ask-room}
use Rattle.router_core.specs.Table.{change_of}
use Rattle.router_core.proofs.ChangeLemmas.{asked-change, both, may_ask-place}

-- what is asked for again may be asked for
renewable-may : (settings : Settings) (limits : List LimitItem) (v : View) (o : Option Held) (eid : Eid) → renewable settings limits v o ≡ Some eid → may_ask settings limits v eid ≡ true
renewable-may settings limits v None eid is = cc
renewable-may settings limits v (Some held) eid is = by (not held.fixed && may_ask settings limits v held.eid) (λ may. (both (not held.fixed) _ may).1) is
  where
    by : (b : Bool) → (b ≡ true → may_ask settings limits v held.eid ≡ true) → cond b (Some held.eid) None ≡ Some eid → may_ask settings limits v eid ≡ true
    by true may is = subst (λ (e : Eid). may_ask settings limits v e ≡ true) (same_Some held.eid eid is) (may refl)
    by false may is = cc

module _ (settings : Settings) (m : ℕ) (p : Parts) where
  -- so there is a place
  pub renewable-place : (o : Option Held) (eid : Eid) → p.now ≤ m → renewable settings p.limits (view_in p m) o ≡ Some eid → open_in eid.iid (waiting m p.requests) < requests_in p.limits eid.iid
  renewable-place o eid after is = may_ask-place p m eid.iid after (may_ask-room settings m p.limits (view_in p m) eid (renewable-may settings p.limits (view_in p m) o eid is))

  -- a mapping that is asked for again
  pub renewed-so : (range : Range) (eid : Eid) (entries : List Entry) (emits : List Emit) → p.now ≤ m → p.count < 2 ^ 62 → renewable settings p.limits (view_in p m) (force (view_in p m).mappings range.iid range.addr range.len) ≡ Some eid → let nonce = nonce_of settings.seed settings.nonces p.drawn in change_of (with_entry (Asked m eid None true nonce) p) (entries ++ Asked m eid None true nonce ∷ []) (emits ++ Request eid None true nonce ∷ []) ≡ renewed table settings m range (change_of p entries emits)
  renewed-so range eid entries emits after few is =
      asked-change settings m eid None true p entries emits after few (renewable-place _ eid after is)
      ∙ sym (ap (λ o. asked_again table settings m o (change_of p entries emits)) is)
