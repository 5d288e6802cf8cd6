-- An answer to a probe, by the probe that is open.
use Rattle.std.proofs.Common.{◌≡◌, ℕ, ◌^◌, ◌<◌, ◌≤◌, Bool, true, false, cond, [], ◌∷◌, Option, Some, is_some, refl, sym, ap, ◌∙◌, arith}
use Rattle.ip_headers.specs.declared.addr.Addr.{Addr}
use Rattle.mapping_records.specs.Eids.{same_address}
use Rattle.map_messages.specs.declared.message.MapReply.{MapReply}
use Rattle.lisp_settings.specs.declared.settings.Settings.{Settings}
use Rattle.locator_state.specs.Probes.{probe_open}
use Rattle.router_log.specs.declared.entry.Entry.TheVariants.{ProbeAnswered}
use Rattle.router_log.specs.declared.verdict.Done.TheVariants.{ProbeReply}
use Rattle.router_log.specs.declared.verdict.Reason.TheVariants.{Foreign}
use Rattle.router_model.specs.Changes.{entered, unchanged}
use Rattle.router_model.specs.Hear.{drops, probe_replied, takes}
use Rattle.router_model.specs.Parts.{Parts, table, view_in, with_entry}
use Rattle.router_core.specs.Table.{change_of}
use Rattle.router_core.proofs.ChangeLemmas.{later, taken}

-- the probe that is open now
pub open-now : (p : Parts) (m nonce : ℕ) → p.now ≤ m → (view_in p m).probe_open nonce ≡ probe_open m p.observed.probes nonce
unfolding view_in
open-now p m nonce after = ap (λ (t : ℕ). probe_open t p.observed.probes nonce) (later m p.now after)

module _ (settings : Settings) (m : ℕ) (from rloc : Addr) (reply : MapReply) (p : Parts) where
  -- by the probe, and whether its locator answered
  by-both : (o : Option Addr) (same : Bool) → o ≡ Some rloc → same_address rloc from ≡ same → probe_replied table settings m from reply o (unchanged p) ≡ cond same (takes ProbeReply (entered table settings m (ProbeAnswered m reply.nonce) (unchanged p))) (drops Foreign (unchanged p))
  by-both o same is told =
      ap (λ (o : Option Addr). probe_replied table settings m from reply o (unchanged p)) is
      ∙ ap (λ b. cond b (takes ProbeReply (entered table settings m (ProbeAnswered m reply.nonce) (unchanged p))) (drops Foreign (unchanged p))) told

  -- from another address
  pub foreign-by : (view_in p m).probe_open reply.nonce ≡ Some rloc → same_address rloc from ≡ false → drops Foreign (unchanged p) ≡ probe_replied table settings m from reply ((view_in p m).probe_open reply.nonce) (unchanged p)
  foreign-by found other = sym (by-both ((view_in p m).probe_open reply.nonce) false found other)

  -- from the locator that was probed
  pub taken-by : p.now ≤ m → p.count < 2 ^ 61 → (view_in p m).probe_open reply.nonce ≡ Some rloc → same_address rloc from ≡ true → takes ProbeReply (change_of (with_entry (ProbeAnswered m reply.nonce) p) (ProbeAnswered m reply.nonce ∷ []) []) ≡ probe_replied table settings m from reply ((view_in p m).probe_open reply.nonce) (unchanged p)
  taken-by after few found same =
      ap (λ (q : Parts). takes ProbeReply (change_of q (ProbeAnswered m reply.nonce ∷ []) []))
      (sym (taken p m (ProbeAnswered m reply.nonce) (refl, λ own steps. refl) after (omega (arith, few)) (ap is_some found)))
      ∙ sym (by-both ((view_in p m).probe_open reply.nonce) true found same)
