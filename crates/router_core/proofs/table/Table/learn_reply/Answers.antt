use Rattle.std.proofs.Common.{◌≡◌, ◌∙◌, ◌-◌, ◌≤◌, ◌++◌, ◌∷◌, ℕ, List, [], length, is_some, sym, ap, arith}
use Rattle.mapping_records.specs.declared.record.Record.{Record}
use Rattle.router_log.specs.declared.emit.Emit.{Emit}
use Rattle.router_log.specs.declared.entry.Entry.{Entry}
use Rattle.router_log.specs.declared.entry.Entry.TheVariants.{Answered}
use Rattle.router_log.specs.declared.verdict.Done.TheVariants.{Learned}
use Rattle.router_log.specs.declared.verdict.Verdict.TheVariants.{Control}
use Rattle.router_model.specs.Changes.{each, entered, unchanged}
use Rattle.router_model.specs.Hear.{is_fit, taught}
use Rattle.router_model.specs.Parts.{Parts, table, with_entry}
use Rattle.router_core.specs.Table.{change_of, heard_seen}
use Rattle.router_core.proofs.ChangeLemmas.{answered-change, replied-so}
use Rattle.router_core.proofs.table.Table.learn_reply.Goals as goal

pub returns-clause-parts : goal.returns-clause-parts
returns-clause-parts c =
    let settings = c.args.site.now in
    let m = c.args.m in
    let p = c.args.self.now.parts in
    let reply = c.args.reply.now in
    let request = c.args.request.now in
    let after = c.learn_each.new.self.parts in
    let entries = c.learn_each.new.entries.items in
    let count = c.requires.may.count in
    let answered = Answered m reply.nonce in
    let fits = ap (is_fit request.eid) (sym c.as_slice-mappings.ensures) ∙ sym c.is_fit.ensures ∙ c.if-not-is_fit.false in
    let first : change_of c.answer.new.self.parts c.push_reserved.new.self.items [] ≡ entered table settings m answered (unchanged p) =
    ap (λ (q : Parts). change_of q c.push_reserved.new.self.items []) (c.answer.ensures.parts ∙ ap (with_entry answered) c.in_ok-reserve_mappings.ensures.parts)
    ∙ ap (λ (e : List Entry). change_of (with_entry answered p) e []) (c.push_reserved.ensures.items ∙ ap (λ (e : List Entry). e ++ answered ∷ []) (c.in_ok-reserve.ensures.items ∙ c.new-entries.ensures.items))
    ∙ answered-change settings m reply.nonce p c.requires.may.later (omega (arith, count)) (ap is_some c.requires.open) in
    let taught_all = c.learn_each.ensures.change
    ∙ ap (λ (ms : List Record). each (taught table settings m request.eid ms) ms (change_of c.answer.new.self.parts c.push_reserved.new.self.items [])) c.as_slice-mappings.ensures
    ∙ ap (each (taught table settings m request.eid reply.mappings) reply.mappings) first in
    let ok = c.learn_each.new.entries.ok.0 in
    let counted = c.len-learned.ensures in
    let more = c.learn_each.ensures.entries.more in
    let pushed = c.push_reserved.ensures.len in
    let len : c.len-learned.result ≡ length entries = omega (arith, ok, counted) in
    let some : 1 ≤ length entries = omega (arith, ok, more, pushed) in
    let heard : ℕ → ℕ → List Entry → List Emit → _ = λ k n e f. heard_seen after (record { verdict = Control (Learned (n - 1) (k - (n - 1))); entries = e; emits = f }) in
    ap (λ (e : List Entry). heard (length c.as_slice-mappings.result.now) c.len-learned.result e c.new.result) c.from_vec.ensures
    ∙ ap (λ (f : List Emit). heard (length c.as_slice-mappings.result.now) c.len-learned.result entries f) c.new.ensures
    ∙ ap (λ (n : ℕ). heard (length c.as_slice-mappings.result.now) n entries []) len
    ∙ ap (λ (ms : List Record). heard (length ms) (length entries) entries []) c.as_slice-mappings.ensures
    ∙ replied-so settings m reply request p after entries fits taught_all some
