use Rattle.std.proofs.Common.{◌∙◌, false, ap, sym}
use Rattle.router_model.specs.Changes.{unchanged}
use Rattle.router_model.specs.Parts.{Parts, table}
use Rattle.router_model.specs.Tick.{after_changes}
use Rattle.router_core.specs.Table.{changed_seen}
use Rattle.router_core.proofs.table.Table.send_at.Goals as goal

pub returns-then-is_idle-clause-parts : goal.returns-then-is_idle-clause-parts
returns-then-is_idle-clause-parts c =
    ap (changed_seen c.args.self.now.parts) c.nothing.ensures ∙ sym (c.is_idle.ensures c.if-is_idle.true)

pub returns-clause-parts : goal.returns-clause-parts
returns-clause-parts c =
    ap (λ (p : Parts). changed_seen p c.in_ok-changed.changed) c.look_ahead.ensures.parts ∙ c.in_ok-changed.ensures.parts
    ∙ ap (λ (p : Parts). after_changes table c.args.site.now c.args.m false (unchanged p)) c.in_ok-begin_names.ensures.same
