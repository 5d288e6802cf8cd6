use Rattle.std.proofs.Common.{take}
use Rattle.router_model.specs.Plain.{emit_packets}
use Rattle.router_model.specs.Standing.{standing_by}
use Rattle.replay.specs.Taking.{Sends}
use Rattle.replay.proofs.taking.push_emits.Given as goal

abbrev pub invariant-loop-emit : goal.invariant-loop-emit
invariant-loop-emit l = Sends (emit_packets (standing_by l.settings l.own) l.moment (take l.emit-index l.fn.emits)) l.fn.output l.output
