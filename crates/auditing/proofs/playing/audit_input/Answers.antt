use Rattle.std.proofs.Common.{◌≤◌, ◌∙◌, Some, None, ap, refl, sym, subst, arith, rules}
use Rattle.capture_io.specs.Frame.{Frame}
use Rattle.capture_io.specs.Limits.{most_records}
use Rattle.capture_io.specs.Reading.{Reading}
use Rattle.auditing.proofs.FrameLemmas.{passing-first, passing-on, passing-over, passing-sent}
use Rattle.auditing.proofs.playing.audit_input.Goals as goal

pub loop-frame-init : goal.loop-frame-init
loop-frame-init g c =
    let input = c.requires.input in
    record {
      reads = ap (λ (r : Reading). r.fault) input;
      reader = refl;
      frames = sym (ap (λ (r : Reading). r.position.count) input);
      moment = sym (ap (λ (r : Reading). r.position.greatest) input);
      few = subst (λ (r : Reading). r.position.count ≤ most_records) (sym input) (omega arith);
      ready = rw c.new-output.ensures.written c.requires.ready;
      records = c.new-output.ensures.records;
      open_still = c.requires.open;
      id = refl;
      passing = passing-first g.M.Machine.Does (g.M.Machine.state c.args.machine.now) c.args.input (record { frames = 0; moment = None }) c.args.holding.now (g.D.Desk.told c.args.desk.now) refl refl c.requires.fresh;
      shown = refl;
      given = refl;
      steady = λ steady. steady;
      faults = refl;
    }

pub loop-frame-preserved : goal.loop-frame-preserved
loop-frame-preserved g c =
    let inv = c.loop-frame.invariant in
    let read = c.in-Ok-Some.ensures in
    let is = c.in-Ok-Some.field-0-is in
    let reader = c.loop-frame.reader in
    let at = c.loop-frame.progress in
    let f = c.in-Ok-Some.frame in
    let comes = rw is at read.comes in
    let next = rw is at read.frame in
    let after = rw is at read.after in
    let done = c.in_ok-audit_frame-in-Ok-Some.ensures in
    let view = c.frame.view_is in
    let number = ap (λ (f : Frame). f.number) view in
    let moment = ap (λ (f : Frame). f.moment) view in
    record {
      reads = read.open;
      reader = read.id ∙ inv.reader;
      frames = number ∙ sym (ap (λ (r : Reading). r.position.count) after);
      moment = ap Some moment ∙ sym (ap (λ (r : Reading). r.position.greatest) after);
      few = subst (λ (r : Reading). r.position.count ≤ most_records) (sym after) next.most;
      ready = rw (number, moment) done.ready;
      records = done.records;
      open_still = done.open;
      id = done.id ∙ inv.id;
      passing = rw (number, moment) (passing-on g.M.Machine.Does (g.M.Machine.state c.args.machine.now) c.args.input c.args.holding.now.sent reader c.read_next.new.reader at (g.M.Machine.state c.loop-frame.machine) (g.M.Machine.state c.audit_frame.new.machine)
          c.loop-frame.holding c.audit_frame.new.holding (g.D.Desk.told c.args.desk.now) (g.D.Desk.told c.loop-frame.desk) (g.D.Desk.told c.read_next.new.desk) (g.D.Desk.told c.audit_frame.new.desk) f
          inv.passing comes read.id (λ e. c.requires.apart (sym inv.reader ∙ e ∙ inv.id)) done.id inv.frames inv.moment next done.proceeds);
      shown = done.shown ∙ read.shown ∙ inv.shown;
      given = done.given ∙ read.given ∙ inv.given;
      steady = λ steady. done.steady.stays (read.steady.stays (inv.steady steady));
      faults = done.same (λ is. cc) ∙ read.same (λ is. cc) ∙ inv.faults;
    }

pub returns-in_err-audit_frame-in-Ok-Some-clause-over : goal.returns-in_err-audit_frame-in-Ok-Some-clause-over
returns-in_err-audit_frame-in-Ok-Some-clause-over g c =
    let inv = c.loop-frame.invariant in
    let read = c.in-Ok-Some.ensures in
    let comes = rw c.in-Ok-Some.field-0-is at read.comes in
    let fault = passing-sent g.M.Machine.Does (g.M.Machine.state c.args.machine.now) c.args.input c.args.holding.now.sent c.loop-frame.reader c.read_next.new.reader c.loop-frame.progress (g.M.Machine.state c.loop-frame.machine)
    c.loop-frame.holding (g.D.Desk.told c.args.desk.now) (g.D.Desk.told c.loop-frame.desk) (g.D.Desk.told c.read_next.new.desk) c.in-Ok-Some.frame c.in_err-audit_frame-in-Ok-Some.field-0.0
    inv.passing comes (λ e. c.requires.apart (sym inv.reader ∙ e ∙ inv.id)) c.in_err-audit_frame-in-Ok-Some.ensures.proceeds in
    search (rules, fault)

pub returns-in-Ok-None-clause-over : goal.returns-in-Ok-None-clause-over
returns-in-Ok-None-clause-over g c =
    let inv = c.loop-frame.invariant in
    let read = c.in-Ok-None.ensures in
    let comes = rw c.in-Ok-None.field-0-is at read.comes in
    let frames = inv.frames in
    let few = inv.few in
    passing-over g.M.Machine.Does (g.M.Machine.state c.args.machine.now) c.args.input c.args.holding.now.sent c.loop-frame.reader c.read_next.new.reader c.loop-frame.progress (g.M.Machine.state c.loop-frame.machine)
    c.loop-frame.holding (g.D.Desk.told c.args.desk.now) (g.D.Desk.told c.loop-frame.desk) (g.D.Desk.told c.read_next.new.desk)
    inv.passing comes (λ e. c.requires.apart (sym inv.reader ∙ e ∙ inv.id)) (omega (arith, frames, few))
