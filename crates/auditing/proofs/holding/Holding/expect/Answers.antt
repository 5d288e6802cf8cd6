use Rattle.std.proofs.Common.{rules}
use Rattle.auditing.proofs.HoldingLemmas.{held-fault, held-next}
use Rattle.auditing.proofs.holding.Holding.expect.Goals as goal

pub returns-in_err-found-clause-holds : goal.returns-in_err-found-clause-holds
returns-in_err-found-clause-holds g c = λ packets run base held.
    let fault = held-fault packets run base c.args.self.now c.read_next.new.reader c.in_err-found.field-0.0 (g.D.Desk.told c.args.desk.now) (g.D.Desk.told c.read_next.new.desk) held c.in_err-found.ensures.comes in
    search (rules, fault)

pub returns-clause-holds : goal.returns-clause-holds
returns-clause-holds g c = λ packets run base held.
    let self = c.args.self.now in
    let read = c.in_ok-found.ensures in
    let judged = rw c.as_ref.ensures.value at c.expect.ensures in
    held-next packets c.args.packet.now run base self c.read_next.new.reader c.expect.new.self c.in_ok-found.found (g.D.Desk.told c.args.desk.now) (g.D.Desk.told c.read_next.new.desk)
    c.packets_compare_one_by_one.ensures.more held read.comes read.id judged
