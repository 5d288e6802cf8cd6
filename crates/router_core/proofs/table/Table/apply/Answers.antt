use Rattle.std.proofs.Common.{◌∙◌}
use Rattle.std.proofs.lemmas.Result.{on_ok_weaker}
use Rattle.router_core.proofs.ApplyLemmas.{absorbed-as, absorbed-learned, may-ask, may-learn, may-probe, may-retry, may-solicit, may-start, may-tell, may-want, stands-with}
use Rattle.router_core.proofs.table.Table.apply.Goals as goal

pub apply_learned-requires-clause-place : goal.apply_learned-requires-clause-place
apply_learned-requires-clause-place c =
    let p = c.args.self.now.parts in
    (may-learn p c.in-Learned.moment c.in-Learned.mapping c.in-Learned.fixed c.keeps_its_limits.ensures (rw c.in-Learned.is at c.requires)).place

pub apply_learned-requires-clause-keeps : goal.apply_learned-requires-clause-keeps
apply_learned-requires-clause-keeps c =
    let p = c.args.self.now.parts in
    (may-learn p c.in-Learned.moment c.in-Learned.mapping c.in-Learned.fixed c.keeps_its_limits.ensures (rw c.in-Learned.is at c.requires)).keeps

pub apply_asked-requires-clause-place : goal.apply_asked-requires-clause-place
apply_asked-requires-clause-place c =
    let p = c.args.self.now.parts in
    may-ask p c.in-Asked.moment c.in-Asked.eid c.in-Asked.source c.in-Asked.invoked c.in-Asked.nonce (rw c.in-Asked.is at c.requires)

pub returns-in-Learned-clause-parts : goal.returns-in-Learned-clause-parts
returns-in-Learned-clause-parts c =
    let entry = c.in-Learned in
    on_ok_weaker c.apply_learned.result (λ is. is ∙ absorbed-learned c.args.self.now.parts entry.moment entry.mapping entry.fixed c.args.entry.now c.keeps_its_limits.ensures entry.is c.requires) c.apply_learned.ensures.taken.ok

pub returns-in-Learned-clause-journal : goal.returns-in-Learned-clause-journal
returns-in-Learned-clause-journal c =
    on_ok_weaker c.apply_learned.result (λ is settings journal. stands-with settings c.args.self.now.parts c.apply_learned.new.self.parts journal c.args.entry.now is) (returns-in-Learned-clause-parts c)

pub returns-in-Asked-clause-parts : goal.returns-in-Asked-clause-parts
returns-in-Asked-clause-parts c =
    on_ok_weaker c.apply_asked.result (λ is. is ∙ absorbed-as c.args.self.now.parts c.args.entry.now _ c.in-Asked.is c.requires) c.apply_asked.ensures.taken.ok

pub returns-in-Asked-clause-journal : goal.returns-in-Asked-clause-journal
returns-in-Asked-clause-journal c =
    on_ok_weaker c.apply_asked.result (λ is settings journal. stands-with settings c.args.self.now.parts c.apply_asked.new.self.parts journal c.args.entry.now is) (returns-in-Asked-clause-parts c)

pub returns-in-Answered-clause-parts : goal.returns-in-Answered-clause-parts
returns-in-Answered-clause-parts c = c.answer.ensures.parts ∙ absorbed-as c.args.self.now.parts c.args.entry.now _ c.in-Answered.is c.requires

pub returns-in-Answered-clause-journal : goal.returns-in-Answered-clause-journal
returns-in-Answered-clause-journal c settings journal = stands-with settings c.args.self.now.parts c.answer.new.self.parts journal c.args.entry.now (returns-in-Answered-clause-parts c)

pub tell-requires-clause-width : goal.tell-requires-clause-width
tell-requires-clause-width c =
    may-tell c.args.self.now.parts c.in-Bits.moment c.in-Bits.eid c.in-Bits.bits c.in-Bits.width (rw c.in-Bits.is at c.requires)

pub returns-in-Bits-clause-parts : goal.returns-in-Bits-clause-parts
returns-in-Bits-clause-parts c = c.tell.ensures.parts ∙ absorbed-as c.args.self.now.parts c.args.entry.now _ c.in-Bits.is c.requires

pub returns-in-Bits-clause-journal : goal.returns-in-Bits-clause-journal
returns-in-Bits-clause-journal c settings journal = stands-with settings c.args.self.now.parts c.tell.new.self.parts journal c.args.entry.now (returns-in-Bits-clause-parts c)

pub retry-requires-clause-again : goal.retry-requires-clause-again
retry-requires-clause-again c =
    may-retry c.args.self.now.parts c.in-Retried.moment c.in-Retried.nonce (rw c.in-Retried.is at c.requires)

pub returns-in-Retried-clause-parts : goal.returns-in-Retried-clause-parts
returns-in-Retried-clause-parts c = c.retry.ensures.parts ∙ absorbed-as c.args.self.now.parts c.args.entry.now _ c.in-Retried.is c.requires

pub returns-in-Retried-clause-journal : goal.returns-in-Retried-clause-journal
returns-in-Retried-clause-journal c settings journal = stands-with settings c.args.self.now.parts c.retry.new.self.parts journal c.args.entry.now (returns-in-Retried-clause-parts c)

pub apply_probed-requires-clause-place : goal.apply_probed-requires-clause-place
apply_probed-requires-clause-place c =
    may-probe c.args.self.now.parts c.in-Probed.moment c.in-Probed.rloc c.in-Probed.nonce (rw c.in-Probed.is at c.requires)

pub returns-in-Probed-clause-parts : goal.returns-in-Probed-clause-parts
returns-in-Probed-clause-parts c =
    on_ok_weaker c.apply_probed.result (λ is. is ∙ absorbed-as c.args.self.now.parts c.args.entry.now _ c.in-Probed.is c.requires) c.apply_probed.ensures.taken.ok

pub returns-in-Probed-clause-journal : goal.returns-in-Probed-clause-journal
returns-in-Probed-clause-journal c =
    on_ok_weaker c.apply_probed.result (λ is settings journal. stands-with settings c.args.self.now.parts c.apply_probed.new.self.parts journal c.args.entry.now is) (returns-in-Probed-clause-parts c)

pub returns-in-ProbeAnswered-clause-parts : goal.returns-in-ProbeAnswered-clause-parts
returns-in-ProbeAnswered-clause-parts c = c.answer_probe.ensures.parts ∙ absorbed-as c.args.self.now.parts c.args.entry.now _ c.in-ProbeAnswered.is c.requires

pub returns-in-ProbeAnswered-clause-journal : goal.returns-in-ProbeAnswered-clause-journal
returns-in-ProbeAnswered-clause-journal c settings journal = stands-with settings c.args.self.now.parts c.answer_probe.new.self.parts journal c.args.entry.now (returns-in-ProbeAnswered-clause-parts c)

pub apply_started-requires-clause-place : goal.apply_started-requires-clause-place
apply_started-requires-clause-place c =
    may-start c.args.self.now.parts c.in-EchoStarted.moment c.in-EchoStarted.rloc c.in-EchoStarted.nonce (rw c.in-EchoStarted.is at c.requires)

pub returns-in-EchoStarted-clause-parts : goal.returns-in-EchoStarted-clause-parts
returns-in-EchoStarted-clause-parts c =
    on_ok_weaker c.apply_started.result (λ is. is ∙ absorbed-as c.args.self.now.parts c.args.entry.now _ c.in-EchoStarted.is c.requires) c.apply_started.ensures.taken.ok

pub returns-in-EchoStarted-clause-journal : goal.returns-in-EchoStarted-clause-journal
returns-in-EchoStarted-clause-journal c =
    on_ok_weaker c.apply_started.result (λ is settings journal. stands-with settings c.args.self.now.parts c.apply_started.new.self.parts journal c.args.entry.now is) (returns-in-EchoStarted-clause-parts c)

pub returns-in-EchoHeard-clause-parts : goal.returns-in-EchoHeard-clause-parts
returns-in-EchoHeard-clause-parts c = c.hear_echo.ensures.parts ∙ absorbed-as c.args.self.now.parts c.args.entry.now _ c.in-EchoHeard.is c.requires

pub returns-in-EchoHeard-clause-journal : goal.returns-in-EchoHeard-clause-journal
returns-in-EchoHeard-clause-journal c settings journal = stands-with settings c.args.self.now.parts c.hear_echo.new.self.parts journal c.args.entry.now (returns-in-EchoHeard-clause-parts c)

pub returns-in-DataFrom-clause-parts : goal.returns-in-DataFrom-clause-parts
returns-in-DataFrom-clause-parts c = c.take_data.ensures.parts ∙ absorbed-as c.args.self.now.parts c.args.entry.now _ c.in-DataFrom.is c.requires

pub returns-in-DataFrom-clause-journal : goal.returns-in-DataFrom-clause-journal
returns-in-DataFrom-clause-journal c settings journal = stands-with settings c.args.self.now.parts c.take_data.new.self.parts journal c.args.entry.now (returns-in-DataFrom-clause-parts c)

pub apply_wanted-requires-clause-place : goal.apply_wanted-requires-clause-place
apply_wanted-requires-clause-place c =
    may-want c.args.self.now.parts c.in-EchoWanted.moment c.in-EchoWanted.rloc c.in-EchoWanted.nonce (rw c.in-EchoWanted.is at c.requires)

pub returns-in-EchoWanted-clause-parts : goal.returns-in-EchoWanted-clause-parts
returns-in-EchoWanted-clause-parts c =
    on_ok_weaker c.apply_wanted.result (λ is. is ∙ absorbed-as c.args.self.now.parts c.args.entry.now _ c.in-EchoWanted.is c.requires) c.apply_wanted.ensures.taken.ok

pub returns-in-EchoWanted-clause-journal : goal.returns-in-EchoWanted-clause-journal
returns-in-EchoWanted-clause-journal c =
    on_ok_weaker c.apply_wanted.result (λ is settings journal. stands-with settings c.args.self.now.parts c.apply_wanted.new.self.parts journal c.args.entry.now is) (returns-in-EchoWanted-clause-parts c)

pub apply_solicited-requires-clause-place : goal.apply_solicited-requires-clause-place
apply_solicited-requires-clause-place c =
    may-solicit c.args.self.now.parts c.in-Solicited.moment c.in-Solicited.rloc c.in-Solicited.eid c.in-Solicited.nonce (rw c.in-Solicited.is at c.requires)

pub returns-in-Solicited-clause-parts : goal.returns-in-Solicited-clause-parts
returns-in-Solicited-clause-parts c =
    on_ok_weaker c.apply_solicited.result (λ is. is ∙ absorbed-as c.args.self.now.parts c.args.entry.now _ c.in-Solicited.is c.requires) c.apply_solicited.ensures.taken.ok

pub returns-in-Solicited-clause-journal : goal.returns-in-Solicited-clause-journal
returns-in-Solicited-clause-journal c =
    on_ok_weaker c.apply_solicited.result (λ is settings journal. stands-with settings c.args.self.now.parts c.apply_solicited.new.self.parts journal c.args.entry.now is) (returns-in-Solicited-clause-parts c)

pub returns-in-Changed-clause-parts : goal.returns-in-Changed-clause-parts
returns-in-Changed-clause-parts c = c.change.ensures.parts ∙ absorbed-as c.args.self.now.parts c.args.entry.now _ c.in-Changed.is c.requires

pub returns-in-Changed-clause-journal : goal.returns-in-Changed-clause-journal
returns-in-Changed-clause-journal c settings journal = stands-with settings c.args.self.now.parts c.change.new.self.parts journal c.args.entry.now (returns-in-Changed-clause-parts c)
