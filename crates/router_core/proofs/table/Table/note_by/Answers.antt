use Rattle.std.proofs.lemmas.Result.{IfOk-weaker}
use Rattle.router_core.proofs.NotingLemmas.{noted-as}
use Rattle.router_core.proofs.table.Table.note_by.Goals as goal

pub note_bits-requires-clause-width : goal.note_bits-requires-clause-width
note_bits-requires-clause-width c = rw c.in-Bits.is at c.requires.sound

pub returns-in-Bits-clause-parts : goal.returns-in-Bits-clause-parts
returns-in-Bits-clause-parts c =
    IfOk-weaker c.note_bits.result _ _ (λ changed is. noted-as c.args.site.now c.args.m c.args.self.now.parts _ _ c.args.notice.now c.in-Bits.is (is c.args.site.now)) c.note_bits.ensures.parts

pub returns-in-EchoWanted-clause-parts : goal.returns-in-EchoWanted-clause-parts
returns-in-EchoWanted-clause-parts c =
    IfOk-weaker c.note_wanted.result _ _ (λ changed is. noted-as c.args.site.now c.args.m c.args.self.now.parts _ _ c.args.notice.now c.in-EchoWanted.is (is c.args.site.now)) c.note_wanted.ensures.parts

pub returns-in-EchoHeard-clause-parts : goal.returns-in-EchoHeard-clause-parts
returns-in-EchoHeard-clause-parts c =
    IfOk-weaker c.note_heard.result _ _ (λ changed is. noted-as c.args.site.now c.args.m c.args.self.now.parts _ _ c.args.notice.now c.in-EchoHeard.is (is c.args.site.now)) c.note_heard.ensures.parts

pub returns-in-DataFrom-clause-parts : goal.returns-in-DataFrom-clause-parts
returns-in-DataFrom-clause-parts c =
    IfOk-weaker c.note_data.result _ _ (λ changed is. noted-as c.args.site.now c.args.m c.args.self.now.parts _ _ c.args.notice.now c.in-DataFrom.is (is c.args.site.now)) c.note_data.ensures.parts
