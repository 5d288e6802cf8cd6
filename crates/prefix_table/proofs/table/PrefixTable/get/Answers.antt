use Rattle.std.proofs.Common.{rules, ◌≢◌, All, Contains, subst, sym}
use Rattle.prefix_table.proofs.Bits.{covers_parts}
use Rattle.prefix_table.proofs.PutLemmas.{same_key}
use Rattle.prefix_table.proofs.AscendLemmas.{value_in-there, value_in-absent, absent_longer}
use Rattle.prefix_table.proofs.table.PrefixTable.get.Goals as goal

pub returns-then-key-eid-clause-value : goal.returns-then-key-eid-clause-value
returns-then-key-eid-clause-value g c =
    let found = c.in-Some.ensures.longest in
    let same = same_key c.in-Some.key.now c.args.eid.now (covers_parts c.in-Some.key.now c.args.eid.now found.covers) c.if-key-eid.true in
    let there : Contains c.args.self.now.pairs (c.args.eid.now, c.in-Some.value.now) = subst (λ e. Contains c.args.self.now.pairs (e, c.in-Some.value.now)) same found.there in
    rw (← c.self.view_is) (sym (value_in-there _ _ c.args.eid.now c.in-Some.value.now c.self.invariant.forest (rw (← c.self.view_is) at there)))

pub returns-else-key-eid-clause-value : goal.returns-else-key-eid-clause-value
returns-else-key-eid-clause-value g c =
    sym (absent_longer _ c.args.eid.now c.args.self.now.pairs _ c.in-Some.ensures.longest c.if-key-eid.false (λ v says. search rules))

pub returns-in-None-clause-value : goal.returns-in-None-clause-value
returns-in-None-clause-value g c =
    let absent : All (λ pair. pair.0 ≢ c.args.eid.now) c.args.self.now.pairs = search rules in
    sym (value_in-absent c.args.eid.now c.args.self.now.pairs absent)
