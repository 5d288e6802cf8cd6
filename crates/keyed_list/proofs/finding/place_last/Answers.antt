use Rattle.std.proofs.Common.{ap, ◌∙◌}
use Rattle.keyed_list.specs.Keyed.{is_key, item_at}
use Rattle.keyed_list.proofs.WalkLemmas.{place-found, place-none, place-within}
use Rattle.keyed_list.proofs.finding.place_last.Goals as goal

pub returns-in_err-number-clause-last : goal.returns-in_err-number-clause-last
returns-in_err-number-clause-last g c =
    ap (item_at c.args.list.now.items) c.from_residual.ensures
    ∙ place-none g.T.Keyed.marks_of c.args.key.now c.args.list.now.items c.requires.ascends (λ y. is_key g.T.Keyed.marks_of c.args.key.now y.item) c.last_number.result c.in_err-number.was (c.last_number.ensures ∙ c.requires.found)

pub returns-clause-last : goal.returns-clause-last
returns-clause-last g c =
    place-found g.T.Keyed.marks_of c.args.key.now c.args.list.now.items c.requires.ascends (λ y. is_key g.T.Keyed.marks_of c.args.key.now y.item) c.in_ok-number.number c.place_of.result (c.in_ok-number.ensures ∙ c.requires.found) c.place_of.ensures

pub returns-clause-within : goal.returns-clause-within
returns-clause-within g c =
    place-within g.T.Keyed.marks_of c.args.key.now c.args.list.now.items c.requires.ascends (λ y. is_key g.T.Keyed.marks_of c.args.key.now y.item) c.in_ok-number.number c.place_of.result (c.in_ok-number.ensures ∙ c.requires.found) c.place_of.ensures
