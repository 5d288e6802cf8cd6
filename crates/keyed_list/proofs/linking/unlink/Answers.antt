use Rattle.std.proofs.Common.{sym, ap, ◌∙◌}
use Rattle.keyed_list.specs.Keyed.{has_key}
use Rattle.keyed_list.specs.declared.keyed.Marks.{Marks}
use Rattle.keyed_list.proofs.BareLemmas.{bare-ascends}
use Rattle.keyed_list.proofs.ReadyLemmas.{first-done, has-other, one-key, only-one, only-same, only-two, two-keys}
use Rattle.keyed_list.proofs.RelinkLemmas.{bare-done, has-new}
use Rattle.keyed_list.proofs.linking.unlink.Goals as goal

pub returns-in_default-other-clause-bare : goal.returns-in_default-other-clause-bare
returns-in_default-other-clause-bare g c =
    bare-done g.T.Keyed.marks_of c.marks-marks.result.key c.args.list.now.items c.unlink_key.new.list.items c.unlink_key.ensures.unlinked.relinked

pub returns-in_default-other-clause-found : goal.returns-in_default-other-clause-found
returns-in_default-other-clause-found g c key =
    (one-key g.T.Keyed.marks_of c.args.list.now.items c.args.index.now.keys c.args.place c.in-Some.numbered.now c.requires.ascends (sym c.in-Some.ensures) (λ key. record { found = c.requires.found key; linked = c.requires.linked key }) c.marks-marks.result.key c.unlink_key.new.list.items c.unlink_key.new.index.keys c.unlink_key.ensures.unlinked (λ key has. only-one c.marks-marks.result c.in_default-other.is key (ap (λ (m : Marks). has_key m key) c.marks-marks.ensures ∙ has)) key).found

pub returns-in_default-other-clause-linked : goal.returns-in_default-other-clause-linked
returns-in_default-other-clause-linked g c key =
    (one-key g.T.Keyed.marks_of c.args.list.now.items c.args.index.now.keys c.args.place c.in-Some.numbered.now c.requires.ascends (sym c.in-Some.ensures) (λ key. record { found = c.requires.found key; linked = c.requires.linked key }) c.marks-marks.result.key c.unlink_key.new.list.items c.unlink_key.new.index.keys c.unlink_key.ensures.unlinked (λ key has. only-one c.marks-marks.result c.in_default-other.is key (ap (λ (m : Marks). has_key m key) c.marks-marks.ensures ∙ has)) key).linked

pub unlink_key-requires-then-not-is_same-clause-has : goal.unlink_key-requires-then-not-is_same-clause-has
unlink_key-requires-then-not-is_same-clause-has g c =
    has-new g.T.Keyed.marks_of c.marks-marks.result.key c.args.list.now.items c.unlink_key.new.list.items c.unlink_key.ensures.unlinked.relinked c.args.place c.in-Some.numbered.now (sym c.in-Some.ensures) c.in-Some-other.other
    (ap (λ (m : Marks). has_key m c.in-Some-other.other) (sym c.marks-marks.ensures) ∙ has-other c.marks-marks.result c.in-Some-other.other c.in-Some-other.is)

pub unlink_key-requires-then-not-is_same-clause-ascends : goal.unlink_key-requires-then-not-is_same-clause-ascends
unlink_key-requires-then-not-is_same-clause-ascends g c =
    bare-ascends c.unlink_key.new.list.items c.args.list.now.items (bare-done g.T.Keyed.marks_of c.marks-marks.result.key c.args.list.now.items c.unlink_key.new.list.items c.unlink_key.ensures.unlinked.relinked) c.requires.ascends

pub unlink_key-requires-then-not-is_same-clause-found : goal.unlink_key-requires-then-not-is_same-clause-found
unlink_key-requires-then-not-is_same-clause-found g c =
    (first-done g.T.Keyed.marks_of c.args.list.now.items c.args.index.now.keys c.args.place c.in-Some.numbered.now c.requires.ascends (sym c.in-Some.ensures) (λ key. record { found = c.requires.found key; linked = c.requires.linked key }) c.marks-marks.result.key c.unlink_key.new.list.items c.unlink_key.new.index.keys c.unlink_key.ensures.unlinked c.in-Some-other.other (sym c.is_same.ensures ∙ c.if-not-is_same.true)).found

pub unlink_key-requires-then-not-is_same-clause-linked : goal.unlink_key-requires-then-not-is_same-clause-linked
unlink_key-requires-then-not-is_same-clause-linked g c =
    (first-done g.T.Keyed.marks_of c.args.list.now.items c.args.index.now.keys c.args.place c.in-Some.numbered.now c.requires.ascends (sym c.in-Some.ensures) (λ key. record { found = c.requires.found key; linked = c.requires.linked key }) c.marks-marks.result.key c.unlink_key.new.list.items c.unlink_key.new.index.keys c.unlink_key.ensures.unlinked c.in-Some-other.other (sym c.is_same.ensures ∙ c.if-not-is_same.true)).linked

pub returns-then-not-is_same-clause-bare : goal.returns-then-not-is_same-clause-bare
returns-then-not-is_same-clause-bare g c =
    bare-done g.T.Keyed.marks_of c.in-Some-other.other c.unlink_key.new.list.items c.unlink_key-then-not-is_same.new.list.items c.unlink_key-then-not-is_same.ensures.unlinked.relinked
    ∙ bare-done g.T.Keyed.marks_of c.marks-marks.result.key c.args.list.now.items c.unlink_key.new.list.items c.unlink_key.ensures.unlinked.relinked

pub returns-then-not-is_same-clause-found : goal.returns-then-not-is_same-clause-found
returns-then-not-is_same-clause-found g c key =
    (two-keys g.T.Keyed.marks_of c.args.list.now.items c.args.index.now.keys c.args.place c.in-Some.numbered.now c.requires.ascends (sym c.in-Some.ensures) (λ key. record { found = c.requires.found key; linked = c.requires.linked key }) c.marks-marks.result.key c.unlink_key.new.list.items c.unlink_key.new.index.keys c.unlink_key.ensures.unlinked c.in-Some-other.other c.unlink_key-then-not-is_same.new.list.items c.unlink_key-then-not-is_same.new.index.keys c.unlink_key-then-not-is_same.ensures.unlinked (λ key has apart. only-two c.marks-marks.result c.in-Some-other.other c.in-Some-other.is key (ap (λ (m : Marks). has_key m key) c.marks-marks.ensures ∙ has) apart) key).found

pub returns-then-not-is_same-clause-linked : goal.returns-then-not-is_same-clause-linked
returns-then-not-is_same-clause-linked g c key =
    (two-keys g.T.Keyed.marks_of c.args.list.now.items c.args.index.now.keys c.args.place c.in-Some.numbered.now c.requires.ascends (sym c.in-Some.ensures) (λ key. record { found = c.requires.found key; linked = c.requires.linked key }) c.marks-marks.result.key c.unlink_key.new.list.items c.unlink_key.new.index.keys c.unlink_key.ensures.unlinked c.in-Some-other.other c.unlink_key-then-not-is_same.new.list.items c.unlink_key-then-not-is_same.new.index.keys c.unlink_key-then-not-is_same.ensures.unlinked (λ key has apart. only-two c.marks-marks.result c.in-Some-other.other c.in-Some-other.is key (ap (λ (m : Marks). has_key m key) c.marks-marks.ensures ∙ has) apart) key).linked

pub returns-else-not-is_same-clause-bare : goal.returns-else-not-is_same-clause-bare
returns-else-not-is_same-clause-bare g c =
    bare-done g.T.Keyed.marks_of c.marks-marks.result.key c.args.list.now.items c.unlink_key.new.list.items c.unlink_key.ensures.unlinked.relinked

pub returns-else-not-is_same-clause-found : goal.returns-else-not-is_same-clause-found
returns-else-not-is_same-clause-found g c key =
    (one-key g.T.Keyed.marks_of c.args.list.now.items c.args.index.now.keys c.args.place c.in-Some.numbered.now c.requires.ascends (sym c.in-Some.ensures) (λ key. record { found = c.requires.found key; linked = c.requires.linked key }) c.marks-marks.result.key c.unlink_key.new.list.items c.unlink_key.new.index.keys c.unlink_key.ensures.unlinked (λ key has. only-same c.marks-marks.result c.in-Some-other.other c.in-Some-other.is (sym c.is_same.ensures ∙ c.if-not-is_same.false) key (ap (λ (m : Marks). has_key m key) c.marks-marks.ensures ∙ has)) key).found

pub returns-else-not-is_same-clause-linked : goal.returns-else-not-is_same-clause-linked
returns-else-not-is_same-clause-linked g c key =
    (one-key g.T.Keyed.marks_of c.args.list.now.items c.args.index.now.keys c.args.place c.in-Some.numbered.now c.requires.ascends (sym c.in-Some.ensures) (λ key. record { found = c.requires.found key; linked = c.requires.linked key }) c.marks-marks.result.key c.unlink_key.new.list.items c.unlink_key.new.index.keys c.unlink_key.ensures.unlinked (λ key has. only-same c.marks-marks.result c.in-Some-other.other c.in-Some-other.is (sym c.is_same.ensures ∙ c.if-not-is_same.false) key (ap (λ (m : Marks). has_key m key) c.marks-marks.ensures ∙ has)) key).linked
