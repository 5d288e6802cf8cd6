use Rattle.std.proofs.Common.{subst, ◌∙◌}
use Rattle.keyed_list.specs.Keyed.{IsFollowed}
use Rattle.keyed_list.specs.declared.keyed.Marks.{Marks}
use Rattle.keyed_list.proofs.KeyedLemmas.{insert-end}
use Rattle.keyed_list.proofs.linking.put.Goals as goal

pub returns-clause-put : goal.returns-clause-put
returns-clause-put g c = record {
  linked = c.follow.new.list.items;
  followed =
      subst (λ (m : Marks). IsFollowed g.T.Keyed.marks_of m c.args.number c.args.list.now.items c.follow.new.list.items) c.requires.marks c.follow.ensures.followed;
  are = c.insert.ensures.items ∙ insert-end c.follow.new.list.items c.len.result _ c.len.ensures.len;
}
