use Rattle.std.proofs.Common.{◌≡◌, false, is_some, ap, ◌∙◌, arith}
use Rattle.map_cache.proofs.FiledLemmas.{put-filed, put-mappings, value-new}
use Rattle.map_cache.proofs.by_eid.ByEid.put.Goals as goal

pub invariant_of-self : goal.invariant_of-self
invariant_of-self c =
    put-filed c.self.inside.store c.put-name.new.self c.self.inside.stays.pairs c.insert.new.self.pairs c.self.invariant c.put-name.result c.args.mapping (rw (← c.self.view_is) at c.requires.new) c.put-name.ensures.fresh c.put-name.ensures.changes (rw c.stay_until.ensures at c.insert.ensures.pairs) c.put-name.ensures.rooms c.put-name.ensures.slots

pub returns-clause-mappings : goal.returns-clause-mappings
returns-clause-mappings c =
    rw (← c.self.view_is) (put-mappings c.self.inside.store c.put-name.new.self c.self.inside.stays.pairs c.insert.new.self.pairs c.self.invariant c.put-name.result c.args.mapping (rw (← c.self.view_is) at c.requires.new) c.put-name.ensures.fresh c.put-name.ensures.changes (rw c.stay_until.ensures at c.insert.ensures.pairs))

pub returns-clause-spare : goal.returns-clause-spare
returns-clause-spare c =
    let none : is_some c.insert.result ≡ false = ap is_some (c.insert.ensures.was ∙ value-new c.self.inside.store c.self.inside.stays.pairs c.self.invariant c.args.mapping.eid (rw (← c.self.view_is) at c.requires.new)) in
    let less = rw none at c.insert.ensures.spare in
    let room = rw (← c.self.view_is) at c.requires.spare in
    rw (← c.self.view_is) (omega (arith, less, room, c.put-name.ensures.rooms))

pub returns-clause-room : goal.returns-clause-room
returns-clause-room c =
    let none : is_some c.insert.result ≡ false = ap is_some (c.insert.ensures.was ∙ value-new c.self.inside.store c.self.inside.stays.pairs c.self.invariant c.args.mapping.eid (rw (← c.self.view_is) at c.requires.new)) in
    let less = rw none at c.insert.ensures.spare in
    let room = rw (← c.self.view_is) at c.requires.spare in
    rw (← c.self.view_is) (omega (arith, less, room, c.put-name.ensures.rooms))
