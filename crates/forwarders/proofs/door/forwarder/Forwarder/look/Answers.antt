use Rattle.std.proofs.Common.{rules, ◌≡◌, subst}
use Rattle.std.specs.Fn.{FnOnceTakesAt}
use Rattle.left_right.specs.Sides.{view as known}
use Rattle.forwarders.specs.Looks.{MayLook}
use Rattle.forwarders.specs.Publication.{Forwarding}
use Rattle.forwarders.specs.Views.{forwarding_of}
use Rattle.forwarders.proofs.door.forwarder.Forwarder.look.Goals as goal

pub replace_with-seen-requires : goal.replace_with-seen-requires
replace_with-seen-requires g c =
    let now : c.args.self.now ≡ forwarding_of (known c.self.inside.reader.place) = search rules in
    let may : MayLook (FnOnceTakesAt g.F.FnOnce c.args.look) (forwarding_of (known c.self.inside.reader.place)) =
    subst (λ (f : Forwarding). MayLook (FnOnceTakesAt g.F.FnOnce c.args.look) f) now c.requires.may in
    (c.self.invariant, may)
