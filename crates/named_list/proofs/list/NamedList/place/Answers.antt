use Rattle.std.proofs.Common.{arith, refl, ◌+◌, ◌-◌, ◌/◌, ◌∙◌}
use Rattle.named_list.proofs.ItemsLemmas.{length-items_at, slice_get-items_at}
use Rattle.named_list.proofs.ChangeLemmas.{name_live}
use Rattle.named_list.proofs.PlaceLemmas.{middle_within, halving_start, halving_low, halving_high}
use Rattle.named_list.proofs.list.NamedList.place.Goals as goal

pub loop-low-init : goal.loop-low-init
loop-low-init g c =
    let len = length-items_at c.self.inside.store c.self.inside.order.names c.self.invariant.each in
    rw (← c.self.view_is) (halving_start _ _ c.len-high.result (omega (arith, len, c.len-high.ensures)))

pub get-requires : goal.get-requires
get-requires g c =
    let len = length-items_at c.self.inside.store c.self.inside.order.names c.self.invariant.each in
    let within = rw (← c.self.view_is) at c.loop-low.invariant.within in
    omega (arith, len, within, (middle_within c.loop-low.low c.loop-low.high c.loop-low-test.true).1)

pub read-requires-clause-live : goal.read-requires-clause-live
read-requires-clause-live g c =
    let len = length-items_at c.self.inside.store c.self.inside.order.names c.self.invariant.each in
    let within = rw (← c.self.view_is) at c.loop-low.invariant.within in
    name_live c.self.inside.store c.self.inside.order.names _ c.get.result c.self.invariant.each (omega (arith, len, within, (middle_within c.loop-low.low c.loop-low.high c.loop-low-test.true).1)) c.get.ensures

pub loop-low-preserved-then-is_below : goal.loop-low-preserved-then-is_below
loop-low-preserved-then-is_below g c =
    let len = length-items_at c.self.inside.store c.self.inside.order.names c.self.invariant.each in
    let is = rw (← c.self.view_is) at c.loop-low.invariant in
    let found = slice_get-items_at c.self.inside.store c.self.inside.order.names (c.loop-low.low + (c.loop-low.high - c.loop-low.low) / 2) c.get.result c.self.invariant.each (omega (arith, len, is.within, (middle_within c.loop-low.low c.loop-low.high c.loop-low-test.true).1)) c.get.ensures ∙ c.read.ensures.node in
    rw (← c.self.view_is) (halving_low _ _ _ _ _ c.is_below.result is c.loop-low-test.true found (record { shown = _; shows = refl; says = record { met = c.is_below.ensures } }) c.if-is_below.true)

pub loop-low-preserved : goal.loop-low-preserved
loop-low-preserved g c =
    let len = length-items_at c.self.inside.store c.self.inside.order.names c.self.invariant.each in
    let is = rw (← c.self.view_is) at c.loop-low.invariant in
    let found = slice_get-items_at c.self.inside.store c.self.inside.order.names (c.loop-low.low + (c.loop-low.high - c.loop-low.low) / 2) c.get.result c.self.invariant.each (omega (arith, len, is.within, (middle_within c.loop-low.low c.loop-low.high c.loop-low-test.true).1)) c.get.ensures ∙ c.read.ensures.node in
    rw (← c.self.view_is) (halving_high _ _ _ _ _ c.is_below.result is c.loop-low-test.true found (record { shown = _; shows = refl; says = record { met = c.is_below.ensures } }) c.if-is_below.false)
