use Rattle.std.proofs.Common.{ℕ, List, arith, ap, sym, ◌≡◌, ◌∙◌, ◌+◌, ◌*◌, ◌/◌, ◌%◌, ◌<◌, ◌≤◌, length, take, drop, get_or}
use Rattle.std.proofs.lemmas.List.{length-take-le, length-drop, get_or_read}
use Rattle.named_list.specs.Limits.{ring_names}
use Rattle.named_list.specs.Rings.{joined, rolled}
use Rattle.named_list.proofs.RingsLemmas.{length-joined, get_or_ring, get_or_slot}
use Rattle.named_list.proofs.BehindLemmas.{get_or_behind}
use Rattle.named_list.proofs.names.Names.get.Goals as goal

pub index-requires : goal.index-requires
index-requires c =
    omega (arith, length-joined ring_names c.self.inside.heads.items c.self.inside.slots.items, rw (← c.self.view_is) at c.requires, c.self.inside.slots.ok.0)

pub returns-then-index-len : goal.returns-then-index-len
returns-then-index-len c =
    rw (← c.self.view_is) (c.index.ensures ∙ get_or_behind c.self.inside.heads.items c.self.inside.slots.items c.self.invariant.full c.args.index c.index.result.now (omega (arith, c.if-index-len.true, c.len.ensures, c.self.inside.heads.ok.0)))

pub returns : goal.returns
returns c =
    let heads : List ℕ = c.self.inside.heads.items in
    let slots : List ℕ = c.self.inside.slots.items in
    let k : ℕ = c.args.index / ring_names in
    let at : ℕ = k * ring_names in
    let place : ℕ = c.args.index % ring_names in
    let d : ℕ = c.index-3.result.now in
    let ring : List ℕ = take ring_names (drop at slots) in
    let more : k < length heads = omega (arith, c.if-index-len.false, c.len.ensures, c.self.inside.heads.ok.0) in
    let within : at + ring_names ≤ length slots = omega (arith, more, c.self.invariant.full) in
    let index_is : at + place ≡ c.args.index = omega arith in
    let less : place < ring_names = omega arith in
    let full : length ring ≡ ring_names = length-take-le ring_names (drop at slots) (omega (arith, length-drop at slots, within)) in
    rw (← c.self.view_is) (
    c.index-3.ensures
    ∙ sym (get_or_slot slots at c.turned-place.result d c.turned-place.ensures.within)
    ∙ sym (c.turned-place.ensures.names ring d full)
    ∙ ap (λ head. get_or (rolled head ring) place d) (get_or_read heads k c.index-2.result.now more c.index-2.ensures 0)
    ∙ sym (get_or_ring heads slots k place d more within less)
    ∙ ap (λ i. get_or (joined ring_names heads slots) i d) index_is
    )
