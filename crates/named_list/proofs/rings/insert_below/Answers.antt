use Rattle.std.proofs.Common.{ℕ, List, arith, ap, sym, subst, ◌≡◌, ◌∙◌, ◌+◌, ◌-◌, ◌*◌, ◌/◌, ◌<◌, ◌≤◌, ◌++◌, ◌∷◌, [], length, take, drop, get_or, set}
use Rattle.std.proofs.lemmas.List.{length-set}
use Rattle.std.specs.List.{insert}
use borrow.Rule.Slice.PartMut.{put_mid}
use Rattle.named_list.specs.Limits.{ring_names}
use Rattle.named_list.specs.Rings.{AreHeads, rolled, joined}
use Rattle.named_list.proofs.RingChangeLemmas.{are_heads_made, heads_pushed, slots_pushed, insert_joined, slots_lent, heads_lent, length-put_mid}
use Rattle.named_list.proofs.rings.insert_below.Goals as goal

pub returns-clause-names : goal.returns-clause-names
returns-clause-names c =
    let heads : List ℕ = c.args.heads.now in
    let slots : List ℕ = c.args.slots.now in
    let k : ℕ = c.args.index / ring_names in
    let start : ℕ = k * ring_names in
    let n : ℕ = start + ring_names - start in
    let ring : List ℕ = c.put_in-carried.new.ring in
    let head : ℕ = c.put_in-carried.new.head in
    let carried : ℕ = c.put_in-carried.result in
    let one : n ≡ ring_names = omega arith in
    let more : k < length heads = omega (arith, c.requires.full, c.requires.index) in
    let enough : start + ring_names ≤ length slots = omega (arith, more, c.requires.full) in
    let full : length ring ≡ ring_names = c.put_in-carried.ensures.len in
    let here : insert (rolled (get_or heads k 0) (take ring_names (drop start slots))) (c.args.index - start) c.args.name ≡ rolled head ring ++ carried ∷ [] =
    subst (λ m. insert (rolled (get_or heads k 0) (take m (drop start slots))) (c.args.index - start) c.args.name ≡ rolled head ring ++ carried ∷ []) one c.put_in-carried.ensures.names in
    let written : List ℕ = put_mid start n slots ring in
    let len : length written ≡ length slots = length-put_mid slots ring start n one full enough in
    let on : carried ∷ joined ring_names (drop (k + 1) heads) (drop (start + ring_names) slots) ≡ joined ring_names c.push_on.new.heads c.push_on.new.slots ++ c.push_on.result ∷ [] =
    ap (λ hs. carried ∷ joined ring_names hs (drop (start + ring_names) slots)) (sym (heads_lent heads k head))
    ∙ ap (λ ss. carried ∷ joined ring_names (take (length (set heads k head) - (k + 1)) (drop (k + 1) (set heads k head))) ss) (sym (slots_lent slots ring start n one full enough))
    ∙ c.push_on.ensures.names in
    let m : ℕ = length written - (start + ring_names) in
    insert_joined heads slots c.args.index k more c.requires.full (omega arith) (omega arith) c.push_on.new.heads ring c.push_on.new.slots head c.args.name carried full c.push_on.result here on
    ∙ ap (λ hs. joined ring_names hs (take start slots ++ (ring ++ c.push_on.new.slots)) ++ c.push_on.result ∷ []) (sym (heads_pushed heads c.push_on.new.heads k head (length (set heads k head) - (k + 1)) more (omega (arith, more, length-set heads k head))))
    ∙ ap (λ ss. joined ring_names (put_mid (k + 1) (length (set heads k head) - (k + 1)) (set heads k head) c.push_on.new.heads) ss ++ c.push_on.result ∷ []) (sym (slots_pushed slots ring c.push_on.new.slots start n m one full (omega (arith, len, enough))))

pub returns-clause-heads : goal.returns-clause-heads
returns-clause-heads c =
    let heads : List ℕ = c.args.heads.now in
    let k : ℕ = c.args.index / ring_names in
    let head : ℕ = c.put_in-carried.new.head in
    let more : k < length heads = omega (arith, c.requires.full, c.requires.index) in
    subst AreHeads (sym (heads_pushed heads c.push_on.new.heads k head (length (set heads k head) - (k + 1)) more (omega (arith, more, length-set heads k head)))) (are_heads_made heads c.push_on.new.heads k head c.requires.heads c.put_in-carried.ensures.head c.push_on.ensures.heads)
