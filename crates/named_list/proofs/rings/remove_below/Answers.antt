use Rattle.std.proofs.Common.{ℕ, List, arith, ap, sym, subst, ◌≡◌, ◌∙◌, ◌+◌, ◌-◌, ◌*◌, ◌/◌, ◌<◌, ◌≤◌, ◌++◌, ◌∷◌, [], length, take, drop, get_or}
use Rattle.std.proofs.lemmas.List.{take_rest}
use Rattle.std.specs.List.{remove}
use borrow.Rule.Slice.PartMut.{put_mid}
use Rattle.named_list.specs.Limits.{ring_names}
use Rattle.named_list.specs.Rings.{AreHeads, rolled, joined}
use Rattle.named_list.proofs.RingChangeLemmas.{are_heads_made, heads_pulled, head_lent, slots_pulled, ring_lent, remove_joined, get_or_joined}
use Rattle.named_list.proofs.rings.remove_below.Goals as goal

pub returns-clause-name : goal.returns-clause-name
returns-clause-name c =
    let heads : List ℕ = c.args.heads.now in
    let slots : List ℕ = c.args.slots.now in
    let k : ℕ = c.args.index / ring_names in
    let start : ℕ = k * ring_names in
    let n : ℕ = start + ring_names - start in
    let m : ℕ = length slots - (start + ring_names) in
    let one : n ≡ ring_names = omega arith in
    let more : k < length heads = omega (arith, c.requires.full, c.requires.index) in
    c.take_out.ensures.name
    ∙ ap (λ head. get_or (rolled head (take n (drop start (put_mid (start + ring_names) m slots c.pull_back-carried.new.slots)))) (c.args.index - start) c.take_out.result) (head_lent heads c.pull_back-carried.new.heads k (length heads - (k + 1)) more (omega (arith, more)))
    ∙ ap (λ part. get_or (rolled (get_or heads k 0) part) (c.args.index - start) c.take_out.result) (ring_lent slots c.pull_back-carried.new.slots start n m one (omega (arith, more, c.requires.full)))
    ∙ sym (get_or_joined heads slots c.args.index k more c.requires.full (omega arith) (omega arith) c.take_out.result)

pub returns-clause-names : goal.returns-clause-names
returns-clause-names c =
    let heads : List ℕ = c.args.heads.now in
    let slots : List ℕ = c.args.slots.now in
    let k : ℕ = c.args.index / ring_names in
    let start : ℕ = k * ring_names in
    let end : ℕ = start + ring_names in
    let n : ℕ = end - start in
    let m : ℕ = length slots - end in
    let heads_m : ℕ = length heads - (k + 1) in
    let others : List ℕ = c.pull_back-carried.new.heads in
    let behind : List ℕ = c.pull_back-carried.new.slots in
    let carried : ℕ = c.pull_back-carried.result in
    let ring : List ℕ = c.take_out.new.ring in
    let head : ℕ = c.take_out.new.head in
    let one : n ≡ ring_names = omega arith in
    let more : k < length heads = omega (arith, c.requires.full, c.requires.index) in
    let enough : end ≤ length slots = omega (arith, more, c.requires.full) in
    let here : rolled head ring ≡ remove (rolled (get_or heads k 0) (take ring_names (drop start slots))) (c.args.index - start) ++ carried ∷ [] =
    c.take_out.ensures.names
    ∙ ap (λ h. remove (rolled h (take n (drop start (put_mid end m slots behind)))) (c.args.index - start) ++ carried ∷ []) (head_lent heads others k heads_m more (omega (arith, more)))
    ∙ ap (λ part. remove (rolled (get_or heads k 0) part) (c.args.index - start) ++ carried ∷ []) (ring_lent slots behind start n m one (omega (arith, enough))) in
    let on : carried ∷ joined ring_names others behind ≡ joined ring_names (drop (k + 1) heads) (drop end slots) ++ c.args.name ∷ [] =
    c.pull_back-carried.ensures.names
    ∙ ap (λ hs. joined ring_names hs (take m (drop end slots)) ++ c.args.name ∷ []) (take_rest heads (k + 1))
    ∙ ap (λ ss. joined ring_names (drop (k + 1) heads) ss ++ c.args.name ∷ []) (take_rest slots end) in
    ap (λ hs. joined ring_names hs (put_mid start n (put_mid end m slots behind) ring)) (heads_pulled heads others k heads_m more (omega (arith, more)) head)
    ∙ ap (λ ss. joined ring_names (take k heads ++ head ∷ others) ss) (slots_pulled slots ring behind start n m one (omega (arith, enough)))
    ∙ remove_joined heads slots c.args.index k more c.requires.full (omega arith) (omega arith) others ring behind head c.args.name carried c.take_out.ensures.len here on

pub returns-clause-heads : goal.returns-clause-heads
returns-clause-heads c =
    let heads : List ℕ = c.args.heads.now in
    let k : ℕ = c.args.index / ring_names in
    let head : ℕ = c.take_out.new.head in
    let others : List ℕ = c.pull_back-carried.new.heads in
    let more : k < length heads = omega (arith, c.requires.full, c.requires.index) in
    subst AreHeads (sym (heads_pulled heads others k (length heads - (k + 1)) more (omega (arith, more)) head)) (are_heads_made heads others k head c.requires.heads c.take_out.ensures.head c.pull_back-carried.ensures.heads)
