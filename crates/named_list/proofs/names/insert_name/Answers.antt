use Rattle.std.proofs.Common.{ℕ, List, arith, ap, sym, ◌≡◌, ◌∙◌, ◌-◌, ◌*◌, ◌++◌, ◌∷◌, [], length, take}
use Rattle.std.proofs.lemmas.List.{length-take-le}
use Rattle.std.specs.List.{insert}
use Rattle.named_list.specs.Limits.{ring_names}
use Rattle.named_list.specs.Rings.{joined}
use Rattle.named_list.proofs.BehindLemmas.{insert_behind, insert_before, front_written}
use Rattle.named_list.proofs.names.insert_name.Goals as goal

pub returns-then-index-full-clause-names : goal.returns-then-index-full-clause-names
returns-then-index-full-clause-names c =
    ap (joined ring_names c.args.heads.now) c.insert_slot.ensures.items
    ∙ insert_behind c.args.heads.now c.args.slots.now.items c.requires.full c.args.index c.args.name c.if-index-full.true

pub returns-clause-names : goal.returns-clause-names
returns-clause-names c =
    let heads : List ℕ = c.args.heads.now in
    let slots : List ℕ = c.args.slots.now.items in
    let n : ℕ = length heads * ring_names in
    let more : List ℕ = c.insert_below-carried.new.heads in
    let part : List ℕ = c.insert_below-carried.new.slots in
    let carried : ℕ = c.insert_below-carried.result in
    let none : n - 0 ≡ n = omega arith in
    let lent : take (n - 0) c.deref_mut.result.now ≡ take n slots = ap (λ m. take m c.deref_mut.result.now) none ∙ ap (take n) c.deref_mut.ensures.value in
    let full : length part ≡ n = c.insert_below-carried.ensures.len ∙ ap length lent ∙ length-take-le n slots c.requires.full in
    let is : insert (joined ring_names heads (take n slots)) c.args.index c.args.name ≡ joined ring_names more part ++ carried ∷ [] =
    ap (λ l. insert (joined ring_names heads l) c.args.index c.args.name) (sym lent) ∙ c.insert_below-carried.ensures.names in
    let now = front_written slots c.deref_mut.result.now part n (n - 0) c.args.slots.now.len c.deref_mut.ensures.value none c.requires.full full c.args.slots.now.ok.0 in
    ap (joined ring_names more) c.insert_slot-2.ensures.items
    ∙ ap (λ l. joined ring_names more (insert l n carried)) now
    ∙ insert_before heads slots c.requires.full more part c.args.index c.args.name carried c.if-index-full.false c.insert_below-carried.ensures.heads_len full is
