use Rattle.std.proofs.Common.{ℕ, suc, List, arith, ap, sym, ◌≡◌, ◌∙◌, ◌+◌, ◌-◌, ◌*◌, ◌≤◌, ◌++◌, ◌∷◌, [], length, take, drop, get_or}
use Rattle.std.proofs.lemmas.List.{length-take-le, take_at, drop_at}
use Rattle.std.specs.List.{remove}
use Rattle.named_list.specs.Limits.{ring_names}
use Rattle.named_list.specs.Rings.{joined}
use Rattle.named_list.proofs.BehindLemmas.{remove_behind, get_or_behind, remove_before, get_or_before, front_written}
use Rattle.named_list.proofs.names.remove_name.Goals as goal

pub returns-then-index-full-clause-names : goal.returns-then-index-full-clause-names
returns-then-index-full-clause-names c =
    ap (joined ring_names c.args.heads.now) c.remove_slot.ensures.items
    ∙ remove_behind c.args.heads.now c.args.slots.now.items (omega (arith, c.requires.full)) c.args.index c.if-index-full.true

pub returns-then-index-full-clause-name : goal.returns-then-index-full-clause-name
returns-then-index-full-clause-name c =
    c.remove_slot.ensures.name
    ∙ get_or_behind c.args.heads.now c.args.slots.now.items (omega (arith, c.requires.full)) c.args.index c.remove_slot.result c.if-index-full.true

pub returns-clause-names : goal.returns-clause-names
returns-clause-names c =
    let heads : List ℕ = c.args.heads.now in
    let slots : List ℕ = c.args.slots.now.items in
    let n : ℕ = length heads * ring_names in
    let more : List ℕ = c.remove_below.new.heads in
    let part : List ℕ = c.remove_below.new.slots in
    let carried : ℕ = c.remove_slot-carried.result in
    let rest : List ℕ = c.remove_slot-carried.new.slots.items in
    let none : n - 0 ≡ n = omega arith in
    let within : n ≤ length slots = omega (arith, c.requires.full) in
    let front : length (take n slots) ≡ n = length-take-le n slots within in
    let next : suc n ≡ n + 1 = omega arith in
    let rest_front : take n rest ≡ take n slots = ap (take n) c.remove_slot-carried.ensures.items ∙ take_at (take n slots) (drop (suc n) slots) n front in
    let rest_behind : drop n rest ≡ drop (n + 1) slots = ap (drop n) c.remove_slot-carried.ensures.items ∙ drop_at (take n slots) (drop (suc n) slots) n front ∙ ap (λ m. drop m slots) next in
    let lent : take (n - 0) c.deref_mut.result.now ≡ take n slots = ap (λ m. take m c.deref_mut.result.now) none ∙ ap (take n) c.deref_mut.ensures.value ∙ rest_front in
    let full : length part ≡ n = c.remove_below.ensures.len ∙ ap length lent ∙ front in
    let is : joined ring_names more part ≡ remove (joined ring_names heads (take n slots)) c.args.index ++ carried ∷ [] =
    c.remove_below.ensures.names ∙ ap (λ l. remove (joined ring_names heads l) c.args.index ++ carried ∷ []) lent in
    let enough : n ≤ length rest = omega (arith, c.requires.full, c.remove_slot-carried.ensures.len, c.remove_slot-carried.new.slots.ok.0, c.args.slots.now.ok.0) in
    let now = front_written rest c.deref_mut.result.now part n (n - 0) c.remove_slot-carried.new.slots.len c.deref_mut.ensures.value none enough full c.remove_slot-carried.new.slots.ok.0 in
    ap (joined ring_names more) (now ∙ ap (λ l. part ++ l) rest_behind)
    ∙ remove_before heads slots within more part c.args.index carried c.if-index-full.false c.requires.full c.remove_below.ensures.heads_len full c.remove_slot-carried.ensures.name is

pub returns-clause-name : goal.returns-clause-name
returns-clause-name c =
    let heads : List ℕ = c.args.heads.now in
    let slots : List ℕ = c.args.slots.now.items in
    let n : ℕ = length heads * ring_names in
    let none : n - 0 ≡ n = omega arith in
    let within : n ≤ length slots = omega (arith, c.requires.full) in
    let front : length (take n slots) ≡ n = length-take-le n slots within in
    let lent : take (n - 0) c.deref_mut.result.now ≡ take n slots = ap (λ m. take m c.deref_mut.result.now) none ∙ ap (take n) (c.deref_mut.ensures.value ∙ c.remove_slot-carried.ensures.items) ∙ take_at (take n slots) (drop (suc n) slots) n front in
    c.remove_below.ensures.name
    ∙ ap (λ l. get_or (joined ring_names heads l) c.args.index c.remove_below.result) lent
    ∙ sym (get_or_before heads slots within c.args.index c.remove_below.result c.if-index-full.false)
