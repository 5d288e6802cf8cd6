use Rattle.std.proofs.Common.{ℕ, List, arith, ap, sym, ◌≡◌, ◌∙◌, ◌+◌, ◌-◌, ◌*◌, ◌++◌, length, take, drop}
use Rattle.std.proofs.lemmas.List.{take_rest, length-drop}
use Rattle.named_list.specs.Limits.{ring_names}
use Rattle.named_list.specs.Rings.{joined, rolled}
use Rattle.named_list.proofs.BehindLemmas.{joined_opened, back_written}
use Rattle.named_list.proofs.names.open_last.Goals as goal

pub returns-in-Some-clause-names : goal.returns-in-Some-clause-names
returns-in-Some-clause-names c =
    let heads : List ℕ = c.pop.new.self.items in
    let slots : List ℕ = c.args.slots.now.items in
    let head : ℕ = c.in-Some.head in
    let n : ℕ = c.len-in-Some.result * ring_names in
    let lent : List ℕ = c.deref_mut.result.now in
    let part : List ℕ = c.straighten.new.ring in
    let heads_len : c.len-in-Some.result ≡ length heads = omega (arith, c.len-in-Some.ensures, c.pop.new.self.ok.0) in
    let all : length slots ≡ length heads * ring_names + ring_names = omega (arith, c.if-len.true, c.len.ensures, c.len-2.ensures, c.in-Some.ensures.cases, c.pop.new.self.ok.0, c.args.slots.now.ok.0, c.args.heads.now.ok.0) in
    let same_len : length lent ≡ length slots = ap length c.deref_mut.ensures.value in
    let turned : part ≡ rolled head (drop n slots) = c.straighten.ensures.names ∙ ap (rolled head) (take_rest lent n ∙ ap (drop n) c.deref_mut.ensures.value) in
    let full : length part ≡ length lent - n = c.straighten.ensures.len ∙ ap length (take_rest lent n) ∙ length-drop n lent in
    let now = back_written slots lent part n (length lent - n) c.args.slots.now.len c.deref_mut.ensures.value (omega (arith, heads_len, all, same_len)) full c.args.slots.now.ok.0 in
    ap (joined ring_names heads) (now ∙ ap (λ l. take n slots ++ l) turned)
    ∙ ap (λ m. joined ring_names heads (take (m * ring_names) slots ++ rolled head (drop (m * ring_names) slots))) heads_len
    ∙ joined_opened heads slots (omega (arith, all)) head all
    ∙ ap (λ hs. joined ring_names hs slots) (sym c.in-Some.ensures.items)
