use Rattle.std.proofs.Common.{◌≡◌, ◌<◌, ◌%◌, ℕ, nat_lt, Bool, true, false, List, map, sum, length, is_some, true≢false, mod-lt, refl, ap, sym, ◌∙◌, arith}
use Rattle.std.proofs.lemmas.Bool.{lt-ltb}
use Rattle.std.specs.List.{list_any}
use Rattle.locator_choice.specs.Choice.{least_priority, one_weight, partaking, share, shares, shares_by}
use Rattle.locator_choice.specs.declared.choice.Candidate.{Candidate}
use Rattle.locator_choice.proofs.ChoiceLemmas.{interval-some, no-interval, no-shares, some-shares}
use Rattle.locator_choice.proofs.choice.choose.Goals as goal

-- the shares as they were summed
shared : (equal : Bool) (priority : ℕ) (candidates : List Candidate) → priority ≡ least_priority candidates → equal ≡ one_weight (partaking priority candidates) → map (share equal priority) candidates ≡ shares candidates
shared equal priority candidates least one = ap (λ (b : Bool). map (share b priority) candidates) one ∙ ap (λ (p : ℕ). shares_by p candidates) least

-- their sum is 0 where none is usable, and only there
nobody : (equal : Bool) (priority : ℕ) (candidates : List Candidate) → equal ≡ one_weight (partaking priority candidates) → (list_any (λ c. c.usable) candidates ≡ true → 0 < length (partaking priority candidates)) → sum (map (share equal priority) candidates) ≡ 0 → list_any (λ c. c.usable) candidates ≡ false
nobody equal priority candidates one some zero = by (list_any (λ c. c.usable) candidates) refl
  where
    by : (b : Bool) → list_any (λ c. c.usable) candidates ≡ b → b ≡ false
    by false is = refl
    by true is =
        let more = some-shares priority candidates (some is) in
        let same = ap (λ (b : Bool). sum (map (share b priority) candidates)) one in
        absurd (omega (more, same, zero, arith))

pub returns-then-whole-eq0-clause-chosen : goal.returns-then-whole-eq0-clause-chosen
returns-then-whole-eq0-clause-chosen c =
    let candidates = c.args.candidates.now in
    let same = shared c.is_one_weight-equal.result c.least_priority-priority.result candidates c.least_priority-priority.ensures.least c.is_one_weight-equal.ensures in
    let zero : sum (shares candidates) ≡ 0 = ap sum (sym same) ∙ sym c.whole-whole.ensures.whole ∙ c.if-whole-eq0.true in
    sym (no-interval (shares candidates) (c.args.hash % sum (shares candidates)) zero)

pub returns-then-whole-eq0-clause-none : goal.returns-then-whole-eq0-clause-none
returns-then-whole-eq0-clause-none c = (
  λ _. nobody c.is_one_weight-equal.result c.least_priority-priority.result c.args.candidates.now c.is_one_weight-equal.ensures c.least_priority-priority.ensures.one (sym c.whole-whole.ensures.whole ∙ c.if-whole-eq0.true),
  λ _. refl,
)

pub returns-clause-none : goal.returns-clause-none
returns-clause-none c =
    let candidates = c.args.candidates.now in
    let sizes = map (share c.is_one_weight-equal.result c.least_priority-priority.result) candidates in
    let whole : c.whole-whole.result ≡ sum sizes = c.whole-whole.ensures.whole in
    let found : is_some c.interval_of.result ≡ nat_lt (c.args.hash % c.whole-whole.result) (sum sizes) = ap is_some c.interval_of.ensures.interval ∙ interval-some sizes (c.args.hash % c.whole-whole.result) in
    let some : 0 < c.whole-whole.result = omega (c.if-whole-eq0.false, arith) in
    let below : nat_lt (c.args.hash % c.whole-whole.result) (sum sizes) ≡ true = ap (nat_lt (c.args.hash % c.whole-whole.result)) (sym whole) ∙ lt-ltb (c.args.hash % c.whole-whole.result) c.whole-whole.result (mod-lt c.args.hash some) in (
      λ none. absurd (true≢false (sym (sym (ap is_some none) ∙ found ∙ below))),
      λ nobody. absurd (c.if-whole-eq0.false (whole ∙ no-shares c.is_one_weight-equal.result c.least_priority-priority.result candidates nobody)),
    )
