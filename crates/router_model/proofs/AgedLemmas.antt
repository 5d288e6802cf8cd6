-- Items that count until they are so old, in the order in which they began.
use Rattle.std.proofs.Common.{◌≡◌, ℕ, ◌≤◌, Bool, true, false, cond, List, [], ◌∷◌, Option, Some, None, filter, filter_map, fold, refl, sym, ap, ◌∙◌, arith}
use Rattle.std.specs.List.{cons_option}
use Rattle.std.specs.Option.{option_or}
use Rattle.std.proofs.lemmas.Bool.Decides.{nat_tests}
use Rattle.std.proofs.lemmas.Option.{same_Some}
use Rattle.router_log.specs.declared.entry.Entry.{Entry}
use Rattle.router_model.specs.Journal.{Journal, IsRising, last_moment, moment_of}
use Rattle.router_log.specs.Moments.{younger}
use Rattle.router_model.specs.Kept.{Kind, placed, counting, scanned, last_put, any}
use Rattle.locator_state.specs.Lists.{last_where, later, only_if}
use Rattle.router_model.proofs.KeyLemmas.{only_if-narrow}
use Rattle.router_model.proofs.KeptLemmas.{Keeps, filter-last_put, purge-counting, scanned-counting}

-- what is young at a moment was so before
pub younger-before : (n s t start : ℕ) → s ≤ t → younger t n start ≡ true → younger s n start ≡ true
younger-before n s t start later young = grind (arith, nat_tests)

-- what began later is young if what began earlier is
younger-than : (n t early late : ℕ) → early ≤ late → younger t n early ≡ true → younger t n late ≡ true
younger-than n t early late later young = grind (arith, nat_tests)

-- of fewer seconds, then of more
pub younger-wide : (few many s t start : ℕ) → s ≤ t → few ≤ many → younger t few start ≡ true → younger s many start ≡ true
younger-wide few many s t start later wider young = grind (arith, nat_tests)

-- the last item that passes a test, from the first on
abbrev last_of : {I : Type 0} → (I → Bool) → List I → Option I
last_of test [] = None
last_of test (item ∷ items) = option_or (last_of test items) (cond (test item) (Some item) None)

last_where-from : {I : Type 0} (test : I → Bool) (items : List I) (o : Option I) → fold (later test) o items ≡ option_or (last_of test items) o
last_where-from test [] o = refl
last_where-from {I} test (item ∷ items) o = last_where-from test items (later test o item) ∙ by (last_of test items) (test item)
  where
    by : (p : Option I) (b : Bool) → option_or p (cond b (Some item) o) ≡ option_or (option_or p (cond b (Some item) None)) o
    by None true = refl
    by None false = refl
    by (Some i) b = refl

last_where-is : {I : Type 0} (test : I → Bool) (items : List I) → last_where test items ≡ last_of test items
last_where-is {I} test items = last_where-from test items None ∙ by (last_of test items)
  where
    by : (o : Option I) → option_or o None ≡ o
    by None = refl
    by (Some i) = refl

module _ {I : Type 0} (start : I → ℕ) where
  -- all began from then on
  abbrev Since : ℕ → List I → Type 0
  Since m [] = Unit {0}
  Since m (i ∷ items) = (m ≤ start i) × Since m items

  -- all began until then
  abbrev Until : ℕ → List I → Type 0
  Until m [] = Unit {0}
  Until m (i ∷ items) = (start i ≤ m) × Until m items

  -- each began no later than those after it
  abbrev pub Rises : List I → Type 0
  Rises [] = Unit {0}
  Rises (i ∷ items) = Since (start i) items × Rises items

  Until-later : (m n : ℕ) (items : List I) → m ≤ n → Until m items → Until n items
  Until-later m n [] later until = tt
  Until-later m n (i ∷ items) later until = (omega (arith, until.0), Until-later m n items later until.1)

  Since-put : (m : ℕ) (x : I) (items : List I) → m ≤ start x → Since m items → Since m (last_put x items)
  Since-put m x [] later since = (later, tt)
  Since-put m x (i ∷ items) later since = (since.0, Since-put m x items later since.1)

  Until-put : (m : ℕ) (x : I) (items : List I) → start x ≤ m → Until m items → Until m (last_put x items)
  Until-put m x [] here until = (here, tt)
  Until-put m x (i ∷ items) here until = (until.0, Until-put m x items here until.1)

  Rises-put : (x : I) (items : List I) → Until (start x) items → Rises items → Rises (last_put x items)
  Rises-put x [] until rises = (tt, tt)
  Rises-put x (i ∷ items) until rises = (Since-put (start i) x items until.0 rises.0, Rises-put x items until.1 rises.1)

  last-since : (m : ℕ) (test : I → Bool) (items : List I) (x : I) → Since m items → last_of test items ≡ Some x → m ≤ start x
  last-since m test [] x since is = cc
  last-since m test (i ∷ items) x since is = by (last_of test items) refl (test i) is (last-since m test items x since.1)
    where
      by : (o : Option I) → last_of test items ≡ o → (b : Bool) → option_or o (cond b (Some i) None) ≡ Some x → (last_of test items ≡ Some x → m ≤ start x) → m ≤ start x
      by None found true is h = let e = ap start (same_Some i x is) in omega (arith, e, since.0)
      by None found false is h = cc
      by (Some y) found b is h = h (found ∙ is)

  -- the last item that passes a test, of those that are young, is the last of all if that is young
  last-young : (n t : ℕ) (test : I → Bool) (items : List I) → Rises items → last_of test (filter (λ i. younger t n (start i)) items) ≡ only_if (λ i. younger t n (start i)) (last_of test items)
  last-young n t test [] rises = refl
  last-young n t test (i ∷ items) rises = by (younger t n (start i)) refl (last_of test items) refl (last-young n t test items rises.1)
    where
      here : (b : Bool) → younger t n (start i) ≡ true → cond b (Some i) None ≡ only_if (λ i. younger t n (start i)) (cond b (Some i) None)
      here true young = rw young refl
      here false young = refl

      gone : (b : Bool) → younger t n (start i) ≡ false → None ≡ only_if (λ i. younger t n (start i)) (cond b (Some i) None)
      gone true old = rw old refl
      gone false old = refl

      by : (b : Bool) → younger t n (start i) ≡ b → (o : Option I) → last_of test items ≡ o → last_of test (filter (λ i. younger t n (start i)) items) ≡ only_if (λ i. younger t n (start i)) (last_of test items) → last_of test (cond b (i ∷ filter (λ i. younger t n (start i)) items) (filter (λ i. younger t n (start i)) items)) ≡ only_if (λ i. younger t n (start i)) (option_or o (cond (test i) (Some i) None))
      by true young None is h = rw (h, is) (here (test i) young)
      by true young (Some x) is h = rw (h, is, younger-than n t (start i) (start x) (last-since (start i) test items x rises.0 is) young) refl
      by false old None is h = rw (h, is) (gone (test i) old)
      by false old (Some x) is h = rw (h, is) refl

  -- the last of those that are young that passes a test
  pub last-kept : (n t : ℕ) (test : I → Bool) (items : List I) → Rises items → last_where test (filter (λ i. younger t n (start i)) items) ≡ only_if (λ i. younger t n (start i)) (last_where test items)
  last-kept n t test items rises =
      last_where-is test (filter (λ i. younger t n (start i)) items)
      ∙ last-young n t test items rises
      ∙ ap (only_if (λ i. younger t n (start i))) (sym (last_where-is test items))

  -- the same of a narrower test, which alone decides
  pub last-within : (n t : ℕ) (narrow test : I → Bool) → ((i : I) → narrow i ≡ true → younger t n (start i) ≡ true) → (items : List I) → Rises items → only_if narrow (last_where test (filter (λ i. younger t n (start i)) items)) ≡ only_if narrow (last_where test items)
  last-within n t narrow test within items rises =
      ap (only_if narrow) (last-kept n t test items rises)
      ∙ only_if-narrow (λ i. younger t n (start i)) narrow within (last_where test items)

module _ {I : Type 0} (begins : Entry → Option I) (step : Entry → I → Option I) (start : I → ℕ) (n : ℕ) (stays : (e : Entry) (i j : I) → step e i ≡ Some j → start j ≡ start i) where
  abbrev aged : Kind Entry I
  aged = record { begins = begins; step = step; put = last_put }

  abbrev young : ℕ → I → Bool
  young t i = younger t n (start i)

  -- what counts until it is so old can be kept
  pub aged-keeps : Keeps aged young
  aged-keeps = record {
    ages = λ s t later i. younger-before n s t (start i) later;
    stays = λ t e i j is. ap (younger t n) (stays e i j is);
    puts = λ s t i e older is. filter-last_put (young t) i _;
  }

  -- what counts is what is young of all
  pub young-scanned : (t : ℕ) (journal : Journal) → filter (young t) (scanned aged any [] journal) ≡ counting aged (young t) journal
  young-scanned t journal = ap (filter (young t)) (scanned-counting begins step any journal) ∙ purge-counting aged any (young t) (record { ages = λ i is. refl; stays = λ e i j is. ap (younger t n) (stays e i j is); puts = λ i e older is. filter-last_put (young t) i _ }) journal

  module _ (begun : (e : Entry) (i : I) → begins e ≡ Some i → start i ≡ moment_of e) where
    Until-step : (e : Entry) (m : ℕ) (items : List I) → Until start m items → Until start m (filter_map (step e) items)
    Until-step e m [] until = tt
    Until-step e m (i ∷ items) until = by (step e i) refl (Until-step e m items until.1)
      where
        by : (o : Option I) → step e i ≡ o → Until start m (filter_map (step e) items) → Until start m (cons_option o (filter_map (step e) items))
        by None is h = h
        by (Some j) is h = (let same = stays e i j is in omega (arith, same, until.0), h)

    Since-step : (e : Entry) (m : ℕ) (items : List I) → Since start m items → Since start m (filter_map (step e) items)
    Since-step e m [] since = tt
    Since-step e m (i ∷ items) since = by (step e i) refl (Since-step e m items since.1)
      where
        by : (o : Option I) → step e i ≡ o → Since start m (filter_map (step e) items) → Since start m (cons_option o (filter_map (step e) items))
        by None is h = h
        by (Some j) is h = (let same = stays e i j is in omega (arith, same, since.0), h)

    Rises-step : (e : Entry) (items : List I) → Rises start items → Rises start (filter_map (step e) items)
    Rises-step e [] rises = tt
    Rises-step e (i ∷ items) rises = by (step e i) refl (Rises-step e items rises.1) (Since-step e (start i) items rises.0)
      where
        by : (o : Option I) → step e i ≡ o → Rises start (filter_map (step e) items) → Since start (start i) (filter_map (step e) items) → Rises start (cons_option o (filter_map (step e) items))
        by None is h since = h
        by (Some j) is h since = (rw (stays e i j is) since, h)

    rises-counting : (test : I → Bool) (journal : Journal) → IsRising journal → Until start (last_moment journal) (counting aged test journal) × Rises start (counting aged test journal)
    rises-counting test [] rising = (tt, tt)
    rises-counting test (e ∷ older) rising =
        let before = rises-counting test older rising.1 in
        by (begins e) refl (Until-step e (moment_of e) (counting aged test older) (Until-later start (last_moment older) (moment_of e) (counting aged test older) rising.0 before.0)) (Rises-step e (counting aged test older) before.1)
      where
        items : List I
        items = filter_map (step e) (counting aged test older)

        put : (x : I) (b : Bool) → start x ≡ moment_of e → Until start (moment_of e) items → Rises start items → Until start (moment_of e) (cond b (last_put x items) items) × Rises start (cond b (last_put x items) items)
        put x true is until rises = (Until-put start (moment_of e) x items (omega (arith, is)) until, Rises-put start x items (rw is until) rises)
        put x false is until rises = (until, rises)

        by : (o : Option I) → begins e ≡ o → Until start (moment_of e) items → Rises start items → Until start (moment_of e) (placed test last_put o items) × Rises start (placed test last_put o items)
        by None is until rises = (until, rises)
        by (Some x) is until rises = put x (test x) (begun e x is) until rises

    -- all that ever began stand in the order of their moments
    pub scanned-rises : (journal : Journal) → IsRising journal → Rises start (scanned aged any [] journal)
    scanned-rises journal rising = rw (scanned-counting begins step any journal) (rises-counting any journal rising).1
