-- What is known of turns holds behind an entry as it did before it.
use Rattle.std.proofs.Common.{◌≡◌, ◌≤◌, ◌-◌, ◌==◌, ◌||◌, ◌&&◌, not, nat_le, nat_lt, ℕ, zero, suc, Bool, true, false, cond, List, [], ◌∷◌, ◌++◌, filter, fold, map, Option, Some, None, IfSome, is_none, option_map, refl, sym, subst, ap, ◌∙◌, arith, true≢false}
use Rattle.std.proofs.lemmas.Bool.{and_from, and_parts}
use Rattle.std.proofs.lemmas.Bool.Decides.{nat_tests}
use Rattle.std.proofs.lemmas.List.Elements.{All-filter, All-head, All-map, All-nil, All-push, All-tail, All-weaker}
use Rattle.std.proofs.lemmas.List.Kept.{AllPairs-cons, AllPairs-filter}
use Rattle.std.proofs.lemmas.List.Quantifiers.{all_pairs_push}
use Rattle.std.proofs.lemmas.List.Sums.{fold-append}
use Rattle.std.specs.List.{All, AllPairs, list_all}
use Rattle.std.specs.Ordering.{is_lt}
use Rattle.std.specs.declared.cmp.Ordering.{Ordering}
use Rattle.ip_headers.specs.declared.addr.Addr.{Addr}
use Rattle.lisp_settings.specs.declared.settings.OwnLocator.{OwnLocator}
use Rattle.locator_state.specs.Lists.{last_where, later, only_if}
use Rattle.locator_state.specs.Probes.{counting_probes, last_probe, probe_answered, probe_counts, probed, settle, settle_nonce, settle_with}
use Rattle.map_cache.specs.Cache.{bits_told, fresh, lasting, lasts, learned, told_mapping, with_bits, without_eid}
use Rattle.map_cache.specs.declared.mapping.Mapping.{Mapping}
use Rattle.mapping_records.specs.Eids.{same_address, same_eid}
use Rattle.mapping_records.specs.Orders.{eid_order, put_in_order}
use Rattle.mapping_records.specs.declared.eid.Eid.{Eid}
use Rattle.mapping_records.specs.declared.record.Locator.{Locator}
use Rattle.mapping_records.specs.declared.record.Record.{Record}
use Rattle.router_log.specs.Moments.{seconds}
use Rattle.router_log.specs.declared.kept.Probe.{Probe}
use Rattle.router_log.specs.declared.kept.ProbeState.{ProbeState}
use Rattle.router_log.specs.declared.kept.ProbeState.TheVariants.{Answered, Lost, Open}
use Rattle.router_model.specs.Site.{is_own, ours}
use Rattle.router_model.specs.Tick.{may_take}
use Rattle.router_core.specs.Turning.{AreInOrder, AreTurned, IsTurned, KnowsLess, is_covered, no_turns, suits, suits_all, suits_locator, suits_mapping, turns_behind}
use Rattle.router_core.specs.declared.turns.Turns.{Turns}

-- ### tests of lists

-- what holds besides may be something weaker
or-weaker : (a b c : Bool) → (b ≡ true → c ≡ true) → (a || b) ≡ true → (a || c) ≡ true
or-weaker true b c weaker is = refl
or-weaker false b c weaker is = weaker is

or-right : (a b : Bool) → b ≡ true → (a || b) ≡ true
or-right true b is = refl
or-right false b is = is

all-pass : {X : Type 0} (p : X → Bool) → ((x : X) → p x ≡ true) → (xs : List X) → list_all p xs ≡ true
all-pass p passes [] = refl
all-pass p passes (x ∷ xs) = and_from (p x) (list_all p xs) (passes x) (all-pass p passes xs)

-- what all pass may be weaker too
all-weaker : {X : Type 0} (p q : X → Bool) → ((x : X) → p x ≡ true → q x ≡ true) → (xs : List X) → list_all p xs ≡ true → list_all q xs ≡ true
all-weaker p q weaker [] all = refl
all-weaker p q weaker (x ∷ xs) all =
    let both = and_parts (p x) (list_all p xs) all in
    and_from (q x) (list_all q xs) (weaker x both.0) (all-weaker p q weaker xs both.1)

-- those that are left pass too
all-left : {X : Type 0} (p keep : X → Bool) (xs : List X) → list_all p xs ≡ true → list_all p (filter keep xs) ≡ true
all-left p keep [] all = refl
all-left p keep (x ∷ xs) all = by (keep x) (and_parts (p x) (list_all p xs) all) (all-left p keep xs)
  where
    by : (b : Bool) → (p x ≡ true) × (list_all p xs ≡ true) → (list_all p xs ≡ true → list_all p (filter keep xs) ≡ true) → list_all p (cond b (x ∷ filter keep xs) (filter keep xs)) ≡ true
    by true both others = and_from (p x) (list_all p (filter keep xs)) both.0 (others both.1)
    by false both others = others both.1

-- an item that passes may be put among others that do
all-put : {X K : Type 0} (p : X → Bool) (key : X → K) (order : K → K → Ordering) (item : X) (xs : List X) → p item ≡ true → list_all p xs ≡ true → list_all p (put_in_order key order item xs) ≡ true
all-put p key order item [] is all = and_from (p item) true is refl
all-put p key order item (x ∷ xs) is all =
    by (is_lt (order (key item) (key x))) (and_parts (p x) (list_all p xs) all) (all-put p key order item xs is)
  where
    by : (b : Bool) → (p x ≡ true) × (list_all p xs ≡ true) → (list_all p xs ≡ true → list_all p (put_in_order key order item xs) ≡ true)
        → list_all p (cond b (item ∷ x ∷ xs) (x ∷ put_in_order key order item xs)) ≡ true
    by true both others = and_from (p item) _ is all
    by false both others = and_from (p x) _ both.0 (others both.1)

-- what a list was made of passes, where what becomes of each does
all-made : {X : Type 0} (p : X → Bool) (made : X → X) → ((x : X) → p x ≡ true → p (made x) ≡ true) → (xs : List X) → list_all p xs ≡ true → list_all p (map made xs) ≡ true
all-made p made each [] all = refl
all-made p made each (x ∷ xs) all =
    let both = and_parts (p x) (list_all p xs) all in
    and_from (p (made x)) (list_all p (map made xs)) (each x both.0) (all-made p made each xs both.1)

-- ### the order of probes

abbrev IsNotAfter : Probe → Probe → Type 0
IsNotAfter a b = a.moment ≤ b.moment

abbrev IsPast : ℕ → Probe → Type 0
IsPast now probe = probe.moment ≤ now

order-head : (probe : Probe) (probes : List Probe) → AllPairs IsNotAfter (probe ∷ probes) → All (IsNotAfter probe) probes
order-head probe probes order = λ k d within. order zero (suc k) d (omega arith) (omega (arith, within))

order-tail : (probe : Probe) (probes : List Probe) → AllPairs IsNotAfter (probe ∷ probes) → AllPairs IsNotAfter probes
order-tail probe probes order = λ i j d before within. order (suc i) (suc j) d (omega (arith, before)) (omega (arith, within))

-- those that count are in order too
counting-order : (now m : ℕ) (probes : List Probe) → now ≤ m → AreInOrder now probes → AreInOrder m (counting_probes m probes)
counting-order now m probes after order = record {
  ascend = AllPairs-filter IsNotAfter (probe_counts m) probes order.ascend;
  past = All-filter (probe_counts m) (IsPast m) probes (All-weaker (IsPast now) (IsPast m) later probes order.past);
}
  where
    later : (probe : Probe) → IsPast now probe → IsPast m probe
    later probe is = omega (arith, is, after)

module _ (state : ProbeState) (nonce : ℕ) where
  settled-moment : (probe : Probe) → (settle_with state nonce probe).moment ≡ probe.moment
  settled-moment probe = by (probe.nonce == nonce)
    where
      by : (b : Bool) → (cond b (settle state probe) probe).moment ≡ probe.moment
      by true = refl
      by false = refl

  settled-ascend : (probes : List Probe) → AllPairs IsNotAfter probes → AllPairs IsNotAfter (settle_nonce state nonce probes)
  settled-ascend [] order = order
  settled-ascend (probe ∷ probes) order =
      AllPairs-cons IsNotAfter made (settle_nonce state nonce probes)
      (All-map (IsNotAfter made) (settle_with state nonce) probes (All-weaker (IsNotAfter probe) (λ (other : Probe). IsNotAfter made (settle_with state nonce other)) kept probes (order-head probe probes order)))
      (settled-ascend probes (order-tail probe probes order))
    where
      made : Probe
      made = settle_with state nonce probe

      kept : (other : Probe) → IsNotAfter probe other → IsNotAfter made (settle_with state nonce other)
      kept other is = let one = settled-moment probe in let two = settled-moment other in omega (arith, is, one, two)

  -- settled ones are in order too
  settled-order : (now : ℕ) (probes : List Probe) → AreInOrder now probes → AreInOrder now (settle_nonce state nonce probes)
  settled-order now probes order = record {
    ascend = settled-ascend probes order.ascend;
    past = All-map (IsPast now) (settle_with state nonce) probes (All-weaker (IsPast now) (λ (probe : Probe). IsPast now (settle_with state nonce probe)) kept probes order.past);
  }
    where
      kept : (probe : Probe) → IsPast now probe → IsPast now (settle_with state nonce probe)
      kept probe is = let same = settled-moment probe in omega (arith, is, same)

-- so are they with one that is sent now
pushed-order : (m : ℕ) (probes : List Probe) (probe : Probe) → probe.moment ≡ m → AreInOrder m probes → AreInOrder m (probes ++ probe ∷ [])
pushed-order m probes probe sent order = record {
  ascend = all_pairs_push IsNotAfter probes probe order.ascend (λ k d within. let past = order.past k d within in omega (arith, past, sent));
  past = All-push (IsPast m) probes probe order.past (omega (arith, sent));
}

-- ### the last probe of a locator

abbrev moment_of : Option Probe → Option ℕ
moment_of last = option_map (λ (probe : Probe). probe.moment) last

-- a probe that counts at a moment counts at an earlier one
counts-earlier : (walked m : ℕ) → walked ≤ m → (probe : Probe) → probe_counts m probe ≡ true → probe_counts walked probe ≡ true
counts-earlier walked m past probe counts = by probe.moment counts
  where
    by : (moment : ℕ) → nat_lt (m - moment) (seconds 600) ≡ true → nat_lt (walked - moment) (seconds 600) ≡ true
    by moment counts = grind (arith, nat_tests, past, counts)

-- where a probe counts, those after it do
counts-after : (m : ℕ) (probe other : Probe) → IsNotAfter probe other → probe_counts m probe ≡ true → probe_counts m other ≡ true
counts-after m probe other later counts = by probe.moment other.moment later counts
  where
    by : (one two : ℕ) → one ≤ two → nat_lt (m - one) (seconds 600) ≡ true → nat_lt (m - two) (seconds 600) ≡ true
    by one two later counts = grind (arith, nat_tests, later, counts)

module _ (turns : Turns) (m : ℕ) (past : turns.walked ≤ m) (young : nat_lt (m - turns.since) (seconds 600) ≡ true) where
  last-later : (addr : Addr) (last : Option Probe) → suits turns addr (moment_of (only_if (probe_counts turns.walked) last)) ≡ true → suits turns addr (moment_of (only_if (probe_counts m) last)) ≡ true
  last-later addr None is = is
  last-later addr (Some probe) is = by (probe_counts turns.walked probe) (probe_counts m probe) refl refl is
    where
      counts : (moment since : ℕ) → nat_le since moment ≡ true → nat_lt (m - since) (seconds 600) ≡ true → nat_lt (m - moment) (seconds 600) ≡ true
      counts moment since after young = grind (arith, nat_tests, after, young)

      by : (b c : Bool) → probe_counts turns.walked probe ≡ b → probe_counts m probe ≡ c → suits turns addr (moment_of (cond b (Some probe) None)) ≡ true → suits turns addr (moment_of (cond c (Some probe) None)) ≡ true
      by true true before now is = is
      by false false before now is = is
      by true false before now is = absurd (true≢false (sym (counts probe.moment turns.since is young) ∙ now))
      by false true before now is = absurd (true≢false (sym (counts-earlier turns.walked m past probe now) ∙ before))

  -- what is known of an address is known of it at a later moment, while a probe of `since` counts
  pub suits-later : (probes : List Probe) (addr : Addr) → suits turns addr (last_probe turns.walked probes addr) ≡ true → suits turns addr (last_probe m probes addr) ≡ true
  suits-later probes addr is = last-later addr (last_where (λ probe. same_address probe.rloc addr) probes) is

module _ (m : ℕ) (test : Probe → Bool) where
  -- the last one of those that count is the last one of all, if that one counts
  last-counting : (probes : List Probe) (before : Option Probe) → AllPairs IsNotAfter probes → IfSome before (λ (earlier : Probe). All (IsNotAfter earlier) probes)
      → fold (later test) (only_if (probe_counts m) before) (counting_probes m probes) ≡ only_if (probe_counts m) (fold (later test) before probes)
  last-counting [] before order past = refl
  last-counting (probe ∷ probes) before order past =
      by (test probe) (probe_counts m probe) refl refl (λ before. last-counting probes before (order-tail probe probes order))
    where
      left : List Probe
      left = counting_probes m probes

      head : All (IsNotAfter probe) probes
      head = order-head probe probes order

      tail : (before : Option Probe) → IfSome before (λ (earlier : Probe). All (IsNotAfter earlier) (probe ∷ probes)) → IfSome before (λ (earlier : Probe). All (IsNotAfter earlier) probes)
      tail None past = tt
      tail (Some earlier) past = All-tail (IsNotAfter earlier) probe probes past

      ended : (before : Option Probe) → IfSome before (λ (earlier : Probe). All (IsNotAfter earlier) (probe ∷ probes)) → probe_counts m probe ≡ false → only_if (probe_counts m) before ≡ None
      ended None past isn't = refl
      ended (Some earlier) past isn't = at (probe_counts m earlier) refl
        where
          at : (b : Bool) → probe_counts m earlier ≡ b → cond b (Some earlier) None ≡ None
          at true counts = absurd (true≢false (sym (counts-after m earlier probe (All-head (IsNotAfter earlier) probe probes past) counts) ∙ isn't))
          at false counts = refl

      by : (t c : Bool) → test probe ≡ t → probe_counts m probe ≡ c
          → ((before : Option Probe) → IfSome before (λ (earlier : Probe). All (IsNotAfter earlier) probes) → fold (later test) (only_if (probe_counts m) before) left ≡ only_if (probe_counts m) (fold (later test) before probes))
          → fold (later test) (only_if (probe_counts m) before) (cond c (probe ∷ left) left) ≡ only_if (probe_counts m) (fold (later test) (cond t (Some probe) before) probes)
      by true true tests counts others =
          ap (λ (t : Bool). fold (later test) (cond t (Some probe) (only_if (probe_counts m) before)) left) tests
          ∙ ap (λ (c : Bool). fold (later test) (cond c (Some probe) None) left) (sym counts)
          ∙ others (Some probe) head
      by false true tests counts others =
          ap (λ (t : Bool). fold (later test) (cond t (Some probe) (only_if (probe_counts m) before)) left) tests
          ∙ others before (tail before past)
      by true false tests counts others =
          ap (λ (last : Option Probe). fold (later test) last left) (ended before past counts ∙ ap (λ (c : Bool). cond c (Some probe) None) (sym counts))
          ∙ others (Some probe) head
      by false false tests counts others = others before (tail before past)

-- what counts at a moment counts at an earlier one
only-earlier : (walked m : ℕ) → walked ≤ m → (last : Option Probe) → only_if (probe_counts walked) (only_if (probe_counts m) last) ≡ only_if (probe_counts m) last
only-earlier walked m past None = refl
only-earlier walked m past (Some probe) = by (probe_counts m probe) refl
  where
    by : (b : Bool) → probe_counts m probe ≡ b → only_if (probe_counts walked) (cond b (Some probe) None) ≡ cond b (Some probe) None
    by true counts = ap (λ (c : Bool). cond c (Some probe) None) (counts-earlier walked m past probe counts)
    by false counts = refl

-- at an earlier moment the last probe of a locator, of those that count, is the one that counts
counting-last : (walked m : ℕ) (probes : List Probe) (addr : Addr) → walked ≤ m → AllPairs IsNotAfter probes → last_probe walked (counting_probes m probes) addr ≡ last_probe m probes addr
counting-last walked m probes addr past order =
    ap (λ (last : Option Probe). moment_of (only_if (probe_counts walked) last)) (last-counting m (λ probe. same_address probe.rloc addr) probes None order tt)
    ∙ ap moment_of (only-earlier walked m past (last_where (λ probe. same_address probe.rloc addr) probes))

module _ (walked : ℕ) (state : ProbeState) (nonce : ℕ) (addr : Addr) where
  settled-moment_of : (probe : Probe) → moment_of (only_if (probe_counts walked) (Some (settle state probe))) ≡ moment_of (only_if (probe_counts walked) (Some probe))
  settled-moment_of probe = by (probe_counts walked probe)
    where
      by : (b : Bool) → moment_of (cond b (Some (settle state probe)) None) ≡ moment_of (cond b (Some probe) None)
      by true = refl
      by false = refl

  last-settled : (probes : List Probe) (a b : Option Probe) → moment_of (only_if (probe_counts walked) a) ≡ moment_of (only_if (probe_counts walked) b)
      → moment_of (only_if (probe_counts walked) (fold (later (λ probe. same_address probe.rloc addr)) a (settle_nonce state nonce probes))) ≡ moment_of (only_if (probe_counts walked) (fold (later (λ probe. same_address probe.rloc addr)) b probes))
  last-settled [] a b same = same
  last-settled (probe ∷ probes) a b same = by (probe.nonce == nonce) (last-settled probes)
    where
      of_addr : Probe → Bool
      of_addr probe = same_address probe.rloc addr

      step : (t : Bool) (made : Probe) → moment_of (only_if (probe_counts walked) (Some made)) ≡ moment_of (only_if (probe_counts walked) (Some probe))
          → moment_of (only_if (probe_counts walked) (cond t (Some made) a)) ≡ moment_of (only_if (probe_counts walked) (cond t (Some probe) b))
      step true made so = so
      step false made so = same

      by : (c : Bool)
          → ((a b : Option Probe) → moment_of (only_if (probe_counts walked) a) ≡ moment_of (only_if (probe_counts walked) b) → moment_of (only_if (probe_counts walked) (fold (later of_addr) a (settle_nonce state nonce probes))) ≡ moment_of (only_if (probe_counts walked) (fold (later of_addr) b probes)))
          → moment_of (only_if (probe_counts walked) (fold (later of_addr) a (cond c (settle state probe) probe ∷ settle_nonce state nonce probes))) ≡ moment_of (only_if (probe_counts walked) (fold (later of_addr) (later of_addr b probe) probes))
      by true others = others (later of_addr a (settle state probe)) (later of_addr b probe) (step (same_address probe.rloc addr) (settle state probe) (settled-moment_of probe))
      by false others = others (later of_addr a probe) (later of_addr b probe) (step (same_address probe.rloc addr) probe refl)

  -- the last probe of a locator stays where some are settled
  settled-last : (probes : List Probe) → last_probe walked (settle_nonce state nonce probes) addr ≡ last_probe walked probes addr
  settled-last probes = last-settled probes None None refl

-- with a probe that is sent now, what is known holds
suits-pushed : (turns : Turns) (m : ℕ) (probes : List Probe) (probe : Probe) (addr : Addr) → probe.moment ≡ m → nat_le turns.since m ≡ true → nat_le turns.walked m ≡ true
    → suits turns addr (last_probe turns.walked probes addr) ≡ true → suits turns addr (last_probe turns.walked (probes ++ probe ∷ []) addr) ≡ true
suits-pushed turns m probes probe addr sent since walked is =
    ap (λ (last : Option Probe). suits turns addr (moment_of (only_if (probe_counts turns.walked) last))) (fold-append (later of_addr) None probes (probe ∷ []))
    ∙ by (same_address probe.rloc addr)
  where
    of_addr : Probe → Bool
    of_addr probe = same_address probe.rloc addr

    counts : (walked moment m : ℕ) → moment ≡ m → nat_le walked m ≡ true → nat_lt (walked - moment) (seconds 600) ≡ true
    counts walked moment m sent past = grind (arith, nat_tests, sent, past)

    recent : (since moment m : ℕ) → moment ≡ m → nat_le since m ≡ true → nat_le since moment ≡ true
    recent since moment m sent past = grind (arith, nat_tests, sent, past)

    by : (b : Bool) → suits turns addr (moment_of (only_if (probe_counts turns.walked) (cond b (Some probe) (last_where of_addr probes)))) ≡ true
    by true =
        ap (λ (c : Bool). suits turns addr (moment_of (cond c (Some probe) None))) (counts turns.walked probe.moment m sent walked)
        ∙ recent turns.since probe.moment m sent since
    by false = is

-- ### what is known of the locators of mappings

-- what is known by some turns and probes of an address is known of it by others
abbrev Follows : Turns → List Probe → Turns → List Probe → Type 0
Follows turns probes less left =
    (addr : Addr) → suits turns addr (last_probe turns.walked probes addr) ≡ true → suits less addr (last_probe less.walked left addr) ≡ true

module _ (own : List OwnLocator) (turns : Turns) (probes : List Probe) (less : Turns) (left : List Probe) (follows : Follows turns probes less left) where
  locators-follow : (locators : List Locator) → suits_all own turns probes locators ≡ true → suits_all own less left locators ≡ true
  locators-follow = all-weaker (suits_locator own turns probes) (suits_locator own less left) each
    where
      each : (locator : Locator) → suits_locator own turns probes locator ≡ true → suits_locator own less left locator ≡ true
      each locator is =
          or-weaker (not (may_take locator)) _ _
          (or-weaker (is_own own locator.addr) _ _
          (or-weaker (is_none (ours own locator.addr)) _ _ (follows locator.addr))) is

  -- so it is of all that mappings name
  mappings-follow : less.walked ≡ turns.walked → (mappings : List Mapping) → AreTurned own turns probes mappings → AreTurned own less left mappings
  mappings-follow same = all-weaker (suits_mapping own turns probes) (suits_mapping own less left) each
    where
      each : (mapping : Mapping) → suits_mapping own turns probes mapping ≡ true → suits_mapping own less left mapping ≡ true
      each mapping is =
          ap (λ (walked : ℕ). not (lasts walked mapping) || suits_all own less left mapping.details.locators) same
          ∙ or-weaker (not (lasts turns.walked mapping)) _ _ (locators-follow mapping.details.locators) is

-- what is known less of holds as well
less-follows : (turns less : Turns) (probes : List Probe) → KnowsLess less turns → Follows turns probes less probes
less-follows turns less probes knows addr is =
    ap (λ (walked : ℕ). suits less addr (last_probe walked probes addr)) knows.walked ∙ by (last_probe turns.walked probes addr) is
  where
    older : (moment since sooner : ℕ) → sooner ≤ since → nat_le since moment ≡ true → nat_le sooner moment ≡ true
    older moment since sooner before is = grind (arith, nat_tests, before, is)

    uncovered : (a b : Bool) → (a ≡ true → b ≡ true) → not b ≡ true → not a ≡ true
    uncovered false b covers isn't = refl
    uncovered true b covers isn't = absurd (true≢false (sym isn't ∙ ap not (covers refl)))

    by : (last : Option ℕ) → suits turns addr last ≡ true → suits less addr last ≡ true
    by None is = uncovered (is_covered less.covered addr) (is_covered turns.covered addr) (knows.covered addr) is
    by (Some moment) is = older moment turns.since less.since knows.since is

-- with one locator more of which it holds, what is known holds of all
pub suits-first : (own : List OwnLocator) (turns less : Turns) (probes : List Probe) (locators : List Locator) (first : Locator) (left : List Locator) → locators ≡ first ∷ left → KnowsLess less turns
    → suits_locator own less probes first ≡ true → suits_all own turns probes left ≡ true → suits_all own less probes locators ≡ true
suits-first own turns less probes locators first left is knows one others =
    ap (suits_all own less probes) is
    ∙ and_from (suits_locator own less probes first) (suits_all own less probes left) one
    (locators-follow own turns probes less probes (less-follows turns less probes knows) left others)

-- to know nothing holds of all mappings
pub nothing-known : (own : List OwnLocator) (probes : List Probe) (mappings : List Mapping) → AreTurned own no_turns probes mappings
nothing-known own probes = all-pass (suits_mapping own no_turns probes) each_mapping
  where
    each_address : (addr : Addr) (last : Option ℕ) → suits no_turns addr last ≡ true
    each_address addr None = refl
    each_address addr (Some moment) = grind (arith, nat_tests)

    each_locator : (locator : Locator) → suits_locator own no_turns probes locator ≡ true
    each_locator locator =
        or-right (not (may_take locator)) _
        (or-right (is_own own locator.addr) _
        (or-right (is_none (ours own locator.addr)) _ (each_address locator.addr (last_probe 0 probes locator.addr))))

    each_mapping : (mapping : Mapping) → suits_mapping own no_turns probes mapping ≡ true
    each_mapping mapping =
        or-right (not (lasts 0 mapping)) _ (all-pass (suits_locator own no_turns probes) each_locator mapping.details.locators)

-- ### behind an entry

module _ (own : List OwnLocator) (old : Turns) (now m : ℕ) (probes : List Probe) (mappings : List Mapping) (turned : IsTurned own old now probes mappings) (after : now ≤ m) where
  -- the probes that count are in order
  counting-ordered : AreInOrder m (counting_probes m probes)
  counting-ordered = counting-order now m probes after turned.order

  -- what is known behind an entry holds, where it does while a probe of `since` counts
  known-where : (left : List Probe) → (nat_le old.since m ≡ true → nat_le old.walked m ≡ true → Follows old (counting_probes m probes) old left) → AreTurned own (turns_behind old m) left (lasting m mappings)
  known-where left follows = by (nat_le old.since m) (nat_le old.walked m) (nat_lt (m - old.since) (seconds 600)) refl refl refl
    where
      upto : (walked : ℕ) → nat_le walked m ≡ true → walked ≤ m
      upto walked is = grind (arith, nat_tests, is)

      by : (a b c : Bool) → nat_le old.since m ≡ a → nat_le old.walked m ≡ b → nat_lt (m - old.since) (seconds 600) ≡ c
          → AreTurned own (cond (a && (b && c)) old no_turns) left (lasting m mappings)
      by true true true since walked young =
          mappings-follow own old probes old left
          (λ addr is.
          follows since walked addr
          (ap (suits old addr) (counting-last old.walked m probes addr (upto old.walked walked) turned.order.ascend)
          ∙ suits-later old m (upto old.walked walked) young probes addr is))
          refl (lasting m mappings) (all-left (suits_mapping own old probes) (lasts m) mappings turned.known)
      by true true false since walked young = nothing-known own left (lasting m mappings)
      by true false c since walked young = nothing-known own left (lasting m mappings)
      by false b c since walked young = nothing-known own left (lasting m mappings)

  module _ (turns : Turns) (at : ℕ) (left : List Probe) (lasts_now : List Mapping) where
    -- what holds of values holds of their equals
    moved : (ts : Turns) (ps : List Probe) (ms : List Mapping) → AreInOrder m ps → AreTurned own ts ps ms → turns ≡ ts → at ≡ m → left ≡ ps → lasts_now ≡ ms → IsTurned own turns at left lasts_now
    moved ts ps ms order known turns_are at_is left_are lasts_are =
        subst (λ (n : ℕ). IsTurned own turns n left lasts_now) (sym at_is)
        (subst (λ (t : Turns). IsTurned own t m left lasts_now) (sym turns_are)
        (subst (λ (l : List Probe). IsTurned own ts m l lasts_now) (sym left_are)
        (subst (λ (l : List Mapping). IsTurned own ts m ps l) (sym lasts_are) (record { order = order; known = known }))))

    -- what is known holds behind an entry that adds no mapping and no probe
    pub behind : turns ≡ turns_behind old m → at ≡ m → left ≡ counting_probes m probes → lasts_now ≡ lasting m mappings → IsTurned own turns at left lasts_now
    behind = moved (turns_behind old m) (counting_probes m probes) (lasting m mappings) counting-ordered (known-where (counting_probes m probes) (λ since walked addr is. is))

    -- so it does behind a learned mapping, of whose locators it does
    pub learned-behind : (taught : Record) (fixed : Bool) (less : Turns) → less ≡ turns_behind old m → KnowsLess turns less → suits_all own turns left taught.locators ≡ true
        → at ≡ m → left ≡ counting_probes m probes → lasts_now ≡ learned m taught fixed mappings → IsTurned own turns at left lasts_now
    learned-behind taught fixed less less_is knows new at_is left_are are =
        moved turns left (learned m taught fixed mappings) (subst (AreInOrder m) (sym left_are) counting-ordered) (by (fixed || not (taught.ttl == 0))) refl at_is refl are
      where
        passes : Mapping → Bool
        passes mapping = suits_mapping own turns left mapping

        behind_known : AreTurned own less left (lasting m mappings)
        behind_known =
            subst (λ (t : Turns). AreTurned own t left (lasting m mappings)) (sym less_is)
            (subst (λ (l : List Probe). AreTurned own (turns_behind old m) l (lasting m mappings)) (sym left_are) (known-where (counting_probes m probes) (λ since walked addr is. is)))

        others : AreTurned own turns left (without_eid taught.eid (lasting m mappings))
        others =
            all-left passes (λ (mapping : Mapping). not (same_eid mapping.eid taught.eid)) (lasting m mappings)
            (mappings-follow own less left turns left (less-follows less turns left knows) knows.walked (lasting m mappings) behind_known)

        by : (b : Bool) → list_all passes (cond b (put_in_order (λ item. item.eid) eid_order (fresh m taught fixed) (without_eid taught.eid (lasting m mappings))) (without_eid taught.eid (lasting m mappings))) ≡ true
        by true =
            all-put passes (λ (mapping : Mapping). mapping.eid) eid_order (fresh m taught fixed) (without_eid taught.eid (lasting m mappings))
            (or-right (not (lasts turns.walked (fresh m taught fixed))) _ new) others
        by false = others

    -- so it does behind status bits
    pub told-behind : (eid : Eid) (bits width : ℕ) → turns ≡ turns_behind old m → at ≡ m → left ≡ counting_probes m probes → lasts_now ≡ bits_told eid bits width (lasting m mappings) → IsTurned own turns at left lasts_now
    told-behind eid bits width =
        moved (turns_behind old m) (counting_probes m probes) (bits_told eid bits width (lasting m mappings)) counting-ordered
        (all-made (suits_mapping own (turns_behind old m) (counting_probes m probes)) (told_mapping eid bits width) told (lasting m mappings) (known-where (counting_probes m probes) (λ since walked addr is. is)))
      where
        told : (mapping : Mapping) → suits_mapping own (turns_behind old m) (counting_probes m probes) mapping ≡ true → suits_mapping own (turns_behind old m) (counting_probes m probes) (told_mapping eid bits width mapping) ≡ true
        told mapping is = by (same_eid mapping.eid eid)
          where
            by : (b : Bool) → suits_mapping own (turns_behind old m) (counting_probes m probes) (cond b (with_bits bits width mapping) mapping) ≡ true
            by true = is
            by false = is

    -- so it does behind a probe that is answered
    pub answered-behind : (nonce : ℕ) → turns ≡ turns_behind old m → at ≡ m → left ≡ probe_answered m nonce probes → lasts_now ≡ lasting m mappings → IsTurned own turns at left lasts_now
    answered-behind nonce =
        moved (turns_behind old m) (probe_answered m nonce probes) (lasting m mappings)
        (settled-order Answered nonce m (counting_probes m probes) counting-ordered)
        (known-where (probe_answered m nonce probes)
        (λ since walked addr is. ap (suits old addr) (settled-last old.walked Answered nonce addr (counting_probes m probes)) ∙ is))

    -- so it does behind a probe that is sent
    pub probed-behind : (rloc : Addr) (nonce : ℕ) → turns ≡ turns_behind old m → at ≡ m → left ≡ probed m rloc nonce probes → lasts_now ≡ lasting m mappings → IsTurned own turns at left lasts_now
    probed-behind rloc nonce =
        moved (turns_behind old m) (probed m rloc nonce probes) (lasting m mappings)
        (pushed-order m settled sent refl (settled-order Lost nonce m (counting_probes m probes) counting-ordered))
        (known-where (probed m rloc nonce probes)
        (λ since walked addr is.
        suits-pushed old m settled sent addr refl since walked
        (ap (suits old addr) (settled-last old.walked Lost nonce addr (counting_probes m probes)) ∙ is)))
      where
        settled : List Probe
        settled = settle_nonce Lost nonce (counting_probes m probes)

        sent : Probe
        sent = record { moment = m; rloc = rloc; nonce = nonce; state = Open }

-- behind an entry with which all is forgotten, the probes are in order
pub forgotten-behind : (own after_own : List OwnLocator) (old : Turns) (now m : ℕ) (probes : List Probe) (mappings : List Mapping) → IsTurned own old now probes mappings → now ≤ m
    → (turns : Turns) (at : ℕ) (left : List Probe) (any : List Mapping) → turns ≡ no_turns → at ≡ m → left ≡ counting_probes m probes → IsTurned after_own turns at left any
forgotten-behind own after_own old now m probes mappings turned after turns at left any turns_are at_is left_are =
    subst (λ (t : Turns). IsTurned after_own t at left any) (sym turns_are)
    (record {
      order = subst (λ (n : ℕ). AreInOrder n left) (sym at_is) (subst (AreInOrder m) (sym left_are) (counting-order now m probes after turned.order));
      known = nothing-known after_own left any;
    })

-- before the first entry nothing is known
pub nothing-turned : (own : List OwnLocator) (turns : Turns) (now : ℕ) (probes : List Probe) (mappings : List Mapping) → turns ≡ no_turns → probes ≡ [] → IsTurned own turns now probes mappings
nothing-turned own turns now probes mappings turns_are none =
    subst (λ (t : Turns). IsTurned own t now probes mappings) (sym turns_are)
    (record {
      order = subst (AreInOrder now) (sym none) (record { ascend = λ i j d before within. absurd (omega (arith, within)); past = All-nil (IsPast now) });
      known = nothing-known own probes mappings;
    })
