-- A name that goes through the rings.
use Rattle.std.proofs.Common.{◌≡◌, ℕ, ◌+◌, ◌-◌, ◌*◌, ◌<◌, ◌≤◌, List, [], ◌∷◌, ◌++◌, length, get_or, take, drop, set, sym, ap, subst, ◌∙◌, arith, append_assoc}
use Rattle.std.proofs.lemmas.List.{length-take-le, length-drop, length-set, take-take, drop-drop, drop-take, take_more_set, take_more, drop-set-lt, drop_more, drop-set, take-set, get_or-drop, get_or-take}
use Rattle.std.proofs.lemmas.List.Elements.{All-set}
use Rattle.named_list.specs.Limits.{ring_names}
use Rattle.named_list.specs.Rings.{rolled, joined, AreHeads}
use Rattle.named_list.proofs.RingsLemmas.{take_add, joined-ring, ring-joined, laid, take-laid, drop-laid, take-laid_with, drop-laid_behind, length-laid}

-- after a name was pushed through the first rings: they let one out, and those behind are as they were
pub record Pushed (size : ℕ) (heads_before slots_before heads slots : List ℕ) (name carried ring : ℕ) : Type 0 where
  pub names : name ∷ joined size (take ring heads_before) (take (ring * size) slots_before) ≡ joined size (take ring heads) (take (ring * size) slots) ++ carried ∷ []
  pub heads_behind : drop ring heads ≡ drop ring heads_before
  pub slots_behind : drop (ring * size) slots ≡ drop (ring * size) slots_before
  pub heads_len : length heads ≡ length heads_before
  pub slots_len : length slots ≡ length slots_before
  pub each : AreHeads heads
  pub within : ring ≤ length heads_before

-- after a name was pulled through the last rings: they let one out, and those before are as they were
pub record Pulled (size : ℕ) (heads_before slots_before heads slots : List ℕ) (name carried ring : ℕ) : Type 0 where
  pub names : carried ∷ joined size (drop ring heads) (drop (ring * size) slots) ≡ joined size (drop ring heads_before) (drop (ring * size) slots_before) ++ name ∷ []
  pub heads_before_it : take ring heads ≡ take ring heads_before
  pub slots_before_it : take (ring * size) slots ≡ take (ring * size) slots_before
  pub heads_len : length heads ≡ length heads_before
  pub slots_len : length slots ≡ length slots_before
  pub each : AreHeads heads
  pub within : ring ≤ length heads_before

-- the head at a place is that of before, where what lies behind is
same_head : (heads before : List ℕ) (k : ℕ) → drop k heads ≡ drop k before → get_or heads k 0 ≡ get_or before k 0
same_head heads before k same =
    let none : k + 0 ≡ k = omega arith in
    ap (λ i. get_or heads i 0) (sym none) ∙ sym (get_or-drop k heads 0 0) ∙ ap (λ part. get_or part 0 0) same ∙ get_or-drop k before 0 0 ∙ ap (λ i. get_or before i 0) none

drop_same : (n m : ℕ) (one other : List ℕ) → drop n one ≡ drop n other → n ≤ m → drop m one ≡ drop m other
drop_same n m one other same le =
    let is : n + (m - n) ≡ m = omega (arith, le) in
    ap (λ i. drop i one) (sym is) ∙ sym (drop-drop (m - n) n one) ∙ ap (drop (m - n)) same ∙ drop-drop (m - n) n other ∙ ap (λ i. drop i other) is

take_same : (n m : ℕ) (one other : List ℕ) → take m one ≡ take m other → n ≤ m → take n one ≡ take n other
take_same n m one other same le =
    sym (take-take n m one le) ∙ ap (take n) same ∙ take-take n m other le

module _ (heads_before slots_before heads slots : List ℕ) (name carried k : ℕ) where
  module _ (is : Pushed ring_names heads_before slots_before heads slots name carried k) (all : length slots_before ≡ length heads_before * ring_names) (more : k < length heads_before) (head out : ℕ) (ring : List ℕ) (said : carried ∷ rolled (get_or heads k 0) (take ring_names (drop (k * ring_names) slots)) ≡ rolled head ring ++ out ∷ []) (full : length ring ≡ ring_names) (low : head ≤ ring_names) where
    before_fits : length (take (k * ring_names) slots_before) ≡ length (take k heads_before) * ring_names
    before_fits = omega (arith, length-take-le (k * ring_names) slots_before (omega (arith, all, more)), length-take-le k heads_before (omega (arith, more)))

    now_fits : length (take (k * ring_names) slots) ≡ length (take k heads) * ring_names
    now_fits = omega (arith, length-take-le (k * ring_names) slots (omega (arith, all, more, is.slots_len)), length-take-le k heads (omega (arith, more, is.heads_len)))

    ring_before : length (take ring_names (drop (k * ring_names) slots_before)) ≡ ring_names
    ring_before = length-take-le ring_names (drop (k * ring_names) slots_before) (omega (arith, all, more, length-drop (k * ring_names) slots_before))

    next : (k + 1) * ring_names ≡ k * ring_names + ring_names
    next = omega arith

    pushed_names : name ∷ joined ring_names (take (k + 1) heads_before) (take ((k + 1) * ring_names) slots_before) ≡ joined ring_names (take (k + 1) (set heads k head)) (take ((k + 1) * ring_names) (laid (k * ring_names) slots ring)) ++ out ∷ []
    pushed_names =
        let at : ℕ = k * ring_names in
        let first : List ℕ = joined ring_names (take k heads_before) (take at slots_before) in
        let now : List ℕ = joined ring_names (take k heads) (take at slots) in
        let old_ring : List ℕ = take ring_names (drop at slots_before) in
        let old_head : ℕ = get_or heads_before k 0 in
        ap (λ m. name ∷ joined ring_names (take (k + 1) heads_before) (take m slots_before)) next
        ∙ ap (λ part. name ∷ joined ring_names (take (k + 1) heads_before) part) (take_add at ring_names slots_before)
        ∙ ap (λ part. name ∷ joined ring_names part (take at slots_before ++ old_ring)) (take_more heads_before k 0 more)
        ∙ ap (λ part. name ∷ part) (joined-ring (take k heads_before) (take at slots_before) old_ring old_head before_fits ring_before)
        ∙ ap (λ part. part ++ rolled old_head old_ring) is.names
        ∙ append_assoc now (carried ∷ []) (rolled old_head old_ring)
        ∙ ap (λ h. now ++ carried ∷ rolled h old_ring) (sym (same_head heads heads_before k is.heads_behind))
        ∙ ap (λ part. now ++ carried ∷ rolled (get_or heads k 0) (take ring_names part)) (sym is.slots_behind)
        ∙ ap (λ part. now ++ part) said
        ∙ sym (append_assoc now (rolled head ring) (out ∷ []))
        ∙ ap (λ part. part ++ out ∷ []) (sym (joined-ring (take k heads) (take at slots) ring head now_fits full))
        ∙ ap (λ part. joined ring_names part (take at slots ++ ring) ++ out ∷ []) (sym (take_more_set heads k head (omega (arith, more, is.heads_len))))
        ∙ ap (λ part. joined ring_names (take (k + 1) (set heads k head)) part ++ out ∷ []) (sym (take-laid_with at slots ring (omega (arith, all, more, is.slots_len)) full))
        ∙ ap (λ m. joined ring_names (take (k + 1) (set heads k head)) (take m (laid at slots ring)) ++ out ∷ []) (sym next)

    pub pushed-more : Pushed ring_names heads_before slots_before (set heads k head) (laid (k * ring_names) slots ring) name out (k + 1)
    pushed-more =
        let at : ℕ = k * ring_names in
        let within : at ≤ length slots = omega (arith, all, more, is.slots_len) in
        record {
          names = pushed_names;
          heads_behind = drop-set-lt (k + 1) heads k head (omega arith) ∙ drop_same k (k + 1) heads heads_before is.heads_behind (omega arith);
          slots_behind =
              ap (λ m. drop m (laid at slots ring)) next
              ∙ drop-laid_behind at slots ring within full
              ∙ drop_same at (at + ring_names) slots slots_before is.slots_behind (omega arith)
              ∙ ap (λ m. drop m slots_before) (sym next);
          heads_len = length-set heads k head ∙ is.heads_len;
          slots_len = length-laid at slots ring within full (omega (arith, all, more, is.slots_len)) ∙ is.slots_len;
          each = All-set (λ h. h ≤ ring_names) heads k head low is.each;
          within = omega (arith, more);
        }

  module _ (is : Pulled ring_names heads_before slots_before heads slots name carried (k + 1)) (all : length slots_before ≡ length heads_before * ring_names) (head out : ℕ) (ring : List ℕ) (said : out ∷ rolled head ring ≡ rolled (get_or heads k 0) (take ring_names (drop (k * ring_names) slots)) ++ carried ∷ []) (full : length ring ≡ ring_names) (low : head ≤ ring_names) where
    pulled_names : out ∷ joined ring_names (drop k (set heads k head)) (drop (k * ring_names) (laid (k * ring_names) slots ring)) ≡ joined ring_names (drop k heads_before) (drop (k * ring_names) slots_before) ++ name ∷ []
    pulled_names =
        let at : ℕ = k * ring_names in
        let next : (k + 1) * ring_names ≡ at + ring_names = omega arith in
        let behind : List ℕ = joined ring_names (drop (k + 1) heads) (drop (at + ring_names) slots) in
        let behind_before : List ℕ = joined ring_names (drop (k + 1) heads_before) (drop (at + ring_names) slots_before) in
        let was : carried ∷ behind ≡ behind_before ++ name ∷ [] = subst (λ m. carried ∷ joined ring_names (drop (k + 1) heads) (drop m slots) ≡ joined ring_names (drop (k + 1) heads_before) (drop m slots_before) ++ name ∷ []) next is.names in
        let same_slots : take (at + ring_names) slots ≡ take (at + ring_names) slots_before = subst (λ m. take m slots ≡ take m slots_before) next is.slots_before_it in
        let same_ring : take ring_names (drop at slots) ≡ take ring_names (drop at slots_before) = sym (drop-take at ring_names slots) ∙ ap (drop at) same_slots ∙ drop-take at ring_names slots_before in
        let same : get_or heads k 0 ≡ get_or heads_before k 0 = sym (get_or-take (k + 1) heads k 0 (omega arith)) ∙ ap (λ part. get_or part k 0) is.heads_before_it ∙ get_or-take (k + 1) heads_before k 0 (omega arith) in
        let old_ring : List ℕ = take ring_names (drop at slots) in
        let old_head : ℕ = get_or heads k 0 in
        let tail : List ℕ = name ∷ [] in
        ap (λ part. out ∷ joined ring_names part (drop at (laid at slots ring))) (drop-set heads k head (omega (arith, is.within, is.heads_len)))
        ∙ ap (λ part. out ∷ joined ring_names (head ∷ drop (k + 1) heads) part) (drop-laid at slots ring (omega (arith, is.within, all, is.slots_len)) full)
        ∙ ap (λ part. out ∷ part) (ring-joined (drop (k + 1) heads) (drop (at + ring_names) slots) ring head full)
        ∙ ap (λ part. part ++ behind) said
        ∙ append_assoc (rolled old_head old_ring) (carried ∷ []) behind
        ∙ ap (λ part. rolled old_head old_ring ++ part) was
        ∙ sym (append_assoc (rolled old_head old_ring) behind_before tail)
        ∙ ap (λ h. rolled h old_ring ++ behind_before ++ tail) same
        ∙ ap (λ part. rolled (get_or heads_before k 0) part ++ behind_before ++ tail) same_ring
        ∙ ap (λ part. rolled (get_or heads_before k 0) (take ring_names (drop at slots_before)) ++ joined ring_names (drop (k + 1) heads_before) part ++ tail) (sym (drop-drop ring_names at slots_before))
        ∙ ap (λ part. joined ring_names part (drop at slots_before) ++ tail) (sym (drop_more heads_before k 0 (omega (arith, is.within))))

    pub pulled-more : Pulled ring_names heads_before slots_before (set heads k head) (laid (k * ring_names) slots ring) name out k
    pulled-more =
        let at : ℕ = k * ring_names in
        let next : (k + 1) * ring_names ≡ at + ring_names = omega arith in
        let within : at ≤ length slots = omega (arith, is.within, all, is.slots_len) in
        record {
          names = pulled_names;
          heads_before_it = take-set heads k head ∙ take_same k (k + 1) heads heads_before is.heads_before_it (omega arith);
          slots_before_it = take-laid at slots ring within full ∙ take_same at ((k + 1) * ring_names) slots slots_before is.slots_before_it (omega (arith, next));
          heads_len = length-set heads k head ∙ is.heads_len;
          slots_len = length-laid at slots ring within full (omega (arith, is.within, all, is.slots_len)) ∙ is.slots_len;
          each = All-set (λ h. h ≤ ring_names) heads k head low is.each;
          within = omega (arith, is.within);
        }
