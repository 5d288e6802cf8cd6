-- A change of one ring and of those behind it.
use Rattle.std.proofs.Common.{◌≡◌, ℕ, ◌+◌, ◌-◌, ◌*◌, ◌<◌, ◌≤◌, List, [], ◌∷◌, ◌++◌, length, get_or, take, drop, set, sym, ap, ◌∙◌, arith, append_assoc, append-nil}
use Rattle.std.proofs.lemmas.List.{length-take-le, length-drop, length-set, take-append-le, drop-append-le, drop_at, drop_all, take_rest, take-take, drop-take, take_more, take_more_set, drop-set-lt, get_or_append_left, get_or-append_right, get_or_at, set_at}
use Rattle.std.specs.List.{insert, remove}
use Rattle.std.proofs.lemmas.List.Edits.{insert-append_left, insert-append_right, remove-append_left, remove-append_right}
use Rattle.std.proofs.lemmas.List.Elements.{All-append, All-take, All-cons}
use borrow.Rule.Slice.PartMut.{put_mid}
use Rattle.named_list.specs.Limits.{ring_names}
use Rattle.named_list.specs.Rings.{rolled, joined, AreHeads}
use Rattle.named_list.proofs.RingsLemmas.{length-rolled, length-joined, joined-append, ring-joined, joined_split, laid, put_mid-laid, take-laid_with, drop-laid_behind, length-laid}

-- ### heads of which one was written

pub are_heads_made : (heads more : List ℕ) (k head : ℕ) → AreHeads heads → head ≤ ring_names → AreHeads more → AreHeads (take k heads ++ head ∷ more)
are_heads_made heads more k head each low behind =
    All-append (λ h. h ≤ ring_names) (take k heads) (head ∷ more) (All-take (λ h. h ≤ ring_names) k heads each) (All-cons (λ h. h ≤ ring_names) head more low behind)

-- what the code writes, in that form: that head and those behind it, or those behind it first
pub heads_pushed : (heads more : List ℕ) (k head m : ℕ) → k < length heads → k + 1 + m ≡ length heads → put_mid (k + 1) m (set heads k head) more ≡ take k heads ++ head ∷ more
heads_pushed heads more k head m within is =
    ap (λ part. part ++ (more ++ drop m (drop (k + 1) (set heads k head)))) (take_more_set heads k head within)
    ∙ ap (λ part. (take k heads ++ head ∷ []) ++ (more ++ part)) (drop_all m (drop (k + 1) (set heads k head)) (omega (arith, length-drop (k + 1) (set heads k head), length-set heads k head, is)))
    ∙ ap (λ part. (take k heads ++ head ∷ []) ++ part) (append-nil more)
    ∙ append_assoc (take k heads) (head ∷ []) more

module _ (heads more : List ℕ) (k m : ℕ) (within : k < length heads) (is : k + 1 + m ≡ length heads) where
  behind_pulled : put_mid (k + 1) m heads more ≡ take k heads ++ get_or heads k 0 ∷ more
  behind_pulled =
      ap (λ part. take (k + 1) heads ++ (more ++ part)) (drop_all m (drop (k + 1) heads) (omega (arith, length-drop (k + 1) heads, is)))
      ∙ ap (λ part. take (k + 1) heads ++ part) (append-nil more)
      ∙ ap (λ part. part ++ more) (take_more heads k 0 within)
      ∙ append_assoc (take k heads) (get_or heads k 0 ∷ []) more

  pub heads_pulled : (head : ℕ) → set (put_mid (k + 1) m heads more) k head ≡ take k heads ++ head ∷ more
  heads_pulled head =
      ap (λ part. set part k head) behind_pulled
      ∙ set_at (take k heads) (get_or heads k 0) more head k (length-take-le k heads (omega (arith, within)))

  -- the head that is lent in between
  pub head_lent : get_or (put_mid (k + 1) m heads more) k 0 ≡ get_or heads k 0
  head_lent =
      ap (λ part. get_or part k 0) behind_pulled
      ∙ get_or_at (take k heads) (get_or heads k 0) more 0 k (length-take-le k heads (omega (arith, within)))

pub slots_pushed : (slots ring behind : List ℕ) (start n m : ℕ) → n ≡ ring_names → length ring ≡ ring_names → start + ring_names + m ≡ length slots → put_mid (start + ring_names) m (put_mid start n slots ring) behind ≡ take start slots ++ (ring ++ behind)
slots_pushed slots ring behind start n m one full is =
    let end : ℕ = start + ring_names in
    let now : List ℕ = laid start slots ring in
    ap (λ part. put_mid end m part behind) (put_mid-laid start n slots ring one)
    ∙ ap (λ part. part ++ (behind ++ drop m (drop end now))) (take-laid_with start slots ring (omega (arith, is)) full)
    ∙ ap (λ part. (take start slots ++ ring) ++ (behind ++ part)) (drop_all m (drop end now) (omega (arith, length-drop end now, length-laid start slots ring (omega (arith, is)) full (omega (arith, is)), is)))
    ∙ ap (λ part. (take start slots ++ ring) ++ part) (append-nil behind)
    ∙ append_assoc (take start slots) ring behind

pub slots_pulled : (slots ring behind : List ℕ) (start n m : ℕ) → n ≡ ring_names → start + ring_names + m ≡ length slots → put_mid start n (put_mid (start + ring_names) m slots behind) ring ≡ take start slots ++ (ring ++ behind)
slots_pulled slots ring behind start n m one is =
    let end : ℕ = start + ring_names in
    let last : put_mid end m slots behind ≡ take end slots ++ behind =
    ap (λ part. take end slots ++ (behind ++ part)) (drop_all m (drop end slots) (omega (arith, length-drop end slots, is)))
    ∙ ap (λ part. take end slots ++ part) (append-nil behind) in
    let len : length (take end slots) ≡ end = length-take-le end slots (omega (arith, is)) in
    ap (λ part. put_mid start n part ring) last
    ∙ put_mid-laid start n (take end slots ++ behind) ring one
    ∙ ap (λ part. part ++ (ring ++ drop end (take end slots ++ behind))) (take-append-le start (take end slots) behind (omega (arith, len)) ∙ take-take start end slots (omega arith))
    ∙ ap (λ part. take start slots ++ (ring ++ part)) (drop_at (take end slots) behind end len)

-- ### the rings, one of which is changed

module _ (heads slots : List ℕ) (index k : ℕ) (within : k < length heads) (all : length slots ≡ length heads * ring_names) (below : k * ring_names ≤ index) (above : index < k * ring_names + ring_names) where
  abbrev pub first : List ℕ
  first = joined ring_names (take k heads) (take (k * ring_names) slots)

  abbrev pub old_ring : List ℕ
  old_ring = rolled (get_or heads k 0) (take ring_names (drop (k * ring_names) slots))

  abbrev pub old_behind : List ℕ
  old_behind = joined ring_names (drop (k + 1) heads) (drop (k * ring_names + ring_names) slots)

  first_len : length first ≡ k * ring_names
  first_len = length-joined ring_names (take k heads) (take (k * ring_names) slots) ∙ length-take-le (k * ring_names) slots (omega (arith, within, all))

  old_len : length old_ring ≡ ring_names
  old_len = length-rolled (get_or heads k 0) (take ring_names (drop (k * ring_names) slots)) ∙ length-take-le ring_names (drop (k * ring_names) slots) (omega (arith, length-drop (k * ring_names) slots, within, all))

  split : joined ring_names heads slots ≡ first ++ (old_ring ++ old_behind)
  split = joined_split heads slots k within (omega (arith, within, all))

  pub get_or_joined : (d : ℕ) → get_or (joined ring_names heads slots) index d ≡ get_or old_ring (index - k * ring_names) d
  get_or_joined d =
      ap (λ part. get_or part index d) split
      ∙ get_or-append_right first (old_ring ++ old_behind) (k * ring_names) index d first_len below
      ∙ get_or_append_left old_ring old_behind d (index - k * ring_names) (omega (arith, old_len, above, below))

  module _ (more ring behind : List ℕ) (head name carried : ℕ) (full : length ring ≡ ring_names) where
    abbrev pub new_ring : List ℕ
    new_ring = rolled head ring

    made : joined ring_names (take k heads ++ head ∷ more) (take (k * ring_names) slots ++ (ring ++ behind)) ≡ first ++ (new_ring ++ joined ring_names more behind)
    made =
        let at : ℕ = k * ring_names in
        joined-append ring_names (take k heads) (head ∷ more) (take at slots) (ring ++ behind) (omega (arith, length-take-le at slots (omega (arith, within, all)), length-take-le k heads (omega (arith, within))))
        ∙ ap (λ part. first ++ part) (ring-joined more behind ring head full)

    pub insert_joined : (out : ℕ) → insert old_ring (index - k * ring_names) name ≡ new_ring ++ carried ∷ [] → carried ∷ old_behind ≡ joined ring_names more behind ++ out ∷ [] → insert (joined ring_names heads slots) index name ≡ joined ring_names (take k heads ++ head ∷ more) (take (k * ring_names) slots ++ (ring ++ behind)) ++ out ∷ []
    insert_joined out here on =
        ap (λ part. insert part index name) split
        ∙ insert-append_right first (old_ring ++ old_behind) (k * ring_names) index name first_len below
        ∙ ap (λ part. first ++ part) (insert-append_left old_ring old_behind (index - k * ring_names) name (omega (arith, old_len, above)))
        ∙ ap (λ part. first ++ (part ++ old_behind)) here
        ∙ ap (λ part. first ++ part) (append_assoc new_ring (carried ∷ []) old_behind)
        ∙ ap (λ part. first ++ (new_ring ++ part)) on
        ∙ ap (λ part. first ++ part) (sym (append_assoc new_ring (joined ring_names more behind) (out ∷ [])))
        ∙ sym (append_assoc first (new_ring ++ joined ring_names more behind) (out ∷ []))
        ∙ ap (λ part. part ++ out ∷ []) (sym made)

    pub remove_joined : new_ring ≡ remove old_ring (index - k * ring_names) ++ carried ∷ [] → carried ∷ joined ring_names more behind ≡ old_behind ++ name ∷ [] → joined ring_names (take k heads ++ head ∷ more) (take (k * ring_names) slots ++ (ring ++ behind)) ≡ remove (joined ring_names heads slots) index ++ name ∷ []
    remove_joined here on =
        let less : index - k * ring_names < length old_ring = omega (arith, old_len, above, below) in
        let left : List ℕ = remove old_ring (index - k * ring_names) in
        made
        ∙ ap (λ part. first ++ (part ++ joined ring_names more behind)) here
        ∙ ap (λ part. first ++ part) (append_assoc left (carried ∷ []) (joined ring_names more behind))
        ∙ ap (λ part. first ++ (left ++ part)) on
        ∙ ap (λ part. first ++ part) (sym (append_assoc left old_behind (name ∷ [])))
        ∙ sym (append_assoc first (left ++ old_behind) (name ∷ []))
        ∙ ap (λ part. (first ++ part) ++ name ∷ []) (sym (remove-append_left old_ring old_behind (index - k * ring_names) less))
        ∙ ap (λ part. part ++ name ∷ []) (sym (remove-append_right first (old_ring ++ old_behind) (k * ring_names) index first_len below))
        ∙ ap (λ part. remove part index ++ name ∷ []) (sym split)

-- what the code lends of the slots behind a ring that it wrote, and of their heads
pub slots_lent : (slots ring : List ℕ) (start n : ℕ) → n ≡ ring_names → length ring ≡ ring_names → start + ring_names ≤ length slots → take (length (put_mid start n slots ring) - (start + ring_names)) (drop (start + ring_names) (put_mid start n slots ring)) ≡ drop (start + ring_names) slots
slots_lent slots ring start n one full within =
    take_rest (put_mid start n slots ring) (start + ring_names)
    ∙ ap (drop (start + ring_names)) (put_mid-laid start n slots ring one)
    ∙ drop-laid_behind start slots ring (omega (arith, within)) full

pub heads_lent : (heads : List ℕ) (k head : ℕ) → take (length (set heads k head) - (k + 1)) (drop (k + 1) (set heads k head)) ≡ drop (k + 1) heads
heads_lent heads k head = take_rest (set heads k head) (k + 1) ∙ drop-set-lt (k + 1) heads k head (omega arith)

pub length-put_mid : (slots ring : List ℕ) (start n : ℕ) → n ≡ ring_names → length ring ≡ ring_names → start + ring_names ≤ length slots → length (put_mid start n slots ring) ≡ length slots
length-put_mid slots ring start n one full within =
    ap length (put_mid-laid start n slots ring one) ∙ length-laid start slots ring (omega (arith, within)) full within

-- what the code lends of a ring, where those behind it were written
pub ring_lent : (slots behind : List ℕ) (start n m : ℕ) → n ≡ ring_names → start + ring_names + m ≡ length slots → take n (drop start (put_mid (start + ring_names) m slots behind)) ≡ take ring_names (drop start slots)
ring_lent slots behind start n m one is =
    let end : ℕ = start + ring_names in
    let rest : List ℕ = behind ++ drop m (drop end slots) in
    let len : length (take end slots) ≡ end = length-take-le end slots (omega (arith, is)) in
    ap (λ l. take l (drop start (take end slots ++ rest))) one
    ∙ ap (take ring_names) (drop-append-le start (take end slots) rest (omega (arith, len)))
    ∙ take-append-le ring_names (drop start (take end slots)) rest (omega (arith, length-drop start (take end slots), len))
    ∙ ap (take ring_names) (drop-take start ring_names slots)
    ∙ take-take ring_names ring_names (drop start slots) (omega arith)
