-- Names behind the rings.
use Rattle.std.proofs.Common.{◌≡◌, ℕ, suc, ◌+◌, ◌-◌, ◌*◌, ◌<◌, ◌≤◌, List, [], ◌∷◌, ◌++◌, length, get_or, take, drop, sym, ap, subst, ◌∙◌, arith, append_assoc, append-nil, length-append}
use Rattle.std.proofs.lemmas.List.{length-take-le, length-drop, take_at, drop_at, drop_all, take-append-drop, drop_more, get_or_append_left, get_or-append_right}
use Rattle.std.specs.List.{insert, remove}
use Rattle.std.proofs.lemmas.List.Edits.{insert-append_left, insert-append_right, remove-append_left, remove-append_right, length-remove}
use borrow.Rule.Slice.PartMut.{put_mid}
use Rattle.named_list.specs.Limits.{ring_names}
use Rattle.named_list.specs.Rings.{rolled, joined}
use Rattle.named_list.proofs.RingsLemmas.{length-joined, joined-append, joined-ring, rolled_none}

module _ (heads front behind : List ℕ) (fits : length front ≡ length heads * ring_names) where
  -- names behind the rings lie as they are
  pub joined-behind : joined ring_names heads (front ++ behind) ≡ joined ring_names heads front ++ behind
  joined-behind = ap (λ hs. joined ring_names hs (front ++ behind)) (sym (append-nil heads)) ∙ joined-append ring_names heads [] front behind fits

  front_len : length (joined ring_names heads front) ≡ length heads * ring_names
  front_len = length-joined ring_names heads front ∙ fits

  insert_front_behind : (index name : ℕ) → length heads * ring_names ≤ index → joined ring_names heads (insert (front ++ behind) index name) ≡ insert (joined ring_names heads (front ++ behind)) index name
  insert_front_behind index name past =
      let n : ℕ = length heads * ring_names in
      ap (joined ring_names heads) (insert-append_right front behind n index name fits past)
      ∙ ap (λ hs. joined ring_names hs (front ++ insert behind (index - n) name)) (sym (append-nil heads))
      ∙ joined-append ring_names heads [] front (insert behind (index - n) name) fits
      ∙ sym (insert-append_right (joined ring_names heads front) behind n index name front_len past)
      ∙ ap (λ l. insert l index name) (sym joined-behind)

  remove_front_behind : (index : ℕ) → length heads * ring_names ≤ index → joined ring_names heads (remove (front ++ behind) index) ≡ remove (joined ring_names heads (front ++ behind)) index
  remove_front_behind index past =
      let n : ℕ = length heads * ring_names in
      ap (joined ring_names heads) (remove-append_right front behind n index fits past)
      ∙ ap (λ hs. joined ring_names hs (front ++ remove behind (index - n))) (sym (append-nil heads))
      ∙ joined-append ring_names heads [] front (remove behind (index - n)) fits
      ∙ sym (remove-append_right (joined ring_names heads front) behind n index front_len past)
      ∙ ap (λ l. remove l index) (sym joined-behind)

  get_or_front_behind : (index d : ℕ) → length heads * ring_names ≤ index → get_or (front ++ behind) index d ≡ get_or (joined ring_names heads (front ++ behind)) index d
  get_or_front_behind index d past =
      let n : ℕ = length heads * ring_names in
      get_or-append_right front behind n index d fits past
      ∙ sym (get_or-append_right (joined ring_names heads front) behind n index d front_len past)
      ∙ ap (λ l. get_or l index d) (sym joined-behind)

module _ (heads slots : List ℕ) (enough : length heads * ring_names ≤ length slots) where
  abbrev pub ring_slots : List ℕ
  ring_slots = take (length heads * ring_names) slots

  abbrev pub others : List ℕ
  others = drop (length heads * ring_names) slots

  pub ring_slots_len : length ring_slots ≡ length heads * ring_names
  ring_slots_len = length-take-le (length heads * ring_names) slots enough

  both : ring_slots ++ others ≡ slots
  both = take-append-drop (length heads * ring_names) slots

  pub joined-others : joined ring_names heads slots ≡ joined ring_names heads ring_slots ++ others
  joined-others = ap (joined ring_names heads) (sym both) ∙ joined-behind heads ring_slots others ring_slots_len

  -- a change behind the rings
  pub insert_behind : (index name : ℕ) → length heads * ring_names ≤ index → joined ring_names heads (insert slots index name) ≡ insert (joined ring_names heads slots) index name
  insert_behind index name past =
      subst (λ l. joined ring_names heads (insert l index name) ≡ insert (joined ring_names heads l) index name) both (insert_front_behind heads ring_slots others ring_slots_len index name past)

  pub remove_behind : (index : ℕ) → length heads * ring_names ≤ index → joined ring_names heads (remove slots index) ≡ remove (joined ring_names heads slots) index
  remove_behind index past =
      subst (λ l. joined ring_names heads (remove l index) ≡ remove (joined ring_names heads l) index) both (remove_front_behind heads ring_slots others ring_slots_len index past)

  pub get_or_behind : (index d : ℕ) → length heads * ring_names ≤ index → get_or slots index d ≡ get_or (joined ring_names heads slots) index d
  get_or_behind index d past =
      subst (λ l. get_or l index d ≡ get_or (joined ring_names heads l) index d) both (get_or_front_behind heads ring_slots others ring_slots_len index d past)

  -- the first of what lies behind the rings is one more
  pub joined_closed : joined ring_names (heads ++ 0 ∷ []) slots ≡ joined ring_names heads slots
  joined_closed =
      ap (joined ring_names (heads ++ 0 ∷ [])) (sym both)
      ∙ joined-append ring_names heads (0 ∷ []) ring_slots others ring_slots_len
      ∙ ap (λ part. joined ring_names heads ring_slots ++ (part ++ drop ring_names others)) (rolled_none (take ring_names others))
      ∙ ap (λ part. joined ring_names heads ring_slots ++ part) (take-append-drop ring_names others)
      ∙ sym joined-others

  -- the last ring lies behind the others
  pub joined_opened : (head : ℕ) → length slots ≡ length heads * ring_names + ring_names → joined ring_names heads (ring_slots ++ rolled head others) ≡ joined ring_names (heads ++ head ∷ []) slots
  joined_opened head is =
      joined-behind heads ring_slots (rolled head others) ring_slots_len
      ∙ sym (joined-ring heads ring_slots others head ring_slots_len (omega (arith, length-drop (length heads * ring_names) slots, is)))
      ∙ ap (joined ring_names (heads ++ head ∷ [])) both

  -- a name comes into the rings, and the last one goes behind them
  pub insert_before : (more part : List ℕ) (index name carried : ℕ) → index < length heads * ring_names → length more ≡ length heads → length part ≡ length heads * ring_names → insert (joined ring_names heads ring_slots) index name ≡ joined ring_names more part ++ carried ∷ [] → joined ring_names more (insert (part ++ others) (length heads * ring_names) carried) ≡ insert (joined ring_names heads slots) index name
  insert_before more part index name carried below same full is =
      let n : ℕ = length heads * ring_names in
      let none : n - n ≡ 0 = omega arith in
      let fits : length part ≡ length more * ring_names = omega (arith, full, same) in
      ap (joined ring_names more) (insert-append_right part others n n carried full (omega arith) ∙ ap (λ i. part ++ insert others i carried) none)
      ∙ joined-behind more part (carried ∷ others) fits
      ∙ sym (append_assoc (joined ring_names more part) (carried ∷ []) others)
      ∙ ap (λ l. l ++ others) (sym is)
      ∙ sym (insert-append_left (joined ring_names heads ring_slots) others index name (omega (arith, below, length-joined ring_names heads ring_slots, ring_slots_len)))
      ∙ ap (λ l. insert l index name) (sym joined-others)

  -- a name goes from the rings, and the first one behind them comes into them
  pub remove_before : (more part : List ℕ) (index carried : ℕ) → index < length heads * ring_names → length heads * ring_names < length slots → length more ≡ length heads → length part ≡ length heads * ring_names → carried ≡ get_or slots (length heads * ring_names) carried → joined ring_names more part ≡ remove (joined ring_names heads ring_slots) index ++ carried ∷ [] → joined ring_names more (part ++ drop (length heads * ring_names + 1) slots) ≡ remove (joined ring_names heads slots) index
  remove_before more part index carried below some same full read is =
      let n : ℕ = length heads * ring_names in
      let left : List ℕ = remove (joined ring_names heads ring_slots) index in
      let fits : length part ≡ length more * ring_names = omega (arith, full, same) in
      joined-behind more part (drop (n + 1) slots) fits
      ∙ ap (λ l. l ++ drop (n + 1) slots) is
      ∙ append_assoc left (carried ∷ []) (drop (n + 1) slots)
      ∙ ap (λ x. left ++ x ∷ drop (n + 1) slots) read
      ∙ ap (λ l. left ++ l) (sym (drop_more slots n carried some))
      ∙ sym (remove-append_left (joined ring_names heads ring_slots) others index (omega (arith, below, length-joined ring_names heads ring_slots, ring_slots_len)))
      ∙ ap (λ l. remove l index) (sym joined-others)

  pub get_or_before : (index d : ℕ) → index < length heads * ring_names → get_or (joined ring_names heads slots) index d ≡ get_or (joined ring_names heads ring_slots) index d
  get_or_before index d below =
      ap (λ l. get_or l index d) joined-others
      ∙ get_or_append_left (joined ring_names heads ring_slots) others d index (omega (arith, below, length-joined ring_names heads ring_slots, ring_slots_len))

-- a vector's items after a write to a part of them
pub written : (items new : List ℕ) (n : ℕ) → length new ≡ n → take n (new ++ drop (length new) items) ≡ new
written items new n is = take_at new (drop (length new) items) n is

-- the same, where it was its first part
pub front_written : (items lent part : List ℕ) (n m len : ℕ) → lent ≡ items → m ≡ n → n ≤ length items → length part ≡ n → len ≡ length items → take len (part ++ drop m lent ++ drop (length (part ++ drop m lent)) items) ≡ part ++ drop n items
front_written items lent part n m len same is within full all =
    written items (part ++ drop m lent) len (omega (arith, length-append part (drop m lent), length-drop m lent, ap length same, is, within, full, all))
    ∙ ap (λ l. part ++ drop m l) same
    ∙ ap (λ k. part ++ drop k items) is

-- the same, where it was its last part
pub back_written : (items lent part : List ℕ) (n m len : ℕ) → lent ≡ items → n + m ≡ length items → length part ≡ m → len ≡ length items → take len (put_mid n m lent part ++ drop (length (put_mid n m lent part)) items) ≡ take n items ++ part
back_written items lent part n m len same is full all =
    let rest : drop m (drop n lent) ≡ [] = drop_all m (drop n lent) (omega (arith, length-drop n lent, ap length same, is)) in
    let now : put_mid n m lent part ≡ take n lent ++ part = ap (λ l. take n lent ++ (part ++ l)) rest ∙ ap (λ l. take n lent ++ l) (append-nil part) in
    written items (put_mid n m lent part) len (ap length now ∙ omega (arith, length-append (take n lent) part, length-take-le n lent (omega (arith, ap length same, is)), full, is, all))
    ∙ now
    ∙ ap (λ l. take n l ++ part) same

-- names with one put behind them, turned so that it is the first
pub pushed_turned : (names turned : List ℕ) (name n : ℕ) → length names ≡ n → turned ≡ drop n (names ++ name ∷ []) ++ take n (names ++ name ∷ []) → turned ≡ name ∷ names
pushed_turned names turned name n is turns =
    turns
    ∙ ap (λ l. l ++ take n (names ++ name ∷ [])) (drop_at names (name ∷ []) n is)
    ∙ ap (λ l. name ∷ l) (take_at names (name ∷ []) n is)

-- names of which one was turned behind the others, and left out
pub turned_popped : (names part turned : List ℕ) (index n : ℕ) → index < length names → n + 1 ≡ length names → part ≡ drop index names → turned ≡ drop 1 part ++ take 1 part → take n (take index names ++ turned) ≡ remove names index
turned_popped names part turned index n within is part_is turns =
    let name : ℕ = get_or names index 0 in
    let one : index + 1 ≡ suc index = omega arith in
    let now : part ≡ name ∷ drop (suc index) names = part_is ∙ drop_more names index 0 within ∙ ap (λ m. name ∷ drop m names) one in
    ap (λ l. take n (take index names ++ l)) (turns ∙ ap (λ l. drop 1 l ++ take 1 l) now)
    ∙ ap (take n) (sym (append_assoc (take index names) (drop (suc index) names) (name ∷ [])))
    ∙ take_at (remove names index) (name ∷ []) n (omega (arith, length-remove names index within, is))
