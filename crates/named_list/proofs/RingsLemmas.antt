-- Rings of names, joined.
use Rattle.std.proofs.Common.{◌≡◌, ℕ, ◌+◌, ◌-◌, ◌*◌, ◌<◌, ◌≤◌, List, [], ◌∷◌, ◌++◌, length, get_or, take, drop, refl, sym, ap, ◌∙◌, arith, append_assoc, append-nil, length-append}
use Rattle.std.proofs.lemmas.List.{length-take-le, length-drop, take-append-le, drop-append-le, take_at, drop_at, take-take, drop-take, take_all, drop_all, drop-drop, take-append-drop, drop_more, get_or-drop, get_or-take, get_or_append_left, get_or-append_right}
use borrow.Rule.Slice.PartMut.{put_mid}
use Rattle.named_list.specs.Limits.{ring_names}
use Rattle.named_list.specs.Rings.{rolled, joined}

pub take_add : (n m : ℕ) (slots : List ℕ) → take (n + m) slots ≡ take n slots ++ take m (drop n slots)
take_add n m slots =
    sym (take-append-drop n (take (n + m) slots))
    ∙ ap (λ part. part ++ drop n (take (n + m) slots)) (take-take n (n + m) slots (omega arith))
    ∙ ap (λ part. take n slots ++ part) (drop-take n m slots)

pub length-rolled : (head : ℕ) (ring : List ℕ) → length (rolled head ring) ≡ length ring
length-rolled head ring =
    omega (arith, length-append (drop head ring) (take head ring), length-append (take head ring) (drop head ring), ap length (take-append-drop head ring))

module _ (size : ℕ) where
  pub length-joined : (heads slots : List ℕ) → length (joined size heads slots) ≡ length slots
  length-joined [] slots = refl
  length-joined (head ∷ heads) slots =
      omega (arith, length-append (rolled head (take size slots)) (joined size heads (drop size slots)), length-rolled head (take size slots), length-joined heads (drop size slots), length-append (take size slots) (drop size slots), ap length (take-append-drop size slots))

  -- the rings of two parts
  pub joined-append : (heads more slots behind : List ℕ) → length slots ≡ length heads * size → joined size (heads ++ more) (slots ++ behind) ≡ joined size heads slots ++ joined size more behind
  joined-append [] [] [] behind all = refl
  joined-append [] (m ∷ more) [] behind all = refl
  joined-append [] more (slot ∷ slots) behind all = absurd (omega (arith, all))
  joined-append (head ∷ heads) more slots behind all =
      let enough : size ≤ length slots = omega (arith, all) in
      let rest : length (drop size slots) ≡ length heads * size = omega (arith, all, length-drop size slots) in
      ap (λ ring. rolled head ring ++ joined size (heads ++ more) (drop size (slots ++ behind))) (take-append-le size slots behind enough)
      ∙ ap (λ part. rolled head (take size slots) ++ joined size (heads ++ more) part) (drop-append-le size slots behind enough)
      ∙ ap (λ part. rolled head (take size slots) ++ part) (joined-append heads more (drop size slots) behind rest)
      ∙ sym (append_assoc (rolled head (take size slots)) (joined size heads (drop size slots)) (joined size more behind))

-- the slots with another ring at a place
abbrev pub laid : ℕ → List ℕ → List ℕ → List ℕ
laid at slots ring = take at slots ++ (ring ++ drop (at + ring_names) slots)

pub put_mid-laid : (at n : ℕ) (slots ring : List ℕ) → n ≡ ring_names → put_mid at n slots ring ≡ laid at slots ring
put_mid-laid at n slots ring is =
    ap (λ m. take at slots ++ (ring ++ drop m (drop at slots))) is ∙ ap (λ rest. take at slots ++ (ring ++ rest)) (drop-drop ring_names at slots)

module _ (at : ℕ) (slots ring : List ℕ) (within : at ≤ length slots) (all : length ring ≡ ring_names) where
  taken : length (take at slots) ≡ at
  taken = length-take-le at slots within

  pub take-laid : take at (laid at slots ring) ≡ take at slots
  take-laid = take_at (take at slots) (ring ++ drop (at + ring_names) slots) at taken

  pub drop-laid : drop at (laid at slots ring) ≡ ring ++ drop (at + ring_names) slots
  drop-laid = drop_at (take at slots) (ring ++ drop (at + ring_names) slots) at taken

  pub take-laid_with : take (at + ring_names) (laid at slots ring) ≡ take at slots ++ ring
  take-laid_with =
      ap (take (at + ring_names)) (sym (append_assoc (take at slots) ring (drop (at + ring_names) slots)))
      ∙ take_at (take at slots ++ ring) (drop (at + ring_names) slots) (at + ring_names) (omega (arith, length-append (take at slots) ring, taken, all))

  pub drop-laid_behind : drop (at + ring_names) (laid at slots ring) ≡ drop (at + ring_names) slots
  drop-laid_behind =
      ap (drop (at + ring_names)) (sym (append_assoc (take at slots) ring (drop (at + ring_names) slots)))
      ∙ drop_at (take at slots ++ ring) (drop (at + ring_names) slots) (at + ring_names) (omega (arith, length-append (take at slots) ring, taken, all))

  pub length-laid : at + ring_names ≤ length slots → length (laid at slots ring) ≡ length slots
  length-laid enough =
      omega (arith, length-append (take at slots) (ring ++ drop (at + ring_names) slots), length-append ring (drop (at + ring_names) slots), taken, all, length-drop (at + ring_names) slots)

-- one ring behind others
pub joined-ring : (heads slots ring : List ℕ) (head : ℕ) → length slots ≡ length heads * ring_names → length ring ≡ ring_names → joined ring_names (heads ++ head ∷ []) (slots ++ ring) ≡ joined ring_names heads slots ++ rolled head ring
joined-ring heads slots ring head fits all =
    joined-append ring_names heads (head ∷ []) slots ring fits
    ∙ ap (λ part. joined ring_names heads slots ++ (rolled head part ++ drop ring_names ring)) (take_all ring_names ring (omega (arith, all)))
    ∙ ap (λ part. joined ring_names heads slots ++ (rolled head ring ++ part)) (drop_all ring_names ring (omega (arith, all)))
    ∙ ap (λ part. joined ring_names heads slots ++ part) (append-nil (rolled head ring))

-- one ring before others
pub ring-joined : (heads slots ring : List ℕ) (head : ℕ) → length ring ≡ ring_names → joined ring_names (head ∷ heads) (ring ++ slots) ≡ rolled head ring ++ joined ring_names heads slots
ring-joined heads slots ring head all =
    ap (λ part. rolled head part ++ joined ring_names heads (drop ring_names (ring ++ slots))) (take_at ring slots ring_names all)
    ∙ ap (λ part. rolled head ring ++ joined ring_names heads part) (drop_at ring slots ring_names all)

pub rolled_none : (ring : List ℕ) → rolled 0 ring ≡ ring
rolled_none ring = append-nil ring

-- rings as those before one, that one, and those behind
pub joined_split : (heads slots : List ℕ) (k : ℕ) → k < length heads → k * ring_names + ring_names ≤ length slots → joined ring_names heads slots ≡ joined ring_names (take k heads) (take (k * ring_names) slots) ++ (rolled (get_or heads k 0) (take ring_names (drop (k * ring_names) slots)) ++ joined ring_names (drop (k + 1) heads) (drop (k * ring_names + ring_names) slots))
joined_split heads slots k more within =
    let at : ℕ = k * ring_names in
    let first : List ℕ = joined ring_names (take k heads) (take at slots) in
    let fits : length (take at slots) ≡ length (take k heads) * ring_names = omega (arith, length-take-le at slots (omega (arith, within)), length-take-le k heads (omega (arith, more))) in
    ap (joined ring_names heads) (sym (take-append-drop at slots))
    ∙ ap (λ hs. joined ring_names hs (take at slots ++ drop at slots)) (sym (take-append-drop k heads))
    ∙ joined-append ring_names (take k heads) (drop k heads) (take at slots) (drop at slots) fits
    ∙ ap (λ hs. first ++ joined ring_names hs (drop at slots)) (drop_more heads k 0 more)
    ∙ ap (λ part. first ++ (rolled (get_or heads k 0) (take ring_names (drop at slots)) ++ joined ring_names (drop (k + 1) heads) part)) (drop-drop ring_names at slots)

-- ### the name at a place

pub get_or_ring : (heads slots : List ℕ) (k place d : ℕ) → k < length heads → k * ring_names + ring_names ≤ length slots → place < ring_names → get_or (joined ring_names heads slots) (k * ring_names + place) d ≡ get_or (rolled (get_or heads k 0) (take ring_names (drop (k * ring_names) slots))) place d
get_or_ring heads slots k place d more within less =
    let at : ℕ = k * ring_names in
    let first : List ℕ = joined ring_names (take k heads) (take at slots) in
    let ring : List ℕ = rolled (get_or heads k 0) (take ring_names (drop at slots)) in
    let behind : List ℕ = joined ring_names (drop (k + 1) heads) (drop (at + ring_names) slots) in
    let first_len : length first ≡ at = length-joined ring_names (take k heads) (take at slots) ∙ length-take-le at slots (omega (arith, within)) in
    let ring_len : length ring ≡ ring_names = length-rolled (get_or heads k 0) (take ring_names (drop at slots)) ∙ length-take-le ring_names (drop at slots) (omega (arith, length-drop at slots, within)) in
    let here : at + place - at ≡ place = omega arith in
    ap (λ l. get_or l (at + place) d) (joined_split heads slots k more within)
    ∙ get_or-append_right first (ring ++ behind) at (at + place) d first_len (omega arith)
    ∙ ap (λ i. get_or (ring ++ behind) i d) here
    ∙ get_or_append_left ring behind d place (omega (arith, ring_len, less))

pub get_or_slot : (slots : List ℕ) (at place d : ℕ) → place < ring_names → get_or (take ring_names (drop at slots)) place d ≡ get_or slots (at + place) d
get_or_slot slots at place d less = get_or-take ring_names (drop at slots) place d less ∙ get_or-drop at slots place d
