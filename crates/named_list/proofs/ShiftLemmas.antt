-- A name put into a ring or taken out of it.
use Rattle.std.proofs.Common.{◌≡◌, ℕ, suc, ◌+◌, ◌-◌, ◌<◌, ◌≤◌, List, [], ◌∷◌, ◌++◌, length, get_or, take, drop, set, sym, ap, ◌∙◌, arith, append_assoc, append-nil, length-append}
use Rattle.std.proofs.lemmas.List.{length-take-le, length-drop, take_at, drop_at, take_all, drop_all, drop-drop, drop-append-le, take_more, drop_more, set_at, get_or_at, get_or_append_left, get_or-append_right, length_push, same_from_push}
use Rattle.std.specs.List.{insert, remove}
use Rattle.std.proofs.lemmas.List.Edits.{insert-append_left, insert-append_right, remove-append_left, remove-append_right}
use borrow.Rule.Slice.PartMut.{put_mid}
use Rattle.named_list.specs.Rings.{rolled}
use Rattle.named_list.proofs.RingsLemmas.{take_add}

-- a head at the end of a ring is one at its beginning
pub rolled_end : (ring : List ℕ) (n : ℕ) → length ring ≡ n → rolled n ring ≡ rolled 0 ring
rolled_end ring n is =
    ap (λ part. part ++ take n ring) (drop_all n ring (omega (arith, is)))
    ∙ take_all n ring (omega (arith, is))
    ∙ sym (append-nil ring)

rolled_at : (front behind : List ℕ) (head : ℕ) → length front ≡ head → rolled head (front ++ behind) ≡ behind ++ front
rolled_at front behind head is =
    ap (λ part. part ++ take head (front ++ behind)) (drop_at front behind head is)
    ∙ ap (λ part. behind ++ part) (take_at front behind head is)

-- ### parts that are turned by one, with another name in place of the one that comes round

pub shifted_on : (part turned : List ℕ) (name out n : ℕ) → n + 1 ≡ length part → turned ≡ drop n part ++ take n part → out ≡ get_or turned 0 0 → name ∷ part ≡ set turned 0 name ++ out ∷ []
shifted_on part turned name out n is turns read =
    let last : ℕ = get_or part n 0 in
    let now : turned ≡ last ∷ take n part =
    turns
    ∙ ap (λ l. l ++ take n part) (drop_more part n 0 (omega (arith, is)))
    ∙ ap (λ l. (last ∷ l) ++ take n part) (drop_all (n + 1) part (omega (arith, is))) in
    let goes : last ≡ out = sym (read ∙ ap (λ l. get_or l 0 0) now) in
    ap (λ l. name ∷ l) (sym (take_all (n + 1) part (omega (arith, is))) ∙ take_more part n 0 (omega (arith, is)))
    ∙ ap (λ x. name ∷ (take n part ++ x ∷ [])) goes
    ∙ ap (λ l. set l 0 name ++ out ∷ []) (sym now)

pub shifted_back : (part turned : List ℕ) (name out last : ℕ) → last + 1 ≡ length part → turned ≡ drop 1 part ++ take 1 part → out ≡ get_or turned last 0 → out ∷ set turned last name ≡ part ++ name ∷ []
shifted_back [] turned name out last is turns read = absurd (omega (arith, is))
shifted_back (first ∷ part) turned name out last is turns read =
    let here : length part ≡ last = omega (arith, is) in
    ap (λ l. out ∷ set l last name) turns
    ∙ ap (λ l. out ∷ l) (set_at part first [] name last here)
    ∙ ap (λ x. x ∷ (part ++ name ∷ [])) (read ∙ ap (λ l. get_or l last 0) turns ∙ get_or_at part first [] 0 last here)

-- ### a ring of which such a part was written

pub length-part_written : (ring part : List ℕ) (at n : ℕ) → at + n ≤ length ring → length part ≡ n → length (put_mid at n ring part) ≡ length ring
length-part_written ring part at n within full =
    omega (arith, length-append (take at ring) (part ++ drop n (drop at ring)), length-append part (drop n (drop at ring)), length-take-le at ring (omega (arith, within)), length-drop n (drop at ring), length-drop at ring, within, full)

-- the part lies from the head on
module _ (ring part : List ℕ) (head place name out n : ℕ) (one : n ≡ suc place) where
  -- and begins with the name before the head, which goes out
  pub put_front : (last : ℕ) → last + 1 ≡ head → head + place ≤ length ring → out ∷ part ≡ take n (drop last ring) ++ name ∷ [] → insert (rolled head ring) place name ≡ rolled last (put_mid last n ring part) ++ out ∷ []
  put_front last next within shifted =
      let front : List ℕ = take last ring in
      let first : ℕ = get_or ring last 0 in
      let moved : List ℕ = take place (drop head ring) in
      let rest : List ℕ = drop place (drop head ring) in
      let before : last < length ring = omega (arith, next, within) in
      let from : drop last ring ≡ first ∷ drop head ring = drop_more ring last 0 before ∙ ap (λ m. first ∷ drop m ring) next in
      let up_to : take head ring ≡ front ++ first ∷ [] = ap (λ m. take m ring) (sym next) ∙ take_more ring last 0 before in
      let is : out ∷ part ≡ first ∷ (moved ++ name ∷ []) =
      shifted ∙ ap (λ l. take n l ++ name ∷ []) from ∙ ap (λ m. take m (first ∷ drop head ring) ++ name ∷ []) one in
      let goes : out ≡ first = ap (λ l. get_or l 0 out) is in
      let part_is : part ≡ moved ++ name ∷ [] = ap (drop 1) is in
      let left : drop n (drop last ring) ≡ rest = ap (drop n) from ∙ ap (λ m. drop m (first ∷ drop head ring)) one in
      let now : rolled last (put_mid last n ring part) ≡ (part ++ rest) ++ front =
      ap (λ l. rolled last (front ++ (part ++ l))) left
      ∙ rolled_at front (part ++ rest) last (length-take-le last ring (omega (arith, before))) in
      insert-append_left (drop head ring) (take head ring) place name (omega (arith, length-drop head ring, within))
      ∙ ap (λ l. (moved ++ name ∷ rest) ++ l) up_to
      ∙ sym (append_assoc (moved ++ name ∷ rest) front (first ∷ []))
      ∙ ap (λ l. (l ++ front) ++ first ∷ []) (sym (append_assoc moved (name ∷ []) rest))
      ∙ ap (λ l. ((l ++ rest) ++ front) ++ first ∷ []) (sym part_is)
      ∙ ap (λ l. l ++ first ∷ []) (sym now)
      ∙ ap (λ x. rolled last (put_mid last n ring part) ++ x ∷ []) (sym goes)

  -- and ends with the name that is taken out
  pub taken_front : head + n ≤ length ring → name ∷ take n (drop head ring) ≡ part ++ out ∷ [] → (out ≡ get_or (rolled head ring) place out) × (rolled (head + 1) (put_mid head n ring part) ≡ remove (rolled head ring) place ++ name ∷ [])
  taken_front within shifted =
      let front : List ℕ = take head ring in
      let behind : List ℕ = drop head ring in
      let moved : List ℕ = take place behind in
      let rest : List ℕ = drop (suc place) behind in
      let last : ℕ = get_or behind place out in
      let next : place + 1 ≡ n = omega (arith, one) in
      let less : place < length behind = omega (arith, length-drop head ring, one, within) in
      let is : (name ∷ moved) ++ last ∷ [] ≡ part ++ out ∷ [] =
      ap (λ l. name ∷ l) (sym (take_more behind place out less)) ∙ ap (λ m. name ∷ take m behind) next ∙ shifted in
      let same = same_from_push (name ∷ moved) part last out is in
      let now : rolled (head + 1) (put_mid head n ring part) ≡ (moved ++ rest) ++ (front ++ name ∷ []) =
      ap (λ m. rolled (head + 1) (front ++ (part ++ drop m behind))) one
      ∙ ap (λ l. rolled (head + 1) (front ++ (l ++ rest))) (sym same.0)
      ∙ ap (rolled (head + 1)) (sym (append_assoc front (name ∷ []) (moved ++ rest)))
      ∙ rolled_at (front ++ name ∷ []) (moved ++ rest) (head + 1) (omega (arith, length_push front name, length-take-le head ring (omega (arith, within)))) in (
        sym same.1 ∙ sym (get_or_append_left behind front out place less),
        now
            ∙ sym (append_assoc (moved ++ rest) front (name ∷ []))
            ∙ ap (λ l. l ++ name ∷ []) (sym (remove-append_left behind front place less)),
      )

-- the part lies before the head
module _ (ring part : List ℕ) (head place name out at n : ℕ) (sum : at + n ≡ head) (within : head ≤ length ring) (place_is : place + head ≡ length ring + at) where
  abbrev pub front : List ℕ
  front = take at ring

  abbrev pub moved : List ℕ
  moved = take n (drop at ring)

  abbrev pub behind : List ℕ
  behind = drop head ring

  none : at - at ≡ 0
  none = omega arith

  here : place - (place - at) ≡ at
  here = omega (arith, within, place_is)

  front_len : length front ≡ at
  front_len = length-take-le at ring (omega (arith, sum, within))

  moved_len : length moved ≡ n
  moved_len = length-take-le n (drop at ring) (omega (arith, length-drop at ring, sum, within))

  behind_len : length behind ≡ place - at
  behind_len = omega (arith, length-drop head ring, within, place_is)

  up_to : take head ring ≡ front ++ moved
  up_to = ap (λ m. take m ring) (sym sum) ∙ take_add at n ring

  rolled_now : length part ≡ n → rolled head (put_mid at n ring part) ≡ behind ++ (front ++ part)
  rolled_now full =
      ap (λ l. rolled head (front ++ (part ++ l))) (drop-drop n at ring ∙ ap (λ m. drop m ring) sum)
      ∙ ap (rolled head) (sym (append_assoc front part behind))
      ∙ rolled_at (front ++ part) behind head (omega (arith, length-append front part, front_len, full, sum))

  -- and ends with the last name, which goes out
  pub put_back : name ∷ moved ≡ part ++ out ∷ [] → insert (rolled head ring) place name ≡ rolled head (put_mid at n ring part) ++ out ∷ []
  put_back shifted =
      let lens : suc (length moved) ≡ length (part ++ out ∷ []) = ap length shifted in
      insert-append_right behind (take head ring) (place - at) place name behind_len (omega arith)
      ∙ ap (λ m. behind ++ insert (take head ring) m name) here
      ∙ ap (λ l. behind ++ insert l at name) up_to
      ∙ ap (λ l. behind ++ l) (insert-append_right front moved at at name front_len (omega arith))
      ∙ ap (λ m. behind ++ (front ++ insert moved m name)) none
      ∙ ap (λ l. behind ++ (front ++ l)) shifted
      ∙ ap (λ l. behind ++ l) (sym (append_assoc front part (out ∷ [])))
      ∙ sym (append_assoc behind (front ++ part) (out ∷ []))
      ∙ ap (λ l. l ++ out ∷ []) (sym (rolled_now (omega (arith, lens, length_push part out, moved_len))))

  -- and begins with the name that is taken out
  pub taken_back : 0 < n → out ∷ part ≡ moved ++ name ∷ [] → (out ≡ get_or (rolled head ring) place out) × (rolled head (put_mid at n ring part) ≡ remove (rolled head ring) place ++ name ∷ [])
  taken_back some shifted =
      let lens : suc (length part) ≡ length (moved ++ name ∷ []) = ap length shifted in
      let goes : out ≡ get_or moved 0 out = ap (λ l. get_or l 0 out) shifted ∙ get_or_append_left moved (name ∷ []) out 0 (omega (arith, some, moved_len)) in
      let part_is : part ≡ drop 1 moved ++ name ∷ [] = ap (drop 1) shifted ∙ drop-append-le 1 moved (name ∷ []) (omega (arith, some, moved_len)) in
      let left : remove (rolled head ring) place ≡ behind ++ (front ++ drop 1 moved) =
      remove-append_right behind (take head ring) (place - at) place behind_len (omega arith)
      ∙ ap (λ m. behind ++ remove (take head ring) m) here
      ∙ ap (λ l. behind ++ remove l at) up_to
      ∙ ap (λ l. behind ++ l) (remove-append_right front moved at at front_len (omega arith))
      ∙ ap (λ m. behind ++ (front ++ remove moved m)) none in (
        goes
            ∙ ap (λ m. get_or moved m out) (sym none)
            ∙ sym (get_or-append_right front moved at at out front_len (omega arith))
            ∙ ap (λ l. get_or l at out) (sym up_to)
            ∙ ap (λ m. get_or (take head ring) m out) (sym here)
            ∙ sym (get_or-append_right behind (take head ring) (place - at) place out behind_len (omega arith)),
        rolled_now (omega (arith, lens, length_push moved name, moved_len))
            ∙ ap (λ l. behind ++ (front ++ l)) part_is
            ∙ ap (λ l. behind ++ l) (sym (append_assoc front (drop 1 moved) (name ∷ [])))
            ∙ sym (append_assoc behind (front ++ drop 1 moved) (name ∷ []))
            ∙ ap (λ l. l ++ name ∷ []) (sym left),
      )
