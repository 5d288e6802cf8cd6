-- Lists that begin others, and the journals of batches.
use Rattle.std.proofs.Common.{◌≡◌, ◌⊎◌, inl, inr, ⊎_elim, ℕ, ◌+◌, ◌≤◌, List, [], ◌∷◌, ◌++◌, length, sym, refl, ap, ◌∙◌, append_assoc, append-nil, length-append, arith}
use Rattle.router_log.specs.declared.entry.Entry.{Entry}
use Rattle.router_model.specs.Journal.{Journal, extended, first}
use Rattle.router_model.specs.Sharing.{filled}
use Rattle.router_model.specs.Sides.{joined}
use Rattle.router_model.proofs.SideLemmas.{extended-more, first-of-more}
use Rattle.router_model.proofs.StaticsLemmas.{length-extended}
use Rattle.std.proofs.lemmas.List.Concat.{flat_map-append}
use Rattle.forwarders.specs.Batches.{Begins, count_of, journal_of}

module _ {A : Type 0} where
  pub begins-self : (xs : List A) → Begins xs xs
  begins-self xs = ([], append-nil xs)

  pub begins-same : (xs ys : List A) → xs ≡ ys → Begins xs ys
  begins-same xs ys same = ([], append-nil xs ∙ same)

  pub begins-more : (front whole more : List A) → Begins front whole → Begins front (whole ++ more)
  begins-more front whole more b = (b.0 ++ more, sym (append_assoc front b.0 more) ∙ ap (λ (w : List A). w ++ more) b.1)

  pub begins-on : (xs ys zs : List A) → Begins xs ys → Begins ys zs → Begins xs zs
  begins-on xs ys zs p q = (p.0 ++ q.0, sym (append_assoc xs p.0 q.0) ∙ (ap (λ (w : List A). w ++ q.0) p.1 ∙ q.1))

  -- of two beginnings of one list, one begins the other
  pub begins-either : (xs ys zs : List A) → Begins xs zs → Begins ys zs → Begins xs ys ⊎ Begins ys xs
  begins-either [] ys zs p q = inl (ys, refl)
  begins-either (x ∷ xs) [] zs p q = inr (x ∷ xs, refl)
  begins-either (x ∷ xs) (y ∷ ys) [] p q = absurd (cc (p.1))
  begins-either (x ∷ xs) (y ∷ ys) (z ∷ zs) p q =
      let heads : x ≡ y = cc (p.1, q.1) in
      ⊎_elim (λ (r : Begins xs ys). inl (r.0, cc (heads, r.1))) (λ (r : Begins ys xs). inr (r.0, cc (heads, r.1))) (begins-either xs ys zs (p.0, cc (p.1)) (q.0, cc (q.1)))

pub joined-append : (one next : List (List Entry)) → joined (one ++ next) ≡ joined one ++ joined next
joined-append one next = flat_map-append (λ (batch : List Entry). batch) one next

-- one batch more
pub joined-push : (batches : List (List Entry)) (batch : List Entry) → joined (batches ++ batch ∷ []) ≡ joined batches ++ batch
joined-push batches batch = joined-append batches (batch ∷ []) ∙ ap (λ (l : List Entry). joined batches ++ l) (append-nil batch)

pub journal-push : (batches : List (List Entry)) (batch : List Entry) → journal_of (batches ++ batch ∷ []) ≡ extended (journal_of batches) batch
journal-push batches batch = ap (extended []) (joined-push batches batch) ∙ extended-more [] (joined batches) batch

-- the journal of a list that begins with another
pub journal-behind : (front whole : List (List Entry)) (b : Begins front whole) → journal_of whole ≡ extended (journal_of front) (joined b.0)
journal-behind front whole b =
    ap journal_of (sym b.1) ∙ (ap (extended []) (joined-append front b.0) ∙ extended-more [] (joined front) (joined b.0))

-- its length is the number of entries
pub journal-length : (batches : List (List Entry)) → length (journal_of batches) ≡ count_of batches
journal-length batches = length-extended [] (joined batches) ∙ (let same : length (joined batches) + 0 ≡ length (joined batches) = omega arith in same)

-- so many entries of a journal are those of a front of its batches
pub first-front : (front whole : List (List Entry)) → Begins front whole → first (count_of front) (journal_of whole) ≡ journal_of front
first-front front whole b =
    ap (λ (j : Journal). first (count_of front) j) (journal-behind front whole b)
    ∙ (ap (λ (n : ℕ). first n (extended (journal_of front) (joined b.0))) (sym (journal-length front))
    ∙ first-of-more (journal_of front) (joined b.0))

pub count-up : (front whole : List (List Entry)) → Begins front whole → count_of front ≤ count_of whole
count-up front whole b =
    let parts : count_of whole ≡ length (joined front ++ joined b.0) = ap length (ap joined (sym b.1) ∙ joined-append front b.0) in
    omega (arith, parts, length-append (joined front) (joined b.0))

-- batches without entries add nothing
pub joined-filled : (batches : List (List Entry)) → joined (filled batches) ≡ joined batches
joined-filled [] = refl
joined-filled ([] ∷ batches) = joined-filled batches
joined-filled ((entry ∷ entries) ∷ batches) = ap (λ (l : List Entry). (entry ∷ entries) ++ l) (joined-filled batches)

-- the journal of batches that have entries is that of all
pub journal-filled : (before batches : List (List Entry)) → journal_of (before ++ filled batches) ≡ extended (journal_of before) (joined batches)
journal-filled before batches =
    journal-behind before (before ++ filled batches) (filled batches, refl) ∙ ap (extended (journal_of before)) (joined-filled batches)

-- and so it is with one batch more
pub journal-more : (before : List (List Entry)) (entries : List Entry) → journal_of (before ++ filled (entries ∷ [])) ≡ extended (journal_of before) entries
journal-more before entries = journal-filled before (entries ∷ []) ∙ ap (extended (journal_of before)) (append-nil entries)
