-- What a look tells of the first entries of a journal.
use Rattle.std.proofs.Common.{◌≡◌, ⊎_elim, ℕ, ◌≤◌, List, [], ◌∷◌, ◌++◌, length, sym, refl, ap, ◌∙◌, subst, append-nil, length-append, arith}
use Rattle.router_log.specs.declared.entry.Entry.{Entry}
use Rattle.router_model.specs.Journal.{extended, first}
use Rattle.router_model.specs.Sides.{joined}
use Rattle.forwarders.specs.Batches.{Along, Begins, count_of, journal_of}
use Rattle.forwarders.specs.Looks.{Covers}
use Rattle.forwarders.proofs.BatchLemmas.{begins-either, begins-self, first-front, joined-append}

pub no-more : (xs ys : List Entry) → length (xs ++ ys) ≤ length xs → xs ++ ys ≡ xs
no-more xs [] few = append-nil xs
no-more xs (y ∷ ys) few = absurd (omega (arith, few, length-append xs (y ∷ ys)))

-- of two lists where one begins the other, the one with no more entries has the first ones of the other
pub covered : (seen published : List (List Entry)) (n : ℕ) → Along seen published → n ≡ count_of seen → n ≤ count_of published → Covers seen published
covered seen published n along count few =
    ⊎_elim
    (λ (t : Begins seen published). record { front = seen; within = t; same = refl; first = sym (first-front seen published t) })
    (λ (t : Begins published seen).
    let parts : joined seen ≡ joined published ++ joined t.0 = ap joined (sym t.1) ∙ joined-append published t.0 in
    let le : length (joined published ++ joined t.0) ≤ length (joined published) = subst (λ (k : ℕ). k ≤ length (joined published)) (count ∙ ap length parts) few in
    let same : joined seen ≡ joined published = parts ∙ no-more (joined published) (joined t.0) le in
    record {
      front = published;
      within = begins-self published;
      same = ap (extended []) (sym same);
      first = ap (extended []) same ∙ (sym (first-front published published (begins-self published)) ∙ ap (λ (es : List Entry). first (length es) (journal_of published)) (sym same));
    })
    (begins-either seen published along.0 along.1 along.2)
