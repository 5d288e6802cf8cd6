-- What is planned, batch by batch, and entry by entry.
use Rattle.std.proofs.Common.{◌≡◌, ℕ, zero, suc, ◌<◌, ◌≤◌, IsTrue, List, [], ◌∷◌, ◌++◌, length, take, get_or, drop, refl, sym, ap, ◌∙◌, subst, append_assoc, append-nil, length-append, arith}
use Rattle.std.proofs.Math.Seq.{take-suc}
use Rattle.std.proofs.lemmas.List.{take-append-drop}
use Rattle.lisp_settings.specs.declared.settings.Settings.{Settings}
use Rattle.router_log.specs.declared.entry.Entry.{Entry}
use Rattle.router_model.specs.Journal.{Journal, extended, first, statics}
use Rattle.router_model.specs.Proper.{EachFits, IsProper, fits}
use Rattle.router_model.proofs.ShareLemmas.{first-is-proper}
use Rattle.router_model.proofs.SideLemmas.{first-of-more}
use Rattle.forwarders.specs.Batches.{Begins, count_of, journal_of}
use Rattle.forwarders.proofs.BatchLemmas.{count-up, first-front, journal-length, journal-push}

-- a proper journal has the static mappings
pub long-enough : (settings : Settings) (journal : Journal) → IsProper settings journal → length (statics settings) ≤ length journal
long-enough settings journal proper =
    let parts : length journal ≡ length (proper.entries ++ statics settings) = ap length proper.whole in
    omega (arith, parts, length-append proper.entries (statics settings))

-- its last entry fits those before it, if it isn't one of these
last-fits : (settings : Settings) (journal : Journal) (entry : Entry) (entries : List Entry) → entry ∷ journal ≡ entries ++ statics settings → EachFits settings (statics settings) entries → length (statics settings) ≤ length journal → IsTrue (fits settings journal entry)
last-fits settings journal entry [] whole fit long =
    let same : length (entry ∷ journal) ≡ length (statics settings) = ap length whole in absurd (omega (arith, same, long))
last-fits settings journal entry (x ∷ entries) whole fit long =
    let heads : x ≡ entry = cc whole in
    let tails : entries ++ statics settings ≡ journal = cc whole in
    subst (λ (t : Journal × Entry). IsTrue (fits settings t.0 t.1)) (λ i. (tails i, heads i)) fit.0

-- each of further entries fits what stands before it
pub fit-at : (settings : Settings) (journal : Journal) (entries : List Entry) (i : ℕ) (d : Entry) → length (statics settings) ≤ length journal → IsProper settings (extended journal entries) → i < length entries
    → IsTrue (fits settings (extended journal (take i entries)) (get_or entries i d))
fit-at settings journal [] i d long proper few = absurd (omega (arith, few))
fit-at settings journal (entry ∷ entries) zero d long proper few =
    let whole : Journal = extended (entry ∷ journal) entries in
    let more : IsProper settings (first (length (entry ∷ journal)) whole) = first-is-proper settings whole (length (entry ∷ journal)) proper (omega (arith, long)) in
    let here : IsProper settings (entry ∷ journal) = subst (IsProper settings) (first-of-more (entry ∷ journal) entries) more in
    last-fits settings journal entry here.entries here.whole here.fit long
fit-at settings journal (entry ∷ entries) (suc i) d long proper few = fit-at settings (entry ∷ journal) entries i d (omega (arith, long)) proper (omega (arith, few))

-- a front of batches that has the static mappings makes a proper journal, as the whole does
pub front-proper : (settings : Settings) (front whole : List (List Entry)) → Begins front whole → length (statics settings) ≤ count_of front → IsProper settings (journal_of whole) → IsProper settings (journal_of front)
front-proper settings front whole b long proper =
    subst (IsProper settings) (first-front front whole b) (first-is-proper settings (journal_of whole) (count_of front) proper long)

-- a batch more
pub next-begins : (W bs : List (List Entry)) (i : ℕ) (d : List Entry) → i < length bs → Begins ((W ++ take i bs) ++ get_or bs i d ∷ []) (W ++ bs)
next-begins W [] i d few = absurd (omega (arith, few))
next-begins W (b ∷ bs) zero d few = (bs, append_assoc (W ++ []) (b ∷ []) bs ∙ ap (λ (z : List (List Entry)). z ++ b ∷ bs) (append-nil W))
next-begins W (b ∷ bs) (suc i) d few =
    subst (λ (t : List (List Entry) × List (List Entry)). Begins (t.0 ++ get_or bs i d ∷ []) t.1) (λ j. (append_assoc W (b ∷ []) (take i bs) j, append_assoc W (b ∷ []) bs j))
    (next-begins (W ++ b ∷ []) bs i d (omega (arith, few)))

pub next_batch : (W bs : List (List Entry)) (i : ℕ) (d : List Entry) → i < length bs → (W ++ take i bs) ++ get_or bs i d ∷ [] ≡ W ++ take (suc i) bs
next_batch W bs i d h = append_assoc W (take i bs) (get_or bs i d ∷ []) ∙ ap (λ (z : List (List Entry)). W ++ z) (sym (take-suc bs i d h))

front-long : (settings : Settings) (W more : List (List Entry)) → IsProper settings (journal_of W) → length (statics settings) ≤ count_of (W ++ more)
front-long settings W more proper =
    let enough = long-enough settings (journal_of W) proper in
    let same = journal-length W in
    let up = count-up W (W ++ more) (more, refl) in
    omega (arith, enough, same, up)

-- the batches before the next one
pub front-stands : (settings : Settings) (W bs : List (List Entry)) (i : ℕ) → IsProper settings (journal_of W) → IsProper settings (journal_of (W ++ bs)) → IsProper settings (journal_of (W ++ take i bs))
front-stands settings W bs i proper whole =
    front-proper settings (W ++ take i bs) (W ++ bs)
    (drop i bs, append_assoc W (take i bs) (drop i bs) ∙ ap (λ (z : List (List Entry)). W ++ z) (take-append-drop i bs))
    (front-long settings W (take i bs) proper) whole

-- and with it
pub batch-proper : (settings : Settings) (W bs : List (List Entry)) (i : ℕ) (d : List Entry) → IsProper settings (journal_of W) → IsProper settings (journal_of (W ++ bs)) → i < length bs
    → IsProper settings (extended (journal_of (W ++ take i bs)) (get_or bs i d))
batch-proper settings W bs i d proper whole few =
    let front : List (List Entry) = (W ++ take i bs) ++ get_or bs i d ∷ [] in
    let long = front-long settings W (take i bs ++ get_or bs i d ∷ []) proper in
    let same = append_assoc W (take i bs) (get_or bs i d ∷ []) in
    subst (IsProper settings) (journal-push (W ++ take i bs) (get_or bs i d))
    (front-proper settings front (W ++ bs) (next-begins W bs i d few) (subst (λ (z : List (List Entry)). length (statics settings) ≤ count_of z) (sym same) long) whole)
