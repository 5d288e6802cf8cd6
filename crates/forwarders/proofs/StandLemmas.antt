-- What batches make of the parts of a journal stands for their journal.
use Rattle.std.proofs.Common.{◌≡◌, IsTrue, List, [], ◌∷◌, ◌++◌, fold, sym, refl, ap, ◌∙◌, subst, append-nil}
use Rattle.std.proofs.lemmas.List.{append_cancel_right}
use Rattle.lisp_settings.specs.declared.settings.Settings.{Settings}
use Rattle.router_log.specs.declared.entry.Entry.{Entry}
use Rattle.router_model.specs.Journal.{Journal, extended, statics}
use Rattle.router_model.specs.Parts.{Parts, Stands, absorbed, parts_in, parts_of, table}
use Rattle.router_model.specs.Proper.{IsProper, fits}
use Rattle.router_model.specs.Sides.{joined, with_entries}
use Rattle.router_model.proofs.GrowLemmas.{with-more}
use Rattle.router_model.proofs.SideLemmas.{extended-more}
use Rattle.router_model.proofs.StandsLemmas.{all-absorbed, proper-with}
use Rattle.forwarders.specs.Batches.{batches_from, count_of, first_batch, journal_of, parts_from}
use Rattle.forwarders.proofs.BatchLemmas.{joined-push, journal-length}

-- the static mappings are the journal of the first batch
pub journal-first : (settings : Settings) → journal_of (batches_from settings []) ≡ statics settings
journal-first settings = ap (extended []) (append-nil (first_batch settings))

-- further entries stand before what was there
extended-front : (before entries : Journal) (more : List Entry) → extended (entries ++ before) more ≡ extended entries more ++ before
extended-front before entries [] = refl
extended-front before entries (entry ∷ more) = extended-front before (entry ∷ entries) more

parts-extended : (settings : Settings) (entries : Journal) (more : List Entry) → parts_of settings (extended entries more) ≡ with_entries table (parts_of settings entries) more
parts-extended settings entries [] = refl
parts-extended settings entries (entry ∷ more) = parts-extended settings (entry ∷ entries) more

journal-from : (settings : Settings) (behind : List (List Entry)) → journal_of (batches_from settings behind) ≡ extended [] (joined behind) ++ statics settings
journal-from settings behind =
    extended-more [] (first_batch settings) (joined behind) ∙ extended-front (statics settings) [] (joined behind)

-- parts that batches made stand for the journal of the batches, where it is proper
pub made-stand : (settings : Settings) (behind : List (List Entry)) (parts : Parts) → IsProper settings (journal_of (batches_from settings behind)) → parts ≡ parts_from settings behind → Stands settings parts (journal_of (batches_from settings behind))
made-stand settings behind parts proper made =
    let entries : List Entry = extended [] (joined behind) in
    let same : proper.entries ≡ entries = append_cancel_right proper.entries entries (statics settings) (sym proper.whole ∙ journal-from settings behind) in
    record {
      proper = proper;
      whole = made ∙ (sym (parts-extended settings [] (joined behind))
          ∙ (ap (parts_of settings) (sym same)
          ∙ (all-absorbed settings proper.entries proper.may proper.fit ∙ ap (parts_in settings) (sym proper.whole))));
    }

-- one batch more
pub parts-push : (settings : Settings) (behind : List (List Entry)) (batch : List Entry) → parts_from settings (behind ++ batch ∷ []) ≡ fold absorbed (parts_from settings behind) batch
parts-push settings behind batch =
    ap (with_entries table (parts_of settings [])) (joined-push behind batch) ∙ with-more table (parts_of settings []) (joined behind) batch

-- one entry more, which fits
pub proper-push : (settings : Settings) (journal : Journal) (entries : List Entry) (entry : Entry) → IsProper settings (extended journal entries) → IsTrue (fits settings (extended journal entries) entry) → IsProper settings (extended journal (entries ++ entry ∷ []))
proper-push settings journal entries entry proper fit =
    subst (IsProper settings) (sym (extended-more journal entries (entry ∷ []))) (proper-with settings (extended journal entries) entry proper fit)

-- the count of a table that stands for batches
pub count-stands : (settings : Settings) (parts : Parts) (batches : List (List Entry)) → Stands settings parts (journal_of batches) → parts.count ≡ count_of batches
count-stands settings parts batches stands = ap (λ (p : Parts). p.count) stands.whole ∙ journal-length batches
