-- Lists of batches, the oldest first, each with its oldest entry first: the journal and the table that they make.
use Rattle.std.specs.Prelude.{◌≡◌, ℕ, List, [], ◌∷◌, ◌++◌, length, map, true}
use Rattle.lisp_settings.specs.declared.settings.Settings.{Settings}
use Rattle.router_log.specs.declared.entry.Entry.{Entry}
use Rattle.router_log.specs.declared.entry.Entry.TheVariants.{Learned}
use Rattle.router_model.specs.Journal.{Journal, extended}
use Rattle.router_model.specs.Parts.{Parts, parts_of, table}
use Rattle.router_model.specs.Sides.{joined, with_entries}

-- the static mappings, as a batch
abbrev pub first_batch : Settings → List Entry
first_batch settings = map (λ mapping. Learned 0 mapping true) settings.mappings

-- the static mappings, and batches behind them
abbrev pub batches_from : Settings → List (List Entry) → List (List Entry)
batches_from settings behind = first_batch settings ∷ behind

-- the journal of batches
abbrev pub journal_of : List (List Entry) → Journal
journal_of batches = extended [] (joined batches)

-- the number of entries of batches
abbrev pub count_of : List (List Entry) → ℕ
count_of batches = length (joined batches)

-- the parts of a table that began with the static mappings and absorbed batches
abbrev pub parts_from : Settings → List (List Entry) → Parts
parts_from settings behind = with_entries table (parts_of settings []) (joined behind)

module _ {A : Type 0} where
  -- the list `whole` begins with the list `front`
  abbrev pub Begins : List A → List A → Type 0
  Begins front whole = (rest : List A) × (front ++ rest ≡ whole)

  -- two lists go along one another: there is a list that begins with either
  abbrev pub Along : List A → List A → Type 0
  Along xs ys = (whole : List A) × Begins xs whole × Begins ys whole
