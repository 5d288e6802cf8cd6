-- A file that was opened, and read piece by piece.
use Rattle.std.proofs.Common.{◌≡◌, ℕ, ◌++◌, List, [], take, drop, Option, Some, None, sym, ap, subst, ◌∙◌, inl, inr, append_assoc}
use Rattle.std.specs.Option.{option_map, IfSome, IsSomeAnd, unwrap_or}
use Rattle.std.proofs.lemmas.List.{take-append-drop}
use Rattle.desk.specs.World.{World, found_at, left_of, content, after_open, after_read, Fills}
use Rattle.desk.proofs.Entries.{found_at-more}
use Rattle.desk.proofs.Reading.{left-after_read}
use Rattle.lisp_settings.specs.Settings.{settings_of}
use Rattle.lisp_settings.proofs.ReadingLemmas.{settings_of-long}
use Rattle.replay.specs.Readings.{ReadsAs}

-- what holds of what is left of a file that was opened holds of its content
pub opened_left : (id : ℕ) (name : List ℕ) (P : List ℕ → Type 0) (old mid : Option World) → IfSome old (λ w. found_at id w.readers ≡ None) → mid ≡ option_map (after_open id name) old
    → IfSome mid (λ w. P (left_of id w)) → IfSome old (λ w. P (content name w.files))
opened_left id name P None mid fresh opened h = tt
opened_left id name P (Some w) mid fresh opened h =
    let left : left_of id (after_open id name w) ≡ content name w.files = ap (λ (o : Option (List ℕ)). unwrap_or o []) (found_at-more id (content name w.files) w.readers fresh) in
    subst P left (subst (λ (t : Option World). IfSome t (λ v. P (left_of id v))) opened h)

-- these octets came of what was left of an id
abbrev pub Came : ℕ → List ℕ → Option World → Option World → Type 0
Came id octets None now = Unit {0}
Came id octets (Some w) now = IsSomeAnd now (λ v. left_of id w ≡ octets ++ left_of id v)

front_and_rest : (octets left : List ℕ) (n : ℕ) → octets ++ left ≡ (octets ++ take n left) ++ drop n left
front_and_rest octets left n = ap (λ (l : List ℕ). octets ++ l) (sym (take-append-drop n left)) ∙ sym (append_assoc octets (take n left) (drop n left))

-- one piece more
pub came-more : (id n : ℕ) (octets buf : List ℕ) (old mid now : Option World) → Came id octets old mid → IfSome mid (λ w. Fills (left_of id w) n buf) → now ≡ option_map (after_read id n) mid
    → Came id (octets ++ take n buf) old now
came-more id n octets buf None mid now came fills reads = tt
came-more id n octets buf (Some w) None now came fills reads = absurd came
came-more id n octets buf (Some w) (Some v) now came fills reads =
    rw reads (came ∙ front_and_rest octets (left_of id v) n ∙ ap (λ (l : List ℕ). (octets ++ l) ++ drop n (left_of id v)) (sym fills.octets) ∙ ap (λ (l : List ℕ). (octets ++ take n buf) ++ l) (sym (left-after_read id n v)))

-- what was read tells the settings of the file
pub settings_of-read : (octets text : List ℕ) → ReadsAs octets text → settings_of octets ≡ settings_of text
settings_of-read octets text (inl same) = ap settings_of same
settings_of-read octets text (inr (long, both)) = settings_of-long octets long ∙ sym (settings_of-long text both)
