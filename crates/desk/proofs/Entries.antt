-- Entries by id: what a change finds, and what it leaves.
use Rattle.std.proofs.Common.{◌≡◌, ℕ, List, [], ◌∷◌, ◌++◌, true, false, eqb, Some, None, is_some, refl, ap, inl, inr, arith}
use Rattle.std.specs.Option.{option_map}
use Rattle.std.proofs.lemmas.Bool.{cases_Bool}
use Rattle.std.proofs.lemmas.Grind.{common_steps}
use Rattle.desk.specs.World.{found_at, changed_at}

pub same_id : (id : ℕ) → eqb id id ≡ true
same_id id = grind (arith, common_steps)

-- two changes at one id are one change
pub changed_at-changed_at : {X : Type 0} (id : ℕ) (f g h : X → X) (entries : List (ℕ × X)) → ((x : X) → g (f x) ≡ h x)
    → changed_at id g (changed_at id f entries) ≡ changed_at id h entries
changed_at-changed_at id f g h [] same = refl
changed_at-changed_at id f g h (entry ∷ entries) same =
    elim (cases_Bool (eqb entry.0 id))
    [ inl e ↦ rw (e, e) (ap (λ x. (entry.0, x) ∷ entries) (same entry.1)) | inr e ↦ rw (e, e) (ap (λ rest. entry ∷ rest) (changed_at-changed_at id f g h entries same)) ]

-- a change that changes nothing
pub changed_at-same : {X : Type 0} (id : ℕ) (f : X → X) (entries : List (ℕ × X)) → ((x : X) → f x ≡ x) → changed_at id f entries ≡ entries
changed_at-same id f [] same = refl
changed_at-same id f (entry ∷ entries) same =
    elim (cases_Bool (eqb entry.0 id))
    [ inl e ↦ rw e (ap (λ x. (entry.0, x) ∷ entries) (same entry.1)) | inr e ↦ rw e (ap (λ rest. entry ∷ rest) (changed_at-same id f entries same)) ]

-- what stands there after a change
pub found_at-changed_at : {X : Type 0} (id : ℕ) (f : X → X) (entries : List (ℕ × X)) → found_at id (changed_at id f entries) ≡ option_map f (found_at id entries)
found_at-changed_at id f [] = refl
found_at-changed_at id f (entry ∷ entries) =
    elim (cases_Bool (eqb entry.0 id)) [ inl e ↦ rw (e, e) refl | inr e ↦ rw (e, e) (found_at-changed_at id f entries) ]

-- an entry more, under an id that had none
pub found_at-more : {X : Type 0} (id : ℕ) (x : X) (entries : List (ℕ × X)) → found_at id entries ≡ None → found_at id (entries ++ (id, x) ∷ []) ≡ Some x
found_at-more id x [] none = rw (same_id id) refl
found_at-more id x (entry ∷ entries) none =
    elim (cases_Bool (eqb entry.0 id))
    [ inl e ↦ (let some = rw e at none in cc) | inr e ↦ (let rest = rw e at none in rw e (found_at-more id x entries rest)) ]

-- a change of the entry that was added last
pub changed_at-more : {X : Type 0} (id : ℕ) (f : X → X) (x : X) (entries : List (ℕ × X)) → found_at id entries ≡ None → changed_at id f (entries ++ (id, x) ∷ []) ≡ entries ++ (id, f x) ∷ []
changed_at-more id f x [] none = rw (same_id id) refl
changed_at-more id f x (entry ∷ entries) none =
    elim (cases_Bool (eqb entry.0 id))
    [ inl e ↦ (let some = rw e at none in cc) | inr e ↦ (let rest = rw e at none in rw e (ap (λ more. entry ∷ more) (changed_at-more id f x entries rest))) ]

-- a change at an id that has no entry
pub changed_at-missing : {X : Type 0} (id : ℕ) (f : X → X) (entries : List (ℕ × X)) → is_some (found_at id entries) ≡ false → changed_at id f entries ≡ entries
changed_at-missing id f [] none = refl
changed_at-missing id f (entry ∷ entries) none =
    elim (cases_Bool (eqb entry.0 id))
    [ inl e ↦ (let some = rw e at none in cc) | inr e ↦ (let rest = rw e at none in rw e (ap (λ more. entry ∷ more) (changed_at-missing id f entries rest))) ]
