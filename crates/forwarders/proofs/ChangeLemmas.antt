-- What changes make of a copy.
use Rattle.std.proofs.Common.{◌≡◌, true, List, [], ◌∷◌, ◌++◌, fold, refl, ap}
use Rattle.router_log.specs.declared.entry.Entry.{Entry}
use Rattle.router_model.specs.Parts.{absorbed}
use Rattle.forwarders.specs.declared.door.change.Change.{Change}
use Rattle.forwarders.specs.declared.door.change.Change.TheVariants.{Adds, Opens}
use Rattle.forwarders.specs.Publication.{Side}
use Rattle.forwarders.specs.Views.{changed, entries_of}

pub entries_push : (changes : List Change) (entry : Entry) → entries_of (changes ++ Adds entry ∷ []) ≡ entries_of changes ++ entry ∷ []
entries_push [] entry = refl
entries_push (Adds one ∷ changes) entry = ap (λ (l : List Entry). one ∷ l) (entries_push changes entry)
entries_push (Opens ∷ changes) entry = entries_push changes entry

pub changed-parts : (side : Side) (changes : List Change) → (fold changed side changes).parts ≡ fold absorbed side.parts (entries_of changes)
changed-parts side [] = refl
changed-parts side (Adds entry ∷ changes) = changed-parts (changed side (Adds entry)) changes
changed-parts side (Opens ∷ changes) = changed-parts (changed side Opens) changes

pub stays-open : (side : Side) (changes : List Change) → side.is_open ≡ true → (fold changed side changes).is_open ≡ true
stays-open side [] is = is
stays-open side (Adds entry ∷ changes) is = stays-open (changed side (Adds entry)) changes is
stays-open side (Opens ∷ changes) is = stays-open (changed side Opens) changes refl
