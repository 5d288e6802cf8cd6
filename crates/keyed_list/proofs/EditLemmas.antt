-- An item that is put into a list, or set in it.
use Rattle.std.proofs.Common.{◌≡◌, ℕ, zero, suc, ◌≤◌, ◌||◌, Bool, List, [], ◌∷◌, drop, insert, length, map, remove, slice_get, slice_set, Some, inr, refl, sym, ap, ap₂, ◌∙◌, arith}
use Rattle.std.specs.List.{list_any}
use Rattle.std.proofs.lemmas.List.{map-id}
use Rattle.std.proofs.lemmas.Option.{same_Some}
use Rattle.keyed_list.proofs.AmongLemmas.{Among}

module _ {A : Type 0} where
  pub insert-at : (items : List A) (place : ℕ) (x : A) → place ≤ length items → slice_get (insert items place x) place ≡ Some x
  insert-at items zero x within = refl
  insert-at [] (suc place) x within = absurd (omega (arith, within))
  insert-at (y ∷ items) (suc place) x within = insert-at items place x (omega (arith, within))

  pub insert-behind : (items : List A) (place : ℕ) (x y : A) → Among y (drop (suc place) (insert items place x)) → Among y items
  insert-behind [] zero x y among = among
  insert-behind [] (suc place) x y among = among
  insert-behind (z ∷ items) zero x y among = among
  insert-behind (z ∷ items) (suc place) x y among = inr (insert-behind items place x y among)

  pub set-at : (items : List A) (place : ℕ) (x y : A) → slice_get items place ≡ Some x → slice_get (slice_set items place y) place ≡ Some y
  set-at [] place x y at = absurd (cc at)
  set-at (z ∷ items) zero x y at = refl
  set-at (z ∷ items) (suc place) x y at = set-at items place x y at

  pub set-behind : (items : List A) (place : ℕ) (x y : A) → Among y (drop (suc place) (slice_set items place x)) → Among y (drop (suc place) items)
  set-behind [] zero x y among = among
  set-behind [] (suc place) x y among = among
  set-behind (z ∷ items) zero x y among = among
  set-behind (z ∷ items) (suc place) x y among = set-behind items place x y among

pub any-set : {A : Type 0} (test : A → Bool) (items : List A) (place : ℕ) (x y : A) → slice_get items place ≡ Some x → test y ≡ test x → list_any test (slice_set items place y) ≡ list_any test items
any-set test [] place x y at same = absurd (cc at)
any-set test (z ∷ items) zero x y at same = ap (λ b. b || list_any test items) (same ∙ ap test (sym (same_Some z x at)))
any-set test (z ∷ items) (suc place) x y at same = ap (λ b. test z || b) (any-set test items place x y at same)

-- ### what is made of items

pub map-same : {A B : Type 0} (f g : A → B) (items : List A) → ((k : ℕ) (z : A) → slice_get items k ≡ Some z → f z ≡ g z) → map f items ≡ map g items
map-same f g [] each = refl
map-same f g (x ∷ items) each = ap₂ (λ a b. a ∷ b) (each 0 x refl) (map-same f g items (λ k z at. each (suc k) z at))

pub set-map : {A B : Type 0} (f g : A → B) (items : List A) (place : ℕ) (y : B) → ((z : A) → slice_get items place ≡ Some z → y ≡ g z)
    → ((k : ℕ) (z : A) → slice_get items k ≡ Some z → (k ≡ place → ⊥) → f z ≡ g z) → slice_set (map f items) place y ≡ map g items
set-map f g [] zero y here others = refl
set-map f g [] (suc place) y here others = refl
set-map f g (x ∷ items) zero y here others =
    ap₂ (λ a b. a ∷ b) (here x refl) (map-same f g items (λ k z at. others (suc k) z at (λ e. absurd (omega (arith, e)))))
set-map f g (x ∷ items) (suc place) y here others =
    ap₂ (λ a b. a ∷ b) (others 0 x refl (λ e. absurd (omega (arith, e)))) (set-map f g items place y here (λ k z at apart. others (suc k) z at (λ e. apart (omega (arith, e)))))

-- where each item stays
pub map-stays : {A : Type 0} (f : A → A) (items : List A) → ((k : ℕ) (x : A) → slice_get items k ≡ Some x → f x ≡ x) → map f items ≡ items
map-stays f items each = map-same f (λ x. x) items each ∙ map-id items

pub map-remove : {A B : Type 0} (f : A → B) (items : List A) (place : ℕ) → map f (remove items place) ≡ remove (map f items) place
map-remove f [] zero = refl
map-remove f [] (suc place) = refl
map-remove f (y ∷ items) zero = refl
map-remove f (y ∷ items) (suc place) = ap (λ more. f y ∷ more) (map-remove f items place)
