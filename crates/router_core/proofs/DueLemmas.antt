-- Which changes of own locators are due at a second, since they ascend by second.
use Rattle.std.proofs.Common.{◌≡◌, ℕ, zero, suc, ◌==◌, ◌<◌, ◌≤◌, ◌||◌, nat_le, nat_lt, Bool, true, false, cond, List, [], ◌∷◌, drop, map, slice_get, Some, Ordering, Less, Equal, Greater, refl, sym, ap, ◌∙◌, arith}
use Rattle.std.proofs.lemmas.Bool.Decides.{nat_tests}
use Rattle.std.specs.List.{AllByRecursion}
use Rattle.std.specs.List.Sorted.{IsStrictlySortedBy}
use Rattle.std.specs.Ordering.{nat_cmp, ordering_then}
use Rattle.lisp_settings.specs.Changes.{change_key, change_order}
use Rattle.lisp_settings.specs.Lawful.{IsLawful}
use Rattle.lisp_settings.specs.declared.settings.Change.{Change as OwnChange}
use Rattle.lisp_settings.specs.declared.settings.Settings.{Settings}
use Rattle.router_log.specs.Moments.{seconds}
use Rattle.router_core.specs.Changing.{Ascend}
use Rattle.router_core.specs.Telling.{is_some_due}

-- ### lawful settings

-- what is less in an order of two parts isn't greater in the first
upto-first : (x y : ℕ) (o : Ordering) → ordering_then (nat_cmp x y) o ≡ Less → x ≤ y
upto-first x y o is = by (nat_lt x y) refl (x == y) refl is
  where
    by : (l : Bool) → nat_lt x y ≡ l → (e : Bool) → (x == y) ≡ e → ordering_then (cond l Less (cond e Equal Greater)) o ≡ Less → x ≤ y
    by true less e same is = grind (arith, nat_tests)
    by false less true same is = grind (arith, nat_tests)
    by false less false same is = cc

upto-all : (first : OwnChange) (others : List OwnChange) → AllByRecursion (λ key. change_order (change_key first) key ≡ Less) (map change_key others) → AllByRecursion (λ other. first.at ≤ other.at) others
upto-all first [] less = tt
upto-all first (other ∷ others) less = (upto-first first.at other.at _ less.0, upto-all first others less.1)

sorted-ascend : (changes : List OwnChange) → IsStrictlySortedBy change_order (map change_key changes) → Ascend changes
unfolding IsStrictlySortedBy
sorted-ascend [] sorted = tt
sorted-ascend (first ∷ others) sorted = (upto-all first others sorted.0, sorted-ascend others sorted.1)

drop-ascend : (n : ℕ) (changes : List OwnChange) → Ascend changes → Ascend (drop n changes)
drop-ascend zero changes ascend = ascend
drop-ascend (suc n) [] ascend = tt
drop-ascend (suc n) (first ∷ others) ascend = drop-ascend n others ascend.1

-- their changes ascend, and so do those that are left
pub lawful-ascend : (settings : Settings) (n : ℕ) → IsLawful settings → Ascend (drop n settings.changes)
lawful-ascend settings n lawful = drop-ascend n settings.changes (sorted-ascend settings.changes lawful.moments)

-- ### the first one tells

module _ (m : ℕ) where
  -- one that isn't due
  later : (change : OwnChange) → m < seconds change.at → nat_le (seconds change.at) m ≡ false
  later change after = not_yet (seconds change.at) after
    where
      not_yet : (n : ℕ) → m < n → nat_le n m ≡ false
      not_yet n less = grind (arith, nat_tests)

  -- behind one that isn't due none is
  none-behind : (first : OwnChange) (others : List OwnChange) → nat_le (seconds first.at) m ≡ false → AllByRecursion (λ other. first.at ≤ other.at) others → is_some_due m others ≡ false
  none-behind first [] after ascend = refl
  none-behind first (other ∷ others) after ascend =
      ap (λ b. b || is_some_due m others) (still first.at other.at after ascend.0) ∙ none-behind first others after ascend.1
    where
      still : (a b : ℕ) → nat_le (seconds a) m ≡ false → a ≤ b → nat_le (seconds b) m ≡ false
      still a b isn't less = grind (arith, nat_tests)

  -- so the first one is, if any is
  pub due-first : (changes : List OwnChange) (change : OwnChange) → Ascend changes → slice_get changes 0 ≡ Some change → nat_le (seconds change.at) m ≡ is_some_due m changes
  due-first [] change ascend is = absurd cc
  due-first (first ∷ others) change ascend is =
      ap (λ (o : OwnChange). nat_le (seconds o.at) m) (sym (same first change is)) ∙ by (nat_le (seconds first.at) m) refl
    where
      same : (a b : OwnChange) → Some a ≡ Some b → a ≡ b
      same a b is = cc

      by : (b : Bool) → nat_le (seconds first.at) m ≡ b → b ≡ (b || is_some_due m others)
      by true is = refl
      by false is = sym (none-behind first others is ascend.0)
