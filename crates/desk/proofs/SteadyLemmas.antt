-- A steady desk in memory: no call is to fail, and after each call it is steady.
use Rattle.std.proofs.Common.{◌≡◌, ℕ, ◌+◌, ◌-◌, ◌^◌, ◌≤◌, ◌==◌, List, [], ◌∷◌, Bool, true, false, not, ◌&&◌, ◌||◌, nat_le, nat_lt, Result, Ok, Err, IsErrOf, refl, sym, subst, arith}
use Rattle.std.specs.List.{list_all, list_any}
use Rattle.std.proofs.lemmas.Bool.{and_parts, false≢true}
use Rattle.std.proofs.lemmas.Bool.Decides.{nat_tests}
use Rattle.desk.specs.Causes.{StaysSteady}
use Rattle.desk.specs.Memory.{Memory, Answers, counted, is_steady, is_to_fail, called}
use Rattle.desk.specs.Shelf.{Shelf}
use Rattle.desk.specs.declared.fault.DeskFault.{DeskFault}
use Rattle.desk.specs.declared.fault.DeskFault.TheVariants.{Failed, Memory as NoMemory}

later : (n m : ℕ) (fails : List ℕ) → n ≤ m → list_all (λ call. nat_le call n) fails ≡ true → list_all (λ call. nat_le call m) fails ≡ true
later n m [] le all = refl
later n m (call ∷ fails) le all =
    let (first, rest) = and_parts (nat_le call n) (list_all (λ x. nat_le x n) fails) all in
    let below : nat_le call m ≡ true = grind (arith, nat_tests) in
    rw (below, later n m fails le rest) refl

none_next : (n : ℕ) (fails : List ℕ) → list_all (λ call. nat_le call n) fails ≡ true → list_any (λ call. call == n + 1) fails ≡ false
none_next n [] all = refl
none_next n (call ∷ fails) all =
    let (first, rest) = and_parts (nat_le call n) (list_all (λ x. nat_le x n) fails) all in
    let other : (call == n + 1) ≡ false = grind (arith, nat_tests) in
    rw (other, none_next n fails rest) refl

counted-later : (n : ℕ) → n ≤ counted n
counted-later n = grind (arith, nat_tests)

and_false : (a : Bool) → (a && false) ≡ false
and_false true = refl
and_false false = refl

-- on a steady desk no call is to fail
pub never_fails : (d : Memory) → is_steady d ≡ true → is_to_fail d ≡ false
never_fails d steady = rw (none_next d.calls d.fails steady) (and_false (nat_lt d.calls (2 ^ 64 - 1)))

stays : {T : Type 0} (result : Result T DeskFault) (shelf : Shelf) (d : Memory) → is_steady d ≡ true → is_steady (called result shelf d) ≡ true
stays (Ok value) shelf d steady = later d.calls (counted d.calls) d.fails (counted-later d.calls) steady
stays (Err Failed) shelf d steady = later d.calls (counted d.calls) d.fails (counted-later d.calls) steady
stays (Err NoMemory) shelf d steady = later d.calls (counted d.calls) d.fails (counted-later d.calls) steady

fails : {T : Type 0} (b : Bool) (result : Result T DeskFault) → Answers b result → IsErrOf result Failed → b ≡ true
fails b (Ok value) answers failed = cc
fails b (Err Failed) answers failed = answers
fails b (Err NoMemory) answers failed = cc

-- a call that never fails on a steady desk where it is owed
pub steady-owed : {T : Type 0} (owed : Type 0) (result : Result T DeskFault) (shelf : Shelf) (d new : Memory) → new ≡ called result shelf d
    → (is_steady d ≡ true → owed → IsErrOf result Failed → ⊥) → StaysSteady (is_steady d) (is_steady new) owed (IsErrOf result Failed)
steady-owed owed result shelf d new is never = record {
  stays = λ steady. subst (λ (m : Memory). is_steady m ≡ true) (sym is) (stays result shelf d steady);
  done = never;
}

-- a call on what is there
pub steady-named : {T : Type 0} (named : Bool) (owed : Type 0) (result : Result T DeskFault) (shelf : Shelf) (d new : Memory) → (owed → named ≡ true)
    → new ≡ called result shelf d → Answers (is_to_fail d || not named) result → StaysSteady (is_steady d) (is_steady new) owed (IsErrOf result Failed)
steady-named named owed result shelf d new there is answers = record {
  stays = λ steady. subst (λ (m : Memory). is_steady m ≡ true) (sym is) (stays result shelf d steady);
  done = λ steady due failed. false≢true (rw (never_fails d steady, there due) at (fails (is_to_fail d || not named) result answers failed));
}

-- a call that needs nothing
pub steady-plain : {T : Type 0} (result : Result T DeskFault) (shelf : Shelf) (d new : Memory) → new ≡ called result shelf d → Answers (is_to_fail d) result
    → StaysSteady (is_steady d) (is_steady new) Unit (IsErrOf result Failed)
steady-plain result shelf d new is answers = record {
  stays = λ steady. subst (λ (m : Memory). is_steady m ≡ true) (sym is) (stays result shelf d steady);
  done = λ steady due failed. false≢true (rw (never_fails d steady) at (fails (is_to_fail d) result answers failed));
}
