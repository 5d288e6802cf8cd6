-- The first in order of the addresses that are offered, a few at a time.
use Rattle.std.proofs.Common.{◌≡◌, ℕ, zero, suc, Bool, true, false, cond, List, [], ◌∷◌, ◌++◌, fold, take, refl, sym, ap, ◌∙◌, arith, is_lt}
use Rattle.std.proofs.lemmas.List.{take-take}
use Rattle.std.proofs.lemmas.List.Sums.{fold-append}
use Rattle.ip_headers.specs.declared.addr.Addr.{Addr}
use Rattle.mapping_records.specs.Eids.{same_address}
use Rattle.mapping_records.specs.Orders.{addr_order}
use Rattle.router_model.specs.Tick.{first_told, with_address}

-- the first ones with one more are among the first ones and that one
take-address : (n : ℕ) (address : Addr) (first : List Addr) → take n (with_address address first) ≡ take n (with_address address (take n first))
take-address zero address first = refl
take-address (suc n) address [] = refl
take-address (suc n) address (next ∷ others) = by (same_address address next) (is_lt (addr_order address next)) (take-address n address others)
  where
    behind : (n : ℕ) → take n (next ∷ others) ≡ take n (next ∷ take n others)
    behind zero = refl
    behind (suc k) = ap (λ l. next ∷ l) (sym (take-take k (suc k) others (omega arith)))

    by : (b c : Bool) → take n (with_address address others) ≡ take n (with_address address (take n others)) → take (suc n) (cond b (next ∷ others) (cond c (address ∷ next ∷ others) (next ∷ with_address address others))) ≡ take (suc n) (cond b (next ∷ take n others) (cond c (address ∷ next ∷ take n others) (next ∷ with_address address (take n others))))
    by true c h = ap (λ l. next ∷ l) (sym (take-take n n others (omega arith)))
    by false true h = ap (λ l. address ∷ l) (behind n)
    by false false h = ap (λ l. next ∷ l) h

-- all these put in their places
abbrev pub all_placed : List Addr → List Addr → List Addr
all_placed addresses first = fold (λ so_far address. with_address address so_far) first addresses

take-placed : (n : ℕ) (addresses first : List Addr) → take n (all_placed addresses first) ≡ take n (all_placed addresses (take n first))
take-placed n [] first = sym (take-take n n first (omega arith))
take-placed n (address ∷ others) first =
    take-placed n others (with_address address first)
    ∙ ap (λ l. take n (all_placed others l)) (take-address n address first)
    ∙ sym (take-placed n others (with_address address (take n first)))

-- the first ones, once one more was offered
pub told-with : (address : Addr) (first : List Addr) → first_told (with_address address first) ≡ first_told (with_address address (first_told first))
unfolding first_told
told-with address first = take-address 64 address first

-- some are offered, then others
pub told-append : (addresses others first : List Addr) → first_told (all_placed (addresses ++ others) first) ≡ first_told (all_placed others (first_told (all_placed addresses first)))
unfolding first_told
told-append addresses others first =
    ap (take 64) (fold-append (λ so_far address. with_address address so_far) first addresses others)
    ∙ take-placed 64 others (all_placed addresses first)
