-- One more file of the host, and a file that was used.
use Rattle.std.proofs.Common.{◌≡◌, ◌<◌, ℕ, zero, suc, ◌+◌, List, [], ◌∷◌, ◌++◌, length, get_or, eqb, false, None, refl, ap, ◌∙◌, arith}
use Rattle.std.proofs.lemmas.Grind.{common_steps}
use Rattle.desk.specs.World.{found_at}
use Rattle.std.proofs.Math.ListN.{set}
use Rattle.desk.specs.Host.{given_by_host, host_direction}
use Rattle.desk.specs.declared.host.HostFile.{HostFile}

other : (k id : ℕ) → k < id → eqb k id ≡ false
other k id lt = grind (arith, common_steps)

pub given-more : {I O : Type 0} (k : ℕ) (files : List (HostFile I O)) (file : HostFile I O)
    → given_by_host k (files ++ file ∷ []) ≡ given_by_host k files ++ (k + length files, host_direction file) ∷ []
given-more k [] file = ap (λ (n : ℕ). (n, host_direction file) ∷ []) (omega arith)
given-more k (x ∷ files) file =
    ap (λ rest. (k, host_direction x) ∷ rest) (given-more (suc k) files file ∙ ap (λ (n : ℕ). given_by_host (suc k) files ++ (n, host_direction file) ∷ []) (omega arith))

pub given-first : {I O : Type 0} (files : List (HostFile I O)) (file : HostFile I O)
    → given_by_host 0 (files ++ file ∷ []) ≡ given_by_host 0 files ++ (length files, host_direction file) ∷ []
given-first files file = given-more 0 files file ∙ ap (λ (n : ℕ). given_by_host 0 files ++ (n, host_direction file) ∷ []) (omega arith)

pub given-set : {I O : Type 0} (k : ℕ) (files : List (HostFile I O)) (i : ℕ) (old new : HostFile I O) → old ≡ get_or files i old → host_direction new ≡ host_direction old
    → given_by_host k (set files i new) ≡ given_by_host k files
given-set k [] i old new is kind = refl
given-set k (x ∷ files) zero old new is kind = ap (λ d. (k, d) ∷ given_by_host (suc k) files) (kind ∙ ap host_direction is)
given-set k (x ∷ files) (suc i) old new is kind = ap (λ rest. (k, host_direction x) ∷ rest) (given-set (suc k) files i old new is kind)

pub ruleset on_host_give = (given-first)

-- the number of the next file wasn't given
fresh-from : {I O : Type 0} (k id : ℕ) (files : List (HostFile I O)) → id ≡ k + length files → found_at id (given_by_host k files) ≡ None
fresh-from k id [] is = refl
fresh-from k id (x ∷ files) is = rw (other k id (omega arith)) (fresh-from (suc k) id files (omega arith))

pub given-fresh : {I O : Type 0} (files : List (HostFile I O)) (id : ℕ) → id ≡ length files → found_at id (given_by_host 0 files) ≡ None
given-fresh files id is = fresh-from 0 id files (omega arith)
