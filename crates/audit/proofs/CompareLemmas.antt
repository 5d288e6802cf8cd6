-- Packets that are expected one by one, and all together.
use Rattle.std.proofs.Common.{◌≡◌, ℕ, suc, ◌+◌, Bool, true, false, cond, List, [], ◌∷◌, ◌++◌, length, slice_get, Some, None, map, nat_lt, inl, inr, refl, sym, ap, subst, ◌∙◌, arith, bytes_eq}
use Rattle.std.proofs.lemmas.Bool.{cases_Bool, le-ltb, lt-ltb, ltb-false, ltb-true}
use Rattle.std.proofs.lemmas.Slice.Eq.{bytes_eq-Decides}
use Rattle.capture_io.specs.Frame.{Frame}
use Rattle.audit.specs.Compared.{all_expected, compared_behind, expected, finished, first_difference, IfSame}
use Rattle.audit.specs.Packets.{record_packet}
use Rattle.audit.specs.declared.outcome.Outcome.{Outcome}
use Rattle.audit.specs.declared.outcome.Outcome.TheVariants.{Same, Differs, Missing}

-- the first departure stays
differs-stays : (position place : ℕ) (packets : List (List ℕ)) (frames : List Frame) (more : Bool) → finished (all_expected (Differs position place) packets frames) more ≡ Differs position place
differs-stays position place [] frames more = refl
differs-stays position place (packet ∷ packets) [] more = differs-stays position place packets [] more
differs-stays position place (packet ∷ packets) (frame ∷ frames) more = differs-stays position place packets frames more

missing-stays : (position : ℕ) (packets : List (List ℕ)) (frames : List Frame) (more : Bool) → finished (all_expected (Missing position) packets frames) more ≡ Missing position
missing-stays position [] frames more = refl
missing-stays position (packet ∷ packets) [] more = missing-stays position packets [] more
missing-stays position (packet ∷ packets) (frame ∷ frames) more = missing-stays position packets frames more

-- one more on both sides
lesser : (m n : ℕ) → nat_lt m n ≡ nat_lt (suc m) (suc n)
lesser m n =
    elim (cases_Bool (nat_lt m n)) [
      | inl less ↦ less ∙ sym (lt-ltb (suc m) (suc n) (omega (arith, ltb-true m n less)))
      | inr more ↦ more ∙ sym (le-ltb (suc m) (suc n) (omega (arith, ltb-false m n more)))
    ]

-- from packets that are the same on, one by one as together
pub steps-compare : (n : ℕ) (packets : List (List ℕ)) (frames : List Frame)
    → finished (all_expected (Same n) packets frames) (nat_lt (length packets) (length frames)) ≡ compared_behind n packets frames
steps-compare n [] [] = refl
steps-compare n [] (frame ∷ frames) = ap (λ (more : Bool). finished (Same n) more) (lt-ltb 0 (suc (length frames)) (omega arith))
steps-compare n (packet ∷ packets) [] = missing-stays (n + 1) packets [] (nat_lt (suc (length packets)) 0)
steps-compare n (packet ∷ packets) (frame ∷ frames) =
    by (bytes_eq packet (record_packet frame)) (first_difference packet (record_packet frame)) (nat_lt (suc (length packets)) (suc (length frames)))
    (subst (λ (more : Bool). finished (all_expected (Same (n + 1)) packets frames) more ≡ compared_behind (n + 1) packets frames) (lesser (length packets) (length frames)) (steps-compare (n + 1) packets frames))
  where
    by : (test : Bool) (place : ℕ) (more : Bool)
        → finished (all_expected (Same (n + 1)) packets frames) more ≡ compared_behind (n + 1) packets frames
        → finished (all_expected (cond test (Same (n + 1)) (Differs (n + 1) place)) packets frames) more
        ≡ cond test (compared_behind (n + 1) packets frames) (Differs (n + 1) place)
    by true place more rest = rest
    by false place more rest = differs-stays (n + 1) place packets frames more

-- one packet more, with the record at its place
pub expected-more : (outcome : Outcome) (packets : List (List ℕ)) (packet : List ℕ) (frames : List Frame)
    → all_expected outcome (packets ++ packet ∷ []) frames ≡ expected (all_expected outcome packets frames) packet (slice_get frames (length packets))
expected-more outcome [] packet [] = refl
expected-more outcome [] packet (frame ∷ frames) = refl
expected-more outcome (first ∷ packets) packet [] = expected-more (expected outcome first None) packets packet []
expected-more outcome (first ∷ packets) packet (frame ∷ frames) = expected-more (expected outcome first (Some frame)) packets packet frames

-- behind a departure no packets are counted
differs-count : (position place m : ℕ) (packets : List (List ℕ)) (frames : List Frame) → IfSame (all_expected (Differs position place) packets frames) (λ n. n ≡ m)
differs-count position place m [] frames = tt
differs-count position place m (packet ∷ packets) [] = differs-count position place m packets []
differs-count position place m (packet ∷ packets) (frame ∷ frames) = differs-count position place m packets frames

missing-count : (position m : ℕ) (packets : List (List ℕ)) (frames : List Frame) → IfSame (all_expected (Missing position) packets frames) (λ n. n ≡ m)
missing-count position m [] frames = tt
missing-count position m (packet ∷ packets) [] = missing-count position m packets []
missing-count position m (packet ∷ packets) (frame ∷ frames) = missing-count position m packets frames

-- as long as all are the same, each counts
pub same-count : (m total : ℕ) (packets : List (List ℕ)) (frames : List Frame) → m + length packets ≡ total → IfSame (all_expected (Same m) packets frames) (λ n. n ≡ total)
same-count m total [] frames is = omega (arith, is)
same-count m total (packet ∷ packets) [] is = missing-count (m + 1) total packets []
same-count m total (packet ∷ packets) (frame ∷ frames) is =
    by (bytes_eq packet (record_packet frame)) (first_difference packet (record_packet frame)) (same-count (m + 1) total packets frames (omega (arith, is)))
  where
    by : (test : Bool) (place : ℕ) → IfSame (all_expected (Same (m + 1)) packets frames) (λ n. n ≡ total)
        → IfSame (all_expected (cond test (Same (m + 1)) (Differs (m + 1) place)) packets frames) (λ n. n ≡ total)
    by true place rest = rest
    by false place rest = differs-count (m + 1) place total packets frames

-- where all are the same, the packets are those of the records
pub same-equal : (n m : ℕ) (packets : List (List ℕ)) (frames : List Frame) → compared_behind n packets frames ≡ Same m → packets ≡ map record_packet frames
same-equal n m [] [] is = refl
same-equal n m [] (frame ∷ frames) is = cc
same-equal n m (packet ∷ packets) [] is = cc
same-equal n m (packet ∷ packets) (frame ∷ frames) is =
    by (bytes_eq packet (record_packet frame)) (bytes_eq-Decides packet (record_packet frame)).0 is (same-equal (n + 1) m packets frames)
  where
    by : (test : Bool) → (test ≡ true → packet ≡ record_packet frame)
        → cond test (compared_behind (n + 1) packets frames) (Differs (n + 1) (first_difference packet (record_packet frame))) ≡ Same m
        → (compared_behind (n + 1) packets frames ≡ Same m → packets ≡ map record_packet frames)
        → (packet ∷ packets) ≡ map record_packet (frame ∷ frames)
    by true equal is rest = rw (equal refl, rest is) refl
    by false equal is rest = cc

-- the packets of the records are all the same
pub equal-same : (n : ℕ) (frames : List Frame) → compared_behind n (map record_packet frames) frames ≡ Same (n + length frames)
equal-same n [] = ap Same (omega arith)
equal-same n (frame ∷ frames) =
    let octets = record_packet frame in
    let same : bytes_eq octets octets ≡ true = (bytes_eq-Decides octets octets).1 refl in
    ap (λ (test : Bool). cond test (compared_behind (n + 1) (map record_packet frames) frames) (Differs (n + 1) (first_difference octets octets))) same
    ∙ equal-same (n + 1) frames ∙ ap Same (omega arith)
