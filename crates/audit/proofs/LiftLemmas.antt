-- Numbers, each at its first place alone, with one more.
use Rattle.std.proofs.Common.{◌≡◌, ℕ, ◌≤◌, ◌<◌, ◌==◌, ◌||◌, not, nat_eq, nat_le, Bool, true, false, cond, List, [], ◌∷◌, ◌++◌, length, take, filter, filter_map, Option, Some, None, refl, sym, ap, ◌∙◌, arith, inl, inr, append-nil, length-append}
use Rattle.std.specs.List.{AllByRecursion, IsDistinct, cons_option}
use Rattle.std.proofs.lemmas.Bool.{cases_Bool, leb-true, leb-false, le-leb, lt-leb}
use Rattle.std.proofs.lemmas.Bool.Decides.{nat_tests}
use Rattle.std.proofs.lemmas.List.{length-take, take-append-le, take_all}
use Rattle.std.proofs.lemmas.List.Elements.{filter-append, filter_map-append}
use Rattle.capture_io.specs.Frame.{Frame}
use Rattle.lisp_settings.specs.declared.settings.Settings.{Settings}
use Rattle.audit.specs.Lifted.{each_once, is_among, lifted, lifted_on, with_nonce, with_number}
use Rattle.audit.specs.Limits.{most_lifted}
use Rattle.audit.specs.Requests.{sent_nonce}

-- what another number's places leave
among-others : (x n : ℕ) (ns : List ℕ) → (x == n) ≡ false → is_among n (filter (λ other. not (x == other)) ns) ≡ is_among n ns
among-others x n [] apart = refl
among-others x n (y ∷ ns) apart = by (x == y) refl (among-others x n ns apart)
  where
    by : (same : Bool) → (x == y) ≡ same → is_among n (filter (λ other. not (x == other)) ns) ≡ is_among n ns
        → is_among n (cond (not same) (y ∷ filter (λ other. not (x == other)) ns) (filter (λ other. not (x == other)) ns)) ≡ ((y == n) || is_among n ns)
    by true is rest =
        let other : (y == n) ≡ false = grind (arith, nat_tests, is, apart) in
        rw other rest
    by false is rest = ap (λ (among : Bool). (y == n) || among) rest

-- the same numbers
among-once : (n : ℕ) (ns : List ℕ) → is_among n (each_once ns) ≡ is_among n ns
among-once n [] = refl
among-once n (x ∷ ns) = by (x == n) refl (among-once n ns)
  where
    by : (same : Bool) → (x == n) ≡ same → is_among n (each_once ns) ≡ is_among n ns
        → (same || is_among n (filter (λ other. not (x == other)) (each_once ns))) ≡ (same || is_among n ns)
    by true is rest = refl
    by false is rest = among-others x n (each_once ns) is ∙ rest

-- one more number is new, or changes nothing
once-more : (n : ℕ) (ns : List ℕ) → each_once (ns ++ n ∷ []) ≡ cond (is_among n ns) (each_once ns) (each_once ns ++ n ∷ [])
once-more n [] = refl
once-more n (x ∷ ns) = ap (λ (others : List ℕ). x ∷ filter (λ other. not (x == other)) others) (once-more n ns) ∙ by (is_among n ns) (x == n) refl
  where
    by : (among same : Bool) → (x == n) ≡ same
        → x ∷ filter (λ other. not (x == other)) (cond among (each_once ns) (each_once ns ++ n ∷ []))
        ≡ cond (same || among) (x ∷ filter (λ other. not (x == other)) (each_once ns)) (x ∷ (filter (λ other. not (x == other)) (each_once ns) ++ n ∷ []))
    by true true is = refl
    by true false is = refl
    by false true is =
        ap (λ (others : List ℕ). x ∷ others)
        (filter-append (λ other. not (x == other)) (each_once ns) (n ∷ []) ∙ ap (λ (same : Bool). filter (λ other. not (x == other)) (each_once ns) ++ cond (not same) (n ∷ []) []) is
        ∙ append-nil (filter (λ other. not (x == other)) (each_once ns)))
    by false false is =
        ap (λ (others : List ℕ). x ∷ others)
        (filter-append (λ other. not (x == other)) (each_once ns) (n ∷ []) ∙ ap (λ (same : Bool). filter (λ other. not (x == other)) (each_once ns) ++ cond (not same) (n ∷ []) []) is)

-- where there are as many as may be, a further one changes nothing
full-more : (most n : ℕ) (ns : List ℕ) → most ≤ length ns → (among : Bool) → take most (cond among ns (ns ++ n ∷ [])) ≡ with_number most (take most ns) n
full-more most n ns full among =
    let stops : nat_le most (length (take most ns)) ≡ true = le-leb most (length (take most ns)) (omega (arith, full, length-take most ns)) in
    by among ∙ sym (ap (λ (test : Bool). cond (test || is_among n (take most ns)) (take most ns) (take most ns ++ n ∷ [])) stops)
  where
    by : (among : Bool) → take most (cond among ns (ns ++ n ∷ [])) ≡ take most ns
    by true = refl
    by false = take-append-le most ns (n ∷ []) full

-- where there are fewer, all are there
room-more : (most n : ℕ) (ns : List ℕ) → length ns < most → take most (cond (is_among n ns) ns (ns ++ n ∷ [])) ≡ with_number most (take most ns) n
room-more most n ns room =
    let whole : take most ns ≡ ns = take_all most ns (omega (arith, room)) in
    let goes : nat_le most (length ns) ≡ false = lt-leb most (length ns) (omega (arith, room)) in
    by (is_among n ns)
    ∙ sym (ap (λ (test : Bool). cond (test || is_among n ns) ns (ns ++ n ∷ [])) goes)
    ∙ sym (ap (λ (l : List ℕ). with_number most l n) whole)
  where
    by : (among : Bool) → take most (cond among ns (ns ++ n ∷ [])) ≡ cond among ns (ns ++ n ∷ [])
    by true = take_all most ns (omega (arith, room))
    by false = take_all most (ns ++ n ∷ []) (omega (arith, room, length-append ns (n ∷ [])))

-- one more number among the first
pub lifted-more : (most n : ℕ) (ns : List ℕ) → take most (each_once (ns ++ n ∷ [])) ≡ with_number most (take most (each_once ns)) n
lifted-more most n ns =
    ap (take most) (once-more n ns)
    ∙ elim (cases_Bool (nat_le most (length (each_once ns)))) [
      | inl full ↦ full-more most n (each_once ns) (leb-true most (length (each_once ns)) full) (is_among n ns)
      | inr room ↦ ap (λ (among : Bool). take most (cond among (each_once ns) (each_once ns ++ n ∷ []))) (sym (among-once n ns))
          ∙ room-more most n (each_once ns) (leb-false most (length (each_once ns)) room)
    ]

-- where none is the same, all stay
others-stay : (x : ℕ) (ns : List ℕ) → AllByRecursion (λ y. nat_eq x y ≡ false) ns → filter (λ other. not (x == other)) ns ≡ ns
others-stay x [] all = refl
others-stay x (y ∷ ns) all = rw all.0 (ap (λ (others : List ℕ). y ∷ others) (others-stay x ns all.1))

distinct-once : (ns : List ℕ) → IsDistinct nat_eq ns → each_once ns ≡ ns
unfolding IsDistinct
distinct-once [] apart = refl
distinct-once (x ∷ ns) apart =
    ap (λ (others : List ℕ). x ∷ filter (λ other. not (x == other)) others) (distinct-once ns apart.1) ∙ ap (λ (others : List ℕ). x ∷ others) (others-stay x ns apart.0)

-- numbers that differ, and are few, are all lifted
pub distinct-lifted : (most : ℕ) (ns : List ℕ) → IsDistinct nat_eq ns → length ns ≤ most → take most (each_once ns) ≡ ns
distinct-lifted most ns apart few = ap (take most) (distinct-once ns apart) ∙ take_all most ns few

-- what is lifted of one frame more
pub frames-more : (settings : Settings) (frames : List Frame) (frame : Frame) → lifted settings (frames ++ frame ∷ []) ≡ lifted_on settings (lifted settings frames) frame
frames-more settings frames frame =
    ap (λ (ns : List ℕ). take most_lifted (each_once ns)) (filter_map-append (sent_nonce settings) frames (frame ∷ [])) ∙ by (sent_nonce settings frame)
  where
    by : (o : Option ℕ) → take most_lifted (each_once (filter_map (sent_nonce settings) frames ++ cons_option o [])) ≡ with_nonce (lifted settings frames) o
    by None = ap (λ (ns : List ℕ). take most_lifted (each_once ns)) (append-nil (filter_map (sent_nonce settings) frames))
    by (Some nonce) = lifted-more most_lifted nonce (filter_map (sent_nonce settings) frames)
