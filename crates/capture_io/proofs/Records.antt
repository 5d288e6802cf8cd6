-- What a reader answers, by the octets that it read.
use Rattle.std.proofs.Common.{◌≡◌, ◌<◌, ◌≤◌, ℕ, List, [], ◌∷◌, take, drop, length, Option, Some, None, Ok, Err, refl, sym, ap, ◌∙◌, arith}
use Rattle.std.proofs.lemmas.List.{length-take, take_all}
use Rattle.std.specs.Option.{option_map, IfSome}
use Rattle.desk.specs.World.{World, left_of, after_read, Fills}
use Rattle.desk.proofs.Reading.{IfSome_both, left_on}
use Rattle.octets.proofs.RuleLemmas.{first_failing-append, first_failing-append_refused}
use Rattle.octets.specs.Rules.{first_failing}
use Rattle.capture_io.proofs.Fronts.{filled_front, header-take, format_of-take, head-take, kept-take, moment-take, passes}
use Rattle.capture_io.specs.Answers.{unless}
use Rattle.capture_io.specs.Capture.{header_rules, format_of, head_rules, body_rules, record_rules, frame, body, kept, moment, outcome}
use Rattle.capture_io.specs.Reading.{started, beginning}
use Rattle.capture_io.specs.declared.format.Format.{Format}
use Rattle.capture_io.specs.declared.position.Position.{Position}
use Rattle.capture_io.specs.declared.fault.CaptureFault.{CaptureFault}

-- a function may be applied to the value
pub unless_ok : {S T : Type 0} (o : Option CaptureFault) (f : S → T) (x y : S) → Ok x ≡ unless o y → Ok (f x) ≡ unless o (f y)
unless_ok None f x y e = let same : x ≡ y = cc in ap (λ z. Ok (f z)) same
unless_ok (Some fault) f x y e = cc

-- the fault stays, whatever is made of the value
pub unless_err : {S T : Type 0} (o : Option CaptureFault) (f : S → T) (fault : CaptureFault) (y : S) → Err fault ≡ unless o y → Err fault ≡ unless o (f y)
unless_err None f fault y e = cc
unless_err (Some other) f fault y e = let same : fault ≡ other = cc in ap Err same

-- the value is the one that was judged
pub unless_value : {T : Type 0} (o : Option CaptureFault) (x y : T) → Ok x ≡ unless o y → x ≡ y
unless_value None x y e = cc
unless_value (Some fault) x y e = cc

-- what the header says, in a buffer that holds it
pub header_read : (n : ℕ) (file buf : List ℕ) → length buf ≡ 24 → Fills file n buf
    → unless (first_failing (header_rules (take n buf))) (format_of (take n buf)) ≡ unless (first_failing (header_rules file)) (format_of file)
header_read n file buf len fills =
    ap (λ (x : List ℕ). unless (first_failing (header_rules x)) (format_of x)) (filled_front 24 n file buf len fills)
    ∙ ap (λ (o : Option CaptureFault). unless o (format_of (take 24 file))) (header-take file)
    ∙ ap (unless (first_failing (header_rules file))) (format_of-take file)

-- a header that breaks a rule
pub started_fault : (id n : ℕ) (file buf : List ℕ) (fault : CaptureFault) → length buf ≡ 24 → Fills file n buf
    → Err fault ≡ unless (first_failing (header_rules (take n buf))) (format_of (take n buf)) → Err fault ≡ started id file
started_fault id n file buf fault len fills is = unless_err (first_failing (header_rules file)) (beginning id) fault (format_of file) (is ∙ header_read n file buf len fills)

-- a header that breaks none
pub started_ok : (id n : ℕ) (file buf : List ℕ) (format : Format) → length buf ≡ 24 → Fills file n buf
    → Ok format ≡ unless (first_failing (header_rules (take n buf))) (format_of (take n buf)) → Ok (beginning id format) ≡ started id file
started_ok id n file buf format len fills is = unless_ok (first_failing (header_rules file)) (beginning id) format (format_of file) (is ∙ header_read n file buf len fills)

-- a record whose rules are judged, where something is left
outcome_some : (format : Format) (at : Position) (left : List ℕ) (r : Option CaptureFault) → 0 < length left → first_failing (record_rules format at left) ≡ r
    → outcome format at left ≡ unless r (Some (frame format at left (body format left)))
outcome_some format at [] r some e = absurd (omega arith)
outcome_some format at (x ∷ left) r some e = ap (λ (o : Option CaptureFault). unless o (Some (frame format at (x ∷ left) (body format (x ∷ left))))) e

-- what the rules of a record's header say of a buffer that holds it
head_read : (format : Format) (at : Position) (n : ℕ) (left buf : List ℕ) → length buf ≡ 16 → Fills left n buf
    → first_failing (head_rules format at (take n buf)) ≡ first_failing (head_rules format at left)
head_read format at n left buf len fills =
    ap (λ (x : List ℕ). first_failing (head_rules format at x)) (filled_front 16 n left buf len fills) ∙ head-take format at left

-- a header that breaks a rule
pub bad_head : (format : Format) (at : Position) (n : ℕ) (left buf : List ℕ) (fault : CaptureFault) → 0 < n → length buf ≡ 16 → Fills left n buf
    → first_failing (head_rules format at (take n buf)) ≡ Some fault → outcome format at left ≡ Err fault
bad_head format at n left buf fault some len fills is =
    let head = sym (head_read format at n left buf len fills) ∙ is in
    outcome_some format at left (Some fault) (omega (arith, fills.count)) (first_failing-append_refused (head_rules format at left) (body_rules format at left (body format left)) fault head)

-- all of a header was read, if it breaks no rule
pub all_read : (format : Format) (at : Position) (n : ℕ) (buf : List ℕ) → n ≤ length buf → length buf ≡ 16 → first_failing (head_rules format at (take n buf)) ≡ None → n ≡ 16
all_read format at n buf within len none = omega (arith, (passes format at (take n buf) none).head, length-take n buf)

-- a header that breaks none, and what came behind it
good_head : (format : Format) (at : Position) (n : ℕ) (left buf octets : List ℕ) → length buf ≡ 16 → Fills left n buf
    → first_failing (head_rules format at (take n buf)) ≡ None → octets ≡ take (kept format buf) (drop n left)
    → outcome format at left ≡ unless (first_failing (body_rules format at buf octets)) (Some (frame format at buf octets))
good_head format at n left buf octets len fills none is =
    let head : first_failing (head_rules format at left) ≡ None = sym (head_read format at n left buf len fills) ∙ none in
    let long = (passes format at left head).head in
    let all : n ≡ 16 = omega (arith, fills.count) in
    let front : buf ≡ take 16 left = sym (take_all n buf (omega arith)) ∙ filled_front 16 n left buf len fills in
    let size : kept format buf ≡ kept format left = ap (kept format) front ∙ kept-take format left in
    let when : moment format buf ≡ moment format left = ap (moment format) front ∙ moment-take format left in
    let what : octets ≡ body format left = is ∙ ap (λ (k : ℕ). take k (drop n left)) size ∙ ap (λ (k : ℕ). take (kept format left) (drop k left)) all in
    outcome_some format at left (first_failing (body_rules format at left (body format left))) (omega arith) (first_failing-append (head_rules format at left) (body_rules format at left (body format left)) head)
    ∙ rw (size, when, what) refl

-- the same over a desk that may tell its octets: the header was read before, and what came behind it after
pub record_read : (id n size : ℕ) (old mid : Option World) (format : Format) (at : Position) (buf octets : List ℕ) → length buf ≡ 16
    → first_failing (head_rules format at (take n buf)) ≡ None → size ≡ kept format buf → mid ≡ option_map (after_read id n) old
    → IfSome old (λ w. Fills (left_of id w) n buf) → IfSome mid (λ w. octets ≡ take size (left_of id w))
    → IfSome old (λ w. outcome format at (left_of id w) ≡ unless (first_failing (body_rules format at buf octets)) (Some (frame format at buf octets)))
record_read id n size old mid format at buf octets len none all told fills behind =
    IfSome_both old fills (left_on id n old mid (λ left. octets ≡ take size left) told behind) (λ w filled is.
    good_head format at n (left_of id w) buf octets len filled none (is ∙ ap (λ (k : ℕ). take k (drop n (left_of id w))) all))
