-- Decisions by published batches, and by a round's.
use Rattle.std.proofs.Common.{◌≡◌, ⊎_elim, ℕ, ◌≤◌, List, [], ◌++◌, length, take, drop, sym, ap, ◌∙◌, subst, append_assoc}
use Rattle.std.proofs.Math.Seq.{take-append_seam}
use Rattle.std.proofs.lemmas.List.{append_cancel_left}
use Rattle.capture_io.specs.Frame.{Frame}
use Rattle.lisp_settings.specs.declared.settings.Settings.{Settings}
use Rattle.router_log.specs.declared.decision.Decision.{Decision}
use Rattle.router_log.specs.declared.entry.Entry.{Entry}
use Rattle.router_model.specs.Changes.{journal as of_journal}
use Rattle.router_model.specs.Decide.{decide, decide_by}
use Rattle.router_model.specs.Journal.{Journal, extended}
use Rattle.router_model.specs.Parts.{Parts, Stands, standing_in, table, view_in}
use Rattle.router_model.specs.Sharing.{filled, opening, parts_after}
use Rattle.router_model.specs.Sides.{Writing, joined, writing}
use Rattle.router_model.proofs.FollowLemmas.{table-decides}
use Rattle.router_model.proofs.ShareLemmas.{batches-stand, table-writes}
use Rattle.router_model.proofs.SideLemmas.{extended-more, filled-behind, opening-within}
use Rattle.forwarders.specs.declared.door.looks.Forwarded.{Forwarded}
use Rattle.forwarders.specs.Batches.{Begins, count_of, journal_of}
use Rattle.forwarders.specs.Deciding.{Decides, IsDecided}
use Rattle.forwarders.specs.Ruling.{DecidedAreRuled, first_of_round}
use Rattle.forwarders.proofs.BatchLemmas.{begins-either, begins-self, joined-append, joined-filled, journal-length}
use Rattle.forwarders.proofs.LookLemmas.{no-more}

-- ### by what is published

decided-at : (settings : Settings) (first front published : List (List Entry)) (frame : Frame) (n : ℕ) (d : Decision) → Begins first front → Begins front published → n ≡ count_of front → d ≡ decide settings (journal_of front) frame.moment frame
    → IsDecided settings first published frame (record { n = n; decision = d })
decided-at settings first front published frame n d after within count is =
    record { front = front; after = after; within = within; is = λ i. record { n = count i; decision = is i } }

-- what a forwarder decided by a list that isn't ahead of what is published
pub decided_by : (settings : Settings) (first published : List (List Entry)) (frame : Frame) (f : Forwarded) → Begins first published → f.look ≤ count_of published → Decides settings first published frame f
    → IsDecided settings first published frame (record { n = f.look; decision = f.decision })
decided_by settings first published frame f begins few decided =
    let seen : List (List Entry) = decided.seen in
    ⊎_elim
    (λ (t : Begins seen published). decided-at settings first seen published frame f.look f.decision decided.rises t decided.count decided.decision)
    (λ (t : Begins published seen).
    let parts : joined seen ≡ joined published ++ joined t.0 = ap joined (sym t.1) ∙ joined-append published t.0 in
    let le : length (joined published ++ joined t.0) ≤ length (joined published) = subst (λ (k : ℕ). k ≤ length (joined published)) (decided.count ∙ ap length parts) few in
    let same : joined seen ≡ joined published = parts ∙ no-more (joined published) (joined t.0) le in
    decided-at settings first published published frame f.look f.decision begins (begins-self published) (decided.count ∙ ap length same)
    (decided.decision ∙ ap (λ (es : List Entry). decide settings (extended [] es) frame.moment frame) same))
    (begins-either seen published decided.along.0 decided.along.1 decided.along.2)

-- what is decided by all that is published
pub decided_last : (settings : Settings) (first published : List (List Entry)) (frame : Frame) (n : ℕ) (d : Decision) → Begins first published → n ≡ count_of published → d ≡ decide settings (journal_of published) frame.moment frame
    → IsDecided settings first published frame (record { n = n; decision = d })
decided_last settings first published frame n d begins count is = decided-at settings first published published frame n d begins (begins-self published) count is

-- ### by the batches of a round

pub decided-are-ruled : DecidedAreRuled
decided-are-ruled settings parts before m events frame one stands may decided =
    let batches : List (List Entry) = (writing table settings parts events).batches in
    let o : ℕ = opening events in
    let first : List (List Entry) = first_of_round before batches o in
    let rest : List (List Entry) = filled (drop o batches) in
    let front : List (List Entry) = decided.front in
    let more : List (List Entry) = decided.after.0 in
    let both : first ++ (more ++ decided.within.0) ≡ first ++ rest =
    sym (append_assoc first more decided.within.0) ∙ (ap (λ (l : List (List Entry)). l ++ decided.within.0) decided.after.1 ∙ decided.within.1) in
    let left : more ++ decided.within.0 ≡ rest = append_cancel_left first (more ++ decided.within.0) rest both in
    let taken : take (length more) rest ≡ more = ap (λ (l : List (List Entry)). take (length more) l) (sym left) ∙ take-append_seam more decided.within.0 in
    let behind = filled-behind batches o (length more) (opening-within table settings parts events) in
    let k : ℕ = behind.0 in
    let seen : joined (take o batches) ++ joined more ≡ joined (take k batches) =
    ap (λ (l : List (List Entry)). joined (take o batches) ++ joined l) (sym taken) ∙ behind.1.1 in
    let all : joined front ≡ joined before ++ joined (take k batches) =
    ap joined (sym decided.after.1) ∙ (joined-append first more
    ∙ (ap (λ (l : List Entry). l ++ joined more) (joined-append before (filled (take o batches)))
    ∙ (append_assoc (joined before) (joined (filled (take o batches))) (joined more)
    ∙ (ap (λ (l : List Entry). joined before ++ (l ++ joined more)) (joined-filled (take o batches))
    ∙ ap (λ (l : List Entry). joined before ++ l) seen)))) in
    let journal : Journal = extended (journal_of before) (joined (take k batches)) in
    let is : journal_of front ≡ journal = ap (extended []) all ∙ extended-more [] (joined before) (joined (take k batches)) in
    let writes = table-writes settings parts (journal_of before) m events stands may in
    let same : batches ≡ (writing of_journal settings (journal_of before) events).batches = ap (λ (w : Writing Parts). w.batches) writes.0 in
    let after : Parts = parts_after parts batches k in
    let stood : Stands settings after journal =
    subst (λ (l : List (List Entry)). Stands settings after (extended (journal_of before) (joined (take k l)))) (sym same) (batches-stand settings parts (journal_of before) m events k stands may) in
    let count : count_of front ≡ after.count = sym (journal-length front) ∙ (ap (λ (j : Journal). length j) is ∙ sym (ap (λ (p : Parts). p.count) stood.whole)) in
    let decision : decide settings (journal_of front) frame.moment frame ≡ decide_by (standing_in settings after) (view_in after frame.moment) frame =
    ap (λ (j : Journal). decide settings j frame.moment frame) is ∙ sym (table-decides settings after journal frame.moment frame stood) in
    record { k = k; late = behind.1.0; is = decided.is ∙ (λ i. record { n = count i; decision = decision i }) }
