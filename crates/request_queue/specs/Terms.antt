-- How requests of an instance are counted: by their terms, in order. No public clause cites this file.
use Rattle.std.specs.Prelude.{◌≡◌, ◌==◌, ◌&&◌, ◌||◌, ℕ, nat_lt, nat_le, not, Bool, List}
use Rattle.std.specs.Cmp.{IsTotalOrder}
use Rattle.std.specs.List.{list_any}
use Rattle.std.specs.Ordering.{is_eq, nat_cmp, ordering_then}
use Rattle.std.specs.declared.cmp.Ordering.{Ordering}
use Rattle.std.proofs.lemmas.Cmp.{nat_cmp_total, on_total, then_total}
use Rattle.ordered_set.specs.Keys.{has}
use Rattle.router_log.specs.Moments.{younger}
use Rattle.request_queue.specs.Limits.{request_seconds}
use Rattle.request_queue.specs.declared.request.Request.{Request}
use Rattle.request_queue.specs.declared.term.Term.{Term}

-- the term of a request
abbrev pub term_of : Request → Term
term_of request = record { iid = request.eid.iid; start = request.start; nonce = request.nonce }

-- by instance, then start, then nonce
abbrev pub term_order : Term → Term → Ordering
term_order a b = ordering_then (ordering_then (nat_cmp a.iid b.iid) (nat_cmp a.start b.start)) (nat_cmp a.nonce b.nonce)

pub term_order-total : IsTotalOrder term_order
term_order-total =
    then_total (then_total (on_total (λ term. term.iid) nat_cmp_total) (on_total (λ term. term.start) nat_cmp_total)) (on_total (λ term. term.nonce) nat_cmp_total)

-- one of the requests has that term
abbrev pub has_term : Term → List Request → Bool
has_term term requests = list_any (λ request. is_eq (term_order (term_of request) term)) requests

-- the terms are those of the requests
abbrev pub AreTerms : List Term → List Request → Type 0
AreTerms terms requests = (term : Term) → has term_order term terms ≡ has_term term requests

-- ### what stands before others

-- of a lesser instance, or of this one and waits no longer
abbrev pub is_past : ℕ → ℕ → Term → Bool
is_past now iid term = nat_lt term.iid iid || ((term.iid == iid) && not (younger now request_seconds term.start))

-- of this instance or a lesser one
abbrev pub is_upto : ℕ → Term → Bool
is_upto iid term = nat_le term.iid iid
