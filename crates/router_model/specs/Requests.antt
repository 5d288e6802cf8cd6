-- Map-Requests in the journal that wait for an answer.
use Rattle.std.specs.Prelude.{ℕ, ◌==◌, not, List, [], ◌∷◌, ◌++◌, filter, filter_map, option_map, Option, Some, None, if◌then◌else◌}
use Rattle.router_log.specs.declared.entry.Entry.{Entry}
use Rattle.router_log.specs.declared.entry.Entry.TheVariants.{Asked, Retried, Answered}
use Rattle.request_queue.specs.declared.request.Request.{Request}
use Rattle.router_model.specs.Journal.{Journal}
use Rattle.request_queue.specs.Queue.{is_waiting, once_more}
use Rattle.router_model.specs.Kept.{Kind, last_put}
use Rattle.locator_state.specs.Lists.{only_if}

-- the last request with that nonce in a journal, with how often it was sent again; None where an answer follows
abbrev pub unanswered : ℕ → Journal → Option Request
unanswered nonce [] = None
unanswered nonce (Answered moment answered ∷ before) = if answered == nonce then None else unanswered nonce before
unanswered nonce (Retried moment retried ∷ before) =
    if retried == nonce then option_map once_more (unanswered nonce before) else unanswered nonce before
unanswered nonce (Asked moment eid source invoked asked ∷ before) =
    if asked == nonce
    then Some (record { eid = eid; source = source; invoked = invoked; nonce = asked; start = moment; sent_again = 0 })
    else unanswered nonce before
unanswered nonce (_ ∷ before) = unanswered nonce before

-- the open request with that nonce in a journal at a moment
abbrev pub open_asked : ℕ → ℕ → Journal → Option Request
open_asked now nonce journal = only_if (is_waiting now) (unanswered nonce journal)

-- the nonces of all requests in a journal, each where it was last used, the oldest first
abbrev pub asked_nonces : Journal → List ℕ
asked_nonces [] = []
asked_nonces (Asked moment eid source invoked nonce ∷ before) = filter (λ other. not (other == nonce)) (asked_nonces before) ++ nonce ∷ []
asked_nonces (_ ∷ before) = asked_nonces before

-- the open requests in a journal at a moment, in asking order
abbrev pub open_requests : ℕ → Journal → List Request
open_requests now journal = filter_map (λ nonce. open_asked now nonce journal) (asked_nonces journal)

-- ### what a table keeps

-- the request that an entry begins
abbrev pub begun_request : Entry → Option Request
begun_request (Asked moment eid source invoked nonce) =
    Some (record { eid = eid; source = source; invoked = invoked; nonce = nonce; start = moment; sent_again = 0 })
begun_request _ = None

-- a request behind an entry: gone where its nonce is used anew or answered, counted where it is sent again
abbrev pub request_step : Entry → Request → Option Request
request_step (Asked moment eid source invoked nonce) request = if request.nonce == nonce then None else Some request
request_step (Answered moment nonce) request = if request.nonce == nonce then None else Some request
request_step (Retried moment nonce) request = Some (if request.nonce == nonce then once_more request else request)
request_step _ request = Some request

-- requests as a kind of kept item, in asking order
abbrev pub request_kind : Kind Entry Request
request_kind = record { begins = begun_request; step = request_step; put = last_put }
