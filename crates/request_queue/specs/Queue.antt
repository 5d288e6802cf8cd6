-- Map-Requests that are open (RFC 9301, section 5.3).
use Rattle.std.specs.Prelude.{ℕ, suc, ◌==◌, ◌||◌, ◌&&◌, nat_lt, not, false, Bool, List, [], ◌∷◌, ◌++◌, count_by, filter, find, map, Option, None, Some, if◌then◌else◌}
use Rattle.std.specs.List.{list_any}
use Rattle.std.specs.Option.{option_map_or}
use Rattle.ip_headers.specs.declared.addr.Addr.{Addr}
use Rattle.lisp_settings.specs.declared.settings.LimitItem.{LimitItem}
use Rattle.mapping_records.specs.Eids.{covers_eid}
use Rattle.mapping_records.specs.declared.eid.Eid.{Eid}
use Rattle.router_log.specs.Moments.{younger}
use Rattle.request_queue.specs.Limits.{first_retry_seconds, last_retry_seconds, most_retries, request_seconds}
use Rattle.request_queue.specs.declared.request.Request.{Request}

-- whether a request is open: for so many seconds
abbrev pub is_waiting : ℕ → Request → Bool
is_waiting now request = younger now request_seconds request.start

-- whether a request is to be sent again: after some seconds, and once more after some more
abbrev pub due : ℕ → Request → Bool
due now request =
    (request.sent_again == 0) && not (younger now first_retry_seconds request.start) || (request.sent_again == 1) && not (younger now last_retry_seconds request.start)

-- a request that was sent once more
abbrev pub once_more : Request → Request
once_more request = record request { sent_again = suc request.sent_again }

-- ### lists of requests

-- how many requests are for EIDs of an instance
abbrev pub open_in : ℕ → List Request → ℕ
open_in iid requests = count_by (λ request. request.eid.iid == iid) requests

-- the requests that are open
abbrev pub waiting : ℕ → List Request → List Request
waiting now requests = filter (is_waiting now) requests

-- the request with that nonce
abbrev pub with_nonce : List Request → ℕ → Option Request
with_nonce requests nonce = find (λ request. request.nonce == nonce) requests

-- the requests with other nonces
abbrev pub without_nonce : ℕ → List Request → List Request
without_nonce nonce requests = filter (λ request. not (request.nonce == nonce)) requests

-- whether the EID of one of the requests covers this one
abbrev pub covered : List Request → Eid → Bool
covered requests eid = list_any (λ request. covers_eid request.eid eid) requests

-- the open requests, in the order in which they were made, behind a new one in place of the one with its nonce
abbrev pub asked : ℕ → Eid → Option Addr → Bool → ℕ → List Request → List Request
asked m eid source invoked nonce requests =
    without_nonce nonce (waiting m requests) ++ record { eid = eid; source = source; invoked = invoked; nonce = nonce; start = m; sent_again = 0 } ∷ []

-- the open requests that are to be sent again
abbrev pub all_due : ℕ → List Request → List Request
all_due m requests = filter (due m) (waiting m requests)

-- the requests behind the first one with that nonce, none where there is none
abbrev pub behind : ℕ → List Request → List Request
behind nonce [] = []
behind nonce (request ∷ others) = if request.nonce == nonce then others else behind nonce others

-- the requests made after the one with a nonce; without a nonce, all
abbrev pub asked_after : Option ℕ → List Request → List Request
asked_after None requests = requests
asked_after (Some nonce) requests = behind nonce requests

-- whether there is a request with that nonce, and it was sent again less often than is allowed
abbrev pub may_send_again : ℕ → List Request → Bool
may_send_again nonce requests = option_map_or (λ request. nat_lt request.sent_again most_retries) (with_nonce requests nonce) false

-- the requests, of which the one with that nonce was sent once more
abbrev pub sent_again : ℕ → List Request → List Request
sent_again nonce requests = map (λ request. if request.nonce == nonce then once_more request else request) requests

-- a queue as callers see it: its requests in the order in which they were made, how many more it has room for, for how
-- many keys it has place, how many items its lists have, and how many requests of each instance may be open
pub record Queue : Type 0 where
  pub requests : List Request
  pub spare : ℕ
  pub places : ℕ
  pub kept : ℕ
  pub limits : List LimitItem
