-- What a queue keeps true of its list.
use Rattle.std.specs.Prelude.{ℕ, ◌≤◌, ◌-◌, ◌==◌, ◌&&◌, ◌||◌, nat_lt, true, not, Bool, List, [], ◌∷◌}
use Rattle.std.specs.List.{list_all, list_any}
use Rattle.lisp_settings.specs.Instances.{requests_in}
use Rattle.lisp_settings.specs.declared.settings.LimitItem.{LimitItem}
use Rattle.request_queue.specs.Limits.{most_retries}
use Rattle.request_queue.specs.Queue.{due, open_in}
use Rattle.request_queue.specs.declared.request.Request.{Request}

-- whether a request isn't to be sent again before a moment
abbrev pub rests : ℕ → Request → Bool
rests wake request = not (due (wake - 1) request)

-- whether none of the requests is to be sent again before a moment
abbrev pub all_rest : ℕ → List Request → Bool
all_rest wake requests = list_all (rests wake) requests

-- whether one of the requests has that nonce
abbrev pub has_nonce : ℕ → List Request → Bool
has_nonce nonce requests = list_any (λ request. request.nonce == nonce) requests

-- whether no two requests have one nonce
abbrev pub are_distinct : List Request → Bool
are_distinct [] = true
are_distinct (request ∷ others) = not (has_nonce request.nonce others) && are_distinct others

-- whether each request with that nonce was sent again less often than is allowed
abbrev pub all_may_again : ℕ → List Request → Bool
all_may_again nonce requests = list_all (λ request. not (request.nonce == nonce) || nat_lt request.sent_again most_retries) requests

-- no instance has more requests than its limit
abbrev pub KeepsLimits : List LimitItem → List Request → Type 0
KeepsLimits limits requests = (iid : ℕ) → open_in iid requests ≤ requests_in limits iid
