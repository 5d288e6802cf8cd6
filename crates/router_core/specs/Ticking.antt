-- Requests that are sent again, and locators that are probed.
use Rattle.std.specs.Prelude.{◌≡◌, ℕ, ◌==◌, nat_lt, not, Bool, true, IsTrue, List, [], ◌∷◌, Some, is_some}
use Rattle.std.specs.List.{list_all}
use Rattle.lisp_settings.specs.declared.settings.Settings.{Settings}
use Rattle.locator_state.specs.declared.target.Target.{Target}
use Rattle.request_queue.specs.Limits.{most_retries}
use Rattle.request_queue.specs.Queue.{with_nonce}
use Rattle.request_queue.specs.declared.request.Request.{Request}
use Rattle.router_model.specs.Site.{ours}

-- a request may be sent again: it is the one with its nonce among those that wait, and was sent again less often than
-- it may be
pub record IsOwed (waits : List Request) (request : Request) : Type 0 where
  pub found : with_nonce waits request.nonce ≡ Some request
  pub again : nat_lt request.sent_again most_retries ≡ true

-- whether all these requests have other nonces
abbrev pub are_apart : ℕ → List Request → Bool
are_apart nonce requests = list_all (λ request. not (request.nonce == nonce)) requests

-- each of these requests may be sent again, and no two of them share a nonce
abbrev pub AreOwed : List Request → List Request → Type 0
AreOwed waits [] = Unit {0}
AreOwed waits (request ∷ others) =
    IsOwed waits request × ((are_apart request.nonce others ≡ true) × AreOwed waits others)

-- an own locator of the target's family is up
abbrev pub HasSender : Settings → Target → Type 0
HasSender settings target = IsTrue (is_some (ours settings.locators target.rloc))
