-- The nonces of a router's own Map-Requests, lifted out of a capture of what it sent.
use Rattle.std.specs.Prelude.{◌≡◌, ℕ, ◌==◌, ◌||◌, not, nat_le, Bool, List, [], ◌∷◌, ◌++◌, length, take, filter, filter_map, Option, Some, None, if◌then◌else◌}
use Rattle.std.specs.List.{list_any}
use Rattle.std.specs.Ordering.{is_eq, nat_cmp}
use Rattle.capture_io.specs.Frame.{Frame}
use Rattle.lisp_settings.specs.declared.settings.Settings.{Settings}
use Rattle.audit.specs.Limits.{most_lifted}
use Rattle.audit.specs.Requests.{sent_nonce}

-- a list of numbers, each at its first place alone
abbrev pub each_once : List ℕ → List ℕ
each_once [] = []
each_once (n ∷ ns) = n ∷ filter (λ other. not (n == other)) (each_once ns)

-- the nonces of the Map-Requests that the router sent in frames, each once at its first place, and at most the first
-- `most_lifted` (this router's choice)
abbrev pub lifted : Settings → List Frame → List ℕ
lifted settings frames = take most_lifted (each_once (filter_map (sent_nonce settings) frames))

-- ### one by one

-- whether a number is in a list
abbrev pub is_among : ℕ → List ℕ → Bool
is_among n ns = list_any (λ other. other == n) ns

-- a list with one number more, unless the number is in it, or it has `most` numbers
abbrev pub with_number : ℕ → List ℕ → ℕ → List ℕ
with_number most ns n = if nat_le most (length ns) || is_among n ns then ns else ns ++ n ∷ []

-- the lifted nonces with a further one, if there is one
abbrev pub with_nonce : List ℕ → Option ℕ → List ℕ
with_nonce nonces None = nonces
with_nonce nonces (Some nonce) = with_number most_lifted nonces nonce

-- the lifted nonces with the nonce of a further frame
abbrev pub lifted_on : Settings → List ℕ → Frame → List ℕ
lifted_on settings nonces frame = with_nonce nonces (sent_nonce settings frame)

-- the keys of a set are the numbers of a list
abbrev pub AreKnown : List ℕ → List ℕ → Type 0
AreKnown ns keys = (n : ℕ) → list_any (λ key. is_eq (nat_cmp n key)) keys ≡ is_among n ns
