-- The choice among the locators of a mapping, by priority and weight (RFC 9301, section 5.4).
use Rattle.std.specs.Prelude.{ℕ, ◌==◌, ◌&&◌, not, Bool, List, [], ◌∷◌, slice_get, Option, is_some, option_and_then, option_map}
use Rattle.ip_headers.specs.declared.addr.Addr.{Addr}
use Rattle.mapping_records.specs.declared.record.Locator.{Locator}
use Rattle.lisp_settings.specs.declared.settings.Settings.{Settings}
use Rattle.locator_choice.specs.Choice as choice
use Rattle.locator_choice.specs.declared.choice.Candidate.{Candidate}
use Rattle.router_model.specs.Site.{is_own, ours}
use Rattle.router_model.specs.View.{View}

-- whether a tunnel may go to a locator: its priority isn't 255, it isn't an own one, an own locator of its family is
-- up, its status is up, and neither probes nor echoes count against it
abbrev pub is_usable : Settings → View → Bool → Locator → Bool
is_usable settings v up locator =
    (not (locator.priority == 255) && not (is_own settings.locators locator.addr))
    && (is_some (ours settings.locators locator.addr) && (up && v.up locator.addr))

-- a locator with its status, as a candidate of the choice
abbrev pub candidate_of : Settings → View → Bool → Locator → Candidate
candidate_of settings v up locator =
    record { usable = is_usable settings v up locator; priority = locator.priority; weight = locator.weight }

-- the locators of a mapping as candidates, each with its status
abbrev pub candidates : Settings → View → List Bool → List Locator → List Candidate
candidates settings v (up ∷ ups) (locator ∷ locators) =
    candidate_of settings v up locator ∷ candidates settings v ups locators
candidates settings v _ _ = []

-- the locator chosen for a flow with that hash among locators with their status, or None where none is usable
abbrev pub chosen : Settings → View → List Bool → List Locator → ℕ → Option Addr
chosen settings v ups locators hash =
    option_map (λ locator. locator.addr)
    (option_and_then (slice_get locators) (choice.chosen (candidates settings v ups locators) hash))
