-- The parts of a journal, which a table keeps: only items that still count, and so no journal.
use Rattle.std.specs.Prelude.{◌≡◌, ℕ, suc, ◌+◌, ◌&&◌, max, Bool, List, [], ◌∷◌, filter, length, map, if◌then◌else◌}
use Rattle.lisp_settings.specs.Instances.{limits_in}
use Rattle.lisp_settings.specs.declared.settings.LimitItem.{LimitItem}
use Rattle.lisp_settings.specs.declared.settings.OwnLocator.{OwnLocator}
use Rattle.lisp_settings.specs.declared.settings.Settings.{Settings}
use Rattle.router_log.specs.declared.entry.Entry.{Entry}
use Rattle.locator_state.specs.Observed.{Observed, recent}
use Rattle.map_cache.specs.declared.mapping.Mapping.{Mapping}
use Rattle.request_queue.specs.declared.request.Request.{Request}
use Rattle.router_model.specs.Cache.{held_of, kept_mappings, mapping_kind}
use Rattle.map_cache.specs.Cache.{lasts}
use Rattle.router_model.specs.Changes.{Ledger}
use Rattle.router_model.specs.Journal.{Journal, changed, drawn, is_changed, last_moment, moment_of, uses_nonce, statics}
use Rattle.router_model.specs.Kept.{absorb}
use Rattle.router_model.specs.Observed.{observed, observing}
use Rattle.router_model.specs.Proper.{IsProper, is_admitted}
use Rattle.router_model.specs.Requests.{open_requests, request_kind}
use Rattle.request_queue.specs.Queue.{is_waiting}
use Rattle.router_model.specs.declared.own.Own.{Own}
use Rattle.router_model.specs.Standing.{changed_by, may_change, own_after, own_in, standing_by}
use Rattle.router_model.specs.View.{View, view_of}

-- all that a table keeps of a journal, as of the moment of its last entry
pub record Parts : Type 0 where
  -- the number of entries, the number of nonces used, and the moment of the last entry
  pub count : ℕ
  pub drawn : ℕ
  pub now : ℕ
  -- the own locators as they stand, and the number of their changes made
  pub own : List OwnLocator
  pub steps : ℕ
  -- the mappings, in order of EID
  pub mappings : List Mapping
  -- the requests, in asking order
  pub requests : List Request
  pub observed : Observed
  -- the limits of instances
  pub limits : List LimitItem

-- ### the parts of a journal, by its whole list

-- the parts of a journal as of a moment, for a router of the settings: all that counts then
abbrev pub parts_at : Settings → Journal → ℕ → Parts
parts_at settings journal now = record {
  count = length journal;
  drawn = drawn journal;
  now = now;
  own = own_after settings journal;
  steps = changed journal;
  mappings = kept_mappings now journal;
  requests = open_requests now journal;
  observed = recent now (observed journal);
  limits = limits_in settings;
}

-- the parts of a journal as of the moment of its last entry
abbrev pub parts_in : Settings → Journal → Parts
parts_in settings journal = parts_at settings journal (last_moment journal)

-- a table with these parts stands for a journal: a router of the settings can have the journal, and its parts are these
pub record Stands (settings : Settings) (parts : Parts) (journal : Journal) : Type 0 where
  pub proper : IsProper settings journal
  pub whole : parts ≡ parts_in settings journal

-- ### questions to parts

-- the view of parts at a moment that isn't before the last entry
abbrev pub view_at : Parts → ℕ → View
view_at parts now =
    view_of now (map held_of (filter (lasts now) parts.mappings)) (filter (is_waiting now) parts.requests) parts.observed parts.drawn

-- the view of parts at m, or at the last entry if that is later
unfoldable pub view_in : Parts → ℕ → View
view_in parts m = view_at parts (max m parts.now)

-- whether an entry may follow the journal that the parts are of, whatever its nonce and whichever change is next
unfoldable pub admits : Parts → Entry → Bool
admits parts entry =
    is_admitted parts.limits parts.count parts.now (view_in parts (moment_of entry)) entry && may_change parts.own parts.steps entry

-- which own locators are up by the parts, and how many changes were made
abbrev pub own_of : Parts → Own
own_of parts = own_in parts.own parts.steps

-- the settings that stand by the parts: those after the changes made
abbrev pub standing_in : Settings → Parts → Settings
standing_in settings parts = standing_by settings (own_of parts)

-- ### parts with one entry more

-- parts with an entry: of each list the items that still count at its moment, with its effect
abbrev pub with_entry : Entry → Parts → Parts
with_entry entry parts = record {
  count = suc parts.count;
  drawn = (if uses_nonce entry then 1 else 0) + parts.drawn;
  now = moment_of entry;
  own = changed_by entry parts.own;
  steps = (if is_changed entry then 1 else 0) + parts.steps;
  mappings = absorb mapping_kind (lasts (moment_of entry)) entry parts.mappings;
  requests = absorb request_kind (is_waiting (moment_of entry)) entry parts.requests;
  observed = observing (moment_of entry) entry parts.observed;
  limits = parts.limits;
}

-- parts with an entry that they admit; another entry leaves them as they are
unfoldable pub absorbed : Parts → Entry → Parts
absorbed parts entry = if admits parts entry then with_entry entry parts else parts

-- the parts of the static mappings with further entries, the newest of which stands first
abbrev pub parts_of : Settings → List Entry → Parts
parts_of settings [] = parts_in settings (statics settings)
parts_of settings (entry ∷ entries) = absorbed (parts_of settings entries) entry

-- parts as a ledger, which keep entries as a journal does
abbrev pub table : Ledger Parts
table = record {
  see = view_in;
  add = absorbed;
  count = λ parts. parts.count;
  steps = λ parts. parts.steps;
  stands = standing_in;
  limits = λ settings parts. parts.limits;
}
