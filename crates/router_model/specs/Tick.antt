-- The effect of a second on the journal: own locators that go up and down, SMRs, requests that are sent again, and
-- probes (RFC 9301, sections 6.1 and 7.1).
use Rattle.std.specs.Prelude.{ℕ, ◌==◌, ◌&&◌, nat_lt, not, Bool, false, true, List, [], ◌∷◌, drop, filter, flat_map, fold, map, take, is_some, if◌then◌else◌}
use Rattle.std.specs.Ordering.{is_lt}
use Rattle.ip_headers.specs.declared.addr.Addr.{Addr}
use Rattle.mapping_records.specs.Eids.{same_address}
use Rattle.mapping_records.specs.Orders.{addr_order}
use Rattle.mapping_records.specs.declared.eid.Eid.{Eid}
use Rattle.mapping_records.specs.declared.record.Locator.{Locator}
use Rattle.lisp_settings.specs.declared.settings.Change.{Change as OwnChange}
use Rattle.lisp_settings.specs.declared.settings.Database.{Database}
use Rattle.lisp_settings.specs.declared.settings.Settings.{Settings}
use Rattle.locator_state.specs.Turns.{has_rested, with_target}
use Rattle.locator_state.specs.declared.target.Target.{Target}
use Rattle.request_queue.specs.Queue.{due}
use Rattle.request_queue.specs.declared.request.Request.{Request}
use Rattle.router_log.specs.Moments.{seconds}
use Rattle.router_log.specs.declared.emit.Emit.TheVariants as emit
use Rattle.router_log.specs.declared.entry.Entry.TheVariants as entry
use Rattle.router_model.specs.Changes.{Change, Ledger, each, emitted, entered, journal, next_nonce, seen, unchanged}
use Rattle.router_model.specs.Journal.{Journal}
use Rattle.router_model.specs.Limits.{most_probes, most_targets, most_told}
use Rattle.router_model.specs.Mappings.{Held}
use Rattle.router_model.specs.Note.{solicited}
use Rattle.router_model.specs.Site.{is_own, ours, reaches_resolver}
use Rattle.router_model.specs.Standing.{due_changes}
use Rattle.router_model.specs.View.{View}

-- whether a locator may be used: its priority isn't 255
abbrev pub may_take : Locator → Bool
may_take locator = not (locator.priority == 255)

-- a locator of the mapping of an EID as a target of probes, with the moment of its last probe
abbrev pub target_of : View → Eid → Locator → Target
target_of v eid locator = record { rloc = locator.addr; eid = eid; last = v.last_probe locator.addr }

-- the targets of probes in a mapping: its locators that may be used
abbrev pub targets_of : View → Held → List Target
targets_of v held = map (target_of v held.eid) (filter may_take held.mapping.locators)

-- the targets of probes in all live mappings, in order of EID
abbrev pub targets : View → List Target
targets v = flat_map (targets_of v) v.mappings

-- whether a locator may be probed: it isn't an own one, an own locator of its family is up, and it has rested
abbrev pub is_probed : Settings → ℕ → Target → Bool
is_probed settings now target =
    not (is_own settings.locators target.rloc)
    && (is_some (ours settings.locators target.rloc) && has_rested now target.last)

-- the locators that may be probed, in order of their turns, each with the least EID whose mapping names it
abbrev pub candidates : Settings → View → List Target
candidates settings v =
    fold (λ so_far target. with_target target so_far) [] (filter (is_probed settings v.now) (targets v))

-- the locators to be probed now: the first ones in order (this router's choice)
abbrev pub next_targets : Settings → View → List Target
next_targets settings v = take most_targets (candidates settings v)

-- ### which locators are told

-- addresses in order with one more, which stands among them once
abbrev pub with_address : Addr → List Addr → List Addr
with_address address [] = address ∷ []
with_address address (first ∷ others) =
    if same_address address first then first ∷ others
    else if is_lt (addr_order address first) then address ∷ first ∷ others else first ∷ with_address address others

-- whether a locator may get an SMR: it isn't an own one, and an own locator of its family is up
abbrev pub is_told : Settings → Addr → Bool
is_told settings address = not (is_own settings.locators address) && is_some (ours settings.locators address)

-- the addresses of the locators of a mapping that may be used
abbrev pub named_in : Held → List Addr
named_in held = map (λ (locator : Locator). locator.addr) (filter may_take held.mapping.locators)

-- the addresses of locators of live mappings that may get an SMR, in order, each once
abbrev pub named : Settings → View → List Addr
named settings v =
    fold (λ so_far address. with_address address so_far) [] (filter (is_told settings) (flat_map named_in v.mappings))

-- the first of the locators that may get an SMR (this router's choice)
unfoldable pub first_told : List Addr → List Addr
first_told addresses = take most_told addresses

-- whether there are changes of own locators
abbrev pub some_came : List OwnChange → Bool
some_came [] = false
some_came (change ∷ changes) = true

-- ### what is done

module _ {S : Type 0} (ledger : Ledger S) (settings : Settings) (m : ℕ) where
  -- a request is sent again, and entered
  abbrev pub retried : Request → Change S → Change S
  retried request change =
      emitted (emit.Request request.eid request.source request.invoked request.nonce)
      (entered ledger settings m (entry.Retried m request.nonce) change)

  -- a probe is sent and entered, with that nonce
  abbrev pub probed_with : ℕ → Target → Change S → Change S
  probed_with nonce target change =
      emitted (emit.Probe target.rloc target.eid nonce) (entered ledger settings m (entry.Probed m target.rloc nonce) change)

  -- a probe is sent to a locator, where fewer probes count than may
  abbrev pub probed : Target → Change S → Change S
  probed target change =
      if nat_lt (seen ledger settings m change).probe_count most_probes
      then probed_with (next_nonce ledger settings m change) target change else change

  -- the requests that are due are sent again, in asking order
  abbrev pub all_retried : Change S → Change S
  all_retried change =
      each retried (filter (due (seen ledger settings m change).now) (seen ledger settings m change).requests) change

  -- the probes of a second are sent, where the settings have probes
  abbrev pub all_probed : Change S → Change S
  all_probed change =
      if settings.probe then each probed (next_targets settings (seen ledger settings m change)) change else change

  -- an SMR for a database prefix is sent to a locator, where the locator may be solicited for it
  abbrev pub told : Addr → Database → Change S → Change S
  told address database change =
      if (seen ledger settings m change).may_solicit address database.eid
      then solicited ledger settings m (next_nonce ledger settings m change) address database.eid change else change

  -- SMRs for each database prefix are sent to a locator
  abbrev pub told_all : Addr → Change S → Change S
  told_all address change = each (told address) settings.databases change

  -- SMRs are sent to the first locators that mappings name, where own locators changed
  abbrev pub all_told : Bool → Change S → Change S
  all_told came change =
      if came then each told_all (first_told (named settings (seen ledger settings m change))) change else change

  -- the requests that are due are sent again, where the resolver is reached
  abbrev pub retried_where : Bool → Change S → Change S
  retried_where reaches change = if reaches then all_retried change else change

  -- all that follows the changes of own locators in a second, with the settings that then stand
  unfoldable pub after_changes : Bool → Change S → Change S
  after_changes came change = all_probed (retried_where (reaches_resolver settings) (all_told came change))

module _ {S : Type 0} (ledger : Ledger S) (settings : Settings) (m : ℕ) where
  -- an own locator goes up or down
  abbrev pub made : OwnChange → Change S → Change S
  made own change = entered ledger settings m (entry.Changed m own.address own.up) change

  -- the next changes of the settings, as far as their seconds aren't later than m
  abbrev pub due_now : S → List OwnChange
  due_now before = due_changes m (drop (ledger.steps before) settings.changes)

  -- the changes of own locators are made
  abbrev pub all_changed : List OwnChange → Change S → Change S
  all_changed changes change = each made changes change

  -- a second with given changes of own locators, and all that follows them
  abbrev pub ticked_by : List OwnChange → Change S → Change S
  ticked_by changes change =
      after_changes ledger (ledger.stands settings (all_changed changes change).after) m (some_came changes)
      (all_changed changes change)

  -- a second: changes of own locators, SMRs, requests that are sent again, and probes
  unfoldable pub ticked : Change S → Change S
  ticked change = ticked_by (due_now change.after) change

-- second s, played by a journal
abbrev pub tick : Settings → Journal → ℕ → Change Journal
tick settings before s = ticked journal settings (seconds s) (unchanged before)
