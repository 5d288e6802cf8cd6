-- Entries and packets that are made one after another, each judged by the state before it.
use Rattle.std.specs.Prelude.{ℕ, ◌==◌, ◌||◌, ◌&&◌, nat_lt, not, Bool, List, [], ◌∷◌, ◌++◌, count_by, fold, length, Option, Some, None}
use Rattle.ip_headers.specs.declared.addr.Addr.{Addr}
use Rattle.mapping_records.specs.declared.eid.Eid.{Eid}
use Rattle.mapping_records.specs.declared.record.Record.{Record}
use Rattle.lisp_settings.specs.Instances.{limits_in, mappings_in, requests_in}
use Rattle.lisp_settings.specs.Nonces.{nonce_of}
use Rattle.lisp_settings.specs.declared.settings.LimitItem.{LimitItem}
use Rattle.lisp_settings.specs.declared.settings.Settings.{Settings}
use Rattle.router_log.specs.declared.emit.Emit.{Emit}
use Rattle.router_log.specs.declared.emit.Emit.TheVariants as emit
use Rattle.router_log.specs.declared.entry.Entry.{Entry}
use Rattle.router_log.specs.declared.entry.Entry.TheVariants as entry
use Rattle.router_model.specs.Journal.{Journal, changed}
use Rattle.router_model.specs.Mappings.{Held, exact}
use Rattle.request_queue.specs.Queue.{covered, open_in}
use Rattle.router_model.specs.Site.{reaches_resolver}
use Rattle.router_model.specs.Standing.{standing}
use Rattle.router_model.specs.View.{View, view}

-- a ledger, which keeps entries: its view at a moment (`see`), one entry more (`add`), the number of entries (`count`)
-- and of changes of own locators (`steps`), the settings after these changes (`stands`), and the limits of instances,
-- kept in it or taken from the settings
pub record Ledger (S : Type 0) : Type 0 where
  pub see : S → ℕ → View
  pub add : S → Entry → S
  pub count : S → ℕ
  pub steps : S → ℕ
  pub stands : Settings → S → Settings
  pub limits : Settings → S → List LimitItem

-- a journal as a ledger
abbrev pub journal : Ledger Journal
journal = record {
  see = view;
  add = λ before entry. entry ∷ before;
  count = length;
  steps = changed;
  stands = standing;
  limits = λ settings before. limits_in settings;
}

-- a change of a ledger: its state by now, and the entries and packets made so far, in order
pub record Change (S : Type 0) : Type 0 where
  pub after : S
  pub entries : List Entry
  pub emits : List Emit

-- a change without entries and packets yet
abbrev pub unchanged : {S : Type 0} → S → Change S
unchanged before = record { after = before; entries = []; emits = [] }

-- a change after a step for each item, in order
abbrev pub each : {S A : Type 0} → (A → Change S → Change S) → List A → Change S → Change S
each step items change = fold (λ so_far item. step item so_far) change items

-- a packet is added to a change
abbrev pub emitted : {S : Type 0} → Emit → Change S → Change S
emitted packet change = record change { emits = change.emits ++ packet ∷ [] }

-- whether the limit of an instance leaves room for one more open request
abbrev pub may_open : List LimitItem → View → ℕ → Bool
may_open limits v iid = nat_lt (open_in iid v.requests) (requests_in limits iid)

-- whether a Map-Request for an EID may be sent: there is a resolver, an own locator of its family is up, no open
-- request covers the EID, and the instance has room for one more
abbrev pub may_ask : Settings → List LimitItem → View → Eid → Bool
may_ask settings limits v eid =
    reaches_resolver settings && (not (covered v.requests eid) && may_open limits v eid.iid)

-- the number of mappings of an instance that aren't static
abbrev pub learned_in : ℕ → List Held → ℕ
learned_in iid mappings = count_by (λ held. (held.eid.iid == iid) && not held.fixed) mappings

-- whether a record may be learned in place of the present mapping of its EID, which must not be static; without one the
-- record must have TTL 0, or its instance room
abbrev pub may_replace : List LimitItem → View → Record → Option Held → Bool
may_replace limits v mapping (Some held) = not held.fixed
may_replace limits v mapping None =
    (mapping.ttl == 0) || nat_lt (learned_in mapping.eid.iid v.mappings) (mappings_in limits mapping.eid.iid)

-- whether a record may be learned, by the present mapping of its EID and the limit of its instance
abbrev pub has_room : List LimitItem → View → Record → Bool
has_room limits v mapping = may_replace limits v mapping (exact v.mappings mapping.eid)

module _ {S : Type 0} (ledger : Ledger S) (settings : Settings) (m : ℕ) where
  -- the limits of instances at a point of a change
  abbrev pub limits_of : Change S → List LimitItem
  limits_of change = ledger.limits settings change.after

  -- the view at m, at a point of a change
  abbrev pub seen : Change S → View
  seen change = ledger.see change.after m

  -- an entry is added to a change
  abbrev pub entered : Entry → Change S → Change S
  entered entry change = record change { after = ledger.add change.after entry; entries = change.entries ++ entry ∷ [] }

  -- the nonce that is used next in a change
  abbrev pub next_nonce : Change S → ℕ
  next_nonce change = nonce_of settings.seed settings.nonces (seen change).drawn

  -- a Map-Request is sent and entered, with that nonce
  abbrev pub asked_with : ℕ → Eid → Option Addr → Bool → Change S → Change S
  asked_with nonce eid source invoked change =
      emitted (emit.Request eid source invoked nonce) (entered (entry.Asked m eid source invoked nonce) change)

  -- a Map-Request is sent and entered, with the next nonce
  abbrev pub asked : Eid → Option Addr → Bool → Change S → Change S
  asked eid source invoked change = asked_with (next_nonce change) eid source invoked change
