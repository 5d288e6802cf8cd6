-- Journals that a router can have.
use Rattle.std.specs.Prelude.{◌≡◌, ◌≤◌, ◌+◌, ℕ, ◌%◌, ◌^◌, ◌==◌, ◌||◌, ◌&&◌, nat_le, nat_lt, not, Bool, false, true, IsTrue, List, [], ◌∷◌, ◌++◌, length, slice_get, Option, Some, None, is_some}
use Rattle.std.specs.List.{All, AllByRecursion}
use Rattle.mapping_records.specs.declared.record.Record.{Record}
use Rattle.lisp_settings.specs.Instances.{AreLimits, all_mappings, limits_in}
use Rattle.lisp_settings.specs.Nonces.{nonce_of}
use Rattle.lisp_settings.specs.declared.settings.Change.{Change}
use Rattle.lisp_settings.specs.declared.settings.LimitItem.{LimitItem}
use Rattle.lisp_settings.specs.declared.settings.Settings.{Settings}
use Rattle.router_log.specs.declared.entry.Entry.{Entry}
use Rattle.router_log.specs.declared.entry.Entry.TheVariants.{Learned, Asked, Retried, Answered, Probed, ProbeAnswered, Bits, EchoStarted, EchoHeard, DataFrom, EchoWanted, Solicited, Changed}
use Rattle.router_model.specs.Changes.{has_room, may_open}
use Rattle.router_model.specs.Journal.{Journal, changed, drawn, last_moment, moment_of, statics}
use Rattle.router_model.specs.Limits.{most_changes, most_databases, most_locators, most_mappings, most_probes, most_retries, most_version}
use Rattle.router_model.specs.Mappings.{exact}
use Rattle.request_queue.specs.Queue.{with_nonce}
use Rattle.request_queue.specs.declared.request.Request.{Request}
use Rattle.router_model.specs.Site.{is_own}
use Rattle.router_model.specs.Standing.{has_change}
use Rattle.router_model.specs.View.{View, view}

-- whether action and version of a record fit their bits, and it has no more locators than a mapping may have
abbrev pub is_in_range : Record → Bool
is_in_range mapping = nat_le mapping.action 7 && (nat_le mapping.version most_version && nat_le (length mapping.locators) most_locators)

-- whether a request, if one is open, may be sent again once more
abbrev pub may_retry : Option Request → Bool
may_retry None = false
may_retry (Some request) = nat_lt request.sent_again most_retries

-- whether a nonce has the 24 bits of an echo (RFC 9300, section 5.1)
abbrev pub is_short : ℕ → Bool
is_short nonce = nat_lt nonce (2 ^ 24)

-- whether an entry may follow a journal with that view at the entry's moment, by the limits of instances
abbrev pub suits : List LimitItem → View → Entry → Bool
suits limits v (Learned moment mapping fixed) = not fixed && (is_in_range mapping && has_room limits v mapping)
suits limits v (Asked moment eid source invoked nonce) = may_open limits v eid.iid
suits limits v (Retried moment nonce) = may_retry (with_nonce v.requests nonce)
suits limits v (Answered moment nonce) = is_some (with_nonce v.requests nonce)
suits limits v (Bits moment eid bits width) = is_some (exact v.mappings eid) && ((width == 8) || (width == 32))
suits limits v (Probed moment rloc nonce) = nat_lt v.probe_count most_probes
suits limits v (ProbeAnswered moment nonce) = is_some (v.probe_open nonce)
suits limits v (EchoStarted moment rloc nonce) = v.may_start rloc && is_short nonce
suits limits v (EchoHeard moment rloc) = is_some (v.echo_on rloc)
suits limits v (DataFrom moment rloc) = v.data_due rloc
suits limits v (EchoWanted moment rloc nonce) = v.may_want rloc nonce && is_short nonce
suits limits v (Solicited moment rloc eid nonce) = v.may_solicit rloc eid
suits limits v (Changed moment address up) = true

-- whether an entry, whatever its nonce, may follow a journal of so many entries, with that moment of the last one, and
-- that view at the entry's moment
abbrev pub is_admitted : List LimitItem → ℕ → ℕ → View → Entry → Bool
is_admitted limits count last v entry =
    (nat_lt count (2 ^ 62) && nat_le last (moment_of entry)) && suits limits v entry

-- whether an entry has this nonce, if it uses one; an echo has the low 24 bits
abbrev pub has_nonce : ℕ → Entry → Bool
has_nonce next (Asked moment eid source invoked nonce) = nonce == next
has_nonce next (Probed moment rloc nonce) = nonce == next
has_nonce next (EchoStarted moment rloc nonce) = nonce == next % 2 ^ 24
has_nonce next (Solicited moment rloc eid nonce) = nonce == next
has_nonce next _ = true

-- whether an entry fits a journal: it may follow, has the next nonce, and a change is the settings' next one
unfoldable pub fits : Settings → Journal → Entry → Bool
fits settings journal entry =
    is_admitted (limits_in settings) (length journal) (last_moment journal) (view journal (moment_of entry)) entry
    && (has_nonce (nonce_of settings.seed settings.nonces (drawn journal)) entry
    && has_change (slice_get settings.changes (changed journal)) entry)

-- each of the entries, the newest of which stands first, fits the journal with the entries before it
abbrev pub EachFits : Settings → Journal → List Entry → Type 0
EachFits settings before [] = Unit {0}
EachFits settings before (entry ∷ entries) =
    IsTrue (fits settings (entries ++ before) entry) × EachFits settings before entries

-- the seconds of changes don't fall
abbrev pub AreInTurn : List Change → Type 0
AreInTurn [] = Unit {0}
AreInTurn (change ∷ changes) = AllByRecursion (λ (next : Change). change.at ≤ next.at) changes × AreInTurn changes

-- the demands of journals on settings, which lawful ones fulfil: few changes, in turn, of own locators, few databases,
-- and limits that a router can have beside the static mappings
pub record MayChange (settings : Settings) : Type 0 where
  pub few_changes : length settings.changes ≤ most_changes
  pub turns : AreInTurn settings.changes
  pub own : All (λ change. is_own settings.locators change.address ≡ true) settings.changes
  pub few_databases : length settings.databases ≤ most_databases
  pub limits : AreLimits (limits_in settings)
  pub room : length settings.mappings + all_mappings (limits_in settings) ≤ most_mappings

-- a journal that a router of the settings can have: the static mappings, and further entries of which each fits
pub record IsProper (settings : Settings) (journal : Journal) : Type 0 where
  pub may : MayChange settings
  pub entries : List Entry
  pub whole : journal ≡ entries ++ statics settings
  pub fit : EachFits settings (statics settings) entries
