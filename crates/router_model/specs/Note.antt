-- The effect of a notice on the journal.
use Rattle.std.specs.Prelude.{ℕ, suc, ◌%◌, ◌^◌, ◌==◌, ◌||◌, ◌&&◌, nat_lt, not, Bool, true, false, List, [], ◌∷◌, length, Option, Some, None, is_some, if◌then◌else◌}
use Rattle.std.specs.List.{list_any}
use Rattle.ip_headers.specs.declared.addr.Addr.{Addr}
use Rattle.mapping_records.specs.Eids.{same_address}
use Rattle.mapping_records.specs.declared.eid.Eid.{Eid}
use Rattle.lisp_settings.specs.declared.settings.LimitItem.{LimitItem}
use Rattle.lisp_settings.specs.declared.settings.Settings.{Settings}
use Rattle.router_log.specs.declared.notice.Notice.{Notice}
use Rattle.router_log.specs.declared.emit.Emit.TheVariants as emit
use Rattle.router_log.specs.declared.entry.Entry.TheVariants as entry
use Rattle.router_log.specs.declared.notice.Notice.TheVariants as notice
use Rattle.router_model.specs.Changes.{Change, Ledger, asked, emitted, entered, journal, limits_of, may_ask, next_nonce, seen, unchanged}
use Rattle.router_model.specs.Journal.{Journal}
use Rattle.router_model.specs.Mappings.{Held, bit, exact, force}
use Rattle.router_model.specs.Site.{ours}
use Rattle.router_model.specs.Standing.{standing}
use Rattle.router_model.specs.View.{View}

-- whether a mapping is wanting: none is in force, or one without locators whose action is to send a Map-Request
abbrev pub is_wanting : Option Held → Bool
is_wanting None = true
is_wanting (Some held) = (length held.mapping.locators == 0) && (held.mapping.action == 2)

-- whether a Map-Request for an EID is to be sent: it may be, and its mapping is wanting
abbrev pub is_missing : Settings → List LimitItem → View → Eid → Bool
is_missing settings limits v eid =
    may_ask settings limits v eid && is_wanting (force v.mappings eid.iid eid.prefix.addr eid.prefix.len)

-- whether there is a live mapping, and it was learned
abbrev pub is_learned : Option Held → Bool
is_learned None = false
is_learned (Some held) = not held.fixed

-- whether a locator from number i on, below the width, has another status than its bit
abbrev pub differs : ℕ → ℕ → ℕ → List Bool → Bool
differs bits width i [] = false
differs bits width i (up ∷ ups) =
    nat_lt i width && (if up then not (bit i bits) else bit i bits) || differs bits width (suc i) ups

-- whether status bits from a locator are news: a live mapping names that locator, and one of its locators has another
-- status than its bit
abbrev pub is_news : Addr → ℕ → ℕ → Option Held → Bool
is_news rloc bits width None = false
is_news rloc bits width (Some held) =
    list_any (λ locator. same_address locator.addr rloc) held.mapping.locators && differs bits width 0 held.up

-- whether a nonce is that of the requested echo, if there is one
abbrev pub is_echo : ℕ → Option ℕ → Bool
is_echo nonce None = false
is_echo nonce (Some asked) = asked == nonce

module _ {S : Type 0} (ledger : Ledger S) (settings : Settings) (m : ℕ) where
  -- an SMR is sent and entered, with that nonce (RFC 9302, section 7.1)
  abbrev pub solicited : ℕ → Addr → Eid → Change S → Change S
  solicited nonce rloc eid change =
      emitted (emit.Solicit rloc eid nonce) (entered ledger settings m (entry.Solicited m rloc eid nonce) change)

  -- a notice is noted
  unfoldable pub noted : Notice → Change S → Change S
  noted (notice.Ask eid source) change =
      if is_missing settings (limits_of ledger settings m change) (seen ledger settings m change) eid
      then asked ledger settings m eid source false change else change
  noted (notice.Refresh eid) change =
      if is_learned (exact (seen ledger settings m change).mappings eid)
      && may_ask settings (limits_of ledger settings m change) (seen ledger settings m change) eid
      then asked ledger settings m eid None false change else change
  noted (notice.Bits eid rloc bits width) change =
      if is_news rloc bits width (exact (seen ledger settings m change).mappings eid)
      then entered ledger settings m (entry.Bits m eid bits width) change else change
  noted (notice.EchoWanted rloc nonce) change =
      if (seen ledger settings m change).may_want rloc nonce
      then entered ledger settings m (entry.EchoWanted m rloc nonce) change else change
  noted (notice.EchoHeard rloc nonce) change =
      if is_echo nonce ((seen ledger settings m change).echo_on rloc)
      then entered ledger settings m (entry.EchoHeard m rloc) change else change
  noted (notice.DataFrom rloc) change =
      if (seen ledger settings m change).data_due rloc then entered ledger settings m (entry.DataFrom m rloc) change else change
  noted (notice.Solicit rloc eid) change =
      if is_some (ours settings.locators rloc) && (seen ledger settings m change).may_solicit rloc eid
      then solicited (next_nonce ledger settings m change) rloc eid change else change
  noted (notice.EchoDue rloc) change =
      if settings.echo && (seen ledger settings m change).may_start rloc
      then entered ledger settings m (entry.EchoStarted m rloc (next_nonce ledger settings m change % 2 ^ 24)) change else change

-- a notice noted at m in a journal, with the settings that stand by it
abbrev pub note : Settings → Journal → ℕ → Notice → Change Journal
note settings before m notice = noted journal (standing settings before) m notice (unchanged before)
