-- The limits of each instance: how many mappings it may learn, and how many requests for its EIDs may be open (this
-- router's choice).
use Rattle.std.specs.Prelude.{ℕ, ◌+◌, ◌-◌, ◌/◌, ◌==◌, ◌&&◌, ◌≤◌, min, nat_le, Bool, IsTrue, List, Option, Some, None, Result, Ok, Err, codes, count_by, find, length, map, sum_by, is_none, unwrap_or, if◌then◌else◌}
use Rattle.std.specs.List.{list_any}
use Rattle.std.specs.List.Sorted.{IsStrictlySortedBy}
use Rattle.std.specs.Option.{option_map_or}
use Rattle.std.specs.Ordering.{nat_cmp}
use Rattle.toml.specs.Data.{Data}
use Rattle.mapping_records.specs.declared.record.Record.{Record}
use Rattle.lisp_settings.specs.AddressText.{◌>>=◌}
use Rattle.lisp_settings.specs.Limits.{most_limits, most_mappings, most_open, most_requests}
use Rattle.lisp_settings.specs.Lists.{ascending}
use Rattle.lisp_settings.specs.Values.{number}
use Rattle.lisp_settings.specs.declared.fault.SettingsFault.{SettingsFault}
use Rattle.lisp_settings.specs.declared.fault.SettingsFault.TheVariants.{TooMany}
use Rattle.lisp_settings.specs.declared.settings.Attachment.{Attachment}
use Rattle.lisp_settings.specs.declared.settings.LimitItem.{LimitItem}
use Rattle.lisp_settings.specs.declared.settings.Settings.{Settings}

-- ### lists of limits

-- the limit of an instance in a list, if the list has one
abbrev pub stated : List LimitItem → ℕ → Option LimitItem
stated limits iid = find (λ limit. limit.iid == iid) limits

-- how many mappings an instance may learn by a list of limits: 0 without a limit of its own
abbrev pub mappings_in : List LimitItem → ℕ → ℕ
mappings_in limits iid = option_map_or (λ (limit : LimitItem). limit.mappings) (stated limits iid) 0

-- how many requests for EIDs of an instance may be open by a list of limits: 0 without a limit of its own
abbrev pub requests_in : List LimitItem → ℕ → ℕ
requests_in limits iid = option_map_or (λ (limit : LimitItem). limit.requests) (stated limits iid) 0

-- how many mappings all limits of a list allow together
abbrev pub all_mappings : List LimitItem → ℕ
all_mappings limits = sum_by (λ (limit : LimitItem). limit.mappings) limits

abbrev pub all_requests : List LimitItem → ℕ
all_requests limits = sum_by (λ (limit : LimitItem). limit.requests) limits

-- limits that a router can have: few, each instance once and in order, and in all at most as many mappings and open
-- requests as a router may have
pub record AreLimits (limits : List LimitItem) : Type 0 where
  pub few : length limits ≤ most_limits
  pub instances : IsStrictlySortedBy nat_cmp (map (λ limit. limit.iid) limits)
  pub mappings : all_mappings limits ≤ most_mappings
  pub requests : all_requests limits ≤ most_open

-- ### what a text may state

-- whether a VLAN is attached to an instance
abbrev pub is_attached : List Attachment → ℕ → Bool
is_attached attachments iid = list_any (λ attachment. attachment.iid == iid) attachments

-- an instance, if a VLAN is attached to it
abbrev pub only_attached : List Attachment → ℕ → Option ℕ
only_attached attachments iid = if is_attached attachments iid then Some iid else None

-- the number in a value, if it is an instance to which a VLAN is attached
abbrev pub attached_instance : List Attachment → Data → Option ℕ
attached_instance attachments value = number 0 16777215 value >>= only_attached attachments

-- a stated limit: its instance is attached, and its numbers are at most those that one instance may have
pub record IsLimitOf (attachments : List Attachment) (limit : LimitItem) : Type 0 where
  pub attached : IsTrue (is_attached attachments limit.iid)
  pub mappings : limit.mappings ≤ most_mappings
  pub requests : limit.requests ≤ most_requests

-- whether limits come, beside so many static mappings, to at most as many mappings and open requests as a router may
-- have
abbrev pub is_within : ℕ → List LimitItem → Bool
is_within statics limits =
    nat_le (statics + all_mappings limits) most_mappings && nat_le (all_requests limits) most_open

-- the limits, or the fault `TooMany` where they come, beside the static mappings, to more than a router may have
abbrev pub only_within : List Record → List LimitItem → Result (List LimitItem) SettingsFault
only_within mappings limits =
    if is_within (length mappings) limits then Ok limits else Err (TooMany (codes "limit"))

-- ### the limits of a router

-- the instances to which VLANs are attached, each once, in ascending order
abbrev pub instances : List Attachment → List ℕ
instances attachments =
    map (λ attachment. attachment.iid) (ascending (λ attachment. attachment.iid) nat_cmp attachments)

-- how many attached instances have no stated limit
abbrev pub unstated : Settings → ℕ
unstated settings =
    count_by (λ iid. is_none (stated settings.limits iid)) (instances settings.attachments)

-- the limit of an instance as one of `count` equal parts of what static mappings and stated limits leave
abbrev pub share : Settings → ℕ → ℕ → LimitItem
share settings count iid = record {
  iid = iid;
  mappings = (most_mappings - (length settings.mappings + all_mappings settings.limits)) / count;
  requests = min most_requests ((most_open - all_requests settings.limits) / count);
}

-- the limit of an attached instance: the stated one, or else its share
abbrev pub limit_of : Settings → ℕ → LimitItem
limit_of settings iid = unwrap_or (stated settings.limits iid) (share settings (unstated settings) iid)

-- the limits of the attached instances, in ascending order of instance
abbrev pub limits_in : Settings → List LimitItem
limits_in settings = map (limit_of settings) (instances settings.attachments)

-- the limit of any instance: 0 mappings and 0 requests for one to which no VLAN is attached
abbrev pub limit : Settings → ℕ → LimitItem
limit settings iid =
    if is_attached settings.attachments iid then limit_of settings iid
    else record { iid = iid; mappings = 0; requests = 0 }
