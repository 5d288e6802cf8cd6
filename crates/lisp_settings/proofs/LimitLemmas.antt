-- Limits of instances, as they are written and as they are read.
use Rattle.std.proofs.Common.{◌≡◌, ◌<◌, ◌^◌, ℕ, pos, true, codes, List, [], ◌∷◌, length, All, Option, Some, None, IfSome, IsTrue, Bool, ◌||◌, option_and_then, Ok, Err, IfOk, refl, ap, subst, ◌∙◌, inl, inr, arith, le-leb, eqb-true}
use Rattle.std.proofs.lemmas.Bool.{cases_Bool, cond_both}
use Rattle.std.proofs.lemmas.List.Elements.{All-head, All-tail, All-weaker}
use Rattle.std.specs.Bool.{◌==◌}
use Rattle.toml.specs.Data.{Data, Members, no_members, integer}
use Rattle.mapping_records.specs.declared.record.Record.{Record}
use Rattle.lisp_settings.specs.Instances.{IsLimitOf, attached_instance, is_attached, is_within, only_attached, only_within}
use Rattle.lisp_settings.specs.Lawful.{IsLawfulAttachment}
use Rattle.lisp_settings.specs.Limits.{most_mappings, most_requests}
use Rattle.lisp_settings.specs.Settings.{limit_in}
use Rattle.lisp_settings.specs.Values.{number}
use Rattle.lisp_settings.specs.Writing.{with_member}
use Rattle.lisp_settings.specs.declared.fault.SettingsFault.TheVariants.{TooMany}
use Rattle.lisp_settings.specs.declared.settings.Attachment.{Attachment}
use Rattle.lisp_settings.specs.declared.settings.LimitItem.{LimitItem}
use Rattle.lisp_settings.proofs.ItemLemmas.{zero_leb}

-- the three keys of a limit
pub limit_in-written : (attachments : List Attachment) (limit : LimitItem) (table : Members) → IsLimitOf attachments limit → limit.iid < 2 ^ 24 → table ≡ with_member (codes "requests") (integer (pos limit.requests)) (with_member (codes "mappings") (integer (pos limit.mappings)) (with_member (codes "iid") (integer (pos limit.iid)) no_members)) → limit_in attachments table ≡ Ok limit
limit_in-written attachments limit table of below is =
    ap (limit_in attachments) is ∙ rw (zero_leb limit.iid, le-leb limit.iid 16777215 (omega (arith, below)), of.attached, zero_leb limit.mappings, le-leb limit.mappings most_mappings of.mappings, zero_leb limit.requests, le-leb limit.requests most_requests of.requests) refl

-- an instance to which a VLAN is attached
abbrev pub HasAttached : List Attachment → ℕ → Type 0
HasAttached attachments iid = IsTrue (is_attached attachments iid)

only_attached-attached : (attachments : List Attachment) (iid : ℕ) → IfSome (only_attached attachments iid) (HasAttached attachments)
only_attached-attached attachments iid = cond_both (is_attached attachments iid) (Some iid) None (λ found. IfSome found (HasAttached attachments)) (λ attached. attached) (λ other. tt)

only_attached-of : (attachments : List Attachment) (read : Option ℕ) → IfSome (option_and_then (only_attached attachments) read) (HasAttached attachments)
only_attached-of attachments (Some iid) = only_attached-attached attachments iid
only_attached-of attachments None = tt

pub attached_instance-attached : (attachments : List Attachment) (value : Data) → IfSome (attached_instance attachments value) (HasAttached attachments)
attached_instance-attached attachments value = only_attached-of attachments (number 0 16777215 value)

-- an attached instance has 24 bits
is_attached-below : (attachments : List Attachment) (iid : ℕ) → All IsLawfulAttachment attachments → is_attached attachments iid ≡ true → iid < 2 ^ 24
is_attached-below [] iid lawful attached = cc
is_attached-below (attachment ∷ others) iid lawful attached =
    elim (cases_Bool (attachment.iid == iid)) [
      | inl this ↦ subst (λ (n : ℕ). n < 2 ^ 24) (eqb-true attachment.iid iid this) (All-head IsLawfulAttachment attachment others lawful).iid
      | inr other ↦ is_attached-below others iid (All-tail IsLawfulAttachment attachment others lawful) (subst (λ (b : Bool). (b || is_attached others iid) ≡ true) other attached)
    ]

-- so that the limits of attached instances can be written
pub limits-below : (attachments : List Attachment) (limits : List LimitItem) → All IsLawfulAttachment attachments → All (IsLimitOf attachments) limits → All (λ (limit : LimitItem). limit.iid < 2 ^ 24) limits
limits-below attachments limits lawful of =
    All-weaker (IsLimitOf attachments) (λ (limit : LimitItem). limit.iid < 2 ^ 24) (λ limit is. is_attached-below attachments limit.iid lawful is.attached) limits of

-- limits that aren't refused are no more than may be
pub only_within-within : (mappings : List Record) (limits : List LimitItem) → IfOk (only_within mappings limits) (λ r. IsTrue (is_within (length mappings) limits))
only_within-within mappings limits =
    cond_both (is_within (length mappings) limits) (Ok limits) (Err (TooMany (codes "limit"))) (λ r. IfOk r (λ r. IsTrue (is_within (length mappings) limits))) (λ is. is) (λ not. tt)
