-- Changes of own locators, as they are written and as they are read.
use Rattle.std.proofs.Common.{◌≡◌, ◌≤◌, ℕ, pos, codes, List, Option, Some, None, IfSome, IsTrue, option_and_then, Ok, IfOk, refl, ap, ◌∙◌, le-leb}
use Rattle.std.proofs.lemmas.Bool.{cond_both}
use Rattle.std.proofs.lemmas.Cmp.{nat_cmp_total, on_total, then_total}
use Rattle.std.specs.Cmp.{IsTotalOrder}
use Rattle.toml.specs.Data.{Data, Members, no_members, string, integer, boolean, as_bool}
use Rattle.ip_headers.specs.declared.addr.Addr.{Addr}
use Rattle.mapping_records.proofs.OrderLemmas.{addr_order-total}
use Rattle.lisp_settings.specs.AddressText.{address_of}
use Rattle.lisp_settings.specs.Changes.{IsChangeOf, change_order, is_own, only_own, own_address}
use Rattle.lisp_settings.specs.Fields.{required}
use Rattle.lisp_settings.specs.Limits.{greatest_second}
use Rattle.lisp_settings.specs.Settings.{change_in}
use Rattle.lisp_settings.specs.Values.{address, number}
use Rattle.lisp_settings.specs.Writing.{with_member}
use Rattle.lisp_settings.specs.declared.settings.Change.{Change}
use Rattle.lisp_settings.specs.declared.settings.OwnLocator.{OwnLocator}
use Rattle.lisp_settings.proofs.EachLemmas.{pass, step, required-holds}
use Rattle.lisp_settings.proofs.ItemLemmas.{zero_leb}

pub change_order-total : IsTotalOrder change_order
change_order-total = then_total (on_total (λ (key : ℕ × Addr). key.0) nat_cmp_total) (on_total (λ (key : ℕ × Addr). key.1) addr_order-total)

-- the three keys of a change
pub change_in-written : (locators : List OwnLocator) (change : Change) (text : List ℕ) (table : Members) → IsChangeOf locators change → address_of text ≡ Some change.address → change.at ≤ greatest_second → table ≡ with_member (codes "up") (boolean change.up) (with_member (codes "address") (string text) (with_member (codes "at") (integer (pos change.at)) no_members)) → change_in locators table ≡ Ok change
change_in-written locators change text table own reads small is =
    ap (change_in locators) is ∙ rw (zero_leb change.at, le-leb change.at greatest_second small, reads, own) refl

-- the address of an own locator
abbrev HasOwn : List OwnLocator → Addr → Type 0
HasOwn locators addr = IsTrue (is_own locators addr)

only_own-own : (locators : List OwnLocator) (addr : Addr) → IfSome (only_own locators addr) (HasOwn locators)
only_own-own locators addr = cond_both (is_own locators addr) (Some addr) None (λ found. IfSome found (HasOwn locators)) (λ own. own) (λ other. tt)

only_own-of : (locators : List OwnLocator) (read : Option Addr) → IfSome (option_and_then (only_own locators) read) (HasOwn locators)
only_own-of locators (Some addr) = only_own-own locators addr
only_own-of locators None = tt

own_address-own : (locators : List OwnLocator) (value : Data) → IfSome (own_address locators value) (HasOwn locators)
own_address-own locators value = only_own-of locators (address value)

-- a change that is read is an own locator's
pub change_in-own : (locators : List OwnLocator) (table : Members) → IfOk (change_in locators table) (IsChangeOf locators)
change_in-own locators table =
    pass (IsChangeOf locators) _ _ (λ known.
    pass (IsChangeOf locators) (required (codes "at") (number 0 greatest_second) table) _ (λ second.
    step (HasOwn locators) (IsChangeOf locators) _ _ (required-holds (HasOwn locators) (codes "address") (own_address locators) table (own_address-own locators)) (λ addr own.
    pass (IsChangeOf locators) (required (codes "up") as_bool table) (λ up. Ok (record { at = second; address = addr; up = up })) (λ up. own))))
