-- Prefixes as the definitions make them.
use Rattle.std.proofs.Common.{◌≡◌, ◌↔◌, ℕ, ◌+◌, ◌<◌, Bool, true, false, IsTrue, IsNone, IfSome, Option, Some, None, nat_le, refl, sym, ap, ◌∙◌, arith, List, [], length}
use Rattle.std.proofs.lemmas.Bool.{and_left, lt-leb}
use Rattle.std.proofs.lemmas.List.{drop_all}
use Rattle.std.specs.List.{before_first, after_first, position_or_len}
use Rattle.std.specs.Option.{option_and_then}
use Rattle.std.proofs.Math.Bool.{Bool-set}
use Rattle.ip_headers.specs.Addr.{width, cleared, is_prefix}
use Rattle.ip_headers.specs.declared.addr.Addr.{Addr}
use Rattle.ip_headers.specs.declared.addr.Addr.TheVariants.{V4, V6}
use Rattle.ip_headers.specs.declared.prefix.Prefix.{Prefix}
use Rattle.lisp_settings.specs.AddressText.{is_slash, some_if, lawful_prefix, prefix_with_length, address_of, length_of, prefix_of}
use Rattle.lisp_settings.proofs.TextLemmas.{length_of-empty}

pub some_if-true : {A : Type 0} (test : Bool) (make : IsTrue test → A) (holds : IsTrue test) → some_if test make ≡ Some (make holds)
some_if-true true make holds = ap (λ h. Some (make h)) (Bool-set true true refl holds)
some_if-true false make holds = cc

some_if-false : {A : Type 0} (test : Bool) (make : IsTrue test → A) → test ≡ false → some_if test make ≡ None
some_if-false true make fails = cc
some_if-false false make fails = refl

-- the parts of a prefix make that prefix
pub lawful_prefix-parts : (p : Prefix) → lawful_prefix p.addr p.len ≡ Some p
lawful_prefix-parts p = some_if-true (is_prefix p.addr p.len) _ p.lawful

-- a length past the address's bits
is_prefix-long : (addr : Addr) (len : ℕ) → width addr < len → is_prefix (cleared addr len) len ≡ false
is_prefix-long (V4 n) len long = and_left (nat_le len 32) _ (lt-leb len 32 long)
is_prefix-long (V6 n) len long = and_left (nat_le len 128) _ (lt-leb len 128 long)

prefix_with_length-long : (addr : Addr) (len : ℕ) → width addr < len → prefix_with_length addr len ≡ None
unfolding prefix_with_length
prefix_with_length-long addr len long = some_if-false (is_prefix (cleared addr len) len) _ (is_prefix-long addr len long)

-- what a call gives that makes the prefix of that length
pub prefix_with_length-made : (addr : Addr) (len : ℕ) (made : Option Prefix) → (IsNone made ↔ (width addr < len)) → IfSome made (λ p. p.addr ≡ cleared addr len) → IfSome made (λ p. p.len ≡ len) → made ≡ prefix_with_length addr len
unfolding prefix_with_length
prefix_with_length-made addr len None none addr_is len_is = sym (prefix_with_length-long addr len (none.0 refl))
prefix_with_length-made addr len (Some p) none addr_is len_is =
    sym (lawful_prefix-parts p) ∙ ap (λ a. lawful_prefix a p.len) addr_is ∙ ap (lawful_prefix (cleared addr len)) len_is

-- an address and a length that was looked for behind it
then_none : {A B : Type 0} (first : Option A) (next : A → Option B) → ((a : A) → next a ≡ None) → option_and_then next first ≡ None
then_none None next none = refl
then_none (Some a) next none = none a

-- a text without a slash
pub prefix_of-whole : (text : List ℕ) → position_or_len is_slash text ≡ length text → prefix_of text ≡ None
unfolding prefix_of
prefix_of-whole text whole =
    let nothing : after_first is_slash text ≡ [] = drop_all (position_or_len is_slash text + 1) text (omega (arith, whole)) in
    then_none (address_of (before_first is_slash text)) _ (λ addr. ap (option_and_then (prefix_with_length addr)) (ap length_of nothing ∙ length_of-empty))

-- a text with an address and a length around its slash
pub prefix_of-parts : (text address len : List ℕ) → address ≡ before_first is_slash text → len ≡ after_first is_slash text → (a : Option Addr) → a ≡ address_of address → (n : Option ℕ) → n ≡ length_of len → prefix_of text ≡ option_and_then (λ addr. option_and_then (prefix_with_length addr) n) a
unfolding prefix_of
prefix_of-parts text address len address_is len_is a a_is n n_is =
    let front : a ≡ address_of (before_first is_slash text) = a_is ∙ ap address_of address_is in
    let back : n ≡ length_of (after_first is_slash text) = n_is ∙ ap length_of len_is in
    rw (front, back) refl
