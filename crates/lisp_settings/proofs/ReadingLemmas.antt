-- Settings by the octets of the text.
use Rattle.std.proofs.Common.{◌≡◌, ℕ, ◌<◌, ◌≤◌, List, length, Some, None, Err, refl, le-leb, inl, inr}
use Rattle.std.proofs.lemmas.Bool.{cases_Bool, lt-leb}
use Rattle.std.proofs.lemmas.Str.{IsUtf8-from_is_utf8, is_utf8-from_IsUtf8}
use Rattle.std.specs.Str.{IsUtf8, is_utf8}
use Rattle.toml.specs.Data.{Members}
use Rattle.toml.specs.Parse.{parse_document}
use Rattle.lisp_settings.specs.Limits.{most_text_octets}
use Rattle.lisp_settings.specs.Settings.{settings_in, settings_in_text, settings_of}
use Rattle.lisp_settings.specs.declared.fault.SettingsFault.TheVariants.{NotToml, TooLong}

-- a text that is too long
pub settings_of-long : (text : List ℕ) → most_text_octets < length text → settings_of text ≡ Err TooLong
unfolding settings_of
settings_of-long text long = rw (lt-leb (length text) most_text_octets long) refl

-- a text with a document, however long
pub settings_in_text-document : (text : List ℕ) (top : Members) → IsUtf8 text → parse_document text ≡ Some top → settings_in_text text ≡ settings_in top
unfolding settings_in_text
settings_in_text-document text top utf8 document = rw (is_utf8-from_IsUtf8 text utf8, document) refl

-- a text with a document
pub settings_of-document : (text : List ℕ) (top : Members) → length text ≤ most_text_octets → IsUtf8 text → parse_document text ≡ Some top → settings_of text ≡ settings_in top
unfolding settings_of
settings_of-document text top short utf8 document = rw (le-leb (length text) most_text_octets short) (settings_in_text-document text top utf8 document)

-- a text without one
pub settings_of-none : (text : List ℕ) → length text ≤ most_text_octets → (IsUtf8 text → parse_document text ≡ None) → settings_of text ≡ Err NotToml
unfolding settings_of settings_in_text
settings_of-none text short none =
    elim (cases_Bool (is_utf8 text)) [
      | inl utf8 ↦ rw (le-leb (length text) most_text_octets short, utf8, none (IsUtf8-from_is_utf8 text utf8)) refl
      | inr other ↦ rw (le-leb (length text) most_text_octets short, other) refl
    ]
