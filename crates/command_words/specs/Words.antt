-- The words of the commands (this router's choice): `replay`, `show` and `audit` with options, and `trial N`.
use Rattle.std.specs.Prelude.{ℕ, ◌≤◌, Bool, true, false, ◌&&◌, ◌||◌, ◌==◌, not, nat_le, List, [], ◌∷◌, codes, length, Option, Some, None, is_none, option_and_then, if◌then◌else◌}
use Rattle.std.specs.List.{list_all, list_any}
use Rattle.std.specs.Str.{bytes_eq}
use Rattle.std.specs.Str.Parse.{digits_value}
use Rattle.command_words.specs.Limits.{default_round_frames, most_round_frames, most_trial_mappings, most_workers}
use Rattle.command_words.specs.declared.intake.InputFormat.{InputFormat}
use Rattle.command_words.specs.declared.intake.InputFormat.TheVariants.{Classic, Ng}
use Rattle.command_words.specs.declared.intake.Intake.{Intake}
use Rattle.command_words.specs.declared.nonce_source.NonceSource.{NonceSource}
use Rattle.command_words.specs.declared.nonce_source.NonceSource.TheVariants.{Settings as FromSettings, Sent as FromSent}
use Rattle.command_words.specs.declared.words.Words.{Words}
use Rattle.command_words.specs.declared.words.Words.TheVariants.{Replay, Show, Trial, Audit}

infixl 10 ◌>>=◌
-- a further step, where there is a value
abbrev pub ◌>>=◌ : {A B : Type 0} → Option A → (A → Option B) → Option B
o >>= next = option_and_then next o

-- ### options

-- a value isn't empty and doesn't begin with a dash
abbrev pub is_value : List ℕ → Bool
is_value [] = false
is_value (first ∷ rest) = not (first == 45)

-- the value behind an option's name
abbrev pub value_of : List ℕ → List (List ℕ) → Option (List ℕ)
value_of name [] = None
value_of name (other ∷ []) = None
value_of name (other ∷ (value ∷ more)) = if bytes_eq other name then Some value else value_of name more

-- a name that is one of these, with a value, before words in which it doesn't come again
abbrev pub is_option : List (List ℕ) → List ℕ → List ℕ → List (List ℕ) → Bool
is_option names name value more =
    (list_any (λ known. bytes_eq known name) names && is_value value)
    && is_none (value_of name more)

-- names, each with a value behind it; each is one of these, and none comes twice
abbrev pub are_options : List (List ℕ) → List (List ℕ) → Bool
are_options names [] = true
are_options names (name ∷ []) = false
are_options names (name ∷ (value ∷ more)) =
    is_option names name value more && are_options names more

-- ### numbers

-- the octet is a decimal digit
abbrev pub is_digit : ℕ → Bool
is_digit octet = nat_le 48 octet && nat_le octet 57

-- decimal digits, of which the first is 0 only where it stands alone
abbrev pub is_decimal : List ℕ → Bool
is_decimal [] = false
is_decimal (first ∷ rest) =
    (is_digit first && list_all is_digit rest) && (not (first == 48) || (length rest == 0))

-- the number, where it lies between the two
abbrev pub number_in : ℕ → ℕ → List ℕ → Option ℕ
number_in least greatest text =
    if is_decimal text && (nat_le least (digits_value 10 text) && nat_le (digits_value 10 text) greatest)
    then Some (digits_value 10 text) else None

-- the number behind an option's name, and without the option the default
abbrev pub number_or : ℕ → ℕ → ℕ → Option (List ℕ) → Option ℕ
number_or least greatest default (Some text) = number_in least greatest text
number_or least greatest default None = Some default

-- ### formats

-- the format that this word names; without the word it is classic
abbrev pub named_format : Option (List ℕ) → Option InputFormat
named_format None = Some Classic
named_format (Some word) =
    if bytes_eq word (codes "classic") then Some Classic
    else if bytes_eq word (codes "ng") then Some (Ng false)
    else None

-- the format in which interfaces are VLANs: a classic capture has none
abbrev pub with_vlans : InputFormat → Option InputFormat
with_vlans Classic = None
with_vlans (Ng vlans) = Some (Ng true)

-- the format in which interfaces are what this word names; without the word they are no VLANs
abbrev pub with_interfaces : Option (List ℕ) → InputFormat → Option InputFormat
with_interfaces None format = Some format
with_interfaces (Some word) format =
    if bytes_eq word (codes "none") then Some format
    else if bytes_eq word (codes "vlan") then with_vlans format
    else None

-- the format by the values of `--format` and `--interfaces`
abbrev pub format_of : Option (List ℕ) → Option (List ℕ) → Option InputFormat
format_of word interfaces = do
  format ← named_format word
  with_interfaces interfaces format

-- ### how a capture is taken in

-- whether large packets are split, by this word; without the word they aren't
abbrev pub split_of : Option (List ℕ) → Option Bool
split_of None = Some false
split_of (Some word) =
    if bytes_eq word (codes "on") then Some true
    else if bytes_eq word (codes "off") then Some false
    else None

-- how a capture is read, by the options
abbrev pub intake_of : List (List ℕ) → Option Intake
intake_of options = do
  format ← format_of (value_of (codes "--format") options) (value_of (codes "--interfaces") options)
  split ← split_of (value_of (codes "--split") options)
  Some (record { format = format; split = split })

-- ### nonces

-- the source of nonces that this word names; without the word it is the settings
abbrev pub nonces_of : Option (List ℕ) → Option NonceSource
nonces_of None = Some FromSettings
nonces_of (Some word) =
    if bytes_eq word (codes "settings") then Some FromSettings
    else if bytes_eq word (codes "sent") then Some FromSent
    else None

-- ### commands

-- the names of the options of a replay, of a show, and of an audit
abbrev pub replay_names : List (List ℕ)
replay_names =
    codes "--settings" ∷ codes "--in" ∷ codes "--out" ∷ codes "--format" ∷ codes "--interfaces"
    ∷ codes "--split" ∷ codes "--workers" ∷ codes "--round" ∷ []

abbrev pub show_names : List (List ℕ)
show_names = codes "--in" ∷ []

abbrev pub audit_names : List (List ℕ)
audit_names = codes "--settings" ∷ codes "--in" ∷ codes "--sent" ∷ codes "--nonces" ∷ []

-- the words, where they are options of these names
abbrev pub options_of : List (List ℕ) → List (List ℕ) → Option (List (List ℕ))
options_of names words = if are_options names words then Some words else None

-- the replay of these words, unless the output is one of the other files
abbrev pub unless_over : List ℕ → List ℕ → List ℕ → Intake → ℕ → ℕ → Option Words
unless_over settings input output intake workers round =
    if bytes_eq output input || bytes_eq output settings then None
    else Some (Replay settings input output intake workers round)

-- `--settings F --in F --out F [--format classic|ng] [--interfaces none|vlan] [--split on|off] [--workers N] [--round N]`
abbrev pub replay_of : List (List ℕ) → Option Words
replay_of words = do
  options ← options_of replay_names words
  settings ← value_of (codes "--settings") options
  input ← value_of (codes "--in") options
  output ← value_of (codes "--out") options
  intake ← intake_of options
  workers ← number_or 0 most_workers 0 (value_of (codes "--workers") options)
  round ← number_or 1 most_round_frames default_round_frames (value_of (codes "--round") options)
  unless_over settings input output intake workers round

-- `--in F`
abbrev pub show_of : List (List ℕ) → Option Words
show_of words = do
  options ← options_of show_names words
  input ← value_of (codes "--in") options
  Some (Show input)

-- `N`
abbrev pub trial_of : List (List ℕ) → Option Words
trial_of [] = None
trial_of (number ∷ []) = do
  n ← number_in 1 most_trial_mappings number
  Some (Trial n)
trial_of (number ∷ (other ∷ more)) = None

-- `--settings F --in F --sent F [--nonces settings|sent]`
abbrev pub audit_of : List (List ℕ) → Option Words
audit_of words = do
  options ← options_of audit_names words
  settings ← value_of (codes "--settings") options
  input ← value_of (codes "--in") options
  sent ← value_of (codes "--sent") options
  nonces ← nonces_of (value_of (codes "--nonces") options)
  Some (Audit settings input sent nonces)

-- the numbers are within their limits
abbrev pub AreWithinLimits : Words → Type 0
AreWithinLimits (Replay settings input output intake workers round) =
    (workers ≤ most_workers) × ((1 ≤ round) × (round ≤ most_round_frames))
AreWithinLimits (Show input) = Unit {0}
AreWithinLimits (Trial n) = n ≤ most_trial_mappings
AreWithinLimits (Audit settings input sent nonces) = Unit {0}

-- what the words behind a command say
abbrev pub command_of : List ℕ → List (List ℕ) → Option Words
command_of command words =
    if bytes_eq command (codes "replay") then replay_of words
    else if bytes_eq command (codes "show") then show_of words
    else if bytes_eq command (codes "trial") then trial_of words
    else if bytes_eq command (codes "audit") then audit_of words
    else None

-- what the words after the program's name say; none where they are of no form
abbrev pub words_of : List (List ℕ) → Option Words
words_of [] = None
words_of (command ∷ words) = command_of command words
