-- The files that a steady desk owes a run: those that the run reads, each if those read before it let the run go on.
use Rattle.std.specs.Prelude.{◌≡◌, ℕ, false, List, Option, Some, IfOk, IfSome}
use Rattle.command_words.specs.declared.intake.InputFormat.TheVariants.{Classic}
use Rattle.command_words.specs.declared.nonce_source.NonceSource.{NonceSource}
use Rattle.command_words.specs.declared.words.Words.{Words}
use Rattle.command_words.specs.declared.words.Words.TheVariants.{Replay, Show, Audit}
use Rattle.desk.specs.World.{World, content, IsThere}
use Rattle.lisp_settings.specs.Settings.{settings_of}
use Rattle.lisp_settings.specs.declared.settings.Settings.{Settings}
use Rattle.replay.specs.Audit.{lifts_echoes}
use Rattle.replay.specs.Opening.{opened}

-- if the desk shows the settings in the file of that name, and they are lawful, then `So` holds for them
abbrev pub IfLawful : List ℕ → Option World → (Settings → Type 0) → Type 0
IfLawful name told So = IfSome told (λ w. IfOk (settings_of (content name w.files)) So)

-- the files of a replay are there: the settings, and the capture if these are lawful
abbrev pub AreReplayed : List ℕ → List ℕ → Option World → Type 0
AreReplayed settings input told = IsThere settings told × IfLawful settings told (λ _. IsThere input told)

-- the captures of an audit are there: the input, and the sent one if the input's header is lawful
abbrev pub AreCompared : List ℕ → List ℕ → Option World → Type 0
AreCompared input sent told =
    IsThere input told × IfSome told (λ w. IfOk (opened Classic (content input w.files)) (λ _. IsThere sent told))

-- the captures of an audit by these settings are there, unless it ends for `echo`
abbrev pub AreHeld : NonceSource → List ℕ → List ℕ → Option World → Settings → Type 0
AreHeld source input sent told settings = lifts_echoes source settings ≡ false → AreCompared input sent told

-- the files of an audit are there: the settings, and the captures if these are lawful
abbrev pub AreAudited : NonceSource → List ℕ → List ℕ → List ℕ → Option World → Type 0
AreAudited source settings input sent told =
    IsThere settings told × IfLawful settings told (AreHeld source input sent told)

-- the desk shows that the files are there which a command reads, one after another
abbrev pub AreThere : Option Words → Option World → Type 0
AreThere (Some (Replay settings input output intake workers round)) told = AreReplayed settings input told
AreThere (Some (Show input)) told = IsThere input told
AreThere (Some (Audit settings input sent nonces)) told = AreAudited nonces settings input sent told
AreThere _ told = Unit {0}
