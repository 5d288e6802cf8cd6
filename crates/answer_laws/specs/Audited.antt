-- A replay that made a file, and an audit of that file.
use Rattle.std.specs.Prelude.{◌≡◌, ℕ, false, List, [], ◌∷◌, Some, Ok}
use Rattle.capture_io.specs.Frame.{Frame}
use Rattle.capture_io.specs.Frames.{capture}
use Rattle.command_words.specs.Words.{words_of}
use Rattle.command_words.specs.declared.intake.InputFormat.TheVariants.{Classic}
use Rattle.command_words.specs.declared.nonce_source.NonceSource.TheVariants.{Sent}
use Rattle.command_words.specs.declared.words.Words.TheVariants.{Audit, Replay}
use Rattle.desk.specs.World.{content}
use Rattle.desk.specs.declared.file.NamedFile.{NamedFile}
use Rattle.lisp_settings.specs.Settings.{settings_of}
use Rattle.lisp_settings.specs.declared.settings.Settings.{Settings}
use Rattle.audit_laws.specs.Drawn.{with_nonces}
use Rattle.replay.specs.Answer.{answer}
use Rattle.replay.specs.declared.status.Status.TheVariants.{Done}

-- the frames of a classic capture
abbrev pub frames_in : List ℕ → List Frame
frames_in file = (capture file).frames

-- `words` replay the classic capture `file` by the settings `own`, without workers and unsplit, to its end, and make
-- the file `made`
pub record Replays (words : List (List ℕ)) (files : List NamedFile) (own : Settings) (file : List ℕ) (made : NamedFile) : Type 0 where
  pub settings : List ℕ
  pub input : List ℕ
  pub output : List ℕ
  pub round : ℕ
  pub form : words_of words ≡ Some (Replay settings input output (record { format = Classic; split = false }) 0 round)
  pub reads : settings_of (content settings files) ≡ Ok own
  pub has : content input files ≡ file
  pub ends : (answer words files).status ≡ Done
  pub makes : (answer words files).made ≡ made ∷ []

-- `words` audit `octets` beside the capture `file`, with the nonces lifted out of `octets`, by the settings `own` or by
-- such as differ in seed and nonces alone
pub record Audits (words : List (List ℕ)) (files : List NamedFile) (own : Settings) (file octets : List ℕ) : Type 0 where
  pub settings : List ℕ
  pub input : List ℕ
  pub sent : List ℕ
  pub seed : List ℕ
  pub nonces : List ℕ
  pub form : words_of words ≡ Some (Audit settings input sent Sent)
  pub reads : settings_of (content settings files) ≡ Ok (with_nonces own seed nonces)
  pub has : content input files ≡ file
  pub has_sent : content sent files ≡ octets
