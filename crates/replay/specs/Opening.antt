-- A capture as it is opened, by its format: frames, and a fault if it has one.
use Rattle.std.specs.Prelude.{◌≡◌, Bool, List, ℕ, Option, Some, None, Result, Ok, Err, IfSome, IsSomeAnd}
use Rattle.octets.specs.Rules.{first_failing}
use Rattle.command_words.specs.declared.intake.InputFormat.{InputFormat}
use Rattle.command_words.specs.declared.intake.InputFormat.TheVariants as format
use Rattle.command_words.specs.declared.intake.Intake.{Intake}
use Rattle.capture_io.specs.Capture.{header_rules}
use Rattle.desk.specs.World.{World, Direction, content, left_of, to_read, IsGiven}
use Rattle.desk.specs.declared.file.NamedFile.{NamedFile}
use Rattle.auditing.specs.Auditing.{run_in as classic_in}
use Rattle.capture_io.specs.Frames.{capture, read_on}
use Rattle.capture_io.specs.Reading.{Reading, beginning}
use Rattle.capture_io.specs.declared.fault.CaptureFault.{CaptureFault}
use Rattle.capture_ng.specs.Frames.{read_on as ng_read_on}
use Rattle.capture_ng.specs.Position.{begin}
use Rattle.lisp_settings.specs.declared.settings.Settings.{Settings}
use Rattle.playback.specs.Input.{InputRun, input_run, left_in}
use Rattle.playback.specs.declared.fault.InputFault.{InputFault}
use Rattle.playback.specs.declared.fault.InputFault.TheVariants as fault
use Rattle.playback.specs.declared.progress.Progress.{Progress}
use Rattle.replay.specs.Splitting.{taken_run}
use Rattle.replay.specs.declared.captures.ReplayCaptures.{ReplayCaptures}
use Rattle.replay.specs.declared.input.Input.{Input}
use Rattle.replay.specs.declared.input.Input.TheVariants as input

-- a capture as it is opened: its frames and its fault; or a fault in its header, for which no output is made
abbrev pub Opened : Type 0
Opened = Result InputRun InputFault

-- a classic capture as it is opened: its frames and its fault, or the first rule that its header fails
abbrev pub behind_header : Option CaptureFault → InputRun → Opened
behind_header None run = Ok run
behind_header (Some f) run = Err (fault.Classic f)

-- a capture of that format as it is opened; a pcapng capture is judged block by block, once the output is made
abbrev pub opened : InputFormat → List ℕ → Opened
opened format.Classic file = behind_header (first_failing (header_rules file)) (input_run fault.Classic (capture file))
opened (format.Ng vlans) file = Ok (input_run fault.Ng (ng_read_on vlans begin file))

-- a capture as it comes to the router: with its large packets split, or as it was opened
abbrev pub taken : Bool → Settings → Opened → Opened
taken split settings (Ok run) = Ok (taken_run split settings run)
taken split settings (Err f) = Err f

-- a capture as it comes to the router, by the settings
abbrev pub Arriving : Type 0
Arriving = Settings → Opened

-- a capture as it comes to the router by an intake: its format, and whether large packets are split
abbrev pub arriving : Intake → List ℕ → Arriving
arriving intake file settings = taken intake.split settings (opened intake.format file)

-- the input of a replay as it comes to the router, at a desk with these files
abbrev pub arriving_at : ReplayCaptures → List NamedFile → Arriving
arriving_at captures files = arriving captures.intake (content captures.input.now files)

-- ### a capture that is read

-- the id of a reader's file
abbrev pub id_of : Input → ℕ
id_of (input.Classic r) = r.id
id_of (input.Ng r) = r.id

-- the frames and the fault that a reader has still to give, where these octets of its file are left
abbrev pub run_of : Input → List ℕ → InputRun
run_of (input.Classic r) left = input_run fault.Classic (read_on r.format r.position left)
run_of (input.Ng r) left = input_run fault.Ng (ng_read_on r.vlans r.position left)

-- how far a reader has read: the number of frames, and their greatest moment
abbrev pub progress_of : Input → Progress
progress_of (input.Classic r) = record { frames = r.position.count; moment = r.position.greatest }
progress_of (input.Ng r) = record { frames = r.position.count; moment = r.position.greatest }

-- a reader has met no fault so far
abbrev pub IsOpen : Input → Type 0
IsOpen (input.Classic r) = r.fault ≡ None
IsOpen (input.Ng r) = r.fault ≡ None

-- the frames and the fault that a reader has still to give, at a desk with this content
abbrev pub run_in : Input → World → InputRun
run_in = left_in id_of run_of

-- a capture was opened: its reader has still to give all of it, as the desk now shows; or its header has that fault
abbrev pub Opens : Opened → Result Input InputFault → Option World → Type 0
Opens what (Ok reader) now = IsSomeAnd now (λ w. what ≡ Ok (run_in reader w))
Opens what (Err fault) now = what ≡ Err fault

-- a classic capture was opened: its reader has still to give all of it, as the desk now shows; or its header has that
-- fault
abbrev pub OpensClassic : Opened → Result Reading InputFault → Option World → Type 0
OpensClassic what (Ok r) now = IsSomeAnd now (λ w. what ≡ Ok (input_run fault.Classic (classic_in r w)))
OpensClassic what (Err f) now = what ≡ Err f

-- a reader has read the header of the classic capture of that name, and no record
pub record IsUnread (name : List ℕ) (reader : Reading) (ids : List (ℕ × Direction)) (told : Option World) : Type 0 where
  pub begins : reader ≡ beginning reader.id reader.format
  pub given : IsGiven reader.id to_read ids
  pub opens : IfSome told (λ w. opened format.Classic (content name w.files) ≡ Ok (input_run fault.Classic (classic_in reader w)))

-- ids that were given to read are so still, and as many octets are left of each
pub record KeepsGiven (given : List (ℕ × Direction)) (old : Option World) (now : List (ℕ × Direction)) (new : Option World) : Type 0 where
  pub given_still : (id : ℕ) → IsGiven id to_read given → IsGiven id to_read now
  pub left : IfSome old (λ w. IsSomeAnd new (λ v. (id : ℕ) → IsGiven id to_read given → left_of id v ≡ left_of id w))
