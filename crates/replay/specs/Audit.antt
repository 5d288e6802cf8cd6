-- The finding of an audit: what a router sent, compared with the packets of the plain router.
use Rattle.std.specs.Prelude.{◌≡◌, ℕ, Bool, false, List, codes, Option, Some, None, Result, Ok, Err, if◌then◌else◌}
use Rattle.audit.specs.Compared.{compared}
use Rattle.audit.specs.Lifted.{lifted}
use Rattle.audit.specs.declared.outcome.Outcome.{Outcome as Comparison}
use Rattle.audit.specs.declared.outcome.Outcome.TheVariants.{Same, Differs, Missing, Extra}
use Rattle.auditing.specs.Auditing.{octets_of}
use Rattle.auditing.specs.declared.audited.Audited.{Audited}
use Rattle.auditing.specs.declared.audited.Audited.TheVariants.{Compared, Played as BadPlayed, Sent as BadSent}
use Rattle.capture_events.specs.Events.{events, played}
use Rattle.capture_io.specs.Frame.{Frame}
use Rattle.capture_io.specs.Run.{Run}
use Rattle.capture_io.specs.declared.fault.CaptureFault.{CaptureFault}
use Rattle.command_words.specs.declared.intake.InputFormat.TheVariants.{Classic}
use Rattle.command_words.specs.declared.nonce_source.NonceSource.{NonceSource}
use Rattle.command_words.specs.declared.nonce_source.NonceSource.TheVariants.{Settings as FromSettings, Sent as FromSent}
use Rattle.desk.specs.World.{content}
use Rattle.desk.specs.declared.file.NamedFile.{NamedFile}
use Rattle.lisp_settings.specs.declared.fault.SettingsFault.{SettingsFault}
use Rattle.lisp_settings.specs.declared.fault.SettingsFault.TheVariants.{BadValue}
use Rattle.lisp_settings.specs.declared.settings.Settings.{Settings}
use Rattle.playback.specs.declared.fault.InputFault.{InputFault}
use Rattle.playback.specs.declared.fault.InputFault.TheVariants as of
use Rattle.router_model.specs.Plain.{plain, started}
use Rattle.replay.specs.Lines.{comparison_line, fault_line, sent_line, settings_line}
use Rattle.replay.specs.Opening.{Opened, opened}
use Rattle.replay.specs.declared.captures.AuditCaptures.{AuditCaptures}
use Rattle.replay.specs.declared.finding.Finding.{Finding}
use Rattle.replay.specs.declared.finding.Finding.TheVariants as finding
use Rattle.replay.specs.declared.status.Status.{Status}
use Rattle.replay.specs.declared.status.Status.TheVariants.{Capture, Differs as SentDiffers, Done, Settings as BadSettings}

-- whether nonces are lifted, and some of them may be those of echoes, which no packet carries whole
abbrev pub lifts_echoes : NonceSource → Settings → Bool
lifts_echoes FromSettings settings = false
lifts_echoes FromSent settings = settings.echo

-- the settings of an audit: with the nonces lifted out of the sent records in place of their own, or as they are
abbrev pub with_nonces : NonceSource → Settings → List Frame → Settings
with_nonces FromSettings settings records = settings
with_nonces FromSent settings records = record settings { nonces = lifted settings records }

-- how the packets that the plain router sends for frames compare with the records of a sent capture
unfoldable pub comparison : Settings → List Frame → List Frame → Comparison
comparison settings frames records =
    compared (octets_of (played plain (started settings) (events frames)).packets) records

-- the frames of a capture that has no fault, or its fault
abbrev pub whole : Opened → Result (List Frame) InputFault
whole (Err fault) = Err fault
whole (Ok run) = elim run.fault [ Some fault ↦ Err fault | None ↦ Ok run.frames ]

-- the finding of an audit by lawful settings, by the input capture and the sent one: a fault of the input goes first
abbrev pub found : NonceSource → Settings → Result (List Frame) InputFault → Result (List Frame) InputFault → Finding
found source settings (Err fault) sent = finding.Input fault
found source settings (Ok frames) (Err fault) = finding.Sent fault
found source settings (Ok frames) (Ok records) =
    finding.Compared (comparison (with_nonces source settings records) frames records)

-- the finding of an audit, by its settings and both captures: a fault of the settings goes first, then `echo` where
-- nonces are lifted
abbrev pub found_by : NonceSource → Result Settings SettingsFault → Opened → Opened → Finding
found_by source (Err fault) input sent = finding.Settings fault
found_by source (Ok settings) input sent =
    if lifts_echoes source settings then finding.Echo else found source settings (whole input) (whole sent)

-- the report's line of an audit's finding
abbrev pub finding_line : Finding → List ℕ
finding_line (finding.Settings fault) = settings_line fault
finding_line finding.Echo = settings_line (BadValue (codes "echo"))
finding_line (finding.Input fault) = fault_line fault
finding_line (finding.Sent fault) = sent_line fault
finding_line (finding.Compared outcome) = comparison_line outcome

-- the status of a comparison
abbrev pub comparison_status : Comparison → Status
comparison_status (Same packets) = Done
comparison_status (Differs position place) = SentDiffers
comparison_status (Missing position) = SentDiffers
comparison_status (Extra position) = SentDiffers

-- the status of an audit's finding
abbrev pub finding_status : Finding → Status
finding_status (finding.Settings fault) = BadSettings
finding_status finding.Echo = BadSettings
finding_status (finding.Input fault) = Capture
finding_status (finding.Sent fault) = Capture
finding_status (finding.Compared outcome) = comparison_status outcome

-- ### for contracts of parts alone

-- the finding of an audit of these captures by its settings, at a desk with these files
abbrev pub finding_at : AuditCaptures → List NamedFile → Result Settings SettingsFault → Finding
finding_at captures files settings =
    found_by captures.nonces settings (opened Classic (content captures.input.now files)) (opened Classic (content captures.sent.now files))

-- and by lawful settings, with the nonces from that source
abbrev pub finding_from : NonceSource → AuditCaptures → List NamedFile → Settings → Finding
finding_from source captures files settings =
    found source settings (whole (opened Classic (content captures.input.now files))) (whole (opened Classic (content captures.sent.now files)))

-- the fault of a capture, if it has one
abbrev pub fault_in : Result (List Frame) InputFault → Option InputFault
fault_in (Ok frames) = None
fault_in (Err fault) = Some fault

-- the finding of an audit whose sent capture has this fault: the fault, unless the input capture has one of its own
abbrev pub refused : Result (List Frame) InputFault → InputFault → Finding
refused (Ok frames) fault = finding.Sent fault
refused (Err own) fault = finding.Input own

-- the finding of an audit by its input capture and by what came of both captures
abbrev pub found_in : Result (List Frame) InputFault → Audited → Finding
found_in input (Compared outcome) = finding.Compared outcome
found_in input (BadPlayed fault) = finding.Input (of.Classic fault)
found_in input (BadSent fault) = refused input (of.Classic fault)

-- the result of lifting nonces from a sent capture: the nonces in its frames, or the capture's fault
abbrev pub LiftsFrom : Settings → Result (List Frame) InputFault → Result (List ℕ) InputFault → Type 0
LiftsFrom settings sent (Ok nonces) =
    (records : List Frame) × (sent ≡ Ok records) × (nonces ≡ lifted settings records)
LiftsFrom settings sent (Err fault) = sent ≡ Err fault

-- the result of an audit of two classic captures by the plain router: their comparison, or the fault of one of them
abbrev pub AuditsAs : Settings → Run CaptureFault → Run CaptureFault → Audited → Type 0
AuditsAs settings input sent (Compared outcome) =
    (input.fault ≡ None) × ((sent.fault ≡ None) × (outcome ≡ comparison settings input.frames sent.frames))
AuditsAs settings input sent (BadPlayed fault) = input.fault ≡ Some fault
AuditsAs settings input sent (BadSent fault) = sent.fault ≡ Some fault
