-- The last lines of a report.
use Rattle.std.specs.Prelude.{ℕ, List, [], ◌∷◌, ◌++◌, codes}
use Rattle.audit.specs.declared.outcome.Outcome.{Outcome as Comparison}
use Rattle.audit.specs.declared.outcome.Outcome.TheVariants.{Same, Differs, Missing, Extra}
use Rattle.capture_io.specs.declared.fault.CaptureFault.{CaptureFault}
use Rattle.capture_io.specs.declared.fault.CaptureFault.TheVariants as fault
use Rattle.capture_ng.specs.declared.fault.NgFault.{NgFault}
use Rattle.capture_ng.specs.declared.fault.NgFault.TheVariants as ng
use Rattle.lisp_settings.specs.declared.fault.SettingsFault.{SettingsFault}
use Rattle.lisp_settings.specs.declared.fault.SettingsFault.TheVariants as settings_fault
use Rattle.playback.specs.declared.fault.InputFault.{InputFault}
use Rattle.playback.specs.declared.fault.InputFault.TheVariants as input
use Rattle.router_log.specs.Numbers.{named}

-- the last line of a replay: its frames, the packets written, and the journal's length
abbrev pub end_line : ℕ → ℕ → ℕ → List ℕ
end_line frames written entries =
    named (codes "end frames=") frames
    ++ (named (codes " written=") written ++ (named (codes " entries=") entries ++ 10 ∷ []))

-- the last line of a show: the number of frames
abbrev pub count_line : ℕ → List ℕ
count_line frames = named (codes "end frames=") frames ++ 10 ∷ []

-- the text of a fault of settings: a word, and the key that is at fault, if one is
abbrev pub settings_text : SettingsFault → List ℕ
settings_text settings_fault.NotToml = codes "not-toml"
settings_text settings_fault.TooLong = codes "too-long"
settings_text (settings_fault.UnknownKey key) = codes "unknown-key " ++ key
settings_text (settings_fault.Missing key) = codes "missing " ++ key
settings_text (settings_fault.BadValue key) = codes "bad-value " ++ key
settings_text (settings_fault.Duplicate key) = codes "duplicate " ++ key
settings_text (settings_fault.TooMany key) = codes "too-many " ++ key
settings_text settings_fault.Memory = []

-- the last line of a run whose settings are refused
abbrev pub settings_line : SettingsFault → List ℕ
settings_line f = codes "settings " ++ (settings_text f ++ 10 ∷ [])

-- the text of a fault of a classic capture: a word, and the numbers of the fault
abbrev pub fault_text : CaptureFault → List ℕ
fault_text fault.BadMagic = codes "bad-magic"
fault_text fault.BadVersion = codes "bad-version"
fault_text fault.BadLink = codes "bad-link"
fault_text (fault.CutHeader size) = named (codes "cut-header ") size
fault_text (fault.CutRecord place) = named (codes "cut-record ") place
fault_text (fault.BadFraction place) = named (codes "bad-fraction ") place
fault_text (fault.TooLong place size) =
    named (codes "too-long ") place ++ named (codes " ") size
fault_text (fault.SpanTooLong number) = named (codes "span-too-long ") number
fault_text fault.TooManyRecords = codes "too-many-records"
fault_text fault.Host = []
fault_text fault.Memory = []

-- the text of a fault of a pcapng capture: a word, and the numbers of the fault
abbrev pub ng_text : NgFault → List ℕ
ng_text ng.TooManyRecords = codes "too-many-records"
ng_text (ng.CutBlock place) = named (codes "cut-block ") place
ng_text ng.BadMagic = codes "bad-magic"
ng_text (ng.BadLength place) = named (codes "bad-length ") place
ng_text (ng.TooLong place size) = named (codes "too-long ") place ++ named (codes " ") size
ng_text (ng.OldPacket place) = named (codes "old-packet ") place
ng_text (ng.BadVersion place) = named (codes "bad-version ") place
ng_text (ng.BadOption place) = named (codes "bad-option ") place
ng_text (ng.TooManyInterfaces place) = named (codes "too-many-interfaces ") place
ng_text (ng.BadInterface place) = named (codes "bad-interface ") place
ng_text (ng.BadLinkType place) = named (codes "bad-link-type ") place
ng_text (ng.BadMoment place) = named (codes "bad-moment ") place
ng_text (ng.SpanTooLong number) = named (codes "span-too-long ") number
ng_text ng.Host = []
ng_text ng.Memory = []

-- the text of a capture's fault, by the capture's format
abbrev pub input_text : InputFault → List ℕ
input_text (input.Classic f) = fault_text f
input_text (input.Ng f) = ng_text f

-- the last line of a run whose input capture is refused
abbrev pub fault_line : InputFault → List ℕ
fault_line f = codes "capture " ++ (input_text f ++ 10 ∷ [])

-- the last line of an audit whose sent capture is refused
abbrev pub sent_line : InputFault → List ℕ
sent_line f = codes "sent " ++ (input_text f ++ 10 ∷ [])

-- the last line of an audit: how many packets are the same; or the record at which the sent capture differs, and the
-- octet; or the record that is missing or extra
abbrev pub comparison_line : Comparison → List ℕ
comparison_line (Same packets) = named (codes "audit same packets=") packets ++ 10 ∷ []
comparison_line (Differs position place) =
    named (codes "audit differs record=") position ++ (named (codes " place=") place ++ 10 ∷ [])
comparison_line (Missing position) = named (codes "audit missing record=") position ++ 10 ∷ []
comparison_line (Extra position) = named (codes "audit extra record=") position ++ 10 ∷ []
