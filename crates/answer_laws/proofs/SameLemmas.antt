-- What a replay made, as an audit reads it.
use Rattle.std.proofs.Common.{◌≡◌, ◌∙◌, ◌+◌, ℕ, suc, Bool, false, if◌then◌else◌, List, [], ◌∷◌, ◌++◌, drop, Option, Some, None, Result, Ok, refl, ap, subst, length, map}
use Rattle.std.specs.Option.{option_map}
use Rattle.octets.specs.Rules.{first_failing}
use Rattle.audit.specs.Compared.{compared}
use Rattle.audit.specs.Lifted.{lifted}
use Rattle.audit.specs.declared.outcome.Outcome.{Outcome}
use Rattle.audit.specs.declared.outcome.Outcome.TheVariants.{Same}
use Rattle.audit_laws.specs.Drawn.{with_nonces}
use Rattle.audit_laws.specs.Sent.{sent_packets, written}
use Rattle.capture_events.specs.Events.{Packet, records_of}
use Rattle.capture_io.specs.Capture.{begin, format_of, header_rules}
use Rattle.capture_io.specs.Frame.{Frame}
use Rattle.capture_io.specs.Frames.{capture, read_on, opened as behind}
use Rattle.capture_io.specs.Output.{out_header}
use Rattle.capture_io.specs.Run.{Run}
use Rattle.capture_io.specs.declared.fault.CaptureFault.{CaptureFault}
use Rattle.command_words.specs.declared.intake.InputFormat.TheVariants.{Classic}
use Rattle.command_words.specs.declared.nonce_source.NonceSource.TheVariants.{Sent}
use Rattle.desk.specs.declared.file.NamedFile.{NamedFile}
use Rattle.desk.specs.World.{content}
use Rattle.lisp_settings.specs.declared.fault.SettingsFault.{SettingsFault}
use Rattle.lisp_settings.specs.declared.settings.Settings.{Settings}
use Rattle.playback.specs.Input.{input_run}
use Rattle.playback.specs.Written.{frames_from, frames_of}
use Rattle.playback.specs.declared.fault.InputFault.{InputFault}
use Rattle.playback.specs.declared.fault.InputFault.TheVariants as of
use Rattle.replay.specs.Answer.{Answer, after_finding, after_opening, after_settings, after_words, answer, replayed, status_of, told_off}
use Rattle.replay.specs.Audit.{comparison, found, found_by, whole}
use Rattle.replay.specs.Lines.{comparison_line}
use Rattle.replay.specs.Opening.{Opened, arriving, behind_header, opened, taken}
use Rattle.replay.specs.declared.finding.Finding.TheVariants as finding
use Rattle.replay.specs.declared.status.Status.TheVariants.{Done}
use Rattle.answer_laws.specs.Audited.{frames_in, Audits, Replays}

-- a classic capture, as it is read
abbrev read_of : Option CaptureFault → Run CaptureFault → Opened
read_of header run = behind_header header (input_run of.Classic run)

-- where a replay of a capture comes to its end, it has a header and no fault, and the packets of its frames were written
record HasMade (own : Settings) (header : Option CaptureFault) (run : Run CaptureFault) (made : NamedFile) : Type 0 where
  pub headed : header ≡ None
  pub whole : run.fault ≡ None
  pub octets : made.octets ≡ out_header ++ records_of (sent_packets own run.frames)

done-whole : (fault : Option CaptureFault) → status_of (option_map of.Classic fault) ≡ Done → fault ≡ None
done-whole None ends = refl
done-whole (Some f) ends = cc

one-made : (first made : NamedFile) → first ∷ [] ≡ made ∷ [] → made ≡ first
one-made first made is = cc

by-header : (own : Settings) (output : List ℕ) (header : Option CaptureFault) (run : Run CaptureFault) (made : NamedFile)
    → (after_opening (replayed own output) (taken false own (read_of header run))).status ≡ Done
    → (after_opening (replayed own output) (taken false own (read_of header run))).made ≡ made ∷ []
    → HasMade own header run made
unfolding replayed
by-header own output (Some f) run made ends makes = cc
by-header own output None run made ends makes = record {
  headed = refl;
  whole = done-whole run.fault ends;
  octets = ap (λ (f : NamedFile). f.octets) (one-made (record { name = output; octets = out_header ++ records_of (sent_packets own run.frames) }) made makes);
}

replay-made : (words : List (List ℕ)) (files : List NamedFile) (own : Settings) (file : List ℕ) (made : NamedFile) → Replays words files own file made
    → HasMade own (first_failing (header_rules file)) (capture file) made
unfolding answer
replay-made words files own file made r =
    let is : answer words files ≡ after_opening (replayed own r.output) (taken false own (opened Classic file)) =
    ap (after_words files) r.form
    ∙ ap (λ (s : Result Settings SettingsFault). after_settings r.output (arriving (record { format = Classic; split = false }) (content r.input files)) s) r.reads
    ∙ ap (λ (octets : List ℕ). after_opening (replayed own r.output) (taken false own (opened Classic octets))) r.has in
    by-header own r.output (first_failing (header_rules file)) (capture file) made
    (subst (λ (a : Answer). a.status ≡ Done) is r.ends) (subst (λ (a : Answer). a.made ≡ made ∷ []) is r.makes)

-- a capture that has no fault is read to its end
whole-read : (header : Option CaptureFault) (run : Run CaptureFault) → header ≡ None → run.fault ≡ None → whole (read_of header run) ≡ Ok run.frames
whole-read header run headed none = rw (headed, none) refl

headed-by : (header : Option CaptureFault) (run : Run CaptureFault) → (behind header run).fault ≡ None → header ≡ None
headed-by None run none = refl
headed-by (Some f) run none = none

written-whole : (file : List ℕ) → (capture file).fault ≡ None → whole (opened Classic file) ≡ Ok (capture file).frames
unfolding capture
written-whole file none =
    whole-read (first_failing (header_rules file)) (capture file) (headed-by (first_failing (header_rules file)) (read_on (format_of file) begin (drop 24 file)) none) none

length-frames : (count : ℕ) (packets : List Packet) → length (frames_from count packets) ≡ length packets
length-frames count [] = refl
length-frames count (packet ∷ packets) = ap suc (length-frames (count + 1) packets)

-- what an audit with lifted nonces finds
found-same : (settings : Settings) (input sent : Opened) (frames records : List Frame) (outcome : Outcome) → settings.echo ≡ false
    → whole input ≡ Ok frames → whole sent ≡ Ok records
    → comparison (record settings { nonces = lifted settings records }) frames records ≡ outcome
    → found_by Sent (Ok settings) input sent ≡ finding.Compared outcome
found-same settings input sent frames records outcome no_echo reads has compares =
    ap (λ (echo : Bool). if echo then finding.Echo else found Sent settings (whole input) (whole sent)) no_echo
    ∙ ap (λ (r : Result (List Frame) InputFault). found Sent settings r (whole sent)) reads
    ∙ ap (λ (r : Result (List Frame) InputFault). found Sent settings (Ok frames) r) has
    ∙ ap finding.Compared compares

audit-same : (words : List (List ℕ)) (files : List NamedFile) (own : Settings) (file octets : List ℕ) (frames records : List Frame) (n : ℕ)
    → (a : Audits words files own file octets) → own.echo ≡ false → whole (opened Classic file) ≡ Ok frames → whole (opened Classic octets) ≡ Ok records
    → compared (map (λ packet. packet.octets) (sent_packets (with_nonces own a.seed (lifted (with_nonces own a.seed a.nonces) records)) frames)) records ≡ Same n
    → answer words files ≡ told_off Done (comparison_line (Same n))
unfolding answer comparison
audit-same words files own file octets frames records n a no_echo reads has compares =
    let settings = with_nonces own a.seed a.nonces in
    ap (after_words files) a.form
    ∙ ap (λ (s : Result Settings SettingsFault). after_finding (found_by Sent s (opened Classic (content a.input files)) (opened Classic (content a.sent files)))) a.reads
    ∙ ap (λ (x : List ℕ). after_finding (found_by Sent (Ok settings) (opened Classic x) (opened Classic (content a.sent files)))) a.has
    ∙ ap (λ (x : List ℕ). after_finding (found_by Sent (Ok settings) (opened Classic file) (opened Classic x))) a.has_sent
    ∙ ap after_finding (found-same settings (opened Classic file) (opened Classic octets) frames records (Same n) no_echo reads has compares)

-- both: the audit of what the replay made
pub same-again : (replay audit : List (List ℕ)) (before after : List NamedFile) (own : Settings) (input : List ℕ) (made : NamedFile)
    → Replays replay before own input made → (a : Audits audit after own input made.octets) → own.echo ≡ false
    → (written (sent_packets own (frames_in input))).fault ≡ None
    → (written (sent_packets own (frames_in input))).frames ≡ frames_of (sent_packets own (frames_in input))
    → compared (map (λ packet. packet.octets) (sent_packets (with_nonces own a.seed (lifted (with_nonces own a.seed a.nonces) (written (sent_packets own (frames_in input))).frames)) (frames_in input))) (written (sent_packets own (frames_in input))).frames
    ≡ Same (length (written (sent_packets own (frames_in input))).frames)
    → answer audit after ≡ told_off Done (comparison_line (Same (length (sent_packets own (frames_in input)))))
same-again replay audit before after own input made r a no_echo none are same =
    let m = replay-made replay before own input made r in
    let sent = sent_packets own (frames_in input) in
    let count : length (written sent).frames ≡ length sent = ap (λ (l : List Frame). length l) are ∙ length-frames 0 sent in
    audit-same audit after own input made.octets (frames_in input) (written sent).frames (length sent) a no_echo
    (whole-read (first_failing (header_rules input)) (capture input) m.headed m.whole)
    (ap (λ (octets : List ℕ). whole (opened Classic octets)) m.octets ∙ written-whole (out_header ++ records_of sent) none)
    (same ∙ ap Same count)
