-- What is lifted out of a replay's own packets.
use Rattle.std.proofs.Common.{◌≡◌, ◌≤◌, ℕ, List, length, map, None, refl, sym, ap, ◌∙◌, arith}
use Rattle.std.specs.List.{All}
use Rattle.capture_io.specs.Frame.{Frame}
use Rattle.capture_io.specs.Run.{AreLater}
use Rattle.lisp_settings.specs.Lawful.{IsLawful}
use Rattle.lisp_settings.specs.declared.settings.Settings.{Settings}
use Rattle.capture_events.specs.Came.{IsRead}
use Rattle.capture_events.specs.Events.{Packet}
use Rattle.playback.specs.Written.{frames_of}
use Rattle.router_model.specs.Journal.{drawn}
use Rattle.audit.specs.Compared.{compared}
use Rattle.audit.specs.declared.outcome.Outcome.TheVariants.{Same}
use Rattle.audit.specs.Lifted.{lifted}
use Rattle.audit.specs.Requests.{sent_nonce}
use Rattle.audit_laws.specs.Drawn.{drawn_nonces, journal_after, with_nonces, MayLift}
use Rattle.audit_laws.specs.Sent.{sent_packets, written}
use Rattle.audit_laws.proofs.AgainLemmas.{sent-again}
use Rattle.audit_laws.proofs.DrawnLemmas.{length-first_nonces}
use Rattle.audit_laws.proofs.PlayLemmas.{plain-drawn, plain-sent, plain-whole}
use Rattle.audit_laws.proofs.SameLemmas.{compared-own, drawn-lifted, length-frames}
use Rattle.audit_laws.proofs.WrittenLemmas.{written-frames}

pub sent-lifted : (settings : Settings) (frames : List Frame) → MayLift settings frames → lifted settings (frames_of (sent_packets settings frames)) ≡ drawn_nonces settings frames
sent-lifted settings frames may =
    let journal = journal_after settings frames in
    let few : drawn journal ≤ 1000000 = let most = may.few in omega (arith, most, length-first_nonces settings (drawn journal)) in
    drawn-lifted settings (sent_packets settings frames) journal (plain-whole settings frames may.lawful may.read may.later)
    (plain-drawn settings frames may.lawful may.read may.later may.range may.others may.no_echo) may.apart few

pub written-lifted : (settings : Settings) (frames : List Frame) → MayLift settings frames → (written (sent_packets settings frames)).fault ≡ None → lifted settings (written (sent_packets settings frames)).frames ≡ drawn_nonces settings frames
written-lifted settings frames may none =
    ap (lifted settings) (written-frames (sent_packets settings frames) (plain-sent settings frames may.lawful may.read may.later) none) ∙ sent-lifted settings frames may

-- a replay's own output is the same as what was due
pub own-same : (settings : Settings) (frames : List Frame) → IsLawful settings → All IsRead frames → AreLater 0 frames → (written (sent_packets settings frames)).fault ≡ None
    → compared (map (λ packet. packet.octets) (sent_packets settings frames)) (written (sent_packets settings frames)).frames ≡ Same (length (sent_packets settings frames))
own-same settings frames lawful read later none =
    let packets : List Packet = sent_packets settings frames in
    ap (compared (map (λ (packet : Packet). packet.octets) packets)) (written-frames packets (plain-sent settings frames lawful read later) none)
    ∙ compared-own 0 0 packets (plain-whole settings frames lawful read later) ∙ ap Same (omega arith)

-- whoever has other nonces lifts the same
lifted-alike : (settings : Settings) (seed nonces : List ℕ) (frames : List Frame) → lifted (with_nonces settings seed nonces) frames ≡ lifted settings frames
unfolding sent_nonce
lifted-alike settings seed nonces frames = refl

-- and finds what was sent the same, with those that were lifted
pub lifted-same : (settings : Settings) (frames : List Frame) (seed nonces : List ℕ) → MayLift settings frames → (written (sent_packets settings frames)).fault ≡ None
    → compared (map (λ packet. packet.octets) (sent_packets (with_nonces settings seed (lifted (with_nonces settings seed nonces) (written (sent_packets settings frames)).frames)) frames)) (written (sent_packets settings frames)).frames
    ≡ Same (length (written (sent_packets settings frames)).frames)
lifted-same settings frames seed nonces may none =
    let sent : List Packet = sent_packets settings frames in
    let is : lifted (with_nonces settings seed nonces) (written sent).frames ≡ drawn_nonces settings frames = lifted-alike settings seed nonces (written sent).frames ∙ written-lifted settings frames may none in
    let same : sent_packets (with_nonces settings seed (lifted (with_nonces settings seed nonces) (written sent).frames)) frames ≡ sent =
    ap (λ (found : List ℕ). sent_packets (with_nonces settings seed found) frames) is ∙ sent-again settings seed frames in
    let frames_are : (written sent).frames ≡ frames_of sent = written-frames sent (plain-sent settings frames may.lawful may.read may.later) none in
    ap (λ (packets : List Packet). compared (map (λ (packet : Packet). packet.octets) packets) (written sent).frames) same
    ∙ own-same settings frames may.lawful may.read may.later none
    ∙ ap Same (sym (ap (λ (l : List Frame). length l) frames_are ∙ length-frames 0 sent))
