-- Isolation of instances (RFC 8060, section 4.1): the part of a journal of an instance, and the instance of a frame.
use Rattle.std.specs.Prelude.{◌≡◌, ℕ, ◌==◌, max, Bool, true, [], ◌∷◌, Option, Some, None, if◌then◌else◌}
use Rattle.ip_headers.specs.Ip.{dest_of, payload_place}
use Rattle.ip_headers.specs.Udp.{payload_in, udp_at}
use Rattle.ip_headers.specs.declared.addr.Addr.{Addr}
use Rattle.lisp_header.specs.Header.{header_at as lisp_header_at}
use Rattle.capture_io.specs.Frame.{Frame}
use Rattle.capture_io.specs.Link.{link_vlan}
use Rattle.lisp_settings.specs.declared.settings.Settings.{Settings}
use Rattle.router_log.specs.declared.entry.Entry.{Entry}
use Rattle.router_log.specs.declared.entry.Entry.TheVariants.{Learned, Asked, Retried, Answered, Bits}
use Rattle.router_model.specs.Course.{FramePacket, frame_packet}
use Rattle.router_model.specs.Decide.{decide, decide_by, iid_of}
use Rattle.router_model.specs.Journal.{Journal, IsRising, at}
use Rattle.router_model.specs.Mappings.{force}
use Rattle.router_model.specs.Parts.{Parts, Stands, parts_in, standing_in, view_in}
use Rattle.router_model.specs.Site.{instance_of, is_own}
use Rattle.router_model.specs.Standing.{standing}
use Rattle.router_model.specs.View.{View, seen_at}

-- ### the journal of an instance

-- the instance of the last request with a nonce
abbrev pub asked_in : ℕ → Journal → Option ℕ
asked_in nonce [] = None
asked_in nonce (Asked moment eid source invoked asked ∷ before) = if asked == nonce then Some eid.iid else asked_in nonce before
asked_in nonce (_ ∷ before) = asked_in nonce before

-- the instance of an entry, by the entries before it: a request that is sent again or answered is the last one with its
-- nonce; entries of a locator, an own one or not, are of no instance
abbrev pub told_of : Entry → Journal → Option ℕ
told_of (Learned moment mapping fixed) before = Some mapping.eid.iid
told_of (Asked moment eid source invoked nonce) before = Some eid.iid
told_of (Retried moment nonce) before = asked_in nonce before
told_of (Answered moment nonce) before = asked_in nonce before
told_of (Bits moment eid bits width) before = Some eid.iid
told_of _ before = None

-- whether an entry's instance, if it has one, is this instance
abbrev pub counts_in : ℕ → Option ℕ → Bool
counts_in i None = true
counts_in i (Some iid) = iid == i

-- the journal of an instance: a journal without the entries of other instances
abbrev pub of_instance : Journal → ℕ → Journal
of_instance [] i = []
of_instance (entry ∷ before) i =
    if counts_in i (told_of entry before) then entry ∷ of_instance before i else of_instance before i

-- ### the instance of a frame

-- the instance in the LISP header of a packet with a datagram, 0 without one
abbrev pub tunnel_instance : FramePacket → ℕ
tunnel_instance packet =
    iid_of (lisp_header_at (payload_in packet.octets (udp_at (payload_place packet.header) packet.octets)))

-- the instance of a packet that came in a VLAN: to an own locator the instance in its LISP header, else the instance
-- that the VLAN is attached to, if any
abbrev pub packet_instance : Settings → ℕ → FramePacket → Option ℕ
packet_instance settings vlan packet =
    if is_own settings.locators (dest_of packet.header) then Some (tunnel_instance packet)
    else instance_of settings.attachments vlan

-- the instance of a frame
abbrev pub frame_instance : Settings → Frame → Option ℕ
frame_instance settings frame = packet_instance settings (link_vlan frame) (frame_packet frame)

-- ### what is promised

-- two views agree in instance i: in all on which decisions on its frames depend
pub record AgreesIn (i : ℕ) (v w : View) : Type 0 where
  pub in_force : (addr : Addr) (len : ℕ) → force v.mappings i addr len ≡ force w.mappings i addr len
  pub up : (rloc : Addr) → v.up rloc ≡ w.up rloc
  pub echo_out : (rloc : Addr) → v.echo_out rloc ≡ w.echo_out rloc
  pub may_start : (rloc : Addr) → v.may_start rloc ≡ w.may_start rloc

-- two views that agree in an instance decide alike on its frames
abbrev pub AgreesDecides : Type 0
AgreesDecides = (settings : Settings) (i : ℕ) (v w : View) (frame : Frame) → AgreesIn i v w → frame_instance settings frame ≡ Some i → decide_by settings v frame ≡ decide_by settings w frame

-- a decision on a frame of no instance doesn't depend on the view
abbrev pub NoneAsks : Type 0
NoneAsks = (settings : Settings) (v w : View) (frame : Frame) → frame_instance settings frame ≡ None → decide_by settings v frame ≡ decide_by settings w frame

-- entries of other instances count in no decision on a frame of an instance, by the views at exactly each moment
abbrev pub MomentIsolated : Type 0
MomentIsolated = (settings : Settings) (journal : Journal) (i now : ℕ) (frame : Frame) → frame_instance settings frame ≡ Some i → decide_by (standing settings journal) (seen_at journal now) frame ≡ decide_by (standing settings (of_instance journal i)) (seen_at (of_instance journal i) now) frame

-- the journal of an instance decides on its frames as the whole journal, where questions to both count as of one moment
abbrev pub DecisionIsolated : Type 0
DecisionIsolated = (settings : Settings) (journal : Journal) (i m n : ℕ) (frame : Frame) → frame_instance settings frame ≡ Some i → at journal m ≡ at (of_instance journal i) n → decide settings journal m frame ≡ decide settings (of_instance journal i) n frame

-- the journal of an instance decides on its frames as the whole journal, asked at the moment as of which the whole one
-- answers, where moments don't fall
abbrev pub RisingIsolated : Type 0
RisingIsolated = (settings : Settings) (journal : Journal) (i m : ℕ) (frame : Frame) → IsRising journal → frame_instance settings frame ≡ Some i → decide settings journal m frame ≡ decide settings (of_instance journal i) (at journal m) frame

-- a table that stands for a journal decides on frames of an instance as the parts of that instance's journal
abbrev pub TableIsolated : Type 0
TableIsolated = (settings : Settings) (parts : Parts) (journal : Journal) (i m : ℕ) (frame : Frame) → Stands settings parts journal → frame_instance settings frame ≡ Some i → let mine = parts_in settings (of_instance journal i) in decide_by (standing_in settings parts) (view_in parts m) frame ≡ decide_by (standing_in settings mine) (view_in mine (max m parts.now)) frame
