use Rattle.std.proofs.Common.{◌≡◌, ◌∙◌, ℕ, List, get_or, Some, ap, subst, arith}
use Rattle.capture_io.specs.Frame.{Frame}
use Rattle.capture_events.specs.Events.{events_after, ticks}
use Rattle.forwarders.specs.Gathering.{Writes}
use Rattle.forwarders.proofs.FrameLemmas.{HasWritten, frames-written}
use Rattle.forwarders.proofs.WriteLemmas.{opened-count, seconds-end, writes-own}
use Rattle.forwarders.proofs.writing.write_round.Goals as goal

pub write_frames-requires-clause-own : goal.write_frames-requires-clause-own
write_frames-requires-clause-own c =
    let frames : List Frame = c.args.frames.now in
    writes-own c.args.settings.now frames (ticks c.args.previous c.first.inside.moment) c.args.table.now.parts c.write_seconds.new.table.parts c.args.written.now c.write_seconds.new.written (c.in_ok-write_seconds.ensures.writes frames) ∙ c.requires.own

pub write_frames-requires-clause-count : goal.write_frames-requires-clause-count
write_frames-requires-clause-count c =
    let frames : List Frame = c.args.frames.now in
    let frame : Frame = c.index-frames-0.result in
    let at : c.first.inside.moment ≡ (get_or frames 0 frame).moment = ap (λ (f : Frame). f.moment) (c.first.view_is ∙ c.index-frames-0.is) in
    let early = c.requires.moments 0 frame (omega (arith, c.requires.number.0)) in
    let end = seconds-end c.first.inside.moment (omega (arith, at, early)) in
    let some = opened-count c.args.settings.now frames c.args.previous c.first.inside.moment c.args.table.now.parts c.write_seconds.new.table.parts c.args.written.now c.write_seconds.new.written (c.in_ok-write_seconds.ensures.writes frames) in
    let room = c.requires.count in
    omega (arith, end, some, room)

-- what is known once all is written
written : (c : goal.In_ok-write_frames) → HasWritten c.args.settings.now c.args.previous c.args.frames.now c.args.table.now.parts c.len-from.result c.write_frames.new.written c.write_frames.new.table.parts
written c =
    let settings = c.args.settings.now in
    let frames : List Frame = c.args.frames.now in
    let frame : Frame = c.index-frames-0.result in
    let same : c.first.inside.moment ≡ frame.moment = ap (λ (f : Frame). f.moment) c.first.view_is in
    frames-written settings c.args.previous frames frame c.args.table.now.parts c.write_seconds.new.table.parts c.write_frames.new.table.parts c.args.written.now c.write_seconds.new.written c.write_frames.new.written c.len-from.result c.requires.number.0 c.index-frames-0.is c.requires.none c.len-from.ensures
    (subst (λ (m : ℕ). Writes settings frames (ticks c.args.previous m) c.args.table.now.parts c.args.written.now c.write_seconds.new.table.parts c.write_seconds.new.written) same (c.in_ok-write_seconds.ensures.writes frames))
    (subst (λ (m : ℕ). Writes settings frames (events_after (Some m) frames) c.write_seconds.new.table.parts c.write_seconds.new.written c.write_frames.new.table.parts c.write_frames.new.written) same c.in_ok-write_frames.ensures.writes)

pub returns-clause-written : goal.returns-clause-written
returns-clause-written c = (written c).written

pub returns-clause-table : goal.returns-clause-table
returns-clause-table c = (written c).parts

pub returns-clause-entered : goal.returns-clause-entered
returns-clause-entered c = record { now = c.in_ok-write_frames.ensures.now c.requires.number.0; count = (written c).count }
