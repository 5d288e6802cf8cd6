use Rattle.std.proofs.Common.{◌≡◌, ◌∙◌, ℕ, ◌+◌, List, [], ◌∷◌, ◌++◌, get_or, slice_index_or, take, Some, sym, ap, subst, arith}
use Rattle.std.proofs.lemmas.List.{get_or_default, take_all, take_more}
use Rattle.capture_io.specs.Frame.{Frame}
use Rattle.capture_events.specs.Events.{events_after, ticks}
use Rattle.forwarders.specs.Gathering.{Writes}
use Rattle.forwarders.proofs.FrameLemmas.{latest, latest-append, latest-closes, latest-order, writes-frame}
use Rattle.forwarders.proofs.WriteLemmas.{between-count, seconds-end, seconds-rise, writes-own}
use Rattle.forwarders.proofs.writing.write_frames.Goals as goal

pub write_seconds-requires-clause-own : goal.write_seconds-requires-clause-own
write_seconds-requires-clause-own c =
    let frames : List Frame = c.args.frames.now in
    writes-own c.args.settings.now frames (events_after (Some c.args.from) (take c.loop-place.place frames)) c.args.table.now.parts c.loop-place.table.parts c.args.written.now c.loop-place.written c.loop-place.invariant.writes ∙ c.requires.own

pub write_seconds-requires-clause-order : goal.write_seconds-requires-clause-order
write_seconds-requires-clause-order c =
    let frames : List Frame = c.args.frames.now in
    let frame : Frame = c.index-frames-place.result in
    let at : c.frame.inside.moment ≡ (get_or frames c.loop-place.place frame).moment = ap (λ (f : Frame). f.moment) (c.frame.view_is ∙ c.index-frames-place.is) in
    let order = latest-order c.args.from frames c.loop-place.place frame c.requires.order c.loop-place-test.true in
    let last = c.loop-place.invariant.last in
    omega (arith, at, order, last)

pub write_frame-requires-clause-may : goal.write_frame-requires-clause-may
write_frame-requires-clause-may c =
    let frames : List Frame = c.args.frames.now in
    let place = c.loop-place.place in
    let frame : Frame = c.index-frames-place.result in
    let inv = c.loop-place.invariant in
    let same : c.frame.inside.moment ≡ frame.moment = ap (λ (f : Frame). f.moment) c.frame.view_is in
    let at : frame.moment ≡ (get_or frames place frame).moment = ap (λ (f : Frame). f.moment) c.index-frames-place.is in
    let early = c.requires.moments place frame c.loop-place-test.true in
    let end = seconds-end c.frame.inside.moment (omega (arith, same, at, early)) in
    let some = between-count c.args.settings.now frames c.loop-place.last c.frame.inside.moment c.loop-place.table.parts c.write_seconds.new.table.parts c.loop-place.written c.write_seconds.new.written (c.in_ok-write_seconds.ensures.writes frames) in
    let past = inv.count in
    let below = c.loop-place-test.true in
    let number = c.requires.number in
    let room = c.requires.count in
    let now = c.in_ok-write_seconds.ensures.now in
    let last_end = seconds-end c.loop-place.last inv.early in
    record { later = omega (arith, now, same); count = omega (arith, end, some, past, below, number, room, last_end) }

pub loop-place-preserved : goal.loop-place-preserved
loop-place-preserved c =
    let settings = c.args.settings.now in
    let from = c.args.from in
    let frames : List Frame = c.args.frames.now in
    let place = c.loop-place.place in
    let below = c.loop-place-test.true in
    let frame : Frame = c.index-frames-place.result in
    let inv = c.loop-place.invariant in
    let same : c.frame.inside.moment ≡ frame.moment = ap (λ (f : Frame). f.moment) c.frame.view_is in
    let at : frame.moment ≡ (get_or frames place frame).moment = ap (λ (f : Frame). f.moment) c.index-frames-place.is in
    let more : take (place + 1) frames ≡ take place frames ++ get_or frames place frame ∷ [] = take_more frames place frame below in
    let whole : take place frames ++ frame ∷ [] ≡ take (place + 1) frames = ap (λ (f : Frame). take place frames ++ f ∷ []) c.index-frames-place.is ∙ sym more in
    let seconds = c.in_ok-write_seconds.ensures in
    let done = c.in_ok-write_frame.ensures in
    let here : (d : Frame) → slice_index_or frames place d ≡ frame = λ d. get_or_default frames place d frame below ∙ sym c.index-frames-place.is in
    let one = done.writes frames below here in
    let ticked : Writes settings frames (ticks (Some (latest from (take place frames))) frame.moment) c.loop-place.table.parts c.loop-place.written c.write_seconds.new.table.parts c.write_seconds.new.written =
    subst (λ (t : ℕ × ℕ). Writes settings frames (ticks (Some t.0) t.1) c.loop-place.table.parts c.loop-place.written c.write_seconds.new.table.parts c.write_seconds.new.written) (λ i. (inv.last i, same i)) (seconds.writes frames) in
    let early = c.requires.moments place frame below in
    let now = done.now in
    let past = inv.count in
    let some = between-count settings frames c.loop-place.last c.frame.inside.moment c.loop-place.table.parts c.write_seconds.new.table.parts c.loop-place.written c.write_seconds.new.written (seconds.writes frames) in
    let few = one.count in
    let order = latest-order from frames place frame c.requires.order below in
    let last = inv.last in
    let rise = seconds-rise c.loop-place.last c.frame.inside.moment (omega (arith, same, at, order, last)) in
    record {
      last = same ∙ at ∙ sym (ap (latest from) more ∙ latest-append from (take place frames) (get_or frames place frame ∷ []));
      early = omega (arith, same, at, early);
      now = omega (arith, same, now);
      count = omega (arith, past, some, few, rise);
      writes = subst (λ (l : List Frame). Writes settings frames (events_after (Some from) l) c.args.table.now.parts c.args.written.now c.write_frame.new.table.parts c.write_frame.new.written) whole
          (writes-frame settings frames from (take place frames) frame c.args.table.now.parts c.loop-place.table.parts c.write_seconds.new.table.parts c.write_frame.new.table.parts c.args.written.now c.loop-place.written c.write_seconds.new.written c.write_frame.new.written inv.writes ticked one);
    }

pub returns-clause-now : goal.returns-clause-now
returns-clause-now c = λ some.
    let frames : List Frame = c.args.frames.now in
    let inv = c.loop-place.invariant in
    let end = c.loop-place.auto.place-end in
    let past = c.loop-place-test.false in
    let all : take c.loop-place.place frames ≡ frames = take_all c.loop-place.place frames past in
    let last : c.loop-place.last ≡ latest c.args.from frames = inv.last ∙ ap (latest c.args.from) all in
    let closes = latest-closes c.args.from frames some in
    let now = inv.now in
    omega (arith, last, closes, now)
