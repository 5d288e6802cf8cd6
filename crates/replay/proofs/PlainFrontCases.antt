-- A replay by the plain router that is cut short.
use Rattle.std.proofs.Common.{◌≡◌, ℕ, List, [], length, take, Option, Some, None, refl, sym, ap, subst, ◌∙◌}
use Rattle.std.specs.Option.{option_map, IfSome}
use Rattle.desk.specs.World.{World, left_of, found_at, after_make, after_write, shown, shown_of}
use Rattle.capture_io.specs.Output.{out_header}
use Rattle.lisp_settings.specs.Lawful.{IsLawful}
use Rattle.lisp_settings.specs.declared.settings.Settings.{Settings}
use Rattle.capture_events.specs.Events.{Determined, Event, Outcome, events, played, records_of}
use Rattle.playback.specs.Front.{CutRun, IsFront}
use Rattle.playback.specs.Input.{InputRun}
use Rattle.playback.specs.Playing.{with_output}
use Rattle.playback.proofs.DeterminedLemmas.{cut-play}
use Rattle.playback.proofs.OutputLemmas.{with_output-none}
use Rattle.playback.proofs.FrontLemmas.{front-all, front-front, front-lines, front-octets}
use Rattle.router_model.specs.Journal.{statics}
use Rattle.router_model.specs.Parts.{Parts, parts_in, table}
use Rattle.router_model.specs.Plain.{Router, after_event, plain, started}
use Rattle.replay.proofs.ArrivalLemmas.{tabled}
use Rattle.replay.specs.Answer.{closing, replayed}
use Rattle.replay.specs.Front.{EndsFront, MakesPart, SaysPart, replayed_part}
use Rattle.replay.specs.Lines.{end_line}
use Rattle.replay.specs.Readings.{replay_of, HasReplayed}
use Rattle.replay.specs.Taking.{router_of}
use Rattle.replay.specs.declared.counts.Counts.{Counts}
use Rattle.replay.proofs.FrontCases.{by-count, frames_front, front-events, last_line_front, make_front}

-- a replay whose output was made, of so many events
replay_front : (settings : Settings) (name : List ℕ) (run : InputRun) (id : ℕ) (w : World) (new : Option World) (first : List Event) (lines octets : List ℕ) → found_at id w.writers ≡ None
    → shown new ≡ Some (with_output (Some id) lines octets (shown_of (after_write id out_header (after_make id name w))))
    → IsFront first (events run.frames) → IsFront lines (replay_of settings run).lines
    → IsFront (played plain (started settings) first).lines lines → IsFront octets (records_of (played plain (started settings) first).packets)
    → EndsFront (replayed settings name run) (replayed_part settings name run) (shown_of w) new
unfolding replayed replayed_part
replay_front settings name run id w new first lines octets fresh is within said reported written =
    let outcome = replay_of settings run in
    let named : take (length first) (events run.frames) ≡ first = by-count first (events run.frames) within in
    let packets = front-octets plain (started settings) first (events run.frames) within in
    let whole = front-front octets (records_of (played plain (started settings) first).packets) (records_of outcome.packets) written packets in
    let all = events run.frames in
    frames_front outcome (λ k. played plain (started settings) (take k all)) (length first) (length all) name run id w new lines octets
    (ap (played plain (started settings)) (by-count all all (front-all all))) fresh is said whole
    (rw named reported) (rw named written)

-- a play by the table that was cut short
play_front : (settings : Settings) (name : List ℕ) (run : InputRun) (id : ℕ) (w : World) (new : Option World) (parts : Parts) → IsLawful settings → parts ≡ parts_in settings (statics settings)
    → found_at id w.writers ≡ None
    → CutRun (Determined (after_event table)) (router_of settings parts) (Some id) (shown_of (after_write id out_header (after_make id name w))) run new
    → EndsFront (replayed settings name run) (replayed_part settings name run) (shown_of w) new
play_front settings name run id w new parts lawful begins fresh cut_run =
    let cut = cut-play (after_event table) (router_of settings parts) (Some id) (shown_of (after_write id out_header (after_make id name w))) run new cut_run in
    let some = events cut.frames in
    let all = events run.frames in
    let within = front-events cut.frames run.frames cut.within in
    let by = λ (first : List Event) (front : IsFront first some). tabled settings parts cut.frames first lawful begins cut.came front in
    let whole = by some (front-all some) in
    let part = by cut.first cut.front in
    let said : IsFront cut.lines (played plain (started settings) some).lines = subst (λ (o : Outcome (Router Parts)). IsFront cut.lines o.lines) whole cut.said in
    let reported : IsFront (played plain (started settings) cut.first).lines cut.lines = subst (λ (o : Outcome (Router Parts)). IsFront o.lines cut.lines) part cut.reported in
    let written : IsFront cut.octets (records_of (played plain (started settings) cut.first).packets) = subst (λ (o : Outcome (Router Parts)). IsFront cut.octets (records_of o.packets)) part cut.written in
    replay_front settings name run id w new cut.first cut.lines cut.octets fresh cut.shown (front-front cut.first some all cut.front within)
    (front-front cut.lines (played plain (started settings) some).lines (replay_of settings run).lines said (front-lines plain (started settings) some all within)) reported written

-- the same, over what the desk tells
pub table_front : (settings : Settings) (id : ℕ) (from : ℕ) (rest : List ℕ → InputRun) (name : List ℕ) (old made new : Option World) (parts : Parts) → IsLawful settings → parts ≡ parts_in settings (statics settings)
    → IfSome old (λ w. found_at id w.writers ≡ None) → made ≡ option_map (λ w. after_write id out_header (after_make id name w)) old
    → IfSome made (λ w. CutRun (Determined (after_event table)) (router_of settings parts) (Some id) (shown_of w) (rest (left_of from w)) new)
    → IfSome old (λ w. EndsFront (replayed settings name (rest (left_of from w))) (replayed_part settings name (rest (left_of from w))) (shown_of w) new)
table_front settings id from rest name None made new parts lawful begins fresh makes cut = tt
table_front settings id from rest name (Some w) made new parts lawful begins fresh makes cut =
    play_front settings name (rest (left_of from w)) id w new parts lawful begins fresh (rw makes at cut)

-- want of memory behind the header
pub header_front : (settings : Settings) (id : ℕ) (left : World → InputRun) (name : List ℕ) (old made : Option World)
    → IfSome old (λ w. found_at id w.writers ≡ None) → made ≡ option_map (λ w. after_write id out_header (after_make id name w)) old
    → IfSome old (λ w. EndsFront (replayed settings name (left w)) (replayed_part settings name (left w)) (shown_of w) made)
header_front settings id left name None made fresh makes = tt
header_front settings id left name (Some w) made fresh makes =
    let run = left w in
    let file = after_write id out_header (after_make id name w) in
    let same : shown made ≡ Some (with_output (Some id) [] [] (shown_of file)) = ap shown makes ∙ ap Some (sym (with_output-none (Some id) (shown_of file))) in
    replay_front settings name run id w made [] [] [] fresh same (events run.frames, refl) ((replay_of settings run).lines, refl) ([], refl) ([], refl)

-- the output was made only in part, or not at all
plain_make : (settings : Settings) (name : List ℕ) (run : InputRun) (w : World) (new : Option World) → MakesPart name (Some w) new
    → EndsFront (replayed settings name run) (replayed_part settings name run) (shown_of w) new
unfolding replayed replayed_part
plain_make settings name run w new makes =
    make_front (replay_of settings run) (λ k. played plain (started settings) (take k (events run.frames))) name run w new refl makes

pub output_front : (settings : Settings) (left : World → InputRun) (name : List ℕ) (old new : Option World) → MakesPart name old new
    → IfSome old (λ w. EndsFront (replayed settings name (left w)) (replayed_part settings name (left w)) (shown_of w) new)
output_front settings left name None new makes = tt
output_front settings left name (Some w) new makes = plain_make settings name (left w) w new makes

-- a part of its last line
pub closing_front : (settings : Settings) (output : List ℕ) (run : InputRun) (counts : Counts) (w : World) (mid new : Option World) → HasReplayed settings output run counts (shown_of w) (shown mid)
    → SaysPart (closing counts.fault (end_line counts.frames counts.written counts.entries)) mid new
    → EndsFront (replayed settings output run) (replayed_part settings output run) (shown_of w) new
unfolding replayed replayed_part
closing_front settings output run counts w mid new has says =
    let all = events run.frames in
    last_line_front (replay_of settings run) (λ k. played plain (started settings) (take k all)) (length all) output run counts w mid new
    (ap (played plain (started settings)) (by-count all all (front-all all))) has says
