-- A run that is cut short, case by case, and how steps of a run make its beginning.
use Rattle.std.proofs.Common.{◌≡◌, ℕ, List, [], ◌∷◌, ◌++◌, length, take, Option, Some, None, Result, Ok, Err, append_assoc, refl, sym, ap, subst, ◌∙◌, inl, inr}
use Rattle.std.specs.Option.{option_map, IfSome}
use Rattle.std.proofs.Math.Seq.{take-append_seam}
use Rattle.std.proofs.lemmas.List.{append-nil, map-append}
use Rattle.command_words.specs.Words.{words_of}
use Rattle.command_words.specs.declared.words.Words.{Words}
use Rattle.command_words.specs.declared.words.Words.TheVariants.{Replay, Show, Trial, Audit}
use Rattle.desk.specs.declared.file.NamedFile.{NamedFile}
use Rattle.desk.specs.World.{World, Shown, content, found_at, extended, after_make, after_write, shown, shown_of}
use Rattle.desk.proofs.Entries.{changed_at-more}
use Rattle.capture_io.specs.Frame.{Frame}
use Rattle.capture_io.specs.Output.{out_header}
use Rattle.lisp_settings.specs.Settings.{settings_of}
use Rattle.lisp_settings.specs.declared.fault.SettingsFault.{SettingsFault}
use Rattle.lisp_settings.specs.declared.settings.Settings.{Settings}
use Rattle.capture_events.specs.Events.{Outcome, events, events_after, events_of, records_of}
use Rattle.command_words.specs.declared.intake.InputFormat.TheVariants.{Classic}
use Rattle.playback.specs.Front.{IsFront}
use Rattle.playback.specs.Input.{InputRun}
use Rattle.playback.specs.Playing.{with_output}
use Rattle.playback.proofs.FrontLemmas.{front-all, front-behind, front-front, front-more, front-same, front-take}
use Rattle.router_model.specs.Journal.{Journal}
use Rattle.router_model.specs.Plain.{Router}
use Rattle.replay.specs.Answer.{Answer, answer_by, closing, made_files}
use Rattle.replay.specs.Front.{AreFronts, EndsFront, MakesPart, Part, SaysPart, part, part_after_opening, part_after_settings, part_after_words, part_by, replayed_part, shown_part}
use Rattle.replay.specs.Lines.{end_line}
use Rattle.replay.specs.Opening.{Arriving, Opened, arriving, opened}
use Rattle.replay.specs.Readings.{HasReplayedBy}
use Rattle.replay.specs.declared.counts.Counts.{Counts}

-- before the first event nothing was said
pub replayed-zero : (settings : Settings) (output : List ℕ) (run : InputRun) → (replayed_part settings output run 0).said ≡ []
unfolding replayed_part
replayed-zero settings output run = refl

shown-zero : (run : InputRun) → (shown_part run 0).said ≡ []
unfolding shown_part
shown-zero run = refl

pub opening-zero : (parts : InputRun → ℕ → Part) (what : Opened) → ((run : InputRun) → (parts run 0).said ≡ []) → (part_after_opening parts what 0).said ≡ []
opening-zero parts (Ok run) zeros = zeros run
opening-zero parts (Err fault) zeros = refl

pub replay-zero : (settings : Settings) (output : List ℕ) (what : Opened) → (part_after_opening (replayed_part settings output) what 0).said ≡ []
replay-zero settings output what = opening-zero (replayed_part settings output) what (replayed-zero settings output)

pub show-zero : (what : Opened) → (part_after_opening shown_part what 0).said ≡ []
show-zero what = opening-zero shown_part what shown-zero

pub settings-zero : (output : List ℕ) (what : Arriving) (r : Result Settings SettingsFault) → (part_after_settings output what r 0).said ≡ []
settings-zero output what (Ok settings) = replay-zero settings output (what settings)
settings-zero output what (Err fault) = refl

pub words-zero : (files : List NamedFile) (words : Option Words) → (part_after_words files words 0).said ≡ []
words-zero files None = refl
words-zero files (Some (Replay settings input output intake workers round)) = settings-zero output (arriving intake (content input files)) (settings_of (content settings files))
words-zero files (Some (Show input)) = show-zero (opened Classic (content input files))
words-zero files (Some (Trial n)) = refl
words-zero files (Some (Audit settings input sent nonces)) = refl

-- the same answer and parts by other names
pub front_as : (a b : Answer) (p q : ℕ → Part) (old : Shown) (new : Option World) → a ≡ b → p ≡ q → EndsFront a p old new → EndsFront b q old new
front_as a b p q old new same alike ends = rw (← same, ← alike) ends

-- files begin with themselves
pub fronts-all : (files : List NamedFile) → AreFronts files files
fronts-all [] = tt
fronts-all (file ∷ files) = (refl, (front-all file.octets, fronts-all files))

-- nothing was said
pub front_none : (a : Answer) (parts : ℕ → Part) (w : World) (new : Option World) → (parts 0).said ≡ [] → shown new ≡ Some (shown_of w) → EndsFront a parts (shown_of w) new
front_none a parts w new zeros same = rw same (record {
  lines = [];
  made = [];
  count = 0;
  files = refl;
  said = sym (append-nil w.said);
  wrote = sym (append-nil (made_files w.writers));
  report = (a.said, refl);
  output = tt;
  reported = front-same (parts 0).said [] zeros;
  written = tt;
  closed = inl (0, ((parts 0).said, refl));
})

-- the same where something may be told
pub front_still : (a : World → Answer) (parts : World → ℕ → Part) (old new : Option World) → ((w : World) → (parts w 0).said ≡ []) → shown new ≡ shown old
    → IfSome old (λ w. EndsFront (a w) (parts w) (shown_of w) new)
front_still a parts None new zeros same = tt
front_still a parts (Some w) new zeros same = front_none (a w) (parts w) w new (zeros w) same

-- a part of the only line, where no file is made
pub front_line : (a : Answer) (parts : ℕ → Part) (line : List ℕ) (w : World) (old new : Option World) → (parts 0).said ≡ [] → a.said ≡ line → a.made ≡ [] → shown old ≡ Some (shown_of w) → SaysPart line old new
    → EndsFront a parts (shown_of w) new
front_line a parts line w None new zeros is none same says = cc
front_line a parts line w (Some v) new zeros is none same says =
    let e : shown_of v ≡ shown_of w = cc in
    rw says.1 (record {
      lines = take says.0 line;
      made = [];
      count = 0;
      files = ap (λ (s : Shown). s.files) e;
      said = ap (λ (s : Shown). s.said ++ take says.0 line) e;
      wrote = ap (λ (s : Shown). made_files s.writers) e ∙ sym (append-nil (made_files w.writers));
      report = rw is (front-take says.0 line);
      output = tt;
      reported = (take says.0 line, ap (λ (l : List ℕ). l ++ take says.0 line) zeros);
      written = tt;
      closed = inr (sym none);
    })

-- the events of the first frames begin those of all
front-after : (previous : Option ℕ) (frames more : List Frame) → IsFront (events_after previous frames) (events_after previous (frames ++ more))
front-after previous [] more = (events_after previous more, refl)
front-after previous (frame ∷ frames) more =
    let rest = front-after (Some frame.moment) frames more in
    front-behind (events_of previous frame) (events_after (Some frame.moment) frames) (events_after (Some frame.moment) (frames ++ more)) _ refl rest

pub front-events : (frames all : List Frame) → IsFront frames all → IsFront (events frames) (events all)
front-events frames all is = subst (λ (l : List Frame). IsFront (events frames) (events l)) is.1 (front-after None frames is.0)

-- the first of them, by their number
pub by-count : {X : Type 0} (first all : List X) → IsFront first all → take (length first) all ≡ first
by-count {X} first all is = ap (λ (l : List X). take (length first) l) (sym is.1) ∙ take-append_seam first is.0

-- what is shown of octets that were said and written into the file that was made
pub part-shown : (id : ℕ) (name lines header octets : List ℕ) (w : World) → found_at id w.writers ≡ None
    → with_output (Some id) lines octets (shown_of (after_write id header (after_make id name w)))
    ≡ record (shown_of w) { said = w.said ++ lines; writers = w.writers ++ (id, record { name = name; octets = header ++ octets }) ∷ [] }
part-shown id name lines header octets w fresh =
    let made = changed_at-more id (extended header) (record { name = name; octets = [] }) w.writers fresh in
    ap (λ (writers : List (ℕ × NamedFile)). with_output (Some id) lines octets (record (shown_of w) { writers = writers })) made
    ∙ ap (λ (writers : List (ℕ × NamedFile)). record (shown_of w) { said = w.said ++ lines; writers = writers }) (changed_at-more id (extended octets) (record { name = name; octets = header }) w.writers fresh)

-- the file that was made is the last
pub made-more : (id : ℕ) (file : NamedFile) (writers : List (ℕ × NamedFile)) → made_files (writers ++ (id, file) ∷ []) ≡ made_files writers ++ file ∷ []
made-more id file writers = map-append (λ (x : ℕ × NamedFile). x.1) writers ((id, file) ∷ [])

-- frames whose output was made, by what is said and written for them, and for so many of their parts
pub frames_front : (outcome : Outcome (Router Journal)) (parts : ℕ → Outcome (Router Journal)) (count all : ℕ) (name : List ℕ) (run : InputRun) (id : ℕ) (w : World) (new : Option World) (lines octets : List ℕ)
    → parts all ≡ outcome → found_at id w.writers ≡ None
    → shown new ≡ Some (with_output (Some id) lines octets (shown_of (after_write id out_header (after_make id name w))))
    → IsFront lines outcome.lines → IsFront octets (records_of outcome.packets)
    → IsFront (parts count).lines lines → IsFront octets (records_of (parts count).packets)
    → EndsFront (answer_by outcome name run) (λ k. part_by (parts k) name) (shown_of w) new
frames_front outcome parts count all name run id w new lines octets whole fresh is said sent reported written =
    let file : NamedFile = record { name = name; octets = out_header ++ octets } in
    let aim : Shown = record (shown_of w) { said = w.said ++ lines; writers = w.writers ++ (id, file) ∷ [] } in
    let same : shown new ≡ Some aim = is ∙ ap Some (part-shown id name lines out_header octets w fresh) in
    rw same (record {
      lines = lines;
      made = file ∷ [];
      count = count;
      files = refl;
      said = refl;
      wrote = made-more id file w.writers;
      report = front-front lines outcome.lines _ said (front-more outcome.lines _);
      output = (refl, (front-behind out_header octets (records_of outcome.packets) _ refl sent, tt));
      reported = reported;
      written = (refl, (front-behind out_header octets (records_of (parts count).packets) _ refl written, tt));
      closed = inl (all, rw whole said);
    })

-- the output was made only in part, or not at all
pub make_front : (outcome : Outcome (Router Journal)) (parts : ℕ → Outcome (Router Journal)) (name : List ℕ) (run : InputRun) (w : World) (new : Option World) → (parts 0).lines ≡ [] → MakesPart name (Some w) new
    → EndsFront (answer_by outcome name run) (λ k. part_by (parts k) name) (shown_of w) new
make_front outcome parts name run w new zero (inl same) = front_none _ _ w new zero (ap shown same)
make_front outcome parts name run w new zero (inr (id, k, fresh, is)) =
    let header = take k out_header in
    let file : NamedFile = record { name = name; octets = header } in
    let made = changed_at-more id (extended header) (record { name = name; octets = [] }) w.writers fresh in
    let same : shown new ≡ Some (record (shown_of w) { writers = w.writers ++ (id, file) ∷ [] }) =
    ap shown is ∙ ap (λ (writers : List (ℕ × NamedFile)). Some (record (shown_of w) { writers = writers })) made in
    let front : (more : List ℕ) → IsFront header (out_header ++ more) = λ more. front-front header out_header (out_header ++ more) (front-take k out_header) (front-more out_header more) in
    rw same (record {
      lines = [];
      made = file ∷ [];
      count = 0;
      files = refl;
      said = sym (append-nil w.said);
      wrote = made-more id file w.writers;
      report = (_, refl);
      output = (refl, (front _, tt));
      reported = front-same (parts 0).lines [] zero;
      written = (refl, (front _, tt));
      closed = inl (0, ((parts 0).lines, refl));
    })

-- a file of that name was made, and then its header was written in part
pub makes_part : (id : ℕ) (name header : List ℕ) (old made new : Option World) → header ≡ out_header → IfSome old (λ w. found_at id w.writers ≡ None)
    → made ≡ option_map (after_make id name) old → ((k : ℕ) × (new ≡ option_map (after_write id (take k header)) made)) → MakesPart name old new
makes_part id name header old made new is fresh makes writes = inr (id, writes.0, fresh, writes.1 ∙ ap (option_map (after_write id (take writes.0 header))) makes ∙ twice old ∙ ap (λ (h : List ℕ). option_map (λ w. after_write id (take writes.0 h) (after_make id name w)) old) is)
  where
    twice : (o : Option World) → option_map (after_write id (take writes.0 header)) (option_map (after_make id name) o) ≡ option_map (λ w. after_write id (take writes.0 header) (after_make id name w)) o
    twice None = refl
    twice (Some w) = refl

-- a part of a line, behind reading
pub front_says : (a : World → Answer) (parts : World → ℕ → Part) (line : List ℕ) (old mid new : Option World) → ((w : World) → (parts w 0).said ≡ []) → shown mid ≡ shown old
    → IfSome old (λ w. (a w).said ≡ line) → IfSome old (λ w. (a w).made ≡ []) → SaysPart line mid new
    → IfSome old (λ w. EndsFront (a w) (parts w) (shown_of w) new)
front_says a parts line None mid new zeros same is none says = tt
front_says a parts line (Some w) mid new zeros same is none says = front_line (a w) (parts w) line w mid new (zeros w) is none same says

-- a part of the last line of frames
pub last_line_front : (outcome : Outcome (Router Journal)) (parts : ℕ → Outcome (Router Journal)) (count : ℕ) (output : List ℕ) (run : InputRun) (counts : Counts) (w : World) (mid new : Option World) → parts count ≡ outcome
    → HasReplayedBy outcome output run counts (shown_of w) (shown mid) → SaysPart (closing counts.fault (end_line counts.frames counts.written counts.entries)) mid new
    → EndsFront (answer_by outcome output run) (λ k. part_by (parts k) output) (shown_of w) new
last_line_front outcome parts count output run counts w None new whole has says = absurd has.left
last_line_front outcome parts count output run counts w (Some v) new whole has says =
    let last = closing counts.fault (end_line counts.frames counts.written counts.entries) in
    let line : last ≡ closing run.fault (end_line (length run.frames) (length outcome.packets) (length outcome.after.memory)) = rw (has.fault, has.frames, has.written, has.entries) refl in
    let file : NamedFile = record { name = output; octets = out_header ++ records_of outcome.packets } in
    rw says.1 (record {
      lines = outcome.lines ++ take says.0 last;
      made = file ∷ [];
      count = count;
      files = has.left.files;
      said = ap (λ (l : List ℕ). l ++ take says.0 last) has.left.said ∙ append_assoc w.said outcome.lines (take says.0 last);
      wrote = has.left.made;
      report = front-behind outcome.lines (take says.0 last) last _ (ap (λ (l : List ℕ). outcome.lines ++ l) line) (front-take says.0 last);
      output = fronts-all (file ∷ []);
      reported = rw whole (front-more outcome.lines (take says.0 last));
      written = rw whole (fronts-all (file ∷ []));
      closed = inr refl;
    })

-- memory was wanting for a last line: none of it was said
pub says_none : (line : List ℕ) (told : Option World) → SaysPart line told told
says_none line None = (0, refl)
says_none line (Some w) = (0, ap (λ (said : List ℕ). Some (record w { said = said })) (sym (append-nil w.said)))

pub part-zero : (words : List (List ℕ)) (files : List NamedFile) → (part words files 0).said ≡ []
unfolding part
part-zero words files = words-zero files (words_of words)

-- what holds of each world holds of what a desk may tell
pub always : (old : Option World) {P : World → Type 0} → ((w : World) → P w) → IfSome old P
always None h = tt
always (Some w) h = h w
