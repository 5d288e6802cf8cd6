-- The answer, case by case, and how steps of a run make it.
use Rattle.std.proofs.Common.{◌≡◌, ℕ, List, [], ◌∷◌, ◌++◌, length, Option, Some, None, Result, Ok, Err, append_assoc, refl, sym, ap, subst, ◌∙◌}
use Rattle.std.specs.Option.{option_map, IfSome}
use Rattle.std.specs.Result.{IfOk, OnOk}
use Rattle.std.proofs.lemmas.List.{append-nil, map-append}
use Rattle.desk.specs.declared.file.NamedFile.{NamedFile}
use Rattle.desk.specs.World.{World, Shown, left_of, found_at, extended, after_say, after_make, after_write, shown, shown_of}
use Rattle.desk.proofs.Entries.{changed_at-more}
use Rattle.capture_io.specs.Output.{out_header}
use Rattle.lisp_settings.specs.Lawful.{IsLawful}
use Rattle.lisp_settings.specs.declared.settings.Settings.{Settings}
use Rattle.playback.specs.Arrivals.{Arrived}
use Rattle.capture_events.specs.Events.{Determined, Outcome, records_of}
use Rattle.playback.specs.Input.{InputRun}
use Rattle.playback.specs.Playing.{outcome_of, with_outcome, Ends, HasPlayed}
use Rattle.playback.specs.declared.plays.Ending.{Ending}
use Rattle.playback.proofs.DeterminedLemmas.{end-play}
use Rattle.router_model.specs.Journal.{Journal, statics}
use Rattle.router_model.specs.Lifting.{outcome_tabled}
use Rattle.router_model.specs.Parts.{Parts, parts_in, table}
use Rattle.router_model.specs.Plain.{Router, after_event}
use Rattle.replay.proofs.ArrivalLemmas.{arrived-replays}
use Rattle.replay.specs.Answer.{Answer, answer_by, closing, told_off, status_of, made_files, Gives, messages_shown}
use Rattle.replay.specs.Readings.{replay_of, HasReplayed, HasReplayedBy}
use Rattle.replay.specs.declared.counts.Counts.{Counts}
use Rattle.replay.specs.Lines.{count_line, end_line}
use Rattle.replay.specs.Show.{showing}
use Rattle.replay.specs.Taking.{router_of}
use Rattle.replay.specs.declared.status.Status.{Status}

-- the same answer by another name
pub gives_as : (a b : Answer) (s : Status) (old : Shown) (new : Option Shown) → a ≡ b → Gives a s old new → Gives b s old new
gives_as a b s old new same gives = subst (λ (x : Answer). Gives x s old new) same gives

-- a line alone
pub said_line : (s : Status) (line : List ℕ) (old new : Option World) → new ≡ option_map (after_say line) old → IfSome old (λ w. Gives (told_off s line) s (shown_of w) (shown new))
said_line s line None new said = tt
said_line s line (Some w) new said = rw said (record { status = refl; left = record { files = refl; said = refl; made = sym (append-nil (made_files w.writers)) } })

-- what holds of what is shown holds as long as that stays
pub shown_stays : (P : Shown → Type 0) (old mid : Option World) → shown mid ≡ shown old → IfSome mid (λ w. P (shown_of w)) → IfSome old (λ w. P (shown_of w))
shown_stays P None mid same h = tt
shown_stays P (Some w) None same h = cc
shown_stays P (Some w) (Some v) same h = let e : shown_of v ≡ shown_of w = cc in subst P e h

-- a file that was made, with its header
output_made : (id : ℕ) (name : List ℕ) (w : World) → found_at id w.writers ≡ None
    → shown_of (after_write id out_header (after_make id name w)) ≡ record (shown_of w) { writers = w.writers ++ (id, record { name = name; octets = out_header }) ∷ [] }
output_made id name w fresh =
    ap (λ (writers : List (ℕ × NamedFile)). record (shown_of w) { writers = writers }) (changed_at-more id (extended out_header) (record { name = name; octets = [] }) w.writers fresh)

-- what is shown of an outcome that was said and written into the file that was made
outcome_shown : {S : Type 0} (outcome : Outcome S) (id : ℕ) (name : List ℕ) (w : World) → found_at id w.writers ≡ None
    → with_outcome (Some id) outcome (shown_of (after_write id out_header (after_make id name w)))
    ≡ record (shown_of w) { said = w.said ++ outcome.lines; writers = w.writers ++ (id, record { name = name; octets = out_header ++ records_of outcome.packets }) ∷ [] }
outcome_shown outcome id name w fresh =
    ap (with_outcome (Some id) outcome) (output_made id name w fresh)
    ∙ ap (λ (writers : List (ℕ × NamedFile)). record (shown_of w) { said = w.said ++ outcome.lines; writers = writers }) (changed_at-more id (extended (records_of outcome.packets)) (record { name = name; octets = out_header }) w.writers fresh)

-- the counts of a play and of the journal
abbrev pub counts_of : Ending → ℕ → Counts
counts_of ending entries =
    record { fault = ending.fault; frames = ending.frames; written = ending.written; entries = entries }

-- what the steps of a replay leave, before its last line
pub has_replayed : (outcome : Outcome (Router Journal)) (id : ℕ) (name : List ℕ) (run : InputRun) (w : World) (new : Option World) (ending : Ending) (entries : ℕ)
    → found_at id w.writers ≡ None → Ends outcome run ending
    → shown new ≡ Some (with_outcome (Some id) outcome (shown_of (after_write id out_header (after_make id name w))))
    → entries ≡ length outcome.after.memory
    → HasReplayedBy outcome name run (counts_of ending entries) (shown_of w) (shown new)
has_replayed outcome id name run w None ending entries fresh ends frames count = cc
has_replayed outcome id name run w (Some v) ending entries fresh ends frames count =
    let file : NamedFile = record { name = name; octets = out_header ++ records_of outcome.packets } in
    let aim : Shown = record (shown_of w) { said = w.said ++ outcome.lines; writers = w.writers ++ (id, file) ∷ [] } in
    let is_aim : shown_of v ≡ aim = cc (frames, outcome_shown outcome id name w fresh) in
    record {
      fault = ends.fault;
      frames = ends.frames;
      written = ends.written;
      entries = count;
      left = record {
        files = ap (λ (x : Shown). x.files) is_aim;
        said = ap (λ (x : Shown). x.said) is_aim;
        made = ap (λ (x : Shown). made_files x.writers) is_aim ∙ map-append (λ (x : ℕ × NamedFile). x.1) w.writers ((id, file) ∷ []);
      };
    }

-- the same, over what the desk tells
frames_replayed : (settings : Settings) (id : ℕ) (from : ℕ) (rest : List ℕ → InputRun) (name : List ℕ) (old made new : Option World) (ending : Ending) (entries : ℕ)
    → IfSome old (λ w. found_at id w.writers ≡ None) → made ≡ option_map (λ w. after_write id out_header (after_make id name w)) old
    → IfSome made (λ w. Ends (replay_of settings (rest (left_of from w))) (rest (left_of from w)) ending)
    → IfSome made (λ w. shown new ≡ Some (with_outcome (Some id) (replay_of settings (rest (left_of from w))) (shown_of w)))
    → IfSome made (λ w. entries ≡ length (replay_of settings (rest (left_of from w))).after.memory)
    → IfSome old (λ w. HasReplayed settings name (rest (left_of from w)) (counts_of ending entries) (shown_of w) (shown new))
frames_replayed settings id from rest name None made new ending entries fresh makes ends frames count = tt
frames_replayed settings id from rest name (Some w) made new ending entries fresh makes ends frames count =
    has_replayed (replay_of settings (rest (left_of from w))) id name (rest (left_of from w)) w new ending entries fresh (rw makes at ends) (rw makes at frames) (rw makes at count)

-- the frames of a file, by a table
abbrev table_of : Settings → Parts → InputRun → Outcome (Router Parts)
table_of settings parts run = outcome_of (after_event table) (router_of settings parts) run

-- of frames that came the table of the static mappings says and writes what the plain router does
as_plain : (settings : Settings) (run : InputRun) (parts : Parts) → IsLawful settings → parts ≡ parts_in settings (statics settings) → Arrived run.frames
    → table_of settings parts run ≡ outcome_tabled (replay_of settings run)
as_plain settings run parts lawful begins came = rw begins (arrived-replays settings run.frames lawful came)

-- what a table leaves is what the plain router does
pub table_replayed : (settings : Settings) (id : ℕ) (from : ℕ) (rest : List ℕ → InputRun) (name : List ℕ) (old made new : Option World) (ending : Ending) (entries : ℕ) (parts after : Parts) (kept : Settings)
    → IsLawful settings → parts ≡ parts_in settings (statics settings)
    → IfSome old (λ w. found_at id w.writers ≡ None) → made ≡ option_map (λ w. after_write id out_header (after_make id name w)) old
    → IfSome made (λ w. HasPlayed (Determined (after_event table)) (router_of settings parts) (Some id) (shown_of w) (rest (left_of from w)) ending (router_of kept after) new)
    → entries ≡ after.count
    → IfSome old (λ w. HasReplayed settings name (rest (left_of from w)) (counts_of ending entries) (shown_of w) (shown new))
table_replayed settings id from rest name old None new ending entries parts after kept lawful begins fresh makes played count =
    frames_replayed settings id from rest name old None new ending entries fresh makes tt tt tt
table_replayed settings id from rest name old (Some w) new ending entries parts after kept lawful begins fresh makes played count =
    let run = rest (left_of from w) in
    let ended = end-play (after_event table) (router_of settings parts) (Some id) (shown_of w) run ending (router_of kept after) new played in
    let same : table_of settings parts run ≡ outcome_tabled (replay_of settings run) = as_plain settings run parts lawful begins ended.came in
    let goes : Ends (outcome_tabled (replay_of settings run)) run ending = subst (λ (o : Outcome (Router Parts)). Ends o run ending) same ended.ends in
    frames_replayed settings id from rest name old (Some w) new ending entries fresh makes
    (record { fault = goes.fault; frames = goes.frames; written = goes.written })
    (subst (λ (o : Outcome (Router Parts)). shown new ≡ Some (with_outcome (Some id) o (shown_of w))) same ended.shown)
    (count ∙ ap (λ (r : Router Parts). r.memory.count) (ended.left ∙ ap (λ (o : Outcome (Router Parts)). o.after) same))

-- the last line makes of that the answer
pub closed : (outcome : Outcome (Router Journal)) (output : List ℕ) (run : InputRun) (counts : Counts) (old : Shown) (mid new : Option World) (s : Status) → HasReplayedBy outcome output run counts old (shown mid)
    → new ≡ option_map (after_say (closing counts.fault (end_line counts.frames counts.written counts.entries))) mid → s ≡ status_of counts.fault → Gives (answer_by outcome output run) s old (shown new)
closed outcome output run counts old None new s has said is = absurd has.left
closed outcome output run counts old (Some v) new s has said is =
    let last = closing counts.fault (end_line counts.frames counts.written counts.entries) in
    let line : last ≡ closing run.fault (end_line (length run.frames) (length outcome.packets) (length outcome.after.memory)) = rw (has.fault, has.frames, has.written, has.entries) refl in
    rw said (record {
      status = is ∙ ap status_of has.fault;
      left = record {
        files = has.left.files;
        said = ap (λ (l : List ℕ). l ++ last) has.left.said ∙ append_assoc old.said outcome.lines last ∙ ap (λ (l : List ℕ). old.said ++ (outcome.lines ++ l)) line;
        made = has.left.made;
      };
    })

-- two facts of a value make a third
pub ok_both : {T E : Type 0} (r : Result T E) {P R : T → Type 0} {Q : Type 0} → IfOk r P → OnOk r Q → ((x : T) → P x → Q → R x) → IfOk r R
ok_both (Ok x) p q both = both x p q
ok_both (Err e) p q both = tt

-- what the steps of a show leave is its answer
gives_shown : (run : InputRun) (w : World) (mid new : Option World) (ending : Ending) (s : Status)
    → Ends (outcome_of showing tt run) run ending → shown mid ≡ Some (with_outcome None (outcome_of showing tt run) (shown_of w))
    → new ≡ option_map (after_say (closing ending.fault (count_line ending.frames))) mid → s ≡ status_of ending.fault
    → Gives (messages_shown run) s (shown_of w) (shown new)
unfolding messages_shown
gives_shown run w None new ending s ends frames said is = cc
gives_shown run w (Some v) new ending s ends frames said is =
    let outcome : Outcome (Unit {0}) = outcome_of showing tt run in
    let is_aim : shown_of v ≡ record (shown_of w) { said = w.said ++ outcome.lines } = cc in
    let last = closing ending.fault (count_line ending.frames) in
    let line : last ≡ closing run.fault (count_line (length run.frames)) = rw (ends.fault, ends.frames) refl in
    let status : s ≡ status_of run.fault = is ∙ ap status_of ends.fault in
    rw said (record {
      status = status;
      left = record {
        files = ap (λ (x : Shown). x.files) is_aim;
        said = ap (λ (x : Shown). x.said ++ last) is_aim ∙ append_assoc w.said outcome.lines last ∙ ap (λ (l : List ℕ). w.said ++ (outcome.lines ++ l)) line;
        made = ap (λ (x : Shown). made_files x.writers) is_aim ∙ sym (append-nil (made_files w.writers));
      };
    })

-- the same, over what the desk tells
pub messages_answered : (left : World → InputRun) (old now new : Option World) (ending : Ending) (s : Status)
    → IfSome old (λ w. HasPlayed (Determined showing) tt None (shown_of w) (left w) ending tt now)
    → new ≡ option_map (after_say (closing ending.fault (count_line ending.frames))) now → s ≡ status_of ending.fault
    → IfSome old (λ w. Gives (messages_shown (left w)) s (shown_of w) (shown new))
messages_answered left None now new ending s played said is = tt
messages_answered left (Some w) now new ending s played said is =
    let run = left w in
    let ended = end-play showing tt None (shown_of w) run ending tt now played in
    gives_shown run w now new ending s ended.ends ended.shown said is
