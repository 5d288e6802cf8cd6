-- What is said and written, piece after piece.
use Rattle.std.proofs.Common.{◌≡◌, ℕ, List, [], ◌++◌, Option, Some, None, append_assoc, refl, sym, ap, ap₂, ◌∙◌, inl, inr}
use Rattle.std.specs.Option.{option_map}
use Rattle.std.proofs.lemmas.List.{append-nil}
use Rattle.std.proofs.lemmas.List.Concat.{flat_map-append}
use Rattle.desk.specs.declared.file.NamedFile.{NamedFile}
use Rattle.desk.specs.World.{World, Shown, after_say, after_write, extended}
use Rattle.desk.proofs.Entries.{changed_at-changed_at, changed_at-same}
use Rattle.capture_io.specs.Output.{packet_record}
use Rattle.capture_events.specs.Events.{Packet, records_of}
use Rattle.playback.specs.Playing.{after_output, handed_on, with_output, written, KeepsReaders}
use Rattle.playback.specs.Front.{Hands}
use Rattle.playback.specs.declared.output.Output.{Output}

-- octets after octets
written-written : (file : Option ℕ) (a b : List ℕ) (writers : List (ℕ × NamedFile)) → written file b (written file a writers) ≡ written file (a ++ b) writers
written-written None a b writers = refl
written-written (Some id) a b writers =
    changed_at-changed_at id (extended a) (extended b) (extended (a ++ b)) writers
    (λ file. ap (λ (o : List ℕ). record file { octets = o }) (append_assoc file.octets a b))

-- no octets
pub written-none : (file : Option ℕ) (writers : List (ℕ × NamedFile)) → written file [] writers ≡ writers
written-none None writers = refl
written-none (Some id) writers = changed_at-same id (extended []) writers (λ file. ap (λ (o : List ℕ). record file { octets = o }) (append-nil file.octets))

-- output after output, as others see it
pub with_output-twice : (file : Option ℕ) (a b c d : List ℕ) (s : Shown)
    → with_output file b d (with_output file a c s) ≡ with_output file (a ++ b) (c ++ d) s
with_output-twice file a b c d s =
    let made : List ℕ → List (ℕ × NamedFile) → Shown = λ said writers. record s { said = said; writers = writers } in
    ap₂ made (append_assoc s.said a b) (written-written file c d s.writers)

-- no output
pub with_output-none : (file : Option ℕ) (s : Shown) → with_output file [] [] s ≡ s
with_output-none file s =
    let made : List ℕ → List (ℕ × NamedFile) → Shown = λ said writers. record s { said = said; writers = writers } in
    ap₂ made (append-nil s.said) (written-none file s.writers)

-- records of packets after packets
pub records_of-append : (a b : List Packet) → records_of (a ++ b) ≡ records_of a ++ records_of b
records_of-append a b = flat_map-append (λ (packet : Packet). packet_record packet.moment packet.octets) a b

-- lines said, and records written
pub says_and_writes : (file : Option ℕ) (lines records : List ℕ) (old mid new : Option World) (id : ℕ) → file ≡ Some id
    → mid ≡ option_map (after_say lines) old → new ≡ option_map (after_write id records) mid → new ≡ option_map (after_output file lines records) old
says_and_writes file lines records None mid new id is said wrote = wrote ∙ ap (option_map (after_write id records)) said
says_and_writes file lines records (Some w) mid new id is said wrote =
    wrote ∙ ap (option_map (after_write id records)) said ∙ ap (λ (f : Option ℕ). Some (after_output f lines records w)) (sym is)

-- handing on leaves all that is to be read
pub handed-keeps : (file : Option ℕ) (output : Output) (told now : Option World) → now ≡ handed_on file output told → KeepsReaders told now
handed-keeps file output None now handed = ap (option_map (λ (w : World). w.readers)) handed
handed-keeps file output (Some w) now handed = ap (option_map (λ (w : World). w.readers)) handed

-- so does handing on, perhaps
pub hands-keep : (file : Option ℕ) (old new : Output) (told now : Option World) → Hands file old told new now → KeepsReaders told now
hands-keep file old new told now (inl (same, still)) = ap (option_map (λ (w : World). w.readers)) still
hands-keep file old new told now (inr (lines, records, handed)) = handed-keeps file old told now handed
