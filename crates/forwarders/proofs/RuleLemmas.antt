-- Steps that keep the rule.
use Rattle.std.proofs.Common.{append-nil, ◌≡◌, ◌≢◌, ℕ, Bool, true, false, List, [], ◌∷◌, ◌++◌, fold, set, sym, refl, ap, ◌∙◌, subst, ⊎_elim}
use mathlib.Core.Option.{some}
use lib.ListN.{get_elem?}
use Rattle.left_right.specs.Register.{Admits, TurnsAt, Forks, Merges}
use Rattle.atomic_table.proofs.Lists.{at_set, at_snoc}
use Rattle.lisp_settings.specs.declared.settings.Settings.{Settings}
use Rattle.router_log.specs.declared.entry.Entry.{Entry}
use Rattle.router_model.specs.Journal.{statics}
use Rattle.router_model.specs.Parts.{Parts, Stands, absorbed}
use Rattle.router_model.specs.Proper.{IsProper}
use Rattle.forwarders.specs.declared.door.view.View.{View}
use Rattle.forwarders.specs.declared.door.view.View.TheVariants.{Newcomer, Reads, Writes, Tells}
use Rattle.forwarders.specs.Batches.{Begins, batches_from, journal_of, parts_from}
use Rattle.forwarders.specs.Keeping.{Agrees, AreAll, Enters, GoesOn, IsNew, IsNext, IsWriter, Keeps, Knows, Publishes, Starts}
use Rattle.forwarders.specs.Publication.{Side}
use Rattle.forwarders.specs.Views.{beginning, after_note, told_of}
use Rattle.forwarders.proofs.BatchLemmas.{begins-more, begins-same, begins-self, journal-push}
use Rattle.forwarders.proofs.StandLemmas.{journal-first, made-stand, parts-push}

-- ### views in a list

all-set : (P : View → Type 0) (views : List View) (i : ℕ) (w : View) → AreAll P views → P w → AreAll P (set views i w)
all-set P views i w all here j u e = ⊎_elim (λ (t : (j ≡ i) × (w ≡ u)). subst P t.1 here) (λ (t : (j ≢ i) × (get_elem? views j ≡ some u)). all j u t.1) (at_set views i j w u e)

all-push : (P : View → Type 0) (views : List View) (w : View) → AreAll P views → P w → AreAll P (views ++ w ∷ [])
all-push P views w all here j u e = ⊎_elim (λ (t : get_elem? views j ≡ some u). all j u t) (λ (same : w ≡ u). subst P same here) (at_snoc views w u j e)

none-there : (u : View) (j : ℕ) → get_elem? [] j ≡ some u → ⊥
none-there u j e = absurd cc

-- where the others have a writer, so have the views
abbrev Back : List View → List View → Type 0
Back views others = (j : ℕ) (u : View) → get_elem? others j ≡ some u → IsWriter u → (v : View) × (get_elem? views j ≡ some v) × IsWriter v

back-set : (views : List View) (i : ℕ) (v w : View) → get_elem? views i ≡ some v → (IsWriter w → IsWriter v) → Back views (set views i w)
back-set views i v w at down j u e p =
    ⊎_elim (λ (t : (j ≡ i) × (w ≡ u)). (v, subst (λ (n : ℕ). get_elem? views n ≡ some v) (sym t.0) at, down (subst IsWriter (sym t.1) p)))
    (λ (t : (j ≢ i) × (get_elem? views j ≡ some u)). (u, t.1, p)) (at_set views i j w u e)

-- a view that is no writer's is put anywhere
back-put : (views : List View) (i : ℕ) (w : View) → ¬ IsWriter w → Back views (set views i w)
back-put views i w reads j u e p =
    ⊎_elim (λ (t : (j ≡ i) × (w ≡ u)). absurd (reads (subst IsWriter (sym t.1) p)))
    (λ (t : (j ≢ i) × (get_elem? views j ≡ some u)). (u, t.1, p)) (at_set views i j w u e)

back-push : (views : List View) (w : View) → ¬ IsWriter w → Back views (views ++ w ∷ [])
back-push views w reads j u e p = ⊎_elim (λ (t : get_elem? views j ≡ some u). (u, t, p)) (λ (same : w ≡ u). absurd (reads (subst IsWriter (sym same) p))) (at_snoc views w u j e)

back-on : (xs ys zs : List View) → Back xs ys → Back ys zs → Back xs zs
back-on xs ys zs p q j u e w = let b = q j u e w in p j b.0 b.1 b.2

-- ### the rule

not-both : (b : Bool) → b ≡ false → b ≡ true → ⊥
not-both b p q = absurd (cc (p, q))

-- the same parts, list and plan, with other views of them
again : (parts : Parts) (views others : List View) (a : Agrees parts views) → Back views others → AreAll (Knows a.settings (batches_from a.settings a.behind) a.planned) others → Agrees parts others
again parts views others a back known = record {
  settings = a.settings;
  behind = a.behind;
  planned = a.planned;
  ahead = a.ahead;
  proper = a.proper;
  made = a.made;
  known = known;
  alone = λ i j v w e f p q. (let c = back i v e p in let d = back j w f q in a.alone i j c.0 d.0 c.1 d.1 c.2 d.2);
}

-- where a view knows something, the publication has begun
is-open : (side : Side) (views : List View) (seat : ℕ) (v : View) → Keeps side views → get_elem? views seat ≡ some v → ¬ IsNew v → side.is_open ≡ true
is-open side views seat v keeps at knows = by side.is_open refl
  where
    by : (b : Bool) → side.is_open ≡ b → side.is_open ≡ true
    by true is = is
    by false is = absurd (knows (keeps.before is seat v at))

-- then the rule is what holds since
begun : (side : Side) (views : List View) → side.is_open ≡ true → Agrees side.parts views → Keeps side views
begun side views is agrees = record { before = λ o. absurd (not-both side.is_open o is); since = λ o. agrees }

-- a table that no one knows yet
pub starts : (side : Side) → side.is_open ≡ false → Keeps side (Newcomer ∷ [])
starts side closed = record {
  before = λ o. all-push IsNew [] Newcomer (λ j u e. absurd (none-there u j e)) tt;
  since = λ o. absurd (not-both side.is_open closed o);
}

pub admits : Admits Keeps Newcomer
admits side views keeps = record {
  before = λ o. all-push IsNew views Newcomer (keeps.before o) tt;
  since = λ o. (let a = keeps.since o in again side.parts views (views ++ Newcomer ∷ []) a (back-push views Newcomer (λ p. p)) (all-push (Knows a.settings (batches_from a.settings a.behind) a.planned) views Newcomer a.known tt));
}

-- ### steps

pub enters : (seat : ℕ) (settings : Settings) (seen plan : List (List Entry)) (side : Side) → TurnsAt Keeps seat (Reads settings seen plan) side side (λ v before after w. Enters v after.parts w)
enters seat settings seen plan side views keeps at =
    let v : View = Reads settings seen plan in
    let is : side.is_open ≡ true = is-open side views seat v keeps at (λ p. p) in
    let a : Agrees side.parts views = keeps.since is in
    let list : List (List Entry) = batches_from a.settings a.behind in
    let k : Knows a.settings list a.planned v = a.known seat v at in
    let w : View = Reads settings list plan in (
      w,
      begun side (set views seat w) is (again side.parts views (set views seat w) a (back-put views seat w (λ p. p))
          (all-set (Knows a.settings list a.planned) views seat w a.known (k.0, begins-self list, k.2))),
      record {
        seen = list;
        view = refl;
        rises = k.1;
        along = (a.planned, a.ahead, k.2);
        stands = subst (λ (s : Settings). Stands s side.parts (journal_of list)) (sym k.0) (made-stand a.settings a.behind side.parts a.proper a.made);
      },
    )

pub opens : (seat : ℕ) (settings : Settings) (x y : Side) → Stands settings x.parts (statics settings) → x.is_open ≡ false → y.parts ≡ x.parts → y.is_open ≡ true
    → TurnsAt Keeps seat Newcomer x y (λ v before after w. Starts (beginning settings (batches_from settings [])) after.parts w)
opens seat settings x y stands closed same now_open views keeps at =
    let list : List (List Entry) = batches_from settings [] in
    let w : View = beginning settings list in
    let new : AreAll IsNew views = keeps.before closed in
    let proper : IsProper settings (journal_of list) = subst (IsProper settings) (sym (journal-first settings)) stands.proper in
    let made : y.parts ≡ parts_from settings [] = same ∙ stands.whole in
    let only : (j : ℕ) (u : View) → get_elem? (set views seat w) j ≡ some u → IsWriter u → j ≡ seat =
    λ j u e p. ⊎_elim (λ (t : (j ≡ seat) × (w ≡ u)). t.0) (λ (t : (j ≢ seat) × (get_elem? views j ≡ some u)). absurd (new-reads u (new j u t.1) p)) (at_set views seat j w u e) in (
      w,
      begun y (set views seat w) now_open (record {
        settings = settings;
        behind = [];
        planned = list;
        ahead = begins-self list;
        proper = proper;
        made = made;
        known = all-set (Knows settings list list) views seat w (λ j u e. new-knows settings list list u (new j u e)) (refl, refl, refl);
        alone = λ i j v u e f p q. only i v e p ∙ sym (only j u f q);
      }),
      record { view = refl; shows = record { writes = refl; stands = made-stand settings [] y.parts proper made } },
    )
  where
    new-reads : (u : View) → IsNew u → ¬ IsWriter u
    new-reads Newcomer new p = p
    new-reads (Reads s seen plan) new p = p
    new-reads (Writes s own plan) new p = new
    new-reads (Tells s one plan) new p = p

    new-knows : (settings : Settings) (list planned : List (List Entry)) (u : View) → IsNew u → Knows settings list planned u
    new-knows settings list planned Newcomer new = tt
    new-knows settings list planned (Reads s seen plan) new = absurd new
    new-knows settings list planned (Writes s own plan) new = absurd new
    new-knows settings list planned (Tells s one plan) new = absurd new

-- what was known of a list and a plan is known of longer ones, but for the writer
knows-longer : (settings : Settings) (list planned more later : List (List Entry)) (v : View) → ¬ IsWriter v → Knows settings list planned v → Knows settings (list ++ more) (planned ++ later) v
knows-longer settings list planned more later Newcomer reads k = tt
knows-longer settings list planned more later (Reads s seen plan) reads k = (k.0, begins-more seen list more k.1, begins-more plan planned later k.2)
knows-longer settings list planned more later (Writes s own plan) reads k = absurd (reads tt)
knows-longer settings list planned more later (Tells s one plan) reads k = (k.0, begins-more one list more k.1, begins-more plan planned later k.2)

-- where the writer's seat knows list and plan as they are now, the others know them still
longer : (parts : Parts) (views : List View) (a : Agrees parts views) (seat : ℕ) (v w : View) (more later : List (List Entry)) → get_elem? views seat ≡ some v → IsWriter v
    → Knows a.settings (batches_from a.settings a.behind ++ more) (a.planned ++ later) w → AreAll (Knows a.settings (batches_from a.settings a.behind ++ more) (a.planned ++ later)) (set views seat w)
longer parts views a seat v w more later at writes k j u e =
    let list : List (List Entry) = batches_from a.settings a.behind in
    ⊎_elim (λ (t : (j ≡ seat) × (w ≡ u)). subst (Knows a.settings (list ++ more) (a.planned ++ later)) t.1 k)
    (λ (t : (j ≢ seat) × (get_elem? views j ≡ some u)). knows-longer a.settings list a.planned more later u (λ p. t.0 (a.alone j seat u v t.1 at p writes)) (a.known j u t.1))
    (at_set views seat j w u e)

pub publishes : (seat : ℕ) (settings : Settings) (own plan : List (List Entry)) (x y : Side) (batch : List Entry) → GoesOn (Writes settings own plan) batch → IsNext (Writes settings own plan) batch
    → y.parts ≡ fold absorbed x.parts batch → (x.is_open ≡ true → y.is_open ≡ true)
    → TurnsAt Keeps seat (Writes settings own plan) x y (λ v before after w. Publishes batch v after.parts w)
publishes seat settings own plan x y batch goes next made stays views keeps at =
    let v : View = Writes settings own plan in
    let is : x.is_open ≡ true = is-open x views seat v keeps at (λ p. p) in
    let a : Agrees x.parts views = keeps.since is in
    let list : List (List Entry) = batches_from a.settings a.behind in
    let k : Knows a.settings list a.planned v = a.known seat v at in
    let w : View = Writes settings (own ++ batch ∷ []) plan in
    let behind : List (List Entry) = a.behind ++ batch ∷ [] in
    let list_is : own ++ batch ∷ [] ≡ list ++ batch ∷ [] = ap (λ (o : List (List Entry)). o ++ batch ∷ []) k.1 in
    let goes_own : IsProper settings (journal_of (own ++ batch ∷ [])) = subst (IsProper settings) (sym (journal-push own batch)) goes in
    let proper : IsProper a.settings (journal_of (batches_from a.settings behind)) =
    subst (λ (t : Settings × List (List Entry)). IsProper t.0 (journal_of t.1)) (λ i. (k.0 i, list_is i)) goes_own in
    let made_is : y.parts ≡ parts_from a.settings behind =
    made ∙ (ap (λ (p : Parts). fold absorbed p batch) a.made ∙ sym (parts-push a.settings a.behind batch)) in
    let back : Back views (set views seat w) = back-set views seat v w at (λ p. tt) in
    let known : AreAll (Knows a.settings (list ++ batch ∷ []) (a.planned ++ [])) (set views seat w) =
    longer x.parts views a seat v w (batch ∷ []) [] at tt (k.0, list_is, k.2 ∙ sym (append-nil a.planned)) in (
      w,
      begun y (set views seat w) (stays is) (record {
        settings = a.settings;
        behind = behind;
        planned = a.planned;
        ahead = subst (λ (t : List (List Entry) × List (List Entry)). Begins t.0 t.1) (λ i. (list_is i, k.2 i)) next;
        proper = proper;
        made = made_is;
        known = subst (λ (p : List (List Entry)). AreAll (Knows a.settings (list ++ batch ∷ []) p) (set views seat w)) (append-nil a.planned) known;
        alone = λ i j b c e f p q. (let d = back i b e p in let g = back j c f q in a.alone i j d.0 g.0 d.1 g.1 d.2 g.2);
      }),
      record {
        view = refl;
        shows = record {
          writes = refl;
          stands = subst (λ (t : Settings × List (List Entry)). Stands t.0 y.parts (journal_of t.1)) (λ i. (sym k.0 i, sym list_is i)) (made-stand a.settings behind y.parts proper made_is);
        };
      },
    )

-- the writer plans more
pub plans : (seat : ℕ) (settings : Settings) (own plan more : List (List Entry)) → Forks Keeps seat (Writes settings own plan) (Writes settings own (plan ++ more)) Newcomer
plans seat settings own plan more side views keeps at =
    let v : View = Writes settings own plan in
    let w : View = Writes settings own (plan ++ more) in
    let is : side.is_open ≡ true = is-open side views seat v keeps at (λ p. p) in
    let a : Agrees side.parts views = keeps.since is in
    let list : List (List Entry) = batches_from a.settings a.behind in
    let k : Knows a.settings list a.planned v = a.known seat v at in
    let others : List View = set views seat w in
    let back : Back views (others ++ Newcomer ∷ []) = back-on views others (others ++ Newcomer ∷ []) (back-set views seat v w at (λ p. tt)) (back-push others Newcomer (λ p. p)) in
    let known : AreAll (Knows a.settings (list ++ []) (a.planned ++ more)) others =
    longer side.parts views a seat v w [] more at tt (k.0, k.1 ∙ sym (append-nil list), ap (λ (p : List (List Entry)). p ++ more) k.2) in
    begun side (others ++ Newcomer ∷ []) is (record {
      settings = a.settings;
      behind = a.behind;
      planned = a.planned ++ more;
      ahead = begins-more list a.planned more a.ahead;
      proper = a.proper;
      made = a.made;
      known = all-push (Knows a.settings list (a.planned ++ more)) others Newcomer
          (subst (λ (l : List (List Entry)). AreAll (Knows a.settings l (a.planned ++ more)) others) (append-nil list) known) tt;
      alone = λ i j b c e f p q. (let d = back i b e p in let g = back j c f q in a.alone i j d.0 g.0 d.1 g.1 d.2 g.2);
    })

knows-told : (settings : Settings) (list planned : List (List Entry)) (v : View) → Knows settings list planned v → Knows settings list planned (told_of v)
knows-told settings list planned Newcomer k = tt
knows-told settings list planned (Reads s seen plan) k = tt
knows-told settings list planned (Writes s own plan) k = (k.0, begins-same own list k.1, begins-same plan planned k.2)
knows-told settings list planned (Tells s one plan) k = tt

told-reads : (v : View) → ¬ IsWriter (told_of v)
told-reads Newcomer p = p
told-reads (Reads s seen plan) p = p
told-reads (Writes s own plan) p = p
told-reads (Tells s one plan) p = p

new-told : (v : View) → IsNew v → IsNew (told_of v)
new-told Newcomer new = tt
new-told (Reads s seen plan) new = tt
new-told (Writes s own plan) new = new
new-told (Tells s one plan) new = tt

pub forks : (seat : ℕ) (v : View) → Forks Keeps seat v v (told_of v)
forks seat v side views keeps at =
    let others : List View = set views seat v in record {
      before = λ o. (let new : AreAll IsNew views = keeps.before o in all-push IsNew others (told_of v) (all-set IsNew views seat v new (new seat v at)) (new-told v (new seat v at)));
      since = λ o. (
          let a : Agrees side.parts views = keeps.since o in
          let list : List (List Entry) = batches_from a.settings a.behind in
          let k : Knows a.settings list a.planned v = a.known seat v at in
          again side.parts views (others ++ told_of v ∷ []) a
          (back-on views others (others ++ told_of v ∷ []) (back-set views seat v v at (λ p. p)) (back-push others (told_of v) (told-reads v)))
          (all-push (Knows a.settings list a.planned) others (told_of v) (all-set (Knows a.settings list a.planned) views seat v a.known k) (knows-told a.settings list a.planned v k)));
    }

knows-noted : (settings : Settings) (list planned : List (List Entry)) (v w : View) → Knows settings list planned v → Knows settings list planned w → Knows settings list planned (after_note v w)
knows-noted settings list planned Newcomer (Tells s one plan) k l = l
knows-noted settings list planned Newcomer Newcomer k l = k
knows-noted settings list planned Newcomer (Reads t seen' plan') k l = k
knows-noted settings list planned Newcomer (Writes t own' plan') k l = k
knows-noted settings list planned (Reads s seen plan) w k l = k
knows-noted settings list planned (Writes s own plan) w k l = k
knows-noted settings list planned (Tells s one plan) w k l = k

after_note-writes : (v w : View) → IsWriter (after_note v w) → IsWriter v
after_note-writes Newcomer (Tells s one plan) p = p
after_note-writes Newcomer Newcomer p = p
after_note-writes Newcomer (Reads t seen' plan') p = p
after_note-writes Newcomer (Writes t own' plan') p = p
after_note-writes (Reads s seen plan) w p = p
after_note-writes (Writes s own plan) w p = p
after_note-writes (Tells s one plan) w p = p

new-after_note : (v w : View) → IsNew v → IsNew w → IsNew (after_note v w)
new-after_note Newcomer (Tells s one plan) new told = absurd told
new-after_note Newcomer Newcomer new told = new
new-after_note Newcomer (Reads t seen' plan') new told = new
new-after_note Newcomer (Writes t own' plan') new told = new
new-after_note (Reads s seen plan) w new told = new
new-after_note (Writes s own plan) w new told = new
new-after_note (Tells s one plan) w new told = new

-- the other's view is still there
there-still : (P : View → Type 0) (views : List View) (seat other : ℕ) (both w : View) → ¬ (other ≡ seat) → AreAll P views → get_elem? (set views seat both) other ≡ some w → P w
there-still P views seat other both w apart all there =
    ⊎_elim (λ (t : (other ≡ seat) × (both ≡ w)). absurd (apart t.0)) (λ (t : (other ≢ seat) × (get_elem? views other ≡ some w)). all other w t.1) (at_set views seat other both w there)

pub merges : (seat : ℕ) (v : View) (other : ℕ) (w : View) → Merges Keeps seat v other w (after_note v w) Newcomer
merges seat v other w side views keeps at apart there =
    let both : View = after_note v w in
    let others : List View = set views seat both in record {
      before = λ o. (
          let new : AreAll IsNew views = keeps.before o in
          let told : IsNew w = there-still IsNew views seat other both w apart new there in
          all-set IsNew others other Newcomer (all-set IsNew views seat both new (new-after_note v w (new seat v at) told)) tt);
      since = λ o. (
          let a : Agrees side.parts views = keeps.since o in
          let K : View → Type 0 = Knows a.settings (batches_from a.settings a.behind) a.planned in
          let told : K w = there-still K views seat other both w apart a.known there in
          again side.parts views (set others other Newcomer) a
          (back-on views others (set others other Newcomer) (back-set views seat v both at (after_note-writes v w)) (back-put others other Newcomer (λ p. p)))
          (all-set K others other Newcomer (all-set K views seat both a.known (knows-noted a.settings (batches_from a.settings a.behind) a.planned v w (a.known seat v at) told)) tt));
    }
