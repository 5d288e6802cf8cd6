-- Nodes: ways with their contents beside them, read and changed at one name.
use Rattle.std.proofs.Common.{◌≡◌, ◌≢◌, ℕ, zero, suc, ◌^◌, ◌<◌, ◌≤◌, Bool, true, false, not, cond, List, [], ◌∷◌, length, get_or, set, slice_get, Option, Some, None, is_some, IfSome, count_by, inl, inr, refl, sym, ap, ◌∙◌, arith, subst}
use Rattle.std.specs.Option.{option_map}
use Rattle.std.proofs.lemmas.Bool.{cases_eq, cases_lt}
use Rattle.std.proofs.lemmas.List.{length-set, get_or-set_same, get_or-set_other}
use Rattle.std.proofs.lemmas.List.Sums.{sum_by-cons}
use Rattle.std.proofs.lemmas.Option.{same_Some, slice_get_within, slice_get_read}
use Rattle.node_store.specs.Store.{Store, node_at, IsLive, live, SameNodes, Changes, with_node}
use Rattle.prefix_table.specs.Edited.{Becomes}
use Rattle.prefix_table.specs.Keys.{key_of}
use Rattle.prefix_table.specs.Nodes.{no_node, linked, linked_sides, node_with, node_of, slots_with, whole, Suits, IsBeside, IsWhole, IsWayOf, IsContentOf}
use Rattle.prefix_table.specs.Sides.{sides, on_side}
use Rattle.prefix_table.specs.declared.content.Content.{Content}
use Rattle.prefix_table.specs.declared.node.Node.{Node}
use Rattle.prefix_table.specs.declared.node.Sides.{Sides}
use Rattle.prefix_table.specs.declared.node.Way.{Way}
use Rattle.prefix_table.proofs.KeyLemmas.{Given, given_of}

abbrev one_if_some : {T : Type 0} → Option T → ℕ
one_if_some slot = cond (is_some slot) 1 0

slice_get-set_same : {X : Type 0} (l : List X) (i : ℕ) (x : X) → i < length l → slice_get (set l i x) i ≡ Some x
slice_get-set_same [] i x within = absurd (omega (arith, within))
slice_get-set_same (y ∷ l) zero x within = refl
slice_get-set_same (y ∷ l) (suc i) x within = slice_get-set_same l i x (omega (arith, within))

slice_get-set_other : {X : Type 0} (l : List X) (i other : ℕ) (x : X) → other ≢ i → slice_get (set l i x) other ≡ slice_get l other
slice_get-set_other [] i other x differs = refl
slice_get-set_other (y ∷ l) zero zero x differs = absurd (differs refl)
slice_get-set_other (y ∷ l) zero (suc other) x differs = refl
slice_get-set_other (y ∷ l) (suc i) zero x differs = refl
slice_get-set_other (y ∷ l) (suc i) (suc other) x differs = slice_get-set_other l i other x (λ same. differs (ap suc same))

live_within : {X : Type 0} (slots : List (Option X)) (n : ℕ) → is_some (get_or slots n None) ≡ true → n < length slots
live_within [] n there = absurd (cc (there))
live_within (slot ∷ slots) zero there = omega arith
live_within (slot ∷ slots) (suc n) there = omega (arith, live_within slots n there)

if_some : {X : Type 0} (P : X → Type 0) (at : Option X) (x : X) → at ≡ Some x → IfSome at P → P x
if_some P at x is holds = subst (λ at. IfSome at P) is holds

some_if : {X : Type 0} (P : X → Type 0) (at : Option X) (x : X) → at ≡ Some x → P x → IfSome at P
some_if P at x is holds = subst (λ at. IfSome at P) (sym is) holds

-- no slot behind the last has a node
past_none : {X : Type 0} (slots : List (Option X)) (n : ℕ) → length slots ≤ n → get_or slots n None ≡ None
past_none [] n past = refl
past_none (slot ∷ slots) zero past = absurd (omega (arith, past))
past_none (slot ∷ slots) (suc n) past = past_none slots n (omega (arith, past))

-- the names of links of which one is another
pub linked-relinked : (side : Bool) (links : Sides ℕ) (link : ℕ) (below : Option ℕ) → linked link ≡ below → linked_sides (sides side link (on_side (not side) links)) ≡ sides side below (on_side (not side) (linked_sides links))
linked-relinked false links link below is = ap (λ name. sides false name (linked links.one)) is
linked-relinked true links link below is = ap (λ name. sides true name (linked links.zero)) is

module _ {V : Type 0} where
  -- a slot with the content beside it
  abbrev joined : Option Way → Option (Content V) → Option (Node V)
  joined slot None = None
  joined slot (Some content) = option_map (node_of content) slot

  joined_none : (content : Option (Content V)) → None ≡ joined None content
  joined_none None = refl
  joined_none (Some content) = refl

  get-slots_with : (slots : List (Option Way)) (contents : List (Content V)) (n : ℕ) → get_or (slots_with slots contents) n None ≡ joined (get_or slots n None) (slice_get contents n)
  get-slots_with [] contents n = joined_none (slice_get contents n)
  get-slots_with (slot ∷ slots) [] zero = refl
  get-slots_with (slot ∷ slots) [] (suc n) = get-slots_with slots [] n
  get-slots_with (slot ∷ slots) (content ∷ contents) zero = refl
  get-slots_with (slot ∷ slots) (content ∷ contents) (suc n) = get-slots_with slots contents n

  -- as many slots as are kept
  pub length-slots_with : (slots : List (Option Way)) (contents : List (Content V)) → length (slots_with slots contents) ≡ length slots
  length-slots_with [] contents = refl
  length-slots_with (slot ∷ slots) [] = ap suc (length-slots_with slots [])
  length-slots_with (slot ∷ slots) (content ∷ contents) = ap suc (length-slots_with slots contents)

  one_if_some-with : (content : Content V) (slot : Option Way) → one_if_some (option_map (node_of content) slot) ≡ one_if_some slot
  one_if_some-with content None = refl
  one_if_some-with content (Some way) = refl

  count-slots_with : (slots : List (Option Way)) (contents : List (Content V)) → length contents ≡ length slots → count_by is_some (slots_with slots contents) ≡ count_by is_some slots
  count-slots_with [] contents same = refl
  count-slots_with (slot ∷ slots) [] same = absurd (omega (arith, same))
  count-slots_with (slot ∷ slots) (content ∷ contents) same =
      omega (arith, count-slots_with slots contents (omega (arith, same)), one_if_some-with content slot, sum_by-cons one_if_some slot slots, sum_by-cons one_if_some (option_map (node_of content) slot) (slots_with slots contents))

  joined_live : (slot : Option Way) (content : Option (Content V)) → is_some (joined slot content) ≡ true → is_some slot ≡ true
  joined_live (Some way) content live = refl
  joined_live None content live = absurd (cc (sym live ∙ ap is_some (sym (joined_none content))))

  joined_within : (slot : Option Way) (a b : Option (Content V)) → (is_some slot ≡ true → a ≡ b) → joined slot a ≡ joined slot b
  joined_within None a b same = sym (joined_none a) ∙ joined_none b
  joined_within (Some way) a b same = ap (joined (Some way)) (same refl)

  -- the content is there
  record IsThere (at : Option (Content V)) : Type 0 where
    pub content : Content V
    pub is : at ≡ Some content

  there : (contents : List (Content V)) (n : ℕ) → n < length contents → IsThere (slice_get contents n)
  there [] n within = absurd (omega (arith, within))
  there (content ∷ contents) zero within = record { content = content; is = refl }
  there (content ∷ contents) (suc n) within = there contents n (omega (arith, within))

  -- the way and the content of a node
  pub record Parts (way : Way) (at : Option (Content V)) : Type 0 where
    pub content : Content V
    pub is : at ≡ Some content
    pub suits : Suits way content

  -- a node is what was read of it
  pub read_is : (found : Option (Node V)) (top : Node V) (way : Way) (content : Content V) (next : Sides (Option ℕ)) → found ≡ Some top → IsWayOf top way → IsContentOf top content → next ≡ linked_sides way.next → found ≡ Some (node_with content next)
  read_is found top way content next is w c links = rw (links, ← w.next, c.eid, c.value) is

  pub filled : (content : Content V) (way : Way) (top : Node V) → content.eid ≡ top.eid → content.value ≡ top.value → linked_sides way.next ≡ top.next → node_of content way ≡ top
  filled content way top eid value next = rw (eid, value, next) refl

  module _ (ways : Store Way) (contents : List (Content V)) where
    -- the node of a name has what is kept of its way, and the content beside it
    pub node_at-whole : (n : ℕ) → node_at (whole ways contents) n ≡ joined (node_at ways n) (slice_get contents n)
    node_at-whole n = get-slots_with ways.slots contents n

    -- as many nodes
    pub live-whole : IsWhole ways contents → live (whole ways contents) ≡ live ways
    live-whole is = count-slots_with ways.slots contents is.same_length

    -- a name of the whole is that of a way that is kept
    pub live_kept : (n : ℕ) → IsLive (whole ways contents) n → IsLive ways n
    live_kept n live = joined_live (node_at ways n) (slice_get contents n) (ap is_some (sym (node_at-whole n)) ∙ live)

    way_of : (n : ℕ) → IsLive (whole ways contents) n → Given (node_at ways n)
    way_of n live = given_of (node_at ways n) (live_kept n live)

    -- a node's content is there
    pub within_contents : (n : ℕ) → IsWhole ways contents → IsLive (whole ways contents) n → n < length contents
    within_contents n is live = omega (arith, is.same_length, live_within ways.slots n (live_kept n live))

    -- a link can lead to each node
    pub is_node : (n : ℕ) → IsWhole ways contents → IsLive (whole ways contents) n → n ≢ no_node
    is_node n is live same = omega (arith, is.small, live_within ways.slots n (live_kept n live), same)

    pub can_link : (below : Option ℕ) → IsWhole ways contents → IfSome below (IsLive (whole ways contents)) → below ≢ Some no_node
    can_link None is live same = absurd (cc (same))
    can_link (Some name) is live same = is_node name is live (same_Some name no_node same)

    -- a way that is kept has its content beside it
    pub parts_at : (n : ℕ) (way : Way) → IsWhole ways contents → node_at ways n ≡ Some way → Parts way (slice_get contents n)
    parts_at n way is found =
        let t = there contents n (omega (arith, is.same_length, live_within ways.slots n (ap is_some found))) in
        record {
          content = t.content;
          is = t.is;
          suits = subst (λ slot. IsBeside slot t.content) found (if_some (IsBeside (node_at ways n)) (slice_get contents n) t.content t.is (is.beside n));
        }

    pub suits_at : (n : ℕ) (way : Way) (content : Content V) → IsWhole ways contents → node_at ways n ≡ Some way → slice_get contents n ≡ Some content → Suits way content
    suits_at n way content is found beside =
        let parts = parts_at n way is found in
        subst (λ (c : Content V). Suits way c) (same_Some parts.content content (sym parts.is ∙ beside)) parts.suits

    -- the node of the whole is made of both
    pub node_at-whole_some : (n : ℕ) (way : Way) (content : Content V) → node_at ways n ≡ Some way → slice_get contents n ≡ Some content → node_at (whole ways contents) n ≡ Some (node_of content way)
    node_at-whole_some n way content found beside = node_at-whole n ∙ ap (λ slot. joined slot (slice_get contents n)) found ∙ ap (joined (Some way)) beside

    -- a name without a node has none in the whole
    pub node_at-whole_none : (n : ℕ) → node_at ways n ≡ None → node_at (whole ways contents) n ≡ None
    node_at-whole_none n found = node_at-whole n ∙ ap (λ slot. joined slot (slice_get contents n)) found ∙ sym (joined_none (slice_get contents n))

    -- and its content has no value
    pub vacant_at : (n : ℕ) (content : Content V) → IsWhole ways contents → node_at ways n ≡ None → slice_get contents n ≡ Some content → content.value ≡ None
    vacant_at n content is found beside =
        subst (λ slot. IsBeside slot content) found (if_some (IsBeside (node_at ways n)) (slice_get contents n) content beside (is.beside n))

    -- what is kept of a node is the node's
    pub way_at : (n : ℕ) (way : Way) → IsWhole ways contents → node_at ways n ≡ Some way → (top : Node V) → node_at (whole ways contents) n ≡ Some top → IsWayOf top way
    way_at n way is found top was =
        let parts = parts_at n way is found in
        subst (λ top. IsWayOf top way) (same_Some _ top (sym (node_at-whole_some n way parts.content found parts.is) ∙ was)) (record { next = refl; len = (parts.suits).len; valued = (parts.suits).valued })

    pub content_at : (n : ℕ) (content : Content V) → slice_get contents n ≡ Some content → (top : Node V) → node_at (whole ways contents) n ≡ Some top → IsContentOf top content
    content_at n content beside top was =
        let way = way_of n (ap is_some was) in
        subst (λ top. IsContentOf top content) (same_Some _ top (sym (node_at-whole_some n way.value content way.is beside) ∙ was)) (record { eid = refl; value = refl })

    pub key_at : (n : ℕ) (content : Content V) → IsWhole ways contents → IsLive (whole ways contents) n → slice_get contents n ≡ Some content → content.key ≡ key_of content.eid
    key_at n content is live beside =
        let way = way_of n live in
        let suits = suits_at n way.value content is way.is beside in
        suits.key

    -- a content that was read of a node is there
    pub read_there : (n : ℕ) (content : Content V) → IsWhole ways contents → IsLive (whole ways contents) n → content ≡ get_or contents n content → slice_get contents n ≡ Some content
    read_there n content is live read = slice_get_read contents (length contents) n content refl (within_contents n is live) read

  module _ (old new : Store Way) (olds news : List (Content V)) (name : ℕ) (slot : Option Way) (change : Changes old new name slot) (kept : (other : ℕ) → other ≢ name → slice_get news other ≡ slice_get olds other) where
    -- one name of the whole changes where no other way and content do
    pub changes_whole : Changes (whole old olds) (whole new news) name (joined slot (slice_get news name))
    changes_whole = record {
      changed = node_at-whole new news name ∙ ap (λ kept. joined kept (slice_get news name)) change.changed;
      others = λ other differs.
          node_at-whole new news other
          ∙ ap (λ kept. joined kept (slice_get news other)) (change.others other differs)
          ∙ ap (joined (node_at old other)) (kept other differs)
          ∙ sym (node_at-whole old olds other);
    }

    -- and the whole stays one, where the content suits the way
    pub stays_whole : (content : Content V) → IsWhole old olds → length new.slots ≡ length old.slots → length news ≡ length olds → slice_get news name ≡ Some content → IsBeside slot content → IsWhole new news
    stays_whole content is slots contents found suits = record {
      same_length = contents ∙ is.same_length ∙ sym slots;
      small = omega (arith, is.small, slots);
      beside = λ n. elim (cases_eq n name) [
        | inl same ↦ subst (λ n. IfSome (slice_get news n) (IsBeside (node_at new n))) (sym same) (some_if (IsBeside (node_at new name)) (slice_get news name) content found (subst (λ s. IsBeside s content) (sym change.changed) suits))
        | inr differs ↦ subst (λ (at : Option (Content V)). IfSome at (IsBeside (node_at new n))) (sym (kept n differs)) (subst (λ (s : Option Way). IfSome (slice_get olds n) (IsBeside s)) (sym (change.others n differs)) (is.beside n))
      ];
    }

  module _ (ways : Store Way) (contents news : List (Content V)) (at : ℕ) (way later : Way) where
    edit_changes : node_at ways at ≡ Some way → Changes ways (with_node ways at later) at (Some later)
    edit_changes found = record {
      changed = get_or-set_same ways.slots at (Some later) None (live_within ways.slots at (ap is_some found));
      others = λ other differs. get_or-set_other ways.slots at other (Some later) None differs;
    }

    -- a node becomes what is made of it, where its way and its content change to that
    pub edit_becomes : (content after : Content V) (made : Node V → Node V) → node_at ways at ≡ Some way → slice_get contents at ≡ Some content → slice_get news at ≡ Some after → ((other : ℕ) → other ≢ at → slice_get news other ≡ slice_get contents other) → made (node_of content way) ≡ node_of after later → Becomes (whole ways contents) (whole (with_node ways at later) news) at made
    edit_becomes content after made found before now kept is_made top was =
        let same : node_of content way ≡ top = same_Some _ top (sym (node_at-whole_some ways contents at way content found before) ∙ was) in
        let node : joined (Some later) (slice_get news at) ≡ Some (made top) = ap (joined (Some later)) now ∙ ap Some (sym is_made ∙ ap made same) in
        subst (Changes (whole ways contents) (whole (with_node ways at later) news) at) node (changes_whole ways (with_node ways at later) contents news at (Some later) (edit_changes found) kept)

    -- and the whole stays one
    pub edit_whole : (after : Content V) → IsWhole ways contents → node_at ways at ≡ Some way → length news ≡ length contents → slice_get news at ≡ Some after → ((other : ℕ) → other ≢ at → slice_get news other ≡ slice_get contents other) → Suits later after → IsWhole (with_node ways at later) news
    edit_whole after is found lengths now kept suits =
        stays_whole ways (with_node ways at later) contents news at (Some later) (edit_changes found) kept after is (length-set ways.slots at (Some later)) lengths now suits

    -- with as many slots
    pub edit_length : length (slots_with (with_node ways at later).slots news) ≡ length (slots_with ways.slots contents)
    edit_length = length-slots_with (with_node ways at later).slots news ∙ length-set ways.slots at (Some later) ∙ sym (length-slots_with ways.slots contents)

  module _ (ways : Store Way) (contents : List (Content V)) (at : ℕ) (way later : Way) (is : IsWhole ways contents) (found : node_at ways at ≡ Some way) where
    -- a node gets other links
    pub link_becomes : (made : Node V → Node V) → ((content : Content V) → made (node_of content way) ≡ node_of content later) → Becomes (whole ways contents) (whole (with_node ways at later) contents) at made
    link_becomes made is_made =
        let parts = parts_at ways contents at way is found in
        edit_becomes ways contents contents at way later parts.content parts.content made found parts.is parts.is (λ other differs. refl) (is_made parts.content)

    pub link_whole : later.len ≡ way.len → later.valued ≡ way.valued → IsWhole (with_node ways at later) contents
    link_whole len valued =
        let parts = parts_at ways contents at way is found in
        let suits = parts.suits in
        edit_whole ways contents contents at way later parts.content is found refl parts.is (λ other differs. refl) (record { len = len ∙ suits.len; valued = valued ∙ suits.valued; key = suits.key })

  -- a content with another value
  abbrev pub with_value : Content V → Option V → Content V
  with_value content value = record content { value = value }

  module _ (ways : Store Way) (contents : List (Content V)) (at : ℕ) (way : Way) (content : Content V) (value : Option V) (is : IsWhole ways contents) (found : node_at ways at ≡ Some way) (before : slice_get contents at ≡ Some content) where
    now_valued : slice_get (set contents at (with_value content value)) at ≡ Some (with_value content value)
    now_valued = slice_get-set_same contents at (with_value content value) (slice_get_within contents at content before)

    -- a node gets another value
    pub value_becomes : (valued : Bool) → Becomes (whole ways contents) (whole (with_node ways at (record way { valued = valued })) (set contents at (with_value content value))) at (λ top. record top { value = value })
    value_becomes valued =
        edit_becomes ways contents (set contents at (with_value content value)) at way (record way { valued = valued }) content (with_value content value) (λ top. record top { value = value }) found before now_valued (λ other differs. slice_get-set_other contents at other (with_value content value) differs) refl

    pub value_whole : (valued : Bool) → valued ≡ is_some value → IsWhole (with_node ways at (record way { valued = valued })) (set contents at (with_value content value))
    value_whole valued says =
        let suits = suits_at ways contents at way content is found before in
        edit_whole ways contents (set contents at (with_value content value)) at way (record way { valued = valued }) (with_value content value) is found (length-set contents at (with_value content value)) now_valued (λ other differs. slice_get-set_other contents at other (with_value content value) differs) (record { len = suits.len; valued = says; key = suits.key })

    -- a node goes, and its value with it
    pub dropped_changes : (new : Store Way) → Changes ways new at None → Changes (whole ways contents) (whole new (set contents at (with_value content value))) at None
    dropped_changes new change =
        subst (Changes (whole ways contents) (whole new (set contents at (with_value content value))) at) (sym (joined_none (slice_get (set contents at (with_value content value)) at))) (changes_whole ways new contents (set contents at (with_value content value)) at None change (λ other differs. slice_get-set_other contents at other (with_value content value) differs))

    pub dropped_whole : (new : Store Way) → Changes ways new at None → length new.slots ≡ length ways.slots → value ≡ None → IsWhole new (set contents at (with_value content value))
    dropped_whole new change slots vacant =
        stays_whole ways new contents (set contents at (with_value content value)) at None change (λ other differs. slice_get-set_other contents at other (with_value content value) differs) (with_value content value) is slots (length-set contents at (with_value content value)) now_valued vacant

  pub put_within : (old new : Store Way) (contents : List (Content V)) (at : ℕ) (way : Way) → IsWhole old contents → Changes old new at (Some way) → length new.slots ≡ length old.slots → at < length contents
  put_within old new contents at way is change slots = omega (arith, is.same_length, slots, live_within new.slots at (ap is_some change.changed))

  module _ (old new : Store Way) (contents : List (Content V)) (at : ℕ) (way : Way) (content : Content V) (is : IsWhole old contents) (change : Changes old new at (Some way)) (slots : length new.slots ≡ length old.slots) where
    put_there : slice_get (set contents at content) at ≡ Some content
    put_there = slice_get-set_same contents at content (put_within old new contents at way is change slots)

    -- a node is put in
    pub put_changes : Changes (whole old contents) (whole new (set contents at content)) at (Some (node_of content way))
    put_changes =
        subst (Changes (whole old contents) (whole new (set contents at content)) at) (ap (joined (Some way)) put_there) (changes_whole old new contents (set contents at content) at (Some way) change (λ other differs. slice_get-set_other contents at other content differs))

    pub put_whole : Suits way content → IsWhole new (set contents at content)
    put_whole suits =
        stays_whole old new contents (set contents at content) at (Some way) change (λ other differs. slice_get-set_other contents at other content differs) content is slots (length-set contents at content) put_there suits

  module _ (old new : Store Way) (olds news : List (Content V)) (is : IsWhole old olds) (same : SameNodes old new) (kept : (i : ℕ) → i < length olds → slice_get news i ≡ slice_get olds i) where
    -- slots without a node are added, and contents without a value
    pub more_same : SameNodes (whole old olds) (whole new news)
    more_same n =
        node_at-whole new news n
        ∙ ap (λ slot. joined slot (slice_get news n)) (same n)
        ∙ joined_within (node_at old n) (slice_get news n) (slice_get olds n) (λ live. kept n (omega (arith, is.same_length, live_within old.slots n live)))
        ∙ sym (node_at-whole old olds n)

    pub more_whole : length news ≡ length new.slots → length new.slots < 2 ^ 32 → ((i : ℕ) → length olds ≤ i → IfSome (slice_get news i) (λ content. content.value ≡ None)) → IsWhole new news
    more_whole lengths small vacant = record {
      same_length = lengths;
      small = small;
      beside = λ n. subst (λ slot. IfSome (slice_get news n) (IsBeside slot)) (sym (same n)) (elim (cases_lt n (length olds)) [
        | inl within ↦ subst (λ (at : Option (Content V)). IfSome at (IsBeside (node_at old n))) (sym (kept n within)) (is.beside n)
        | inr past ↦ subst (λ slot. IfSome (slice_get news n) (IsBeside slot)) (sym (past_none old.slots n (omega (arith, is.same_length, past)))) (vacant n past)
      ]);
    }

  -- contents are being added, with room for all
  pub record AddingContents (old now : List (Content V)) (capacity all : ℕ) : Type 0 where
    pub within : length now ≤ all
    pub room : all ≤ capacity
    pub more : length old ≤ length now
    pub kept : (i : ℕ) → i < length old → slice_get now i ≡ slice_get old i
    pub vacant : (i : ℕ) → length old ≤ i → IfSome (slice_get now i) (λ content. content.value ≡ None)
