-- Nodes as they are stored: the way of each, which a way down reads, and its content beside it.
use Rattle.std.specs.Prelude.{◌≡◌, ℕ, ◌^◌, ◌<◌, ◌==◌, List, [], ◌∷◌, length, slice_get, Option, Some, None, is_some, IfSome, if◌then◌else◌}
use Rattle.std.specs.Option.{option_map}
use Rattle.node_store.specs.Store.{Store, node_at}
use Rattle.prefix_table.specs.Keys.{key_of, key_len}
use Rattle.prefix_table.specs.declared.content.Content.{Content}
use Rattle.prefix_table.specs.declared.node.Node.{Node}
use Rattle.prefix_table.specs.declared.node.Sides.{Sides}
use Rattle.prefix_table.specs.declared.node.Way.{Way}

-- the link on a side without a node: no node has this name
abbrev pub no_node : ℕ
no_node = 4294967295

-- the name of the node to which a link leads, or None
abbrev pub linked : ℕ → Option ℕ
linked link = if link == no_node then None else Some link

-- the names of the nodes to which the links of a node lead
abbrev pub linked_sides : Sides ℕ → Sides (Option ℕ)
linked_sides links = record { zero = linked links.zero; one = linked links.one }

module _ {V : Type 0} where
  -- a node with that content and the names of the nodes below it
  abbrev pub node_with : Content V → Sides (Option ℕ) → Node V
  node_with content next = record { eid = content.eid; value = content.value; next = next }

  -- a node of its content and its way
  abbrev pub node_of : Content V → Way → Node V
  node_of content way = node_with content (linked_sides way.next)

  -- each slot of a store, with the content beside it
  abbrev pub slots_with : List (Option Way) → List (Content V) → List (Option (Node V))
  slots_with [] contents = []
  slots_with (slot ∷ slots) [] = None ∷ slots_with slots []
  slots_with (slot ∷ slots) (content ∷ contents) = option_map (node_of content) slot ∷ slots_with slots contents

  -- a store as contracts see it: its nodes, with the contents beside their ways
  abbrev pub whole : Store Way → List (Content V) → Store (Node V)
  whole ways contents = record { slots = slots_with ways.slots contents; rooms = ways.rooms }

  -- the way of a node has the length of its EID, and knows whether it has a value; its content has the EID's key
  pub record Suits (way : Way) (content : Content V) : Type 0 where
    pub len : way.len ≡ key_len content.eid
    pub valued : way.valued ≡ is_some content.value
    pub key : content.key ≡ key_of content.eid

  -- the content beside a slot suits its way; where there is no node, it has no value
  abbrev pub IsBeside : Option Way → Content V → Type 0
  IsBeside None content = content.value ≡ None
  IsBeside (Some way) content = Suits way content

  -- each slot has its content beside it, and no slot has the name that no node has
  pub record IsWhole (ways : Store Way) (contents : List (Content V)) : Type 0 where
    pub same_length : length contents ≡ length ways.slots
    pub small : length ways.slots < 2 ^ 32
    pub beside : (name : ℕ) → IfSome (slice_get contents name) (IsBeside (node_at ways name))

  -- a way is that of the node
  pub record IsWayOf (top : Node V) (way : Way) : Type 0 where
    pub next : top.next ≡ linked_sides way.next
    pub len : way.len ≡ key_len top.eid
    pub valued : way.valued ≡ is_some top.value

  -- a content is that of the node
  pub record IsContentOf (top : Node V) (content : Content V) : Type 0 where
    pub eid : content.eid ≡ top.eid
    pub value : content.value ≡ top.value
