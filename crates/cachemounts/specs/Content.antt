-- What the contents of caches are. A content is that of a private slot, or the common one, for which the slot is `None`. Until a tree is
-- given back to it, a content is what it was at first: the empty tree, where the store began without it.
use Rattle.std.specs.Prelude.{ℕ, ◌==◌, Bool, true, false, ◌&&◌, if◌then◌else◌, List, [], ◌∷◌, Option, Some, None, find}
use Rattle.std.specs.List.{list_any, list_all}
use Rattle.std.specs.Option.{option_map_or}
use Rattle.trees.specs.TreeMap.{TreeMap, empty_tree}
use Rattle.cachemounts.specs.declared.holds.Access.{Access}
use Rattle.cachemounts.specs.declared.holds.Access.TheVariants.{Together, Alone, Slot}
use Rattle.cachemounts.specs.declared.holds.Hold.{Hold}
use Rattle.cachemounts.specs.declared.content.Content.{Content}
use Rattle.cachemounts.specs.Holds.{same_id}

-- which content of its cache is held (own)
abbrev pub slot_of : Access → Option ℕ
slot_of Together = None
slot_of Alone = None
slot_of (Slot slot) = Some slot

-- whether two contents of a cache are one (own)
abbrev pub same_slot : Option ℕ → Option ℕ → Bool
same_slot None None = true
same_slot None (Some slot) = false
same_slot (Some slot) None = false
same_slot (Some slot) (Some other) = slot == other

-- whether two contents are one: of one cache, and of one slot of it (own)
abbrev pub same_content : List ℕ → Option ℕ → List ℕ → Option ℕ → Bool
same_content id slot other there = same_id id other && same_slot slot there

-- whether this is the content of a cache's slot (own)
abbrev pub is_content : List ℕ → Option ℕ → Content → Bool
is_content id slot content = same_content content.id content.slot id slot

-- the tree in a content: that of its first entry, and the empty one where it isn't listed (own)
abbrev pub tree_in : List Content → List ℕ → Option ℕ → TreeMap
tree_in contents id slot = option_map_or (λ (content : Content). content.tree) (find (is_content id slot) contents) empty_tree

-- the tree in the content that is held (own)
abbrev pub tree_held : List Content → Hold → TreeMap
tree_held contents hold = tree_in contents hold.id (slot_of hold.access)

-- the tree in a content after trees were given back for holds, in their order, each to the content that is held; before that it was `before` (own)
abbrev pub given_back : List Hold → List TreeMap → List ℕ → Option ℕ → TreeMap → TreeMap
given_back [] trees id slot before = before
given_back (hold ∷ holds) [] id slot before = before
given_back (hold ∷ holds) (tree ∷ trees) id slot before =
    given_back holds trees id slot (if same_content hold.id (slot_of hold.access) id slot then tree else before)

-- whether each content that is held is listed, so that giving a tree back takes no memory (own)
abbrev pub have_contents : List Content → List Hold → Bool
have_contents contents holds = list_all (λ (hold : Hold). list_any (is_content hold.id (slot_of hold.access)) contents) holds

-- the common content of a cache (own)
abbrev pub common_content : List ℕ × TreeMap → Content
common_content row = record { id = row.0; slot = None; tree = row.1 }

-- the tree that is in a content at first, where caches have these common contents: that of the first row of the cache, and the empty one in a
-- private slot (own)
abbrev pub tree_at_first : List (List ℕ × TreeMap) → List ℕ → Option ℕ → TreeMap
tree_at_first rows id None = option_map_or (λ (row : List ℕ × TreeMap). row.1) (find (λ (row : List ℕ × TreeMap). same_id row.0 id) rows) empty_tree
tree_at_first rows id (Some slot) = empty_tree
