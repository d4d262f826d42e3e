-- What the tables of levels that the code keeps in memory stand for.
use Rattle.std.specs.Prelude.{◌≡◌, ℕ, IsTrue, List, length, map, take, Some, None, slice_get}
use Rattle.book_base.specs.Book.{Page}
use Rattle.stack_levels.specs.declared.table.Level.{Level}
use Rattle.stack_levels.specs.declared.table.Node.{Node}
use Rattle.stack_levels.specs.declared.table.NodeKey.{NodeKey}
use Rattle.stack_levels.specs.Levels.{Layer, Nodes, IsOneLevel, no_calls}

-- A level in memory, without the puts and takes by which it was found.
abbrev pub layer_of : Level → Layer
layer_of level = record { top = level.top; parents = level.parents.items }

-- The levels of a table in memory, without the puts and takes by which they were found.
abbrev pub layers_of : List Level → List Layer
layers_of levels = map layer_of levels

-- The cut of a node: its first counts, as many as the book has callers.
abbrev pub cut_at : List Page → Node → List ℕ
cut_at book node = take (length book) node.counts

-- The set of pairs of a level's number and a cut for which the list `nodes` of a table in memory
-- stands. A node has the number of its level, and the place of its counts in the list `cuts`; its
-- cut is the first of these counts, as many as the book has callers.
abbrev pub nodes_of : List Page → List (List ℕ) → List NodeKey → Nodes
nodes_of book cuts nodes l cut = (k : ℕ) × (key : NodeKey) × (slice_get nodes k ≡ Some key)
    × (key.level ≡ l)
    × ((counts : List ℕ) × (slice_get cuts key.cut ≡ Some counts)
    × (take (length book) counts ≡ cut))

-- A table in memory begins at the bottom: its first level has no last word, and this level with the
-- cut of no call is one of its pairs.
pub record BeginsAtBottom (book : List Page) (levels : List Level) (cuts : List (List ℕ))
    (nodes : List NodeKey) : Type 0 where
  pub bottom : Layer
  pub first : slice_get (layers_of levels) 0 ≡ Some bottom
  pub empty : bottom.top.last ≡ None
  pub start : nodes_of book cuts nodes 0 (no_calls book)

-- The level with the number `p` exists, and has the flag `kept`.
abbrev pub IsSaidKept : List Layer → ℕ → Type 0
IsSaidKept layers p = (under : Layer) × (slice_get layers p ≡ Some under) × IsTrue under.top.kept

-- Level `m` exists, has the value `v` as its last word, and has level `l` as one of its parents.
abbrev pub LiesOn : List Layer → ℕ → ℕ → ℕ → Type 0
LiesOn layers m l v = (above : Layer) × (slice_get layers m ≡ Some above)
    × (above.top.last ≡ Some v)
    × IsOneLevel above.parents l
