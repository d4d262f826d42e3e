-- Why entries make no closed table: the first test that they fail. Entries are tried first, from
-- the first one on; then whether the table has its first node; then its nodes, each with all its
-- tests: whether the cut has all answered calls, and the next calls by rising callers.
use Rattle.std.specs.Prelude.{◌≡◌, ℕ, ◌+◌, ◌<◌, ◌⊎◌, List, length, take, Some, slice_get}
use Rattle.book_base.specs.Book.{Page}
use Rattle.level_refutations.specs.declared.entry.LevelEntry.{LevelEntry}
use Rattle.level_refutations.specs.declared.fault.LevelFault.{LevelFault}
use Rattle.level_refutations.specs.declared.fault.LevelFault.TheVariants.{Unlisted, Whole, Leads}
use Rattle.level_refutations.specs.declared.node.Node.{Node}
use Rattle.level_refutations.specs.Closed.{levels_of, cuts_of, nodes_of, table_of, no_calls, IsNode, IsWhole, LeadsInside, IsClosedAt, IsMade, AreMade}

-- The entry with the number e, counted from 1, is the first one that doesn't name what is there.
pub record IsFirstUnmade (book : List Page) (entries : List LevelEntry) (e : ℕ) : Type 0 where
  pub k : ℕ
  pub number : e ≡ k + 1
  pub before : AreMade book entries k
  pub unmade : LevelEntry
  pub there : slice_get entries k ≡ Some unmade
  pub lacks : IsMade book (length (levels_of entries)) (cuts_of book (take k entries)) unmade → ⊥

-- All entries name what is there, and the level of the empty stack with the cut of no call isn't a
-- node.
pub record LacksFirstNode (book : List Page) (entries : List LevelEntry) : Type 0 where
  pub made : AreMade book entries (length entries)
  pub lacks : IsNode (table_of book entries) 0 (no_calls book) → ⊥

-- All entries name what is there, the table has its first node, and a node of the table is the
-- first one at which it isn't closed, if it is closed at none later.
pub record IsFirstOpen (book : List Page) (entries : List LevelEntry) (node : Node)
    (opens : Type 0) : Type 0 where
  pub made : AreMade book entries (length entries)
  pub begins : IsNode (table_of book entries) 0 (no_calls book)
  pub k : ℕ
  pub there : slice_get (nodes_of entries) k ≡ Some node
  pub before : (j : ℕ) (other : Node) → j < k → slice_get (nodes_of entries) j ≡ Some other
      → IsClosedAt book (table_of book entries) other
  pub here : opens

-- the next call of a caller is the first one that leads from a node out of the table
pub record IsFirstOut (book : List Page) (entries : List LevelEntry) (node : Node)
    (caller : ℕ) : Type 0 where
  pub unfinished : IsWhole book (table_of book entries) node → ⊥
  pub out : LeadsInside book (table_of book entries) node caller → ⊥
  pub before : (i : ℕ) → i < caller → LeadsInside book (table_of book entries) node i

-- The fault names the first test that the entries fail.
abbrev pub IsFirstFault : List Page → List LevelEntry → LevelFault → Type 0
IsFirstFault book entries (Unlisted e) =
    IsFirstUnmade book entries e ⊎ ((e ≡ 0) × LacksFirstNode book entries)
IsFirstFault book entries (Whole l c) =
    let node : Node = record { level = l; cut = c } in
    IsFirstOpen book entries node (IsWhole book (table_of book entries) node)
IsFirstFault book entries (Leads l c caller) =
    let node : Node = record { level = l; cut = c } in
    IsFirstOpen book entries node (IsFirstOut book entries node caller)
