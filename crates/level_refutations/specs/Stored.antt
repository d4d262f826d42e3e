-- Tables as a check stores them.
use Rattle.std.specs.Prelude.{◌≡◌, ◌↔◌, ℕ, ◌+◌, ◌-◌, List, [], ◌++◌, length, map, replicate, take, Option, Some, IfSome, slice_get, slice_index_or}
use Rattle.book_base.specs.declared.TheConstants.{MAX_CALLERS}
use Rattle.book_base.specs.Book.{Page}
use Rattle.level_refutations.specs.declared.above.Above.{Above}
use Rattle.level_refutations.specs.declared.above.Base.{Base}
use Rattle.level_refutations.specs.declared.entry.LevelEntry.{LevelEntry}
use Rattle.level_refutations.specs.declared.entry.LevelEntry.TheVariants as entry
use Rattle.level_refutations.specs.declared.fault.LevelFault.{LevelFault}
use Rattle.level_refutations.specs.declared.fault.LevelFault.TheVariants.{Unlisted, Whole, Leads}
use Rattle.level_refutations.specs.declared.levels.Levels.{Levels}
use Rattle.level_refutations.specs.declared.node.Node.{Node}
use Rattle.level_refutations.specs.declared.node.NodeKey.{NodeKey}
use Rattle.level_refutations.specs.declared.table.StoredTable.{StoredTable}
use Rattle.level_refutations.specs.Closed.{IsOneOf, Level, bottom, Table, LiesOn, AreNodesAt, IsWhole, levels_of, cuts_of, nodes_of, table_of}
use Rattle.level_refutations.specs.Fault.{IsFirstOut}

-- the lists of levels, one for each base
abbrev pub lists_of : Above → List (List ℕ)
lists_of above = map (λ levels. levels.items) above.levels.items

-- each base stands once, and has a list of levels
pub record AreEven (above : Above) : Type 0 where
  pub long : length above.bases.keys ≡ length (lists_of above)
  pub once : (i j : ℕ) (base : Base) → slice_get above.bases.keys i ≡ Some base
      → slice_get above.bases.keys j ≡ Some base → i ≡ j

-- of bases and lists of levels, one for each: level `m` is listed as one with the item `v`, which
-- may lie right above level `l`
abbrev pub IsNamed : List Base → List (List ℕ) → ℕ → ℕ → ℕ → Type 0
IsNamed bases lists v l m = (k : ℕ)
    × (slice_get bases k ≡ Some (record { value = v; below = l }))
    × IsOneOf (slice_index_or lists k []) m

-- level `m` is listed as one with the item `v`, which may lie right above level `l`
abbrev pub Names : Above → ℕ → ℕ → ℕ → Type 0
Names above = IsNamed above.bases.keys (lists_of above)

-- the level after the one with the number `j` is that of an entry
abbrev pub IsMadeBy : List Level → ℕ → LevelEntry → Type 0
IsMadeBy levels j (entry.Cut p i) = ⊥
IsMadeBy levels j (entry.Level v below) =
    slice_get levels (j + 1) ≡ Some (record { top = Some v; below = below.items })
IsMadeBy levels j (entry.At l cuts) = ⊥

-- Stored levels are a list of levels: each but the first is that of the entry whose number is
-- stored, and those are listed above each level that may lie right above it.
pub record AreLevels (entries : List LevelEntry) (stored : Levels)
    (levels : List Level) : Type 0 where
  pub even : AreEven stored.above
  pub first : slice_get levels 0 ≡ Some bottom
  pub long : length levels ≡ length stored.makers.items + 1
  pub made : (j e : ℕ) → slice_get stored.makers.items j ≡ Some e
      → (maker : LevelEntry) × (slice_get entries e ≡ Some maker) × IsMadeBy levels j maker
  pub named : (v l m : ℕ) → Names stored.above v l m ↔ LiesOn levels m v l

-- the counts of a cut, with 0 for each caller that a book may have besides
abbrev pub wide_of : List ℕ → List ℕ
wide_of cut = cut ++ replicate (MAX_CALLERS - length cut) 0

-- counts are those of a cut with `n` callers
abbrev pub AreWide : ℕ → List ℕ → Type 0
AreWide n counts = (length (take n counts) ≡ n) × (counts ≡ wide_of (take n counts))

-- Stored counts are those of a list of cuts, each of which has a count for each caller of the book.
pub record AreCuts (book : List Page) (stored cuts : List (List ℕ)) : Type 0 where
  pub is : stored ≡ map wide_of cuts
  pub wide : (c : ℕ) (cut : List ℕ) → slice_get cuts c ≡ Some cut → length cut ≡ length book

-- a key is one of a list
abbrev pub IsKey : List NodeKey → NodeKey → Type 0
IsKey keys key = (k : ℕ) × (slice_get keys k ≡ Some key)

-- keys are those of nodes, where a list has the counts of each cut
abbrev pub AreKnown : List (List ℕ) → List Node → List NodeKey → Type 0
AreKnown cuts nodes keys = (l : ℕ) (counts : List ℕ)
    → IsKey keys (record { level = l; counts = counts }) ↔ AreNodesAt cuts nodes l counts

-- a stored table is the one that entries make
pub record IsStored (book : List Page) (entries : List LevelEntry)
    (stored : StoredTable) : Type 0 where
  pub levels : AreLevels entries stored.levels (levels_of entries)
  pub cuts : AreCuts book stored.cuts.items (cuts_of book entries)
  pub nodes : stored.nodes.items ≡ nodes_of entries
  pub known : AreKnown stored.cuts.items stored.nodes.items stored.known.keys

-- the table that entries make, with stored counts as its cuts
abbrev pub wide_table : List LevelEntry → StoredTable → Table
wide_table entries stored = record {
  levels = levels_of entries;
  cuts = stored.cuts.items;
  nodes = stored.nodes.items;
}

-- a reply doesn't contradict the recorded one, if there is one
abbrev pub Allows : Option ℕ → ℕ → Type 0
Allows reply said = IfSome reply (λ word. word ≡ said)

-- a fault is the first of the tests of a node that the table fails
abbrev pub IsOpen : List Page → List LevelEntry → Node → LevelFault → Type 0
IsOpen book entries node (Unlisted e) = ⊥
IsOpen book entries node (Whole l c) = (node ≡ record { level = l; cut = c })
    × IsWhole book (table_of book entries) node
IsOpen book entries node (Leads l c caller) = (node ≡ record { level = l; cut = c })
    × IsFirstOut book entries node caller
