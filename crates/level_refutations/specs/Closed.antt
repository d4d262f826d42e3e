-- Closed tables of levels: what a stack does above an item doesn't depend on what lies below it. A
-- table has cuts, levels, and nodes, each of which is a level that is on top after a cut. It is
-- closed where each call that may come next at one of its nodes leads to its nodes alone, and no
-- node's cut has all answered calls. Then the book has no legal order.
use Rattle.std.specs.Prelude.{◌≡◌, ℕ, ◌<◌, List, [], ◌∷◌, ◌++◌, length, map, replicate, fold, take, Option, Some, None, slice_get, slice_index_or}
use Rattle.book_base.specs.declared.call.Record.{Record}
use Rattle.book_base.specs.Book.{Page, IsCall, operation_of, record_of}
use Rattle.book_base.specs.Next.{raised, next_call, HoldsAnswered, MayComeNext}
use Rattle.seq_objects.specs.declared.stack.StackOperation.{StackOperation}
use Rattle.seq_objects.specs.declared.stack.StackOperation.TheVariants.{Push, Pop}
use Rattle.seq_objects.specs.Replies.{reply_done, reply_none, reply_value, reply_bad}
use Rattle.seq_objects.specs.StackSteps.{stack_operation}
use Rattle.level_refutations.specs.declared.entry.LevelEntry.{LevelEntry}
use Rattle.level_refutations.specs.declared.entry.LevelEntry.TheVariants as entry
use Rattle.level_refutations.specs.declared.node.Node.{Node}

-- a number is one of a list
abbrev pub IsOneOf : List ℕ → ℕ → Type 0
IsOneOf numbers n = (k : ℕ) × (slice_get numbers k ≡ Some n)

-- A level: the item on top, or none for the empty stack, and the numbers of the levels that may lie
-- right below this item.
pub record Level : Type 0 where
  pub top : Option ℕ
  pub below : List ℕ

-- the level of the empty stack
abbrev pub bottom : Level
bottom = record { top = None; below = [] }

-- the cut that holds no call
abbrev pub no_calls : List Page → List ℕ
no_calls book = replicate (length book) 0

-- A table: its levels and its cuts, each by its number, and its nodes in their order.
pub record Table : Type 0 where
  pub levels : List Level
  pub cuts : List (List ℕ)
  pub nodes : List Node

-- a level with the number `m` has item `v` on top, which may lie right above level `l`
abbrev pub LiesOn : List Level → ℕ → ℕ → ℕ → Type 0
LiesOn levels m v l = (above : Level) × (slice_get levels m ≡ Some above) × (above.top ≡ Some v)
    × IsOneOf above.below l

-- some of the nodes has level `l` and a number of this cut
abbrev pub AreNodesAt : List (List ℕ) → List Node → ℕ → List ℕ → Type 0
AreNodesAt cuts nodes l cut = (k c : ℕ)
    × (slice_get nodes k ≡ Some (record { level = l; cut = c })) × (slice_get cuts c ≡ Some cut)

-- a level with a cut is a node of a table
abbrev pub IsNode : Table → ℕ → List ℕ → Type 0
IsNode table = AreNodesAt table.cuts table.nodes

-- ---- where calls lead

-- A pop at a level leads to nodes alone, where its reply is as said: with the item on top, to each
-- level that may lie below it; at the empty stack, with `none`, to this level. `replies` says that
-- a reply doesn't contradict the recorded one, and `after` is the cut after the call.
abbrev pub PopLeads : Table → ℕ → Option ℕ → List ℕ → (ℕ → Type 0) → List ℕ → Type 0
PopLeads table l None below replies after = replies reply_none → IsNode table l after
PopLeads table l (Some v) below replies after = replies (reply_value v) → (p : ℕ)
    → IsOneOf below p → IsNode table p after

-- An operation at a level leads to nodes alone, where its reply is as said: a push, with `done`, to
-- some level of its item that may lie right above this one; a pop as `PopLeads` says; an operation
-- that a stack doesn't know, with `bad`, to the same level.
abbrev pub OperationLeads : Table → ℕ → Level → Option StackOperation → (ℕ → Type 0)
    → List ℕ → Type 0
OperationLeads table l level (Some (Push v)) replies after =
    replies reply_done → (m : ℕ) × LiesOn table.levels m v l × IsNode table m after
OperationLeads table l level (Some Pop) replies after =
    PopLeads table l level.top level.below replies after
OperationLeads table l level None replies after = replies reply_bad → IsNode table l after

-- the next call of a caller has no recorded reply, or this one
abbrev pub MayHaveReply : List Page → List ℕ → ℕ → ℕ → Type 0
MayHaveReply book cut caller reply = (r : Record)
    → record_of book (next_call cut caller) ≡ Some r → r.reply ≡ reply

-- Where the next call of a caller may come next at a level and a cut, it leads to nodes alone.
abbrev pub CallLeads : List Page → Table → ℕ → Level → List ℕ → ℕ → Type 0
CallLeads book table l level cut caller = MayComeNext book cut (next_call cut caller) → (op : ℕ)
    → operation_of book (next_call cut caller) ≡ Some op
    → OperationLeads table l level (stack_operation op) (MayHaveReply book cut caller)
    (raised cut caller)

-- the cut of a node has all answered calls
abbrev pub IsWhole : List Page → Table → Node → Type 0
IsWhole book table node = (cut : List ℕ) × (slice_get table.cuts node.cut ≡ Some cut)
    × HoldsAnswered book cut

-- the next call of a caller leads from a node to nodes alone
abbrev pub LeadsInside : List Page → Table → Node → ℕ → Type 0
LeadsInside book table node caller = (level : Level) (cut : List ℕ)
    → slice_get table.levels node.level ≡ Some level → slice_get table.cuts node.cut ≡ Some cut
    → CallLeads book table node.level level cut caller

-- A table is closed at a node: the node's cut lacks an answered call, and each call that may come
-- next leads to nodes alone.
pub record IsClosedAt (book : List Page) (table : Table) (node : Node) : Type 0 where
  pub unfinished : IsWhole book table node → ⊥
  pub leads : (caller : ℕ) → LeadsInside book table node caller

-- ---- tables that are made by entries

-- the levels that an entry leaves
abbrev pub with_level : List Level → LevelEntry → List Level
with_level levels (entry.Cut p i) = levels
with_level levels (entry.Level v below) =
    levels ++ record { top = Some v; below = below.items } ∷ []
with_level levels (entry.At l cuts) = levels

-- the levels that entries make after that of the empty stack, in their order
abbrev pub levels_of : List LevelEntry → List Level
levels_of entries = fold with_level (bottom ∷ []) entries

-- the cuts that an entry leaves: `Cut p i` makes that of cut p with the next call of caller i
abbrev pub with_cut : List Page → List (List ℕ) → LevelEntry → List (List ℕ)
with_cut book cuts (entry.Cut p i) =
    cuts ++ raised (slice_index_or cuts p (no_calls book)) i ∷ []
with_cut book cuts (entry.Level v below) = cuts
with_cut book cuts (entry.At l numbers) = cuts

-- the cuts that entries make after that of no call, in their order
abbrev pub cuts_of : List Page → List LevelEntry → List (List ℕ)
cuts_of book entries = fold (with_cut book) (no_calls book ∷ []) entries

-- the nodes of a level with cuts
abbrev pub nodes_at : ℕ → List ℕ → List Node
nodes_at l cuts = map (λ (c : ℕ). record { level = l; cut = c }) cuts

-- the nodes that an entry leaves
abbrev pub with_nodes : List Node → LevelEntry → List Node
with_nodes nodes (entry.Cut p i) = nodes
with_nodes nodes (entry.Level v below) = nodes
with_nodes nodes (entry.At l cuts) = nodes ++ nodes_at l cuts.items

-- the nodes that entries list, in their order
abbrev pub nodes_of : List LevelEntry → List Node
nodes_of entries = fold with_nodes [] entries

-- the table that entries make
abbrev pub table_of : List Page → List LevelEntry → Table
table_of book entries =
    record { levels = levels_of entries; cuts = cuts_of book entries; nodes = nodes_of entries }

-- each number of a list is below a bound
abbrev pub AreBelow : List ℕ → ℕ → Type 0
AreBelow numbers bound = (n : ℕ) → IsOneOf numbers n → n < bound

-- An entry names what is there: a cut is made of one of the cuts before it, by a caller who has a
-- next call there; a level lies above levels of the table, of which there are `levels`; a node has
-- a level of the table and one of the cuts before it.
abbrev pub IsMade : List Page → ℕ → List (List ℕ) → LevelEntry → Type 0
IsMade book levels cuts (entry.Cut p i) = (cut : List ℕ) × (slice_get cuts p ≡ Some cut)
    × IsCall book (next_call cut i)
IsMade book levels cuts (entry.Level v below) = AreBelow below.items levels
IsMade book levels cuts (entry.At l numbers) = (l < levels) × AreBelow numbers.items (length cuts)

-- the entries with numbers below k name what is there
abbrev pub AreMade : List Page → List LevelEntry → ℕ → Type 0
AreMade book entries k = (j : ℕ) (made : LevelEntry) → j < k → slice_get entries j ≡ Some made
    → IsMade book (length (levels_of entries)) (cuts_of book (take j entries)) made

-- Entries make a closed table: each of them names what is there, the level of the empty stack with
-- the cut of no call is a node, and the table is closed at each of its nodes.
pub record MakeClosed (book : List Page) (entries : List LevelEntry) : Type 0 where
  pub made : AreMade book entries (length entries)
  pub begins : IsNode (table_of book entries) 0 (no_calls book)
  pub closed : (k : ℕ) (node : Node) → slice_get (nodes_of entries) k ≡ Some node
      → IsClosedAt book (table_of book entries) node
