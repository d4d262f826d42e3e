-- Tables in memory whose nodes lead to one another alone: what is found of such a table holds of
-- its levels.
use Rattle.std.proofs.Common.{◌≡◌, ℕ, ◌+◌, ◌<◌, ◌≤◌, ◌∙◌, IsTrue, List, length, get_or, set, take, replicate, Some, option_map, sym, ap, subst, slice_get, arith}
use Rattle.std.proofs.lemmas.List.{take-replicate, get_or-take}
use Rattle.std.proofs.Math.Seq.{take-set-lt}
use Rattle.std.proofs.lemmas.Option.{get_or_from_slice_get, slice_get-map, slice_get_within}
use Rattle.list_laws.proofs.Options.{map_some}
use Rattle.list_laws.proofs.Places.{get_or-replicate_default}
use Rattle.book_base.specs.declared.TheConstants.{MAX_CALLERS}
use Rattle.book_base.specs.declared.call.Call.{Call}
use Rattle.search_hints.specs.declared.marked_callers.MarkedCallers.{MarkedCallers}
use Rattle.book_base.specs.Book.{Page, IsValid, operation_of}
use Rattle.book_base.specs.Next.{next_call, raised}
use Rattle.book_base.specs.Pruning.{HasOneOpen}
use Rattle.search_hints.specs.Marks.{IsMarked, MarksSuffice}
use Rattle.legal_orders.specs.Container.{Effect, Reading}
use Rattle.legal_orders.specs.declared.reader.Role.{Role}
use Rattle.legal_orders.specs.Deals.{deed_of}
use Rattle.legal_orders.specs.Calls.{IsNeverTaken}
use Rattle.list_pruning.specs.HoldsLast.{IsRead}
use Rattle.list_pruning.specs.LastFirst.{GivesLastFirst, HasTop}
use Rattle.stack_levels.specs.declared.table.Level.{Level}
use Rattle.stack_levels.specs.declared.table.Node.{Node}
use Rattle.stack_levels.specs.declared.table.NodeKey.{NodeKey}
use Rattle.stack_levels.specs.Levels.{Layer, Nodes, IsOneLevel, DeedLeads, CallLeads, IsFollowed, IsClosedAt, IsKeptLayer, no_calls}
use Rattle.stack_levels.specs.LevelLaws.{StackHasNoOrder}
use Rattle.stack_levels.specs.Tables.{layer_of, layers_of, cut_at, nodes_of, BeginsAtBottom}
use Rattle.stack_levels.proofs.Refuting.{no_order_where_closed}

-- The level at a place of a table in memory, without how it was found, is at that place among the
-- levels of the table.
pub layer_at : (levels : List Level) (l : ℕ) (level : Level) → slice_get levels l ≡ Some level
    → slice_get (layers_of levels) l ≡ Some (layer_of level)
layer_at levels l level at = slice_get-map layer_of levels l ∙ ap (option_map layer_of) at

-- As many counts of 0 as a book has callers are the cut that holds no call.
pub zero_counts : (book : List Page) → length book ≤ MAX_CALLERS
    → take (length book) (replicate MAX_CALLERS 0) ≡ no_calls book
zero_counts book few = take-replicate (length book) MAX_CALLERS 0 few

-- The first n of some counts with one more call of a caller, whose number is below n, are the cut
-- of the first n counts with one more call of this caller.
pub cut_raised : (n : ℕ) (counts : List ℕ) (i : ℕ) → i < n
    → take n (set counts i (get_or counts i 0 + 1)) ≡ raised (take n counts) i
cut_raised n counts i below =
    take-set-lt n counts i (get_or counts i 0 + 1) below
    ∙ ap (λ (m : ℕ). set (take n counts) i (m + 1)) (sym (get_or-take n counts i 0 below))

-- A value that no answered call takes, of those that the cut without calls doesn't hold, is never
-- taken.
pub never_taken : (reading : Reading) (book : List Page) (n v : ℕ)
    → (IsRead reading book (replicate n 0) v → ⊥) → IsNeverTaken reading book v
never_taken reading book n v unread call takes =
    let none_of : ℕ → List ℕ = λ m. replicate m 0 in
    let zeros : (m i : ℕ) → get_or (none_of m) i 0 ≡ 0 = λ m i. get_or-replicate_default m i 0 in
    unread (call, (takes, omega (arith, zeros n call.caller)))

-- What holds of the level at each index of a list of levels holds of each level in the list.
pub each_one : (P : ℕ → Type 0) (levels : List ℕ)
    → ((j : ℕ) → j < length levels → P (get_or levels j 0)) → (p : ℕ) → IsOneLevel levels p → P p
each_one P levels each p one =
    subst P (get_or_from_slice_get levels one.0 p 0 one.1)
    (each one.0 (slice_get_within levels one.0 p one.1))

-- A pair of a level and a cut is closed where the marked callers suffice at each list with the top
-- of the level, for each object that gives its last value first, and the next call of each marked
-- caller is followed.
pub closed_at : (reading : Reading) (book : List Page) (levels : List Level) (nodes : Nodes) (l : ℕ)
    (level : Level) (cut mine : List ℕ) (marks : MarkedCallers)
    → length book ≤ length cut → slice_get levels l ≡ Some level → mine ≡ cut
    → ((next : List ℕ → ℕ → List ℕ × ℕ) (bound : ℕ) (list : List ℕ)
    → GivesLastFirst reading next bound
    → HasTop reading book mine bound level.top list → MarksSuffice book next mine list marks)
    → ((i : ℕ) → IsMarked marks i
    → IsFollowed reading book (layers_of levels) nodes l (layer_of level) mine (next_call mine i))
    → IsClosedAt reading book (layers_of levels) nodes l cut
closed_at reading book levels nodes l level cut mine marks wide at same suffice followed = record {
  wide = wide;
  layer = layer_of level;
  there = layer_at levels l level at;
  marks = marks;
  suffice =
      λ next bound list is top. subst (λ (c : List ℕ). MarksSuffice book next c list marks) same
      (suffice next bound list is
      (subst (λ (c : List ℕ). HasTop reading book c bound level.top list) (sym same) top));
  followed = λ i marked. subst (λ (c : List ℕ). IsFollowed reading book (layers_of levels) nodes l
      (layer_of level) c (next_call c i)) same (followed i marked);
}

-- A call leads from a node of a table, with the cut that has one more call of its caller than the
-- node's, where what the call's role does leads from the node with that cut.
pub call_leads : (reading : Reading) (book : List Page) (layers : List Layer) (nodes : Nodes)
    (node : Node) (layer : Layer) (cut new : List ℕ) (call : Call)
    (op : ℕ) (role its : Role) → operation_of book call ≡ Some op → deed_of role ≡ reading.deed op
    → role ≡ its → cut ≡ cut_at book node
    → call.caller < length book
    → new ≡ set node.counts call.caller (get_or node.counts call.caller 0 + 1)
    → DeedLeads layers nodes node.level layer (take (length book) new) (deed_of its)
    → CallLeads reading book layers nodes node.level layer cut call
call_leads reading book layers nodes node layer cut new call op role its known deed is same below
    made leads =
    let after : take (length book) new ≡ raised cut call.caller
    = ap (take (length book)) made ∙ (cut_raised (length book) node.counts call.caller below
    ∙ ap (λ (c : List ℕ). raised c call.caller) (sym same)) in (
      op,
      known,
      subst (λ (c : List ℕ). DeedLeads layers nodes node.level layer c (reading.deed op)) after
          (subst
          (λ (d : Effect). DeedLeads layers nodes node.level layer (take (length book) new) d)
          (sym (ap deed_of is) ∙ deed) leads),
    )

-- Where a table has the bottom after no call, each of its levels that is said to be kept is kept,
-- and each of its nodes is closed, no object that gives its last value first and begins with the
-- empty list has a legal order of a valid book with one open.
pub refuted : (reading : Reading) (book : List Page) (levels : List Level) (cuts : List (List ℕ))
    (nodes : List NodeKey)
    → IsValid book → HasOneOpen book
    → BeginsAtBottom book levels cuts nodes
    → ((l : ℕ) (level : Level) → slice_get levels l ≡ Some level → IsTrue level.top.kept
    → IsKeptLayer reading book (layers_of levels) (layer_of level))
    → ((k : ℕ) (key : NodeKey) → slice_get nodes k ≡ Some key
    → (counts : List ℕ) → slice_get cuts key.cut ≡ Some counts
    → IsClosedAt reading book (layers_of levels) (nodes_of book cuts nodes) key.level
    (take (length book) counts))
    → StackHasNoOrder reading book
refuted reading book levels cuts nodes valid one begins kept closed =
    no_order_where_closed reading book (layers_of levels) (nodes_of book cuts nodes) valid one
    (record {
      bottom = begins.bottom;
      first = begins.first;
      empty = begins.empty;
      start = begins.start;
      kept = λ l layer at said.
          let found = map_some (slice_get levels l) layer_of layer
          (sym (slice_get-map layer_of levels l) ∙ at) in
          subst (IsKeptLayer reading book (layers_of levels)) found.2
          (kept l found.0 found.1 (subst (λ (x : Layer). IsTrue x.top.kept) (sym found.2) said));
      closed = λ l cut node.
          subst (IsClosedAt reading book (layers_of levels) (nodes_of book cuts nodes) l) node.4.2
          (subst (λ (m : ℕ). IsClosedAt reading book (layers_of levels) (nodes_of book cuts nodes) m
          (take (length book) node.4.0)) node.3
          (closed node.0 node.1 node.2 node.4.0 node.4.1));
    })
