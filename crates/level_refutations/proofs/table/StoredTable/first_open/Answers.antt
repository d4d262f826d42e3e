use Rattle.std.proofs.Common.{◌≡◌, ℕ, ◌<◌, ◌∙◌, List, length, get_or, Some, sym, ap, subst, inl, inr, slice_get, arith}
use Rattle.std.proofs.lemmas.Bool.{cases_lt}
use Rattle.std.proofs.lemmas.Option.{same_Some, slice_get_within}
use Rattle.book_base.specs.Book.{Page}
use Rattle.level_refutations.specs.declared.entry.LevelEntry.{LevelEntry}
use Rattle.level_refutations.specs.declared.node.Node.{Node}
use Rattle.level_refutations.specs.declared.table.StoredTable.{StoredTable}
use Rattle.level_refutations.specs.Closed.{IsClosedAt, nodes_of, table_of}
use Rattle.level_refutations.specs.Stored.{IsStored}
use Rattle.level_refutations.proofs.Listing.{read_at}
use Rattle.level_refutations.proofs.Bounds.{nodes_are_bound}
use Rattle.level_refutations.proofs.Opening.{first_of_open}
use Rattle.level_refutations.proofs.table.StoredTable.first_open.Goals as goal

node_at : (book : List Page) (entries : List LevelEntry) (stored : StoredTable) (k : ℕ)
    (node d : Node) → IsStored book entries stored → k < length stored.nodes.items
    → node ≡ get_or stored.nodes.items k d → slice_get (nodes_of entries) k ≡ Some node
node_at book entries stored k node d is less read =
    ap (λ (ns : List Node). slice_get ns k) (sym is.nodes)
    ∙ read_at stored.nodes.items k node d less read

pub loop-k-init : goal.loop-k-init
loop-k-init c j node less at = absurd (omega (arith, less))

pub first_open_at-requires-clause-level : goal.first_open_at-requires-clause-level
first_open_at-requires-clause-level c =
    let book = c.args.book.now in
    let entries = c.args.entries.now in
    let at = node_at book entries c.args.self.now c.loop-k.k c.index.result.now _
    c.requires.stored (omega (arith, c.loop-k-test.true, c.loop-k.auto.k-end, c.len-k-end.ensures))
    c.index.ensures in
    (nodes_are_bound book entries c.requires.made c.loop-k.k c.index.result.now at).0

pub first_open_at-requires-clause-cut : goal.first_open_at-requires-clause-cut
first_open_at-requires-clause-cut c =
    let book = c.args.book.now in
    let entries = c.args.entries.now in
    let at = node_at book entries c.args.self.now c.loop-k.k c.index.result.now _
    c.requires.stored (omega (arith, c.loop-k-test.true, c.loop-k.auto.k-end, c.len-k-end.ensures))
    c.index.ensures in
    (nodes_are_bound book entries c.requires.made c.loop-k.k c.index.result.now at).1

pub returns-in-Some-clause-fault : goal.returns-in-Some-clause-fault
returns-in-Some-clause-fault c =
    let book = c.args.book.now in
    let entries = c.args.entries.now in
    let at = node_at book entries c.args.self.now c.loop-k.k c.index.result.now _
    c.requires.stored (omega (arith, c.loop-k-test.true, c.loop-k.auto.k-end, c.len-k-end.ensures))
    c.index.ensures in
    first_of_open book entries c.loop-k.k c.index.result.now c.in-Some.fault c.requires.made
    c.requires.begins at c.loop-k.invariant c.in-Some.ensures.fault

pub loop-k-preserved : goal.loop-k-preserved
loop-k-preserved c j node less there =
    let book = c.args.book.now in
    let entries = c.args.entries.now in
    let k : ℕ = c.loop-k.k in
    let at = node_at book entries c.args.self.now k c.index.result.now _
    c.requires.stored (omega (arith, c.loop-k-test.true, c.loop-k.auto.k-end, c.len-k-end.ensures))
    c.index.ensures in
    elim (cases_lt j k) [
      | inl before ↦ c.loop-k.invariant j node before there
      | inr not_before ↦
          let same : k ≡ j = omega (arith, less, not_before) in
          let is : c.index.result.now ≡ node = same_Some c.index.result.now node
          (sym at ∙ (ap (slice_get (nodes_of entries)) same ∙ there)) in
          subst (IsClosedAt book (table_of book entries)) is c.in_default.ensures.closed
    ]

pub returns-clause-closed : goal.returns-clause-closed
returns-clause-closed c k node at = c.loop-k.invariant k node (omega (
  arith,
  slice_get_within (nodes_of c.args.entries.now) k node at,
  ap (λ (ns : List Node). length ns) c.requires.stored.nodes,
  c.len-k-end.ensures,
  c.loop-k-test.false,
)) at
