use Rattle.std.proofs.Common.{ℕ, List, length, sym, subst}
use Rattle.std.proofs.lemmas.List.{length-replicate}
use Rattle.level_refutations.specs.Closed.{AreNodesAt, no_calls}
use Rattle.level_refutations.proofs.Opening.{node_as}
use Rattle.level_refutations.proofs.Widening.{wide_none}
use Rattle.level_refutations.proofs.table.StoredTable.begins.Goals as goal

pub has-requires : goal.has-requires
has-requires c = c.requires.known

pub returns : goal.returns
returns c =
    let book = c.args.book.now in
    let stored = c.args.self.now in
    let n : ℕ = length book in
    let counts = wide_none n c.callers-callers.ensures.small.callers in
    let is = node_as book c.args.entries.now stored c.requires 0 (no_calls book)
    (length-replicate {A = ℕ} n 0) in
    let at : List ℕ → Type 0 = λ l. AreNodesAt stored.cuts.items stored.nodes.items 0 l in (
      λ h. is.0 (subst at counts (c.has.ensures.0 h)),
      λ node. c.has.ensures.1 (subst at (sym counts) (is.1 node)),
    )
