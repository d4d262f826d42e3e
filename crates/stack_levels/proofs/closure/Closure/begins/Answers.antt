use Rattle.std.proofs.Common.{List, ℕ, subst}
use Rattle.stack_levels.specs.Tables.{layer_of, nodes_of}
use Rattle.stack_levels.proofs.Closing.{layer_at, zero_counts}
use Rattle.stack_levels.proofs.closure.Closure.begins.Goals as goal

pub returns-in-None : goal.returns-in-None
returns-in-None g c told =
    let book = c.args.self.now.on.now.book.now in
    let bottom = c.in-Some.bottom.now in
    record {
      bottom = layer_of bottom;
      first = layer_at c.args.self.now.table.now.levels.items 0 bottom c.in-Some.ensures;
      empty = c.in-None.is;
      start = subst (λ (cut : List ℕ). nodes_of book c.args.self.now.table.now.cuts.keys
          c.args.self.now.table.now.nodes.keys 0 cut)
          (zero_counts book c.callers-callers.ensures.small.callers) (c.has.ensures told);
    }
