use Rattle.std.proofs.Common.{ℕ, ◌<◌}
use Rattle.book_base.specs.Next.{next_call}
use Rattle.search_hints.specs.Marks.{IsMarked}
use Rattle.stack_levels.specs.Levels.{IsFollowed}
use Rattle.stack_levels.specs.Tables.{layer_of, layers_of, nodes_of}
use Rattle.stack_levels.proofs.closure.Closure.callers_are_followed.Given as goal

abbrev pub invariant-loop-caller : goal.invariant-loop-caller
invariant-loop-caller g l = (i : ℕ) → i < l.caller → IsMarked l.look.marks i
    → IsFollowed (g.R.Reader.reading l.self.on.now.reader.now) l.self.on.now.book.now
    (layers_of l.self.table.now.levels.items)
    (nodes_of l.self.on.now.book.now l.self.table.now.cuts.keys l.self.table.now.nodes.keys)
    l.node.level
    (layer_of l.level) l.look.cut (next_call l.look.cut i)
