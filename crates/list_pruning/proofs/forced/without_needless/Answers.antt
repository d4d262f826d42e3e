use Rattle.std.proofs.Common.{ℕ, Option, sym, subst}
use Rattle.search_hints.specs.declared.marked_callers.MarkedCallers.{MarkedCallers}
use Rattle.list_pruning.proofs.Answering.{AreLeft, one_less_left}
use Rattle.list_pruning.proofs.forced.without_needless.Goals as goal
use Rattle.list_pruning.proofs.forced.without_needless.Goals.{then-has+then-puts_needless, else-has}

pub loop-caller-preserved : goal.loop-caller-preserved
loop-caller-preserved g c =
    let reading = g.R.Reader.reading c.args.reader.now in
    let book = c.args.book.now in
    let cut = c.args.cut.now in
    let words = c.args.words.now in
    let shown : Option ℕ = c.args.shown in
    elim c.if-has.branch [
      | then-has+then-puts_needless w ↦
          subst (λ (m : MarkedCallers). AreLeft reading book cut words shown c.args.marks m)
          (sym w.left-is)
          (one_less_left reading book cut words shown c.loop-caller.caller c.args.marks
          c.loop-caller.left _ w.without-left.ensures
          (w.puts_needless.ensures w.if-puts_needless.true) c.loop-caller.invariant)
      | else-has w ↦
          subst (λ (m : MarkedCallers). AreLeft reading book cut words shown c.args.marks m)
          (sym w.left-is) c.loop-caller.invariant
    ]
