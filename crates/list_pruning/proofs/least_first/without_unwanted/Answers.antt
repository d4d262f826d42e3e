use Rattle.std.proofs.Common.{ℕ, sym, subst}
use Rattle.search_hints.specs.declared.marked_callers.MarkedCallers.{MarkedCallers}
use Rattle.list_pruning.proofs.Wanting.{AreWanted, one_less_wanted}
use Rattle.list_pruning.proofs.least_first.without_unwanted.Goals as goal
use Rattle.list_pruning.proofs.least_first.without_unwanted.Goals.{then-has+then-is_unwanted, else-has}

pub loop-caller-preserved : goal.loop-caller-preserved
loop-caller-preserved g c =
    let reading = g.R.Reader.reading c.args.reader.now in
    let book = c.args.book.now in
    let cut = c.args.cut.now in
    let words = c.args.words.now in
    let forced : ℕ = c.args.forced in
    elim c.if-has.branch [
      | then-has+then-is_unwanted w ↦
          subst (λ (m : MarkedCallers). AreWanted reading book cut words forced c.args.marks m)
          (sym w.left-is) (one_less_wanted reading book cut words forced c.loop-caller.caller
          c.args.marks c.loop-caller.left _ w.without-left.ensures
          (w.is_unwanted.ensures w.if-is_unwanted.true) c.loop-caller.invariant)
      | else-has w ↦
          subst (λ (m : MarkedCallers). AreWanted reading book cut words forced c.args.marks m)
          (sym w.left-is) c.loop-caller.invariant
    ]
