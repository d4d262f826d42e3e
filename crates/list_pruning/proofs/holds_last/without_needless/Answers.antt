use Rattle.std.proofs.Common.{ℕ, sym, subst}
use Rattle.search_hints.specs.declared.marked_callers.MarkedCallers.{MarkedCallers}
use Rattle.list_pruning.proofs.Writing.{AreNeeded, one_less_needed}
use Rattle.list_pruning.proofs.holds_last.without_needless.Goals as goal
use Rattle.list_pruning.proofs.holds_last.without_needless.Goals.{then-has+then-is_needless, else-has}

pub loop-caller-preserved : goal.loop-caller-preserved
loop-caller-preserved g c =
    let reading = g.R.Reader.reading c.args.reader.now in
    let book = c.args.book.now in
    let cut = c.args.cut.now in
    let held : ℕ = c.args.held in
    elim c.if-has.branch [
      | then-has+then-is_needless w ↦
          subst (λ (m : MarkedCallers). AreNeeded reading book cut held c.args.marks m)
          (sym w.left-is)
          (one_less_needed reading book cut held c.loop-caller.caller c.args.marks
          c.loop-caller.left _ w.without-left.ensures
          (w.is_needless.ensures w.if-is_needless.true) c.loop-caller.invariant)
      | else-has w ↦ subst (λ (m : MarkedCallers). AreNeeded reading book cut held c.args.marks m)
          (sym w.left-is) c.loop-caller.invariant
    ]
