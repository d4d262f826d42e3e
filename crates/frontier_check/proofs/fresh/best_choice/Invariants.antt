use Rattle.std.proofs.Common.{◌≡◌, IfSome}
use Rattle.frontier_check.specs.declared.choice.Choice.{Choice}
use Rattle.frontier_check.specs.Prefix.{IsNext}
use Rattle.frontier_check.proofs.fresh.best_choice.Given as goal

abbrev pub invariant-loop-caller : goal.invariant-loop-caller
invariant-loop-caller g l = record {
  room : l.spare.room ≡ l.fn.spare.room;
  next : IfSome l.best (λ (choice : Choice). IsNext l.book l.prefix.cut choice.place);
}
