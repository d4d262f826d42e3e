use Rattle.std.proofs.Common.{◌≡◌, ◌+◌}
use Rattle.row_table.specs.Callers.{local_with}
use Rattle.row_gather.specs.Peeks.{PeeksAlone}
use Rattle.row_gather.proofs.Reading.{AreEntries}
use Rattle.row_gather.proofs.records.peek_view.Given as goal

abbrev pub invariant-loop-j : goal.invariant-loop-j
invariant-loop-j g l = record {
  alone : PeeksAlone g.P.Program.meaning l.rows l.fn.caller l.caller l.fn.steps l.steps;
  ticks : l.steps ≡ l.fn.steps + l.j;
  entries : AreEntries l.rows.callers (local_with l.caller) l.call l.j l.view;
}
