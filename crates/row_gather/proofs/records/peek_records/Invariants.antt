use Rattle.std.proofs.Common.{map, sum, take}
use Rattle.book_base.specs.Book.{answered}
use Rattle.row_table.specs.Callers.{local_with}
use Rattle.row_gather.specs.Peeks.{PeeksAlone}
use Rattle.row_gather.specs.Words.{ArePeekedTo, TicksForRecords}
use Rattle.row_gather.proofs.records.peek_records.Given as goal

abbrev pub invariant-loop-j : goal.invariant-loop-j
invariant-loop-j g l = record {
  alone : PeeksAlone g.P.Program.meaning l.rows l.fn.caller l.caller l.fn.steps l.steps;
  ticks : TicksForRecords l.rows.callers (sum (take l.j (answered l.book)))
      (sum (take l.j l.cut)) l.fn.steps l.steps;
  lists : ArePeekedTo l.rows.callers (local_with l.caller) l.book l.cut l.j
      (map (λ records. records.items) l.lists.items);
}
