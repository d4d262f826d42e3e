use Rattle.row_table.specs.Callers.{local_with}
use Rattle.row_gather.specs.Peeks.{PeeksAlone}
use Rattle.row_gather.specs.Words.{ArePeekedRecords, TicksForRecords}
use Rattle.row_gather.proofs.records.peek_records_of.Given as goal

abbrev pub invariant-loop-number : goal.invariant-loop-number
invariant-loop-number g l = record {
  alone : PeeksAlone g.P.Program.meaning l.rows l.fn.caller l.caller l.fn.steps l.steps;
  ticks : TicksForRecords l.rows.callers l.from l.number l.fn.steps l.steps;
  records : ArePeekedRecords l.rows.callers
      (local_with l.caller) l.j l.from l.number l.records.items;
}
