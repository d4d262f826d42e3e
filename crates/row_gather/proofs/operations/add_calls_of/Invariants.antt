use Rattle.std.proofs.Common.{◌≡◌, ◌≢◌, ℕ, ◌≤◌, max}
use Rattle.book_base.specs.Book.{calls_of}
use Rattle.row_table.specs.Callers.{local_with}
use Rattle.row_gather.specs.Peeks.{PeeksAlone}
use Rattle.row_gather.specs.Words.{HasPeekedCalls, TicksForCalls}
use Rattle.row_gather.proofs.operations.add_calls_of.Given as goal

abbrev pub invariant-loop-number : goal.invariant-loop-number
invariant-loop-number g l = record {
  alone : PeeksAlone g.P.Program.meaning l.rows l.fn.caller l.caller l.fn.steps l.steps;
  ticks : TicksForCalls l.fn.book l.book l.fn.steps l.steps;
  same : HasPeekedCalls (local_with l.caller) l.fn.book l.book;
  mine : calls_of l.book l.j ≡ l.number;
  most : l.number ≤ max (calls_of l.fn.book l.j) l.count;
  others : (i : ℕ) → i ≢ l.j → calls_of l.book i ≡ calls_of l.fn.book i;
}
