use Rattle.std.proofs.Common.{◌≡◌, ℕ, ◌<◌, ◌≤◌, max, slice_index}
use Rattle.book_base.specs.Book.{calls_of}
use Rattle.row_table.specs.Callers.{local_with}
use Rattle.row_gather.specs.Peeks.{PeeksAlone}
use Rattle.row_gather.specs.Words.{HasPeekedCalls, TicksForCalls}
use Rattle.row_gather.proofs.operations.add_calls.Given as goal

abbrev pub invariant-loop-j : goal.invariant-loop-j
invariant-loop-j g l = record {
  alone : PeeksAlone g.P.Program.meaning l.rows l.fn.caller l.caller l.fn.steps l.steps;
  ticks : TicksForCalls l.fn.book l.book l.fn.steps l.steps;
  same : HasPeekedCalls (local_with l.caller) l.fn.book l.book;
  done : (i : ℕ) → i < l.j
      → calls_of l.book i ≡ max (calls_of l.fn.book i) (slice_index l.counts i);
  rest : (i : ℕ) → l.j ≤ i → calls_of l.book i ≡ calls_of l.fn.book i;
}
