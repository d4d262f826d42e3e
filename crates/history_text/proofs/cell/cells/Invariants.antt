use Rattle.std.proofs.Common.{◌≡◌, ◌≤◌, drop, map}
use Rattle.std.specs.Prelude.{slice_range}
use Rattle.history_text.specs.Items.{with_more}
use Rattle.history_text.specs.Fields.{cells_from, cells_of}
use Rattle.history_text.proofs.cell.cells.Given as goal

-- the cell that is read begins within what is read, and the cells so far and those of the bytes that
-- are left are the cells of the line
abbrev pub invariant-loop-at : goal.invariant-loop-at
invariant-loop-at l = record {
  begun : l.start ≤ l.at;
  cells : with_more (map (λ cell. cell.now) l.found.items)
      (cells_from l.quoted (slice_range l.line l.start l.at) (drop l.at l.line))
      ≡ cells_of l.line;
}
