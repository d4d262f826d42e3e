use Rattle.queue_pairs.specs.Tables.{IsRowTo, AreFindsTo}
use Rattle.queue_pairs.proofs.table.row_of.Given as goal

abbrev pub invariant-loop-number : goal.invariant-loop-number
invariant-loop-number g l = record {
  row : IsRowTo (g.R.Reader.reading l.reader) l.book l.caller l.number l.row.items;
  finds : AreFindsTo (g.R.Reader.reading l.reader) l.book l.caller l.number l.finds.items;
}
