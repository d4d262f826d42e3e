use Rattle.std.proofs.Common.{map}
use Rattle.queue_pairs.specs.Tables.{AreRowsTo, AreFindsTo}
use Rattle.queue_pairs.proofs.table.Table.of.Given as goal

abbrev pub invariant-loop-caller : goal.invariant-loop-caller
invariant-loop-caller g l = record {
  rows : AreRowsTo (g.R.Reader.reading l.reader) l.book l.caller
      (map (λ row. row.items) l.rows.items);
  finds : AreFindsTo (g.R.Reader.reading l.reader) l.book l.caller 0 l.finds.items;
}
