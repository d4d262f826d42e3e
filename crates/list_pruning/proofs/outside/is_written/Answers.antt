use Rattle.std.proofs.Common.{◌∙◌}
use Rattle.list_pruning.proofs.Writing.{written_if, not_written}
use Rattle.list_pruning.proofs.outside.is_written.Goals as goal

pub returns-in-Some : goal.returns-in-Some
returns-in-Some g c =
    written_if (g.R.Reader.reading c.args.reader.now) c.args.book.now c.args.cut.now
    c.args.sight.now c.args.value c.deref.result.now c.some_writes.result c.requires.sight
    (c.deref.ensures.value ∙ c.in-Some.ensures.puts) c.some_writes.ensures.found
    c.some_writes.ensures.none

pub returns-in-None : goal.returns-in-None
returns-in-None g c =
    not_written (g.R.Reader.reading c.args.reader.now) c.args.book.now c.args.cut.now
    c.args.sight.now c.args.value c.requires.sight c.in-None.ensures.none.0
