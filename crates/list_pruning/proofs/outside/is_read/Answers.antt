use Rattle.std.proofs.Common.{◌∙◌}
use Rattle.list_pruning.proofs.Writing.{read_if, not_read}
use Rattle.list_pruning.proofs.outside.is_read.Goals as goal

pub returns-in-Some : goal.returns-in-Some
returns-in-Some g c =
    read_if (g.R.Reader.reading c.args.reader.now) c.args.book.now c.args.cut.now c.args.sight.now
    c.args.value c.deref.result.now c.some_reads.result c.requires.sight
    (c.deref.ensures.value ∙ c.in-Some.ensures.shows) c.some_reads.ensures.found
    c.some_reads.ensures.none

pub returns-in-None : goal.returns-in-None
returns-in-None g c =
    not_read (g.R.Reader.reading c.args.reader.now) c.args.book.now c.args.cut.now c.args.sight.now
    c.args.value c.requires.sight c.in-None.ensures.none.1
