use Rattle.list_pruning.proofs.Writing.{no_value_reads}
use Rattle.list_pruning.proofs.outside.reads_outside.Goals as goal

pub returns-in-None : goal.returns-in-None
returns-in-None g c = no_value_reads (g.R.Reader.reading c.args.reader.now) c.args.book.now
    c.args.cut.now c.args.value c.args.call c.in-None.ensures.none
