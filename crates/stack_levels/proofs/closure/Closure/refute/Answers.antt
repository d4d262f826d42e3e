use Rattle.stack_levels.proofs.Closing.{refuted}
use Rattle.stack_levels.proofs.closure.Closure.refute.Goals as goal

pub returns : goal.returns
returns g c told =
    refuted (g.R.Reader.reading c.args.self.now.on.now.reader.now) c.args.self.now.on.now.book.now
    c.args.self.now.table.now.levels.items
    c.args.self.now.table.now.cuts.keys c.args.self.now.table.now.nodes.keys
    c.callers-callers.ensures.valid
    (c.has_one_open.ensures.one c.if-not-has_one_open.false)
    (c.begins.ensures c.if-not-begins.false)
    (c.levels_are_kept.ensures c.if-not-levels_are_kept.false) (c.are_closed.ensures told)
