use Rattle.search_hints.proofs.PruningLemmas.{all_next_suffice}
use Rattle.search_hints.proofs.search_hints.SearchHints.narrow.Goals as goal

pub returns-clause-suffice : goal.returns-clause-suffice
returns-clause-suffice g c =
    all_next_suffice c.args.book.now (g.Self.SeqObject.spec c.args.self.now).next c.args.cut.now
    c.args.words.now c.args.forced c.args.marks c.requires.forced c.requires.marks
