use Rattle.search_hints.proofs.PruningLemmas.{all_next_suffice}
use Rattle.frontier_check.proofs.search.Search.to_try.Goals as goal

pub returns-in-None : goal.returns-in-None
returns-in-None g c = record {
  may = λ i marked. (c.all_next-marks.ensures i).0 marked;
  suffice =
      all_next_suffice c.args.self.now.book.now (g.S.SeqObject.spec c.args.self.now.object.now).next
      c.args.cut.now c.args.here.now.words c.args.first c.all_next-marks.result
      c.requires.first c.all_next-marks.ensures;
}
