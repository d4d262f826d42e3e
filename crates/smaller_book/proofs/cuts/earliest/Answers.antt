use Rattle.legal_orders.proofs.BookAtLaws.{is_the_only_one}
use Rattle.seq_objects.specs.Objects.{kind_spec}
use Rattle.smaller_book.proofs.LeastCuts.{illegal_from_least, earliest_from_least}
use Rattle.smaller_book.proofs.cuts.earliest.Goals as goal

pub returns-clause-at_cut : goal.returns-clause-at_cut
returns-clause-at_cut c = record {
  cut = c.in_ok-cut.cut;
  within = c.in_ok-cut.ensures.here.within;
  at_cut = is_the_only_one c.args.book.now c.in_ok-cut.cut c.in_ok-part.part
      c.callers-callers.ensures.valid c.in_ok-part.ensures;
}

pub returns-clause-illegal : goal.returns-clause-illegal
returns-clause-illegal c =
    illegal_from_least (kind_spec c.args.kind) c.args.book.now c.in_ok-cut.cut c.in_ok-part.part
    c.callers-callers.ensures.valid c.in_ok-cut.ensures c.in_ok-part.ensures

pub returns-clause-earliest : goal.returns-clause-earliest
returns-clause-earliest c =
    earliest_from_least (kind_spec c.args.kind) c.args.book.now c.in_ok-cut.cut c.in_ok-part.part
    c.callers-callers.ensures.valid c.in_ok-cut.ensures c.in_ok-part.ensures
