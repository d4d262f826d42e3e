use Rattle.std.proofs.Common.{length, inl, inr, arith}
use Rattle.std.proofs.lemmas.Bool.{cases_lt}
use Rattle.std.proofs.lemmas.List.{get_or_past}
use Rattle.search_hints.proofs.one_open.holds_one_open.Goals as goal

pub returns-clause-one : goal.returns-clause-one
returns-clause-one c _ i =
    elim (cases_lt i (length c.args.book.now)) [
      | inl below ↦ c.loop-caller.invariant i (omega (arith, c.callers-caller-end.ensures.count))
      | inr past ↦ omega (arith, get_or_past c.args.view.now i 0 (omega (arith, c.requires)))
    ]
