use Rattle.std.proofs.Common.{sym, subst}
use Rattle.smaller_book.specs.Numbers.{numbers_in, AreNumbersOf}
use Rattle.smaller_book.proofs.Removing.{all_but_are_numbers}
use Rattle.refutation_text.proofs.part_steps.without_call.Goals as goal

pub part_at-requires-clause-places : goal.part_at-requires-clause-places
part_at-requires-clause-places c =
    let book = c.args.left.now.book in
    subst (λ rows. AreNumbersOf book (numbers_in rows)) (sym c.deref.ensures.value)
    (subst (AreNumbersOf book) (sym c.in_ok-places.ensures)
    (all_but_are_numbers book c.in-Some.call c.in-Some.ensures.found.inside))
