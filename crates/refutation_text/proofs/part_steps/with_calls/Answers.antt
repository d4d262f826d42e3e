use Rattle.std.proofs.Common.{sym, subst}
use Rattle.smaller_book.specs.Numbers.{numbers_in, AreNumbersOf}
use Rattle.refutation_text.proofs.StepLaws.{all_listed_are_numbers}
use Rattle.refutation_text.proofs.part_steps.with_calls.Goals as goal

pub first_seen-requires : goal.first_seen-requires
first_seen-requires c =
    let book = c.args.left.now.book in
    subst (λ rows. AreNumbersOf book (numbers_in rows)) (sym c.deref.ensures.value)
    (subst (AreNumbersOf book) (sym c.in_ok-places.ensures)
    (all_listed_are_numbers (numbers_in c.args.left.now.numbers.items) c.args.calls.now book))

pub part_at-requires-clause-places : goal.part_at-requires-clause-places
part_at-requires-clause-places c =
    let book = c.args.left.now.book in
    subst (λ rows. AreNumbersOf book (numbers_in rows)) (sym c.deref-2.ensures.value)
    (subst (AreNumbersOf book) (sym c.in_ok-places.ensures)
    (all_listed_are_numbers (numbers_in c.args.left.now.numbers.items) c.args.calls.now book))
