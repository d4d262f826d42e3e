use Rattle.std.proofs.Common.{sym, subst}
use Rattle.smaller_book.specs.Numbers.{numbers_in, AreNumbersOf}
use Rattle.smaller_book.proofs.KeyRows.{all_without_are_numbers}
use Rattle.refutation_text.specs.Steps.{keys_gone}
use Rattle.refutation_text.proofs.part_steps.without_keys.Goals as goal

pub part_at-requires-clause-places : goal.part_at-requires-clause-places
part_at-requires-clause-places c =
    let book = c.args.left.now.book in
    subst (λ rows. AreNumbersOf book (numbers_in rows)) (sym c.deref.ensures.value)
    (subst (AreNumbersOf book) (sym c.in_ok-places.ensures)
    (all_without_are_numbers c.args.kind (keys_gone c.args.these c.args.keys.now) book))
