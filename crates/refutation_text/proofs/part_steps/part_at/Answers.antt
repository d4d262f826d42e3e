use Rattle.std.proofs.Common.{◌<◌, length, get_or, sym, subst}
use Rattle.smaller_book.specs.Part.{numbers_of}
use Rattle.smaller_book.specs.Numbers.{numbers_in}
use Rattle.refutation_text.proofs.part_steps.part_at.Goals as goal

pub numbers_through-requires-clause-inside : goal.numbers_through-requires-clause-inside
numbers_through-requires-clause-inside c = λ i k room.
    subst (λ rows. get_or (numbers_of (numbers_in c.args.places.now) i) k 0
    < length (numbers_of (numbers_in rows) i)) (sym c.deref.ensures.value)
    (c.requires.names.inside i _ (c.requires.places.inside i k room))
