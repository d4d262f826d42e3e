use Rattle.std.proofs.Common.{◌≡◌, ℕ, ◌<◌, min, length, get_or}
use Rattle.book_base.specs.Book.{answers_of}
use Rattle.smaller_book.specs.Part.{numbers_of, count_below}
use Rattle.smaller_book.specs.Numbers.{numbers_in}
use Rattle.refutation_text.proofs.part_steps.cut_of.Given as goal

abbrev pub invariant-loop-caller : goal.invariant-loop-caller
invariant-loop-caller l = record {
  wide : length l.cut ≡ length l.left.book;
  set : (i : ℕ) → i < l.caller → get_or l.cut i 0
      ≡ min (count_below (numbers_of (numbers_in l.left.numbers.items) i) (get_or l.counts i 0))
      (answers_of l.left.book i);
}
