-- Which calls are marked in the picture of a book.
use Rattle.std.specs.Prelude.{ℕ, ◌<◌, Bool, true, false, List}
use Rattle.book_base.specs.Book.{Page}
use Rattle.book_base.specs.Order.{HasLegalOrder}
use Rattle.seq_objects.specs.declared.kind.Kind.{Kind}
use Rattle.seq_objects.specs.Objects.{kind_spec}
use Rattle.book_picture.specs.declared.marked_calls.MarkedCalls.{MarkedCalls}
use Rattle.book_picture.specs.declared.marked_calls.MarkedCalls.TheVariants.{Unasked, Smaller, TooLarge, NoMemory}
use Rattle.book_picture.specs.MarkedCalls.{numbers_in}
use Rattle.smaller_book.specs.Part.{size_of}
use Rattle.smaller_book.specs.Evidence.{IsEvidence}
use Rattle.smaller_book.specs.Minimal.{IsMinimal}
use Rattle.given_book.specs.declared.marking.TheConstants.{MOST_CALLS}

-- `names` has for each caller the numbers, in the book, of its calls that make up a smaller book: a
-- minimal part that is evidence of the book and has no legal order.
pub record AreOfASmallerBook (kind : Kind) (book : List Page) (names : List (List ℕ)) : Type 0 where
  pub part : List Page
  pub evidence : IsEvidence kind book names part
  pub illegal : ¬ HasLegalOrder (kind_spec kind) part
  pub minimal : IsMinimal kind part

-- Which marks are right for a book without a legal order: those on the calls of a smaller book;
-- `TooLarge`, where the book has more than `MOST_CALLS` calls; and `NoMemory`, for any book.
-- `Unasked` never is.
abbrev pub AreMarksOf : Kind → List Page → MarkedCalls → Type 0
AreMarksOf kind book (Smaller numbers) = AreOfASmallerBook kind book (numbers_in numbers.items)
AreMarksOf kind book TooLarge = MOST_CALLS < size_of book
AreMarksOf kind book NoMemory = Unit {0}
AreMarksOf kind book Unasked = ⊥

-- Which marks are right for the picture of a book: `Unasked` where the book has a legal order
-- (`true`); else those on the calls of a smaller book, `TooLarge` where the book has more than
-- `MOST_CALLS` calls, or `NoMemory` for any book.
abbrev pub AreMarksFor : Kind → List Page → Bool → MarkedCalls → Type 0
AreMarksFor kind book true Unasked = Unit {0}
AreMarksFor kind book true (Smaller numbers) = ⊥
AreMarksFor kind book true TooLarge = ⊥
AreMarksFor kind book true NoMemory = ⊥
AreMarksFor kind book false marks = AreMarksOf kind book marks
