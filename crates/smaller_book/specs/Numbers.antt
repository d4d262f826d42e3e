-- Numbers that say which calls of a book a part has.
use Rattle.std.specs.Prelude.{◌≡◌, ℕ, ◌<◌, List, Vec, length, map, slice_index}
use Rattle.std.specs.List.{range_with_len}
use Rattle.book_base.specs.Book.{Page, calls_of}
use Rattle.smaller_book.specs.Part.{numbers_of, AreRising}

-- The items of each vector of a list of vectors, as a list of lists of numbers.
abbrev pub numbers_in : {A : Type 0} → List (Vec ℕ A) → List (List ℕ)
numbers_in rows = map (λ row. row.items) rows

-- The numbers rise and are less than a bound.
pub record AreNumbersBelow (bound : ℕ) (numbers : List ℕ) : Type 0 where
  pub rising : AreRising numbers
  pub inside : (k : ℕ) → k < length numbers → slice_index numbers k < bound

-- The lists of `names`, one for each caller, hold rising numbers of calls of the book.
pub record AreNumbersOf (book : List Page) (names : List (List ℕ)) : Type 0 where
  pub wide : length names ≡ length book
  pub rising : (i : ℕ) → AreRising (numbers_of names i)
  pub inside : (i k : ℕ) → k < length (numbers_of names i)
      → slice_index (numbers_of names i) k < calls_of book i

-- The numbers at these places of a list of numbers, in the order of the places.
abbrev pub picked : List ℕ → List ℕ → List ℕ
picked numbers places = map (λ place. slice_index numbers place) places

-- For each caller the numbers in the book of its calls in a part of a part: the entries of the
-- caller's list in `first`, at the places that its list in `second` names.
abbrev pub composed : List (List ℕ) → List (List ℕ) → List (List ℕ)
composed first second =
    map (λ i. picked (numbers_of first i) (numbers_of second i)) (range_with_len 0 (length second))
