-- Whether the bytes of an input are the text of a set book, and whether this book has a legal set
-- order.
use Rattle.std.specs.Prelude.{ℕ, List, [], ◌∷◌}
use Rattle.book_base.specs.Book.{Page}
use Rattle.set_order.specs.Joins.{served_joins}
use Rattle.set_order.specs.SetOrder.{HasLegalSetOrder}
use Rattle.set_order.specs.SetBookRules.{IsSetBookText}

-- A book of joins has a legal set order.
abbrev pub JoinsAreLegal : List Page → Type 0
JoinsAreLegal book = HasLegalSetOrder (0 ∷ []) served_joins book

-- the bytes are the text of a set book
unfoldable pub IsSetInput : List ℕ → Type 0
IsSetInput bytes = (book : List Page) × IsSetBookText bytes book

-- the bytes are the text of a set book that has a legal set order
unfoldable pub IsLegalSetInput : List ℕ → Type 0
IsLegalSetInput bytes = (book : List Page) × IsSetBookText bytes book × JoinsAreLegal book

-- the bytes are the text of a set book that has no legal set order
unfoldable pub IsIllegalSetInput : List ℕ → Type 0
IsIllegalSetInput bytes = (book : List Page) × IsSetBookText bytes book × ¬ (JoinsAreLegal book)
