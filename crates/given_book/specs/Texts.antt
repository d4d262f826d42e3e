-- What is written of the book that an input gives.
use Rattle.std.specs.Prelude.{ℕ, List, Option, Some, None, is_some}
use Rattle.book_base.specs.declared.call.Call.{Call}
use Rattle.book_base.specs.declared.call.Place.{Place}
use Rattle.book_base.specs.Book.{Page}
use Rattle.book_base.specs.Order.{IsLegalOrder, HasLegalOrder}
use Rattle.seq_objects.specs.declared.kind.Kind.{Kind}
use Rattle.seq_objects.specs.Objects.{kind_spec}
use Rattle.text_fields.specs.declared.version.Version.TheVariants.{Second}
use Rattle.book_text.specs.BookRules.{IsBookText}
use Rattle.given_book.specs.Given.{IsGiven}
use Rattle.given_book.specs.FirstError.{IsFirstErrorGiven}
use Rattle.smaller_book.specs.Evidence.{IsEvidence}
use Rattle.smaller_book.specs.Minimal.{IsMinimal}
use Rattle.book_picture.specs.Elements.{IsPicture}
use Rattle.book_picture.specs.declared.marked_calls.MarkedCalls.{MarkedCalls}
use Rattle.given_book.specs.Marking.{AreMarksFor}

-- The bytes give a book that has a legal order.
pub record IsLegalGiven (bytes : List ℕ) : Type 0 where
  pub kind : Kind
  pub book : List Page
  pub told : IsGiven bytes kind book
  pub legal : HasLegalOrder (kind_spec kind) book

-- The bytes give a book that has no legal order.
pub record IsIllegalGiven (bytes : List ℕ) : Type 0 where
  pub kind : Kind
  pub book : List Page
  pub told : IsGiven bytes kind book
  pub illegal : ¬ (HasLegalOrder (kind_spec kind) book)

-- The bytes give a book, and the text is that of a part that is evidence of it, has no legal order
-- and is minimal.
pub record IsSmallerWitness (bytes text : List ℕ) : Type 0 where
  pub kind : Kind
  pub book : List Page
  pub part : List Page
  pub names : List (List ℕ)
  pub told : IsGiven bytes kind book
  pub evidence : IsEvidence kind book names part
  pub illegal : ¬ (HasLegalOrder (kind_spec kind) part)
  pub minimal : IsMinimal kind part
  pub written : IsBookText Second text kind part

-- A judgement of a book is right: an order that is a legal order of the book, or `None` where the
-- book has none.
abbrev pub IsJudged : Kind → List Page → Option (List Place) → Type 0
IsJudged kind book (Some order) = IsLegalOrder (kind_spec kind) book order
IsJudged kind book None = ¬ (HasLegalOrder (kind_spec kind) book)

-- What is told of the report that the bytes begin with: the call of its first error line, or no
-- call where the bytes begin with no report that has an error line.
abbrev pub IsErrorTold : List ℕ → Option Call → Type 0
IsErrorTold bytes (Some call) = IsFirstErrorGiven bytes call
IsErrorTold bytes None = (call : Call) → ¬ (IsFirstErrorGiven bytes call)

-- The bytes give a book, and the text is the picture of it, with the numbers of a legal order where
-- the book has one, and a line on the first error line of the report that the bytes begin with,
-- where there is one. Where the book has no legal order, the calls of a smaller book are marked,
-- unless the book is too large for that or memory was wanted.
pub record IsPictureOf (bytes text : List ℕ) : Type 0 where
  pub kind : Kind
  pub book : List Page
  pub told : IsGiven bytes kind book
  pub order : Option (List Place)
  pub judged : IsJudged kind book order
  pub marks : MarkedCalls
  pub marked : AreMarksFor kind book (is_some order) marks
  pub error : Option Call
  pub first : IsErrorTold bytes error
  pub drawn : IsPicture kind book order marks error text
