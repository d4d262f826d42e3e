-- Laws of streams and books.
use Rattle.std.specs.Prelude.{ℕ, ◌↔◌, List}
use Rattle.book_base.specs.declared.call.Call.{Call}
use Rattle.book_base.specs.SeqSpec.{SeqSpec}
use Rattle.book_base.specs.Book.{Page, Precedes, IsValid}
use Rattle.book_base.specs.Order.{HasLegalOrder}
use Rattle.sketch.specs.declared.event.Event.{Event}
use Rattle.sketch.specs.Sketch.{IsSketch}
use Rattle.streams.specs.Stream.{StreamEvent, IsStreamCall, StreamPrecedes, IsValidStream}
use Rattle.streams.specs.StreamOrder.{HasLegalStreamOrder}
use Rattle.streams.specs.StreamBook.{IsBookOf}
use Rattle.streams.specs.BookStream.{HasOnePending, stream_of, name_in}

-- A book of a stream is valid.
abbrev pub BooksOfStreamsAreValid : Type 0
BooksOfStreamsAreValid = (stream : List StreamEvent) (book : List Page) (name : ℕ → Call)
    → IsBookOf stream book name → IsValid book

-- A book of a stream has the precedence of the stream.
abbrev pub BooksHaveTheSamePrecedence : Type 0
BooksHaveTheSamePrecedence = (stream : List StreamEvent) (book : List Page) (name : ℕ → Call)
    → IsBookOf stream book name → (a b : ℕ) → IsStreamCall stream a → IsStreamCall stream b
    → (Precedes book (name a) (name b) ↔ StreamPrecedes stream a b)

-- A book of a stream has a legal order exactly where the stream has one.
abbrev pub BooksHaveTheSameVerdict : Type 0
BooksHaveTheSameVerdict = (spec : SeqSpec) (stream : List StreamEvent) (book : List Page)
    (name : ℕ → Call) → IsBookOf stream book name
    → (HasLegalOrder spec book ↔ HasLegalStreamOrder spec stream)

-- In a book of a stream each caller has at most one pending call.
abbrev pub BooksOfStreamsHaveOnePending : Type 0
BooksOfStreamsHaveOnePending = (stream : List StreamEvent) (book : List Page) (name : ℕ → Call)
    → IsBookOf stream book name → HasOnePending book

-- A valid stream has a book.
abbrev pub ValidStreamsHaveABook : Type 0
ValidStreamsHaveABook = (stream : List StreamEvent) → IsValidStream stream
    → (book : List Page) × (name : ℕ → Call) × IsBookOf stream book name

-- A valid book in which each caller has at most one pending call has a stream, by its sketch,
-- and is the book of this stream.
abbrev pub BooksAreThoseOfTheirStreams : Type 0
BooksAreThoseOfTheirStreams = (book : List Page) (events : List Event) → IsValid book
    → HasOnePending book → IsSketch book events
    → IsValidStream (stream_of book events) × IsBookOf (stream_of book events) book (name_in events)
