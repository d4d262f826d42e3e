-- Laws of the texts of books and of sketches.
use Rattle.std.specs.Prelude.{◌≡◌, ℕ, List, [], ◌++◌}
use Rattle.book_base.specs.Book.{Page}
use Rattle.seq_objects.specs.declared.kind.Kind.{Kind}
use Rattle.text_fields.specs.declared.version.Version.{Version}
use Rattle.text_fields.specs.declared.version.Version.TheVariants.{Second}
use Rattle.text_fields.specs.Lines.{text_of}
use Rattle.book_text.specs.Grammar.{IsWritable, IsWrittenText}
use Rattle.book_text.specs.BookRules.{IsBookText}
use Rattle.sketch.specs.declared.event.Event.{Event}
use Rattle.book_text.specs.Sketches.{sketch_lines, AreEventsOf}

-- Two books with the same written text are equal, and so are their kinds.
abbrev pub WrittenBooksAreOne : Type 0
WrittenBooksAreOne = (version : Version) (bytes : List ℕ) (k l : Kind) (a b : List Page)
    → IsWrittenText version bytes k a → IsWrittenText version bytes l b → (k ≡ l) × (a ≡ b)

-- No book's text is a proper prefix of another's: where more bytes follow it, the whole is no
-- book's text.
abbrev pub NoBookTextBeginsAnother : Type 0
NoBookTextBeginsAnother = (version : Version) (bytes more : List ℕ) (k l : Kind) (a b : List Page)
    → IsBookText version bytes k a → IsBookText version (bytes ++ more) l b → more ≡ []

-- No text of a list of events is a proper prefix of that of another list, where each list has
-- events of a book that can be written in version 2. So no sketch's text is a proper prefix of
-- another's.
abbrev pub NoSketchTextBeginsAnother : Type 0
NoSketchTextBeginsAnother =
    (more : List ℕ) (k l : Kind) (a b : List Page) (events others : List Event)
    → IsWritable Second k a → AreEventsOf a events → IsWritable Second l b → AreEventsOf b others
    → text_of (sketch_lines k a events) ++ more ≡ text_of (sketch_lines l b others) → more ≡ []
