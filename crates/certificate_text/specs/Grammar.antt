-- The texts of certificates: a book, and a list of its calls with their replies.
use Rattle.std.specs.Prelude.{◌≡◌, ℕ, ◌<◌, ◌^◌, List, [], ◌∷◌, ◌++◌, map, codes}
use Rattle.std.specs.List.{AllByRecursion}
use Rattle.book_base.specs.declared.call.Call.{Call}
use Rattle.book_base.specs.declared.call.Place.{Place}
use Rattle.book_base.specs.Book.{Page}
use Rattle.book_base.specs.Order.{call_at}
use Rattle.seq_objects.specs.declared.kind.Kind.{Kind}
use Rattle.seq_objects.specs.Replies.{reply_word}
use Rattle.text_fields.specs.declared.version.Version.TheVariants.{Second}
use Rattle.text_fields.specs.Lines.{text_of}
use Rattle.text_fields.specs.Head.{title_words}
use Rattle.book_text.specs.CallLines.{place_words}
use Rattle.book_text.specs.Grammar.{end_words, book_lines, IsWritable}

-- the title of the order, which is the line after the book's lines
abbrev pub order_words : List (List ℕ)
order_words = title_words Second (codes "order")

-- the line of a place: the caller and the number of its call, and the reply there
abbrev pub place_line : Place → List (List ℕ)
place_line place = place_words (call_at place) ++ reply_word place.reply ∷ []

-- the lines after a book's lines: the title of the order, a line for each place, and the end
abbrev pub order_lines : List Place → List (List (List ℕ))
order_lines order = order_words ∷ (map place_line order ++ end_words ∷ [])

-- the lines of a certificate: those of the book's text, and those of the order
abbrev pub certificate_lines : Kind → List Page → List Place → List (List (List ℕ))
certificate_lines kind book order = book_lines Second kind book ++ order_lines order

-- A caller and a number that a line can name. They need not be those of a call of the book.
pub record IsNamed (call : Call) : Type 0 where
  pub caller : call.caller < 2 ^ 32
  pub number : call.number < 2 ^ 64

-- a place that a line can say: its caller is below 2^32, its number and its reply are below 2^64
pub record IsPlace (place : Place) : Type 0 where
  pub call : IsNamed (call_at place)
  pub reply : place.reply < 2 ^ 64

-- The bytes are what is written of this book, for an object of this kind, and this list of places.
pub record IsWrittenCertificate (bytes : List ℕ) (kind : Kind) (book : List Page)
    (order : List Place) : Type 0 where
  pub writable : IsWritable Second kind book
  pub places : AllByRecursion IsPlace order
  pub text : bytes ≡ text_of (certificate_lines kind book order)
