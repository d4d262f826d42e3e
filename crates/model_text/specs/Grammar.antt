-- The texts of models, written out: a book, and what was told of the model.
use Rattle.std.specs.Prelude.{◌≡◌, ℕ, ◌<◌, ◌≤◌, ◌^◌, IsTrue, nat_lt, List, [], ◌∷◌, ◌++◌, length, map, codes, decimal, Some}
use Rattle.std.specs.List.{AllByRecursion}
use Rattle.book_base.specs.declared.call.Call.{Call}
use Rattle.book_base.specs.declared.call.Record.{Record}
use Rattle.book_base.specs.Book.{Page, IsValid, calls_of, announced, operation_of, record_of}
use Rattle.seq_objects.specs.Replies.{reply_word}
use Rattle.text_fields.specs.declared.version.Version.TheVariants.{Second}
use Rattle.text_fields.specs.Version.{most_callers, most_calls}
use Rattle.text_fields.specs.Lines.{text_of}
use Rattle.text_fields.specs.Head.{title_words, callers_words, calls_words}
use Rattle.book_text.specs.Grammar.{call_lines, end_words}
use Rattle.model_text.specs.declared.told_line.Subject.{Subject}
use Rattle.model_text.specs.declared.told_line.Subject.TheVariants.{Leaves, Step}
use Rattle.model_text.specs.declared.told_line.ToldLine.{ToldLine}
use Rattle.model_text.specs.ModelWords.{model_words, model_operations}
use Rattle.model_text.specs.ModelBookRules as book
use Rattle.model_text.specs.Told.{AllFollow}

-- ---- the book

-- the lines of a model's book: the four lines of its head, one line for each call by caller and
-- then by number, and the end
abbrev pub model_book_lines : List Page → List (List (List ℕ))
model_book_lines pages = book.title_words ∷ book.object_words
    ∷ callers_words (length pages) ∷ calls_words (announced pages)
    ∷ (call_lines Second model_operations pages ++ end_words ∷ [])

-- A model's book can be written: it is valid, its callers, calls and operations are within the
-- limits of texts of version 2, and each of its replies is below 2^64.
pub record IsWritable (pages : List Page) : Type 0 where
  pub valid : IsValid pages
  pub some : 1 ≤ length pages
  pub callers : length pages ≤ most_callers Second
  pub calls : (i : ℕ) → calls_of pages i ≤ most_calls Second
  pub operations : (call : Call) (op : ℕ) → operation_of pages call ≡ Some op
      → IsTrue (model_operations.has op)
  pub replies : (call : Call) (answer : Record) → record_of pages call ≡ Some answer
      → answer.reply < 2 ^ 64

-- The bytes are what is written of this model's book.
pub record IsWrittenBook (bytes : List ℕ) (pages : List Page) : Type 0 where
  pub writable : IsWritable pages
  pub text : bytes ≡ text_of (model_book_lines pages)

-- ---- what was told

-- the title of the steps, which is the line after the book's lines
abbrev pub steps_words : List (List ℕ)
steps_words = title_words Second (codes "steps")

-- what a told line speaks of: 'leaves' and an operation; or a state, an operation and the state to
-- which it leads
abbrev pub subject_words : Subject → List (List ℕ)
subject_words (Leaves op) = codes "leaves" ∷ model_words op
subject_words (Step state op next) = decimal state ∷ (model_words op ++ decimal next ∷ [])

-- a told line: what it speaks of, and the reply
abbrev pub told_words : ToldLine → List (List ℕ)
told_words line = subject_words line.subject ++ reply_word line.reply ∷ []

-- what a line can speak of: its operation is a word of 128 bits, and its states are below 2^64
abbrev pub IsSubject : Subject → Type 0
IsSubject (Leaves op) = IsTrue (nat_lt op (2 ^ 128))
IsSubject (Step state op next) = (state < 2 ^ 64) × IsTrue (nat_lt op (2 ^ 128)) × (next < 2 ^ 64)

-- a line that can be written: its reply is below 2^64
pub record IsLine (line : ToldLine) : Type 0 where
  pub subject : IsSubject line.subject
  pub reply : line.reply < 2 ^ 64

-- the lines after a book's lines: the title of the steps, the told lines, and the end
abbrev pub steps_lines : List ToldLine → List (List (List ℕ))
steps_lines told = steps_words ∷ (map told_words told ++ end_words ∷ [])

-- the lines of a model's text: those of the book, and those of the steps
abbrev pub model_lines : List Page → List ToldLine → List (List (List ℕ))
model_lines pages told = model_book_lines pages ++ steps_lines told

-- The bytes are what is written of this book and these told lines, of which each may follow those
-- before it.
pub record IsWrittenModel (bytes : List ℕ) (pages : List Page)
    (told : List ToldLine) : Type 0 where
  pub writable : IsWritable pages
  pub lines : AllByRecursion IsLine told
  pub follow : AllFollow [] told
  pub text : bytes ≡ text_of (model_lines pages told)
