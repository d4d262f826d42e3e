-- The texts of set books, written out.
use Rattle.std.specs.Prelude.{◌≡◌, ℕ, ◌<◌, ◌≤◌, ◌^◌, IsTrue, List, [], ◌∷◌, ◌++◌, length, codes, Some}
use Rattle.book_base.specs.declared.call.Call.{Call}
use Rattle.book_base.specs.declared.call.Record.{Record}
use Rattle.book_base.specs.Book.{Page, IsValid, calls_of, announced, operation_of, record_of}
use Rattle.text_fields.specs.declared.version.Version.TheVariants.{Second}
use Rattle.text_fields.specs.Version.{most_callers, most_calls}
use Rattle.text_fields.specs.Lines.{text_of}
use Rattle.text_fields.specs.Head.{callers_words, calls_words}
use Rattle.book_text.specs.Grammar.{call_lines, end_words}
use Rattle.set_order.specs.JoinWords.{join_operations}

-- the lines of a set book: the four lines of its head, one line for each call by caller and then by
-- number, and the end
abbrev pub setbook_lines : List Page → List (List (List ℕ))
setbook_lines book =
    (codes "setbook" ∷ codes "2" ∷ []) ∷ (codes "object" ∷ codes "joins" ∷ [])
    ∷ callers_words (length book) ∷ calls_words (announced book)
    ∷ (call_lines Second join_operations book ++ end_words ∷ [])

-- A set book can be written: it is valid, its callers, calls and operations are within the limits
-- of texts of version 2, and each of its replies is below 2^64.
pub record IsWritable (book : List Page) : Type 0 where
  pub valid : IsValid book
  pub some : 1 ≤ length book
  pub callers : length book ≤ most_callers Second
  pub calls : (i : ℕ) → calls_of book i ≤ most_calls Second
  pub operations : (call : Call) (op : ℕ) → operation_of book call ≡ Some op
      → IsTrue (join_operations.has op)
  pub replies : (call : Call) (answer : Record) → record_of book call ≡ Some answer
      → answer.reply < 2 ^ 64

-- The bytes are what is written of this set book.
pub record IsWrittenText (bytes : List ℕ) (book : List Page) : Type 0 where
  pub writable : IsWritable book
  pub text : bytes ≡ text_of (setbook_lines book)
