-- The texts of books.
use Rattle.std.specs.Prelude.{◌≡◌, ℕ, ◌<◌, ◌≤◌, ◌^◌, true, IsTrue, List, [], ◌∷◌, ◌++◌, length, map, codes, Some, unwrap_or}
use Rattle.book_base.specs.declared.call.Call.{Call}
use Rattle.book_base.specs.declared.call.Record.{Record}
use Rattle.book_base.specs.Book.{Page, IsValid, calls_of, announced, operation_of, record_of}
use Rattle.seq_objects.specs.declared.kind.Kind.{Kind}
use Rattle.text_fields.specs.declared.version.Version.{Version}
use Rattle.text_fields.specs.Version.{most_callers, most_calls, has_kind}
use Rattle.text_fields.specs.Lines.{text_of}
use Rattle.text_fields.specs.Head.{head_lines}
use Rattle.text_fields.specs.Operations.{Operations, kind_operations}
use Rattle.book_text.specs.CallLines.{call_words, all_calls}

-- the line of a call of a book
abbrev pub line_of : Version → Operations → List Page → Call → List (List ℕ)
line_of version operations book call =
    call_words version operations call (unwrap_or (operation_of book call) 0) (record_of book call)

-- the lines of all calls of a book, by caller and then by number
abbrev pub call_lines : Version → Operations → List Page → List (List (List ℕ))
call_lines version operations book =
    map (line_of version operations book) (all_calls 0 (announced book))

-- the last line of a text
abbrev pub end_words : List (List ℕ)
end_words = codes "end" ∷ []

-- the lines of a book: the head, one line for each call, and the end
abbrev pub book_lines : Version → Kind → List Page → List (List (List ℕ))
book_lines version kind book = head_lines version (codes "book") kind (announced book)
    ++ (call_lines version (kind_operations version kind) book ++ end_words ∷ [])

-- A book and its kind can be written in a text of this version: the book is valid, its kind,
-- callers, calls and operations are within the version's limits, and each of its replies is below
-- 2^64.
pub record IsWritable (version : Version) (kind : Kind) (book : List Page) : Type 0 where
  pub valid : IsValid book
  pub kind_known : has_kind version kind ≡ true
  pub some : 1 ≤ length book
  pub callers : length book ≤ most_callers version
  pub calls : (i : ℕ) → calls_of book i ≤ most_calls version
  pub operations : (call : Call) (op : ℕ) → operation_of book call ≡ Some op
      → IsTrue ((kind_operations version kind).has op)
  pub replies : (call : Call) (answer : Record) → record_of book call ≡ Some answer
      → answer.reply < 2 ^ 64

-- The bytes are what is written of this book, for an object of this kind.
pub record IsWrittenText (version : Version) (bytes : List ℕ) (kind : Kind)
    (book : List Page) : Type 0 where
  pub writable : IsWritable version kind book
  pub text : bytes ≡ text_of (book_lines version kind book)
