-- The fields of a line, as they are written one after the other.
use Rattle.std.specs.Prelude.{◌≡◌, ℕ, ◌<◌, ◌^◌, List, [], ◌∷◌, ◌++◌, map, Some}
use Rattle.book_base.specs.declared.call.Call.{Call}
use Rattle.book_base.specs.declared.call.Record.{Record}
use Rattle.book_base.specs.Book.{Page, calls_of, operation_of, record_of}
use Rattle.book_base.specs.OperationWord.{IsOperationWord}
use Rattle.seq_objects.specs.declared.kind.Kind.{Kind}
use Rattle.text_fields.specs.declared.version.Version.TheVariants.{Second}
use Rattle.text_fields.specs.Lines.{line_text, text_of}
use Rattle.text_fields.specs.Operations.{kind_operations}
use Rattle.book_text.specs.CallLines.{calls_from}
use Rattle.book_text.specs.Grammar.{line_of}

-- the bytes of some words, one after another, with a space before each
abbrev pub spaced : List (List ℕ) → List ℕ
spaced [] = []
spaced (word ∷ words) = 32 ∷ (word ++ spaced words)

-- the line of a call of a book, in version 2
abbrev pub call_text : Kind → List Page → Call → List ℕ
call_text kind book call = line_text (line_of Second (kind_operations Second kind) book call)

-- the lines of a caller's calls, in version 2
abbrev pub caller_text : Kind → List Page → ℕ → List ℕ
caller_text kind book caller = text_of (map (line_of Second (kind_operations Second kind) book)
    (calls_from caller 0 (calls_of book caller)))

-- The operation of a call is a word of 128 bits, and its reply, where it is answered, one of 64
-- bits, as a text can have them.
pub record HasWords (book : List Page) (call : Call) : Type 0 where
  pub operation : (op : ℕ) → operation_of book call ≡ Some op → IsOperationWord op
  pub reply : (answer : Record) → record_of book call ≡ Some answer → answer.reply < 2 ^ 64
