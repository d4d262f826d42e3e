-- The place of the first fault of bytes that are to be a book's text: the first line such that no
-- text of a book begins with the lines up to it, or that no line feed ends, or that follows a whole
-- text.
use Rattle.std.specs.Prelude.{◌≡◌, ◌≢◌, ◌⊎◌, ◌+◌, ℕ, zero, suc, List, [], ◌∷◌, ◌++◌, Some, None}
use Rattle.book_base.specs.declared.fault.TextFault.{TextFault}
use Rattle.book_base.specs.declared.fault.What.{What}
use Rattle.book_base.specs.declared.fault.What.TheVariants.{Cut, Rest}
use Rattle.book_base.specs.Book.{Page}
use Rattle.seq_objects.specs.declared.kind.Kind.{Kind}
use Rattle.text_fields.specs.declared.version.Version.{Version}
use Rattle.text_fields.specs.Lines.{cut_at}
use Rattle.book_text.specs.BookRules.{IsBookText, IsNoBookText}

-- some text of a book begins with these bytes
abbrev pub BeginsSomeText : Version → List ℕ → Type 0
BeginsSomeText version prefix = (kind : Kind) × (book : List Page) × (more : List ℕ)
    × IsBookText version (prefix ++ more) kind book

-- no text of a book begins with these bytes
abbrev pub BeginsNoText : Version → List ℕ → Type 0
BeginsNoText version prefix = (kind : Kind) (book : List Page) (more : List ℕ)
    → ¬ (IsBookText version (prefix ++ more) kind book)

-- the bytes are this many whole lines: each is cut off at its line feed, and nothing is left after
-- the last
abbrev pub AreWholeLines : ℕ → List ℕ → Type 0
AreWholeLines zero bytes = bytes ≡ []
AreWholeLines (suc count) bytes = (line : List ℕ) × (rest : List ℕ)
    × (cut_at 10 bytes ≡ Some (line, rest)) × AreWholeLines count rest

-- After `prefix` comes one more whole line, and no text of a book begins with `prefix` and this
-- line; the fault is neither `Cut` nor `Rest`.
pub record BreaksText (version : Version) (prefix rest : List ℕ) (what : What) : Type 0 where
  pub named : (what ≢ Cut) × (what ≢ Rest)
  pub line : List ℕ
  pub suffix : List ℕ
  pub whole : cut_at 10 rest ≡ Some (line, suffix)
  pub none : BeginsNoText version (prefix ++ (line ++ 10 ∷ []))

-- No whole line is left in `rest`; the fault is `Cut`.
pub record EndsEarly (rest : List ℕ) (what : What) : Type 0 where
  pub named : what ≡ Cut
  pub none : cut_at 10 rest ≡ None

-- `prefix` is a whole text of a book already, and bytes follow it; the fault is `Rest`.
pub record GoesOn (version : Version) (prefix rest : List ℕ) (what : What) : Type 0 where
  pub named : what ≡ Rest
  pub kind : Kind
  pub book : List Page
  pub text : IsBookText version prefix kind book
  pub more : rest ≢ []

-- A fault is at the line where bytes, which are no book's text themselves, stop being the beginning
-- of one. Some text of a book begins with the lines before the fault's line; and either none begins
-- with these lines and the fault's line, or no line feed ends the fault's line, or the lines before
-- it are a whole text already, and bytes follow them.
pub record LeavesTexts (version : Version) (bytes : List ℕ) (fault : TextFault) : Type 0 where
  pub count : ℕ
  pub prefix : List ℕ
  pub rest : List ℕ
  pub line : fault.line ≡ count + 1
  pub bytes_are : bytes ≡ prefix ++ rest
  pub lines : AreWholeLines count prefix
  pub begins : BeginsSomeText version prefix
  pub leaves : BreaksText version prefix rest fault.what
      ⊎ (EndsEarly rest fault.what ⊎ GoesOn version prefix rest fault.what)
  pub no_text : IsNoBookText version bytes
