-- The lines of a book's text, one after the other: which are right, and which test the others fail.
use Rattle.std.specs.Prelude.{◌≡◌, ◌≢◌, ℕ, List, [], ◌∷◌, codes}
use Rattle.book_base.specs.declared.call.Call.{Call}
use Rattle.book_base.specs.declared.fault.TextFault.{TextFault}
use Rattle.book_base.specs.declared.fault.What.{What}
use Rattle.book_base.specs.declared.fault.What.TheVariants.{End}
use Rattle.book_base.specs.Book.{Page}
use Rattle.seq_objects.specs.declared.kind.Kind.{Kind}
use Rattle.text_fields.specs.declared.version.Version.{Version}
use Rattle.text_fields.specs.Lines.{Unread}
use Rattle.text_fields.specs.Faults.{Wanted, ALine, TheEnd, Rules, IsFirstFault, IsReadTo}
use Rattle.text_fields.specs.Head.{HeadDue, TitleDue, ObjectDue, CallersDue, CountsDue, HeadRead, HeadPasses, HeadFails}
use Rattle.text_fields.specs.Operations.{kind_operations}
use Rattle.book_text.specs.CallLines.{BookSoFar, CallPasses, CallFails, no_call_read}
use Rattle.book_text.specs.Grammar.{end_words}

-- the states of reading a book's text, each with what the lines before say
pub data BookDue : Type 0 where
  InHead : HeadDue → BookDue
  InCalls : Kind → List Page → List Call → BookDue
  AtEnd : Kind → List Page → BookDue

-- a state of reading the head as a state of reading the book: after the whole head the calls are
-- due
abbrev pub after_head : HeadDue → BookDue
after_head TitleDue = InHead TitleDue
after_head ObjectDue = InHead ObjectDue
after_head (CallersDue kind) = InHead (CallersDue kind)
after_head (CountsDue kind n) = InHead (CountsDue kind n)
after_head (HeadRead kind calls) = InCalls kind (no_call_read calls).book (no_call_read calls).due

-- the state of reading a book's text in which the lines of calls are read as far as `progress` says
abbrev pub in_calls : Kind → BookSoFar → BookDue
in_calls kind progress = InCalls kind progress.book progress.due

-- a line of these words is right in a state of reading a book's text, and leads to another state
abbrev pub BookPasses : Version → BookDue → List (List ℕ) → BookDue → Type 0
BookPasses version (InHead due) words after = (next : HeadDue)
    × HeadPasses version (codes "book") due words next × (after ≡ after_head next)
BookPasses version (InCalls kind book []) words after = (words ≡ end_words)
    × (after ≡ AtEnd kind book)
BookPasses version (InCalls kind book (call ∷ calls)) words after = (next : BookSoFar)
    × CallPasses version (kind_operations version kind) book (call ∷ calls) words next
    × (after ≡ in_calls kind next)
BookPasses version (AtEnd kind book) words after = ⊥

-- a line of these words fails a test in a state of reading a book's text
abbrev pub BookFails : Version → BookDue → List (List ℕ) → What → Type 0
BookFails version (InHead due) words what = HeadFails version (codes "book") due words what
BookFails version (InCalls kind book []) words what = (what ≡ End) × (words ≢ end_words)
BookFails version (InCalls kind book (call ∷ calls)) words what =
    CallFails version (kind_operations version kind) book (call ∷ calls) words what
BookFails version (AtEnd kind book) words what = ⊥

-- what is due next in each state of reading a book's text
abbrev pub book_wanted : BookDue → Wanted
book_wanted (InHead due) = ALine
book_wanted (InCalls kind book calls) = ALine
book_wanted (AtEnd kind book) = TheEnd

-- the rules of a book's text
abbrev pub book_rules : Version → Rules BookDue
book_rules version =
    record { Passes = BookPasses version; Fails = BookFails version; wanted = book_wanted }

-- bytes of which nothing is read yet, from line 1 on
abbrev pub whole_text : List ℕ → Unread
whole_text bytes = record { bytes = bytes; number = 1 }

-- The first fault of bytes that are to be a book's text.
abbrev pub IsFirstBookFault : Version → List ℕ → TextFault → Type 0
IsFirstBookFault version bytes fault =
    IsFirstFault (book_rules version) (InHead TitleDue) (whole_text bytes) fault

-- The bytes are the text of this book, for an object of this kind: right lines from the title to
-- the end of the bytes.
abbrev pub IsBookText : Version → List ℕ → Kind → List Page → Type 0
IsBookText version bytes kind book = (left : Unread)
    × IsReadTo (book_rules version) (InHead TitleDue) (whole_text bytes) (AtEnd kind book) left

-- The bytes are the text of no book.
abbrev pub IsNoBookText : Version → List ℕ → Type 0
IsNoBookText version bytes = (kind : Kind) (book : List Page)
    → ¬ (IsBookText version bytes kind book)
