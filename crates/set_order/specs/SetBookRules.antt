-- The lines of a set book's text, one after the other: which are right, and which test the others
-- fail.
use Rattle.std.specs.Prelude.{◌≡◌, ◌≢◌, ℕ, List, [], ◌∷◌, codes}
use Rattle.book_base.specs.declared.call.Call.{Call}
use Rattle.book_base.specs.declared.fault.TextFault.{TextFault}
use Rattle.book_base.specs.declared.fault.What.{What}
use Rattle.book_base.specs.declared.fault.What.TheVariants as what
use Rattle.book_base.specs.Book.{Page}
use Rattle.text_fields.specs.declared.version.Version.TheVariants.{Second}
use Rattle.text_fields.specs.Lines.{Unread}
use Rattle.text_fields.specs.Faults.{Wanted, ALine, TheEnd, Nothing, Rules, GoesTo, IsFirstFault, IsReadTo}
use Rattle.text_fields.specs.Head.{AreCallers, AreCalls, callers_words, calls_words}
use Rattle.book_text.specs.CallLines.{BookSoFar, CallPasses, CallFails, no_call_read}
use Rattle.book_text.specs.Grammar.{end_words}
use Rattle.book_text.specs.BookRules.{whole_text}
use Rattle.set_order.specs.JoinWords.{join_operations}

-- the words of a set book's title line: 'setbook' and the version 2
abbrev pub title_words : List (List ℕ)
title_words = codes "setbook" ∷ codes "2" ∷ []

-- the words of a set book's object line: 'object joins'
abbrev pub object_words : List (List ℕ)
object_words = codes "object" ∷ codes "joins" ∷ []

-- the states of reading a set book's text, each with what the lines before say
pub data SetBookDue : Type 0 where
  TitleDue : SetBookDue
  ObjectDue : SetBookDue
  CallersDue : SetBookDue
  CountsDue : ℕ → SetBookDue
  InCalls : List Page → List Call → SetBookDue
  AtEnd : List Page → SetBookDue

-- the state of reading a set book's text in which the lines of calls are read as far as `progress`
-- says
abbrev pub in_calls : BookSoFar → SetBookDue
in_calls progress = InCalls progress.book progress.due

-- a line of these words is right in a state of reading a set book's text, and leads to another
-- state
abbrev pub SetBookPasses : SetBookDue → List (List ℕ) → SetBookDue → Type 0
SetBookPasses TitleDue words after = (words ≡ title_words) × (after ≡ ObjectDue)
SetBookPasses ObjectDue words after = (words ≡ object_words) × (after ≡ CallersDue)
SetBookPasses CallersDue words after = (n : ℕ) × AreCallers Second n × (words ≡ callers_words n)
    × (after ≡ CountsDue n)
SetBookPasses (CountsDue n) words after = (calls : List ℕ) × AreCalls Second n calls
    × (words ≡ calls_words calls) × (after ≡ in_calls (no_call_read calls))
SetBookPasses (InCalls book []) words after = (words ≡ end_words) × (after ≡ AtEnd book)
SetBookPasses (InCalls book (call ∷ calls)) words after = (next : BookSoFar)
    × CallPasses Second join_operations book (call ∷ calls) words next × (after ≡ in_calls next)
SetBookPasses (AtEnd book) words after = ⊥

-- a line of these words fails a test in a state of reading a set book's text
abbrev pub SetBookFails : SetBookDue → List (List ℕ) → What → Type 0
-- the line isn't the title of a set book
SetBookFails TitleDue words name = (name ≡ what.Head) × (words ≢ title_words)
-- the line isn't 'object joins'
SetBookFails ObjectDue words name = (name ≡ what.Object) × (words ≢ object_words)
-- the line isn't 'callers' and a number in range
SetBookFails CallersDue words name = (name ≡ what.Callers)
    × ((n : ℕ) → AreCallers Second n → words ≢ callers_words n)
-- the line isn't 'calls' and as many numbers in range as there are callers
SetBookFails (CountsDue n) words name = (name ≡ what.Calls)
    × ((calls : List ℕ) → AreCalls Second n calls → words ≢ calls_words calls)
-- the line isn't 'end'
SetBookFails (InCalls book []) words name = (name ≡ what.End) × (words ≢ end_words)
-- the line fails a test for the call that is due
SetBookFails (InCalls book (call ∷ calls)) words name =
    CallFails Second join_operations book (call ∷ calls) words name
SetBookFails (AtEnd book) words name = ⊥

-- what is due next in each state of reading a set book's text
abbrev pub setbook_wanted : SetBookDue → Wanted
setbook_wanted TitleDue = ALine
setbook_wanted ObjectDue = ALine
setbook_wanted CallersDue = ALine
setbook_wanted (CountsDue n) = ALine
setbook_wanted (InCalls book calls) = ALine
setbook_wanted (AtEnd book) = TheEnd

-- the rules of a set book's text
abbrev pub setbook_rules : Rules SetBookDue
setbook_rules = record { Passes = SetBookPasses; Fails = SetBookFails; wanted = setbook_wanted }

-- A line of these words is right in a state of reading the four lines of a set book's head, and
-- leads to another state; no line is right after the head.
abbrev pub SetHeadPasses : SetBookDue → List (List ℕ) → SetBookDue → Type 0
SetHeadPasses TitleDue words after = SetBookPasses TitleDue words after
SetHeadPasses ObjectDue words after = SetBookPasses ObjectDue words after
SetHeadPasses CallersDue words after = SetBookPasses CallersDue words after
SetHeadPasses (CountsDue n) words after = SetBookPasses (CountsDue n) words after
SetHeadPasses (InCalls book calls) words after = ⊥
SetHeadPasses (AtEnd book) words after = ⊥

-- A line of these words fails a test in a state of reading a set book's head.
abbrev pub SetHeadFails : SetBookDue → List (List ℕ) → What → Type 0
SetHeadFails TitleDue words name = SetBookFails TitleDue words name
SetHeadFails ObjectDue words name = SetBookFails ObjectDue words name
SetHeadFails CallersDue words name = SetBookFails CallersDue words name
SetHeadFails (CountsDue n) words name = SetBookFails (CountsDue n) words name
SetHeadFails (InCalls book calls) words name = ⊥
SetHeadFails (AtEnd book) words name = ⊥

-- What is due next in each state of reading a set book's head: a line, and after the head nothing.
abbrev pub set_head_wanted : SetBookDue → Wanted
set_head_wanted TitleDue = ALine
set_head_wanted ObjectDue = ALine
set_head_wanted CallersDue = ALine
set_head_wanted (CountsDue n) = ALine
set_head_wanted (InCalls book calls) = Nothing
set_head_wanted (AtEnd book) = Nothing

-- The rules of a set book's head.
abbrev pub set_head_rules : Rules SetBookDue
set_head_rules = record { Passes = SetHeadPasses; Fails = SetHeadFails; wanted = set_head_wanted }

-- The text begins with the head of a set book with these numbers of calls, and `left` is the rest
-- of it.
abbrev pub IsSetHead : List ℕ → Unread → Unread → Type 0
IsSetHead calls text left = GoesTo set_head_rules TitleDue text (in_calls (no_call_read calls)) left

-- The first fault of a text that is to begin with the head of a set book.
abbrev pub IsSetHeadFault : Unread → TextFault → Type 0
IsSetHeadFault text fault = IsFirstFault set_head_rules TitleDue text fault

-- The first fault of bytes that are to be a set book's text.
abbrev pub IsFirstSetBookFault : List ℕ → TextFault → Type 0
IsFirstSetBookFault bytes fault = IsFirstFault setbook_rules TitleDue (whole_text bytes) fault

-- The bytes are the text of this set book: right lines from the title to the end of the bytes.
abbrev pub IsSetBookText : List ℕ → List Page → Type 0
IsSetBookText bytes book = (left : Unread)
    × IsReadTo setbook_rules TitleDue (whole_text bytes) (AtEnd book) left

-- The bytes are the text of no set book.
abbrev pub IsNoSetBookText : List ℕ → Type 0
IsNoSetBookText bytes = (book : List Page) → ¬ (IsSetBookText bytes book)
