-- The lines of a model's book, one after the other: which are right, and which test the others fail.
use Rattle.std.specs.Prelude.{◌≡◌, ◌≢◌, ℕ, List, [], ◌∷◌, codes}
use Rattle.book_base.specs.declared.call.Call.{Call}
use Rattle.book_base.specs.declared.fault.What.{What}
use Rattle.book_base.specs.declared.fault.What.TheVariants as what
use Rattle.book_base.specs.Book.{Page}
use Rattle.text_fields.specs.declared.version.Version.TheVariants.{Second}
use Rattle.text_fields.specs.Lines.{Unread}
use Rattle.text_fields.specs.Faults.{Wanted, ALine, TheEnd, Rules, IsReadTo}
use Rattle.text_fields.specs.Head.{AreCallers, AreCalls, callers_words, calls_words}
use Rattle.book_text.specs.CallLines.{BookSoFar, CallPasses, CallFails, no_call_read}
use Rattle.book_text.specs.Grammar.{end_words}
use Rattle.book_text.specs.BookRules.{whole_text}
use Rattle.model_text.specs.ModelWords.{model_operations}

-- the words of a model's book's title line: 'book' and the version 2
abbrev pub title_words : List (List ℕ)
title_words = codes "book" ∷ codes "2" ∷ []

-- the words of a model's book's object line: 'object model'
abbrev pub object_words : List (List ℕ)
object_words = codes "object" ∷ codes "model" ∷ []

-- the states of reading a model's book, each with what the lines before say
pub data ModelBookDue : Type 0 where
  TitleDue : ModelBookDue
  ObjectDue : ModelBookDue
  CallersDue : ModelBookDue
  CountsDue : ℕ → ModelBookDue
  InCalls : List Page → List Call → ModelBookDue
  AtEnd : List Page → ModelBookDue

-- the state of reading a model's book in which the lines of calls are read as far as `progress`
-- says
abbrev pub in_calls : BookSoFar → ModelBookDue
in_calls progress = InCalls progress.book progress.due

-- a line of these words is right in a state of reading a model's book, and leads to another
-- state
abbrev pub ModelBookPasses : ModelBookDue → List (List ℕ) → ModelBookDue → Type 0
ModelBookPasses TitleDue words after = (words ≡ title_words) × (after ≡ ObjectDue)
ModelBookPasses ObjectDue words after = (words ≡ object_words) × (after ≡ CallersDue)
ModelBookPasses CallersDue words after = (n : ℕ) × AreCallers Second n × (words ≡ callers_words n)
    × (after ≡ CountsDue n)
ModelBookPasses (CountsDue n) words after = (calls : List ℕ) × AreCalls Second n calls
    × (words ≡ calls_words calls) × (after ≡ in_calls (no_call_read calls))
ModelBookPasses (InCalls book []) words after = (words ≡ end_words) × (after ≡ AtEnd book)
ModelBookPasses (InCalls book (call ∷ calls)) words after = (next : BookSoFar)
    × CallPasses Second model_operations book (call ∷ calls) words next × (after ≡ in_calls next)
ModelBookPasses (AtEnd book) words after = ⊥

-- a line of these words fails a test in a state of reading a model's book
abbrev pub ModelBookFails : ModelBookDue → List (List ℕ) → What → Type 0
-- the line isn't the title of a model's book
ModelBookFails TitleDue words name = (name ≡ what.Head) × (words ≢ title_words)
-- the line isn't 'object model'
ModelBookFails ObjectDue words name = (name ≡ what.Object) × (words ≢ object_words)
-- the line isn't 'callers' and a number in range
ModelBookFails CallersDue words name = (name ≡ what.Callers)
    × ((n : ℕ) → AreCallers Second n → words ≢ callers_words n)
-- the line isn't 'calls' and as many numbers in range as there are callers
ModelBookFails (CountsDue n) words name = (name ≡ what.Calls)
    × ((calls : List ℕ) → AreCalls Second n calls → words ≢ calls_words calls)
-- the line isn't 'end'
ModelBookFails (InCalls book []) words name = (name ≡ what.End) × (words ≢ end_words)
-- the line fails a test for the call that is due
ModelBookFails (InCalls book (call ∷ calls)) words name =
    CallFails Second model_operations book (call ∷ calls) words name
ModelBookFails (AtEnd book) words name = ⊥

-- what is due next in each state of reading a model's book
abbrev pub model_book_wanted : ModelBookDue → Wanted
model_book_wanted TitleDue = ALine
model_book_wanted ObjectDue = ALine
model_book_wanted CallersDue = ALine
model_book_wanted (CountsDue n) = ALine
model_book_wanted (InCalls book calls) = ALine
model_book_wanted (AtEnd book) = TheEnd

-- the rules of a model's book
abbrev pub model_book_rules : Rules ModelBookDue
model_book_rules = record { Passes = ModelBookPasses; Fails = ModelBookFails; wanted = model_book_wanted }

-- The bytes are the text of this book: right lines from the title to the end of the bytes.
abbrev pub IsModelBookText : List ℕ → List Page → Type 0
IsModelBookText bytes book = (left : Unread)
    × IsReadTo model_book_rules TitleDue (whole_text bytes) (AtEnd book) left
