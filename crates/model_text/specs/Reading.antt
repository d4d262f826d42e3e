-- The parts of a model's text as they are read one after the other.
use Rattle.std.specs.Prelude.{◌≡◌, ℕ, ◌<◌, ◌^◌, IsTrue, List, [], ◌∷◌, Option, Some, None}
use Rattle.book_base.specs.declared.fault.TextFault.{TextFault}
use Rattle.book_base.specs.declared.fault.ReadFault.{ReadFault}
use Rattle.book_base.specs.Book.{Page}
use Rattle.seq_objects.specs.Replies.{reply_word}
use Rattle.text_fields.specs.Lines.{Unread}
use Rattle.text_fields.specs.Faults.{GoesTo, IsFirstFault, StopsFor}
use Rattle.book_text.specs.CallLines.{no_call_read}
use Rattle.book_text.specs.Grammar.{end_words}
use Rattle.model_text.specs.declared.told_line.ToldLine.{ToldLine}
use Rattle.model_text.specs.ModelBookRules.{InCalls, in_calls}
use Rattle.model_text.specs.ModelRules.{ModelDue, InBook, StepsDue, InSteps, AllRead, IsToldLine, model_rules, nothing_read}
use Rattle.model_text.specs.Told.{rises_after}

-- the text begins with right lines of a model's text that lead from one state to another, and
-- `left` is the rest of it
abbrev pub Goes : ModelDue → Unread → ModelDue → Unread → Type 0
Goes due text after left = GoesTo model_rules due text after left

-- a reader that reads a text from the state `due` on, as a model's text, stops for want of memory,
-- or with the text's first fault
abbrev pub Stops : ModelDue → Unread → ReadFault → Type 0
Stops due text fault = StopsFor model_rules due text fault

-- the first fault of a text that is read from the state `due` on
abbrev pub IsFault : ModelDue → Unread → TextFault → Type 0
IsFault due text fault = IsFirstFault model_rules due text fault

-- ---- the book

-- the text begins with a head with these numbers of calls
abbrev pub IsHead : List ℕ → Unread → Unread → Type 0
IsHead calls text left = Goes nothing_read text (InBook (in_calls (no_call_read calls))) left

-- the text begins with the lines of this book, up to its end
abbrev pub IsBookRead : Unread → List Page → Unread → Type 0
IsBookRead text pages left = Goes nothing_read text (StepsDue pages) left

-- the text begins with the line 'end' of a book, which comes after the lines of its calls
abbrev pub IsBookEnd : Unread → Unread → Type 0
IsBookEnd text left = (pages : List Page) → Goes (InBook (InCalls pages [])) text (StepsDue pages) left

-- the first fault of a text where, after the lines of a book's calls, the line 'end' is due
abbrev pub IsNoBookEnd : Unread → TextFault → Type 0
IsNoBookEnd text fault = (pages : List Page) → IsFault (InBook (InCalls pages [])) text fault

-- ---- the steps

-- the text begins with the title of the steps
abbrev pub IsTitle : Unread → Unread → Type 0
IsTitle text left = (pages : List Page) → Goes (StepsDue pages) text (InSteps pages []) left

-- the first fault of a text where the title of the steps is due
abbrev pub IsNoTitle : Unread → TextFault → Type 0
IsNoTitle text fault = (pages : List Page) → IsFault (StepsDue pages) text fault

-- the words are exactly this reply
abbrev pub IsOneReply : List (List ℕ) → ℕ → Type 0
IsOneReply words reply = (reply < 2 ^ 64) × (words ≡ reply_word reply ∷ [])

-- what a line after the title of the steps says: a line that may follow, or that there are no more
abbrev pub SaysLine : List ToldLine → List (List ℕ) → Option ToldLine → Type 0
SaysLine told words None = words ≡ end_words
SaysLine told words (Some line) = IsToldLine told words line × IsTrue (rises_after told line)

-- the text begins with these told lines and the end
abbrev pub AreTold : Unread → List ToldLine → Unread → Type 0
AreTold text told left = (pages : List Page) → Goes (InSteps pages []) text (AllRead pages told) left

-- a reader of told lines stops with this fault
abbrev pub AreNotTold : Unread → ReadFault → Type 0
AreNotTold text fault = (pages : List Page) → Stops (InSteps pages []) text fault

-- the fault is that bytes follow the end
abbrev pub IsRest : Unread → TextFault → Type 0
IsRest text fault = (pages : List Page) (told : List ToldLine)
    → IsFault (AllRead pages told) text fault
