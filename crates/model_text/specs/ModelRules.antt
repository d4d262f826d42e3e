-- The lines of a model's text, one after the other: which are right, and which test the others
-- fail.
use Rattle.std.specs.Prelude.{◌≡◌, ◌≢◌, ℕ, ◌<◌, ◌^◌, ◌⊎◌, IsTrue, false, List, [], ◌∷◌, ◌++◌}
use Rattle.book_base.specs.declared.fault.TextFault.{TextFault}
use Rattle.book_base.specs.declared.fault.What.{What}
use Rattle.book_base.specs.declared.fault.What.TheVariants as what
use Rattle.book_base.specs.Book.{Page}
use Rattle.seq_objects.specs.Replies.{reply_word}
use Rattle.text_fields.specs.Lines.{Unread}
use Rattle.text_fields.specs.Faults.{Wanted, ALine, TheEnd, Rules, IsFirstFault, IsReadTo}
use Rattle.book_text.specs.Grammar.{end_words}
use Rattle.book_text.specs.BookRules.{whole_text}
use Rattle.model_text.specs.declared.told_line.Subject.{Subject}
use Rattle.model_text.specs.declared.told_line.ToldLine.{ToldLine}
use Rattle.model_text.specs.ModelBookRules.{ModelBookDue, TitleDue, ObjectDue, CallersDue, CountsDue, InCalls, AtEnd, ModelBookPasses, ModelBookFails}
use Rattle.model_text.specs.Grammar.{steps_words, subject_words, told_words, IsSubject, IsLine}
use Rattle.model_text.specs.Told.{rises_after, keeps}

-- the states of reading a model's text, each with what the lines before say
pub data ModelDue : Type 0 where
  InBook : ModelBookDue → ModelDue
  StepsDue : List Page → ModelDue
  InSteps : List Page → List ToldLine → ModelDue
  AllRead : List Page → List ToldLine → ModelDue

-- a state of reading the book as a state of reading the whole text: after the end of the book the
-- title of the steps is due
abbrev pub after_book : ModelBookDue → ModelDue
after_book TitleDue = InBook TitleDue
after_book ObjectDue = InBook ObjectDue
after_book CallersDue = InBook CallersDue
after_book (CountsDue n) = InBook (CountsDue n)
after_book (InCalls pages calls) = InBook (InCalls pages calls)
after_book (AtEnd pages) = StepsDue pages

-- ---- told lines

-- the words are this line, whose reply keeps the promises among the lines before
pub record IsToldLine (told : List ToldLine) (words : List (List ℕ))
    (line : ToldLine) : Type 0 where
  pub may : IsLine line
  pub keeps_promises : IsTrue (keeps told line.subject line.reply)
  pub text : words ≡ told_words line

-- a line of these words, where a told line or the end is due after the lines `told`, fails a test
abbrev pub ToldFails : List ToldLine → List (List ℕ) → What → Type 0
-- the line isn't the end, and begins neither with 'leaves' and an operation, nor with a state, an
-- operation and a state
ToldFails told words what.Place = (words ≢ end_words)
    × ((subject : Subject) (suffix : List (List ℕ)) → IsSubject subject
    → words ≢ subject_words subject ++ suffix)
-- the words after these aren't exactly one reply, or it breaks a promise
ToldFails told words what.Reply = (subject : Subject) × (suffix : List (List ℕ))
    × IsSubject subject × (words ≡ subject_words subject ++ suffix)
    × ((reply : ℕ) → reply < 2 ^ 64 → IsTrue (keeps told subject reply)
    → suffix ≢ reply_word reply ∷ [])
-- the line doesn't come after the one before it
ToldFails told words what.Last = (line : ToldLine) × IsToldLine told words line
    × (rises_after told line ≡ false)
ToldFails told words _ = ⊥

-- ---- the rules

-- a line of these words is right in a state of reading a model's text, and leads to another state
abbrev pub ModelPasses : ModelDue → List (List ℕ) → ModelDue → Type 0
ModelPasses (InBook due) words after = (next : ModelBookDue) × ModelBookPasses due words next
    × (after ≡ after_book next)
ModelPasses (StepsDue pages) words after = (words ≡ steps_words) × (after ≡ InSteps pages [])
ModelPasses (InSteps pages told) words after =
    ((words ≡ end_words) × (after ≡ AllRead pages told))
    ⊎ ((line : ToldLine) × IsToldLine told words line × IsTrue (rises_after told line)
    × (after ≡ InSteps pages (told ++ line ∷ [])))
ModelPasses (AllRead pages told) words after = ⊥

-- A line of these words fails a test in a state of reading a model's text: one of a book's lines up
-- to the book's end, then that of the title of the steps, and then one of told lines.
abbrev pub ModelFails : ModelDue → List (List ℕ) → What → Type 0
ModelFails (InBook due) words name = ModelBookFails due words name
ModelFails (StepsDue pages) words name = (name ≡ what.Head) × (words ≢ steps_words)
ModelFails (InSteps pages told) words name = ToldFails told words name
ModelFails (AllRead pages told) words name = ⊥

-- what is due next in each state of reading a model's text
abbrev pub model_wanted : ModelDue → Wanted
model_wanted (InBook due) = ALine
model_wanted (StepsDue pages) = ALine
model_wanted (InSteps pages told) = ALine
model_wanted (AllRead pages told) = TheEnd

-- the rules of a model's text
abbrev pub model_rules : Rules ModelDue
model_rules = record { Passes = ModelPasses; Fails = ModelFails; wanted = model_wanted }

-- the state of reading a model's text before its first line
abbrev pub nothing_read : ModelDue
nothing_read = InBook TitleDue

-- The first fault of bytes that are to be a model's text.
abbrev pub IsFirstModelFault : List ℕ → TextFault → Type 0
IsFirstModelFault bytes fault = IsFirstFault model_rules nothing_read (whole_text bytes) fault

-- The bytes are the text of this book and these told lines: right lines from the title to the end
-- of the bytes.
abbrev pub IsModelText : List ℕ → List Page → List ToldLine → Type 0
IsModelText bytes pages told = (left : Unread)
    × IsReadTo model_rules nothing_read (whole_text bytes) (AllRead pages told) left

-- The bytes are no model's text.
abbrev pub IsNoModelText : List ℕ → Type 0
IsNoModelText bytes = (pages : List Page) (told : List ToldLine) → ¬ (IsModelText bytes pages told)
