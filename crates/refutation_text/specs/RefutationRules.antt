-- The lines of a refutation's text, one after the other: which are right, and which test the others
-- fail.
use Rattle.std.specs.Prelude.{◌≡◌, ◌≢◌, ℕ, List, [], ◌∷◌, ◌++◌, Option, Some, None}
use Rattle.book_base.specs.declared.fault.TextFault.{TextFault}
use Rattle.book_base.specs.declared.fault.What.{What}
use Rattle.book_base.specs.declared.fault.What.TheVariants as what
use Rattle.book_base.specs.Book.{Page}
use Rattle.seq_objects.specs.declared.kind.Kind.{Kind}
use Rattle.refutations.specs.declared.entry.Entry.{Entry}
use Rattle.pair_refutations.specs.declared.entry.PairEntry.{PairEntry}
use Rattle.level_refutations.specs.Said.{EntrySaid}
use Rattle.text_fields.specs.declared.version.Version.TheVariants.{Second}
use Rattle.text_fields.specs.Lines.{Unread}
use Rattle.text_fields.specs.Faults.{Wanted, ALine, TheEnd, Rules, IsFirstFault, IsReadTo}
use Rattle.text_fields.specs.Head.{TitleDue}
use Rattle.book_text.specs.BookRules.{BookDue, InHead, InCalls, AtEnd, BookPasses, BookFails, whole_text}
use Rattle.refutation_text.specs.Said.{StepSaid, EndingSaid, Impossible, Takes, Find, Closed, Pairs, Levels, LineSaid, StepLine, ImpossibleLine, TakesLine, FindLine, PlainLine, PairsLine, LevelsLine, ItemLine, MoveLine, TableLine, EndLine}
use Rattle.refutation_text.specs.Grammar.{refutation_words, IsLine}

-- ---- the lines after the title

-- the states of reading the lines after the title, each with what the lines before say
pub data BodyDue : Type 0 where
  InSteps : List StepSaid → BodyDue
  EndDue : List StepSaid → EndingSaid → BodyDue
  InEntries : List StepSaid → List Entry → BodyDue
  InPairs : List StepSaid → List PairEntry → BodyDue
  InLevels : List StepSaid → List EntrySaid → BodyDue
  BodyRead : List StepSaid → EndingSaid → BodyDue

-- the state after a line that says this, where the line is right
abbrev pub after_line : BodyDue → LineSaid → Option BodyDue
after_line (InSteps steps) (StepLine step) = Some (InSteps (steps ++ step ∷ []))
after_line (InSteps steps) (ImpossibleLine call) = Some (EndDue steps (Impossible call))
after_line (InSteps steps) (TakesLine value moment) = Some (EndDue steps (Takes value moment))
after_line (InSteps steps) (FindLine call values) = Some (EndDue steps (Find call values))
after_line (InSteps steps) PlainLine = Some (InEntries steps [])
after_line (InSteps steps) PairsLine = Some (InPairs steps [])
after_line (InSteps steps) LevelsLine = Some (InLevels steps [])
after_line (EndDue steps ending) EndLine = Some (BodyRead steps ending)
after_line (InEntries steps entries) (ItemLine entry) =
    Some (InEntries steps (entries ++ entry ∷ []))
after_line (InEntries steps entries) EndLine = Some (BodyRead steps (Closed entries))
after_line (InPairs steps entries) (MoveLine entry) =
    Some (InPairs steps (entries ++ entry ∷ []))
after_line (InPairs steps entries) EndLine = Some (BodyRead steps (Pairs entries))
after_line (InLevels steps entries) (TableLine entry) =
    Some (InLevels steps (entries ++ entry ∷ []))
after_line (InLevels steps entries) EndLine = Some (BodyRead steps (Levels entries))
after_line due line = None

-- the test that a line fails in a state where it isn't right
abbrev pub body_test : BodyDue → What
body_test (InSteps steps) = what.Op
body_test (EndDue steps ending) = what.End
body_test (InEntries steps entries) = what.Place
body_test (InPairs steps entries) = what.Place
body_test (InLevels steps entries) = what.Place
body_test (BodyRead steps ending) = what.Rest

-- what is due next in each state
abbrev pub body_wanted : BodyDue → Wanted
body_wanted (InSteps steps) = ALine
body_wanted (EndDue steps ending) = ALine
body_wanted (InEntries steps entries) = ALine
body_wanted (InPairs steps entries) = ALine
body_wanted (InLevels steps entries) = ALine
body_wanted (BodyRead steps ending) = TheEnd

-- a line of these words is right in a state, and leads to another one
abbrev pub BodyPasses : BodyDue → List (List ℕ) → BodyDue → Type 0
BodyPasses due words after = (line : LineSaid) × IsLine words line
    × (after_line due line ≡ Some after)

-- a line of these words fails a test in a state
abbrev pub BodyFails : BodyDue → List (List ℕ) → What → Type 0
BodyFails due words name = (name ≡ body_test due)
    × ((line : LineSaid) → IsLine words line → after_line due line ≡ None)

-- the rules of the lines after the title
abbrev pub body_rules : Rules BodyDue
body_rules = record { Passes = BodyPasses; Fails = BodyFails; wanted = body_wanted }

-- ---- all lines

-- the states of reading a refutation's text
pub data RefutationDue : Type 0 where
  InBook : BookDue → RefutationDue
  StepsDue : Kind → List Page → RefutationDue
  InBody : Kind → List Page → BodyDue → RefutationDue

-- a state of reading the book as a state of reading the refutation: after the end of the book the
-- title of the refutation is due
abbrev pub after_book : BookDue → RefutationDue
after_book (InHead due) = InBook (InHead due)
after_book (InCalls kind book calls) = InBook (InCalls kind book calls)
after_book (AtEnd kind book) = StepsDue kind book

-- a line of these words is right in a state of reading a refutation's text, and leads to another
-- state
abbrev pub RefutationPasses : RefutationDue → List (List ℕ) → RefutationDue → Type 0
RefutationPasses (InBook due) words after = (next : BookDue) × BookPasses Second due words next
    × (after ≡ after_book next)
RefutationPasses (StepsDue kind book) words after = (words ≡ refutation_words)
    × (after ≡ InBody kind book (InSteps []))
RefutationPasses (InBody kind book due) words after = (next : BodyDue)
    × BodyPasses due words next × (after ≡ InBody kind book next)

-- a line of these words fails a test in a state of reading a refutation's text
abbrev pub RefutationFails : RefutationDue → List (List ℕ) → What → Type 0
RefutationFails (InBook due) words name = BookFails Second due words name
RefutationFails (StepsDue kind book) words name = (name ≡ what.Head)
    × (words ≢ refutation_words)
RefutationFails (InBody kind book due) words name = BodyFails due words name

-- what is due next in each state of reading a refutation's text
abbrev pub refutation_wanted : RefutationDue → Wanted
refutation_wanted (InBook due) = ALine
refutation_wanted (StepsDue kind book) = ALine
refutation_wanted (InBody kind book due) = body_wanted due

-- the rules of a refutation's text
abbrev pub refutation_rules : Rules RefutationDue
refutation_rules =
    record { Passes = RefutationPasses; Fails = RefutationFails; wanted = refutation_wanted }

-- the state of reading a refutation's text before its first line
abbrev pub nothing_read : RefutationDue
nothing_read = InBook (InHead TitleDue)

-- The first fault of bytes that are to be a refutation's text.
abbrev pub IsFirstRefutationFault : List ℕ → TextFault → Type 0
IsFirstRefutationFault bytes fault =
    IsFirstFault refutation_rules nothing_read (whole_text bytes) fault

-- The bytes are the text of this refutation: right lines from the title to the end of the bytes.
abbrev pub IsRefutationText : List ℕ → Kind → List Page → List StepSaid → EndingSaid → Type 0
IsRefutationText bytes kind book steps ending = (left : Unread)
    × IsReadTo refutation_rules nothing_read (whole_text bytes)
    (InBody kind book (BodyRead steps ending)) left
