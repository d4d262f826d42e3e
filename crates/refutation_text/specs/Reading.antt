-- The parts of a refutation's text as they are read one after the other.
use Rattle.std.specs.Prelude.{◌≡◌, ℕ, List, []}
use Rattle.book_base.specs.declared.fault.TextFault.{TextFault}
use Rattle.book_base.specs.declared.fault.ReadFault.{ReadFault}
use Rattle.book_base.specs.Book.{Page}
use Rattle.seq_objects.specs.declared.kind.Kind.{Kind}
use Rattle.refutations.specs.declared.entry.Entry.{Entry}
use Rattle.pair_refutations.specs.declared.entry.PairEntry.{PairEntry}
use Rattle.level_refutations.specs.Said.{EntrySaid}
use Rattle.text_fields.specs.Lines.{Unread}
use Rattle.text_fields.specs.Faults.{GoesTo, IsFirstFault, StopsFor}
use Rattle.refutation_text.specs.Said.{StepSaid, EndingSaid, Impossible, Takes, Find, Closed, Pairs, Levels, LineSaid, ImpossibleLine, TakesLine, FindLine, PlainLine, PairsLine, LevelsLine}
use Rattle.refutation_text.specs.Grammar.{IsLine}
use Rattle.refutation_text.specs.RefutationRules.{BodyDue, InSteps, EndDue, InEntries, InPairs, InLevels, BodyRead, body_rules, StepsDue, InBody, refutation_rules}

-- the text begins with the title of a refutation
abbrev pub IsTitle : Unread → Unread → Type 0
IsTitle text left = (kind : Kind) (book : List Page)
    → GoesTo refutation_rules (StepsDue kind book) text (InBody kind book (InSteps [])) left

-- the first fault of a text where the title of a refutation is due
abbrev pub IsNoTitle : Unread → TextFault → Type 0
IsNoTitle text fault = (kind : Kind) (book : List Page)
    → IsFirstFault refutation_rules (StepsDue kind book) text fault

-- what the line says that begins an ending, with the entries as yet where entries follow
abbrev pub opening_line : EndingSaid → LineSaid
opening_line (Impossible call) = ImpossibleLine call
opening_line (Takes value moment) = TakesLine value moment
opening_line (Find call values) = FindLine call values
opening_line (Closed entries) = PlainLine
opening_line (Pairs entries) = PairsLine
opening_line (Levels entries) = LevelsLine

-- an ending that a line begins has no entries as yet
abbrev pub HasNoEntries : EndingSaid → Type 0
HasNoEntries (Closed entries) = entries ≡ []
HasNoEntries (Pairs entries) = entries ≡ []
HasNoEntries (Levels entries) = entries ≡ []
HasNoEntries ending = Unit {0}

-- a line of these words begins this ending
abbrev pub Opens : List (List ℕ) → EndingSaid → Type 0
Opens words ending = HasNoEntries ending × IsLine words (opening_line ending)

-- the state after the steps and the line that begins the ending
abbrev pub ending_due : List StepSaid → EndingSaid → BodyDue
ending_due steps (Closed entries) = InEntries steps entries
ending_due steps (Pairs entries) = InPairs steps entries
ending_due steps (Levels entries) = InLevels steps entries
ending_due steps ending = EndDue steps ending

-- the text begins with the lines of these steps and the line that begins the ending
abbrev pub AreSteps : Unread → List StepSaid → EndingSaid → Unread → Type 0
AreSteps text steps ending left =
    GoesTo body_rules (InSteps []) text (ending_due steps ending) left

-- the text begins with the lines of the other ones of these entries, and the end
abbrev pub AreEntries : List Entry → Unread → List Entry → Unread → Type 0
AreEntries first text entries left = (steps : List StepSaid)
    → GoesTo body_rules (InEntries steps first) text (BodyRead steps (Closed entries)) left

-- a reader of the lines of entries, after the first ones, stops for this reason
abbrev pub AreNoEntries : List Entry → Unread → ReadFault → Type 0
AreNoEntries first text fault = (steps : List StepSaid)
    → StopsFor body_rules (InEntries steps first) text fault

-- the text begins with the lines of the other ones of these entries that make standings, and the end
abbrev pub ArePairs : List PairEntry → Unread → List PairEntry → Unread → Type 0
ArePairs first text entries left = (steps : List StepSaid)
    → GoesTo body_rules (InPairs steps first) text (BodyRead steps (Pairs entries)) left

-- a reader of the lines of entries that make standings, after the first ones, stops for this reason
abbrev pub AreNoPairs : List PairEntry → Unread → ReadFault → Type 0
AreNoPairs first text fault = (steps : List StepSaid)
    → StopsFor body_rules (InPairs steps first) text fault

-- the text begins with the lines of the other ones of these entries of a table of levels, and the end
abbrev pub AreLevels : List EntrySaid → Unread → List EntrySaid → Unread → Type 0
AreLevels first text entries left = (steps : List StepSaid)
    → GoesTo body_rules (InLevels steps first) text (BodyRead steps (Levels entries)) left

-- a reader of the lines of entries of a table of levels, after the first ones, stops for this reason
abbrev pub AreNoLevels : List EntrySaid → Unread → ReadFault → Type 0
AreNoLevels first text fault = (steps : List StepSaid)
    → StopsFor body_rules (InLevels steps first) text fault

-- the text begins with the end of a refutation whose ending has no entries
abbrev pub IsEnd : Unread → Unread → Type 0
IsEnd text left = (steps : List StepSaid) (ending : EndingSaid)
    → GoesTo body_rules (EndDue steps ending) text (BodyRead steps ending) left

-- the first fault of a text where the end of a refutation is due whose ending has no entries
abbrev pub IsNoEnd : Unread → TextFault → Type 0
IsNoEnd text fault = (steps : List StepSaid) (ending : EndingSaid)
    → IsFirstFault body_rules (EndDue steps ending) text fault

-- the text begins with the rest of a refutation, of which an ending is begun
abbrev pub IsRestOf : EndingSaid → Unread → EndingSaid → Unread → Type 0
IsRestOf begun text ending left = (steps : List StepSaid)
    → GoesTo body_rules (ending_due steps begun) text (BodyRead steps ending) left

-- a reader of the rest of a refutation, of which an ending is begun, stops for this reason
abbrev pub IsNoRestOf : EndingSaid → Unread → ReadFault → Type 0
IsNoRestOf begun text fault = (steps : List StepSaid)
    → StopsFor body_rules (ending_due steps begun) text fault

-- the text begins with the lines after the title: these steps and this ending
abbrev pub IsBody : Unread → List StepSaid → EndingSaid → Unread → Type 0
IsBody text steps ending left =
    GoesTo body_rules (InSteps []) text (BodyRead steps ending) left

-- a reader of the lines after the title stops for this reason
abbrev pub IsNoBody : Unread → ReadFault → Type 0
IsNoBody text fault = StopsFor body_rules (InSteps []) text fault

-- the fault is that bytes follow the end
abbrev pub IsRest : Unread → TextFault → Type 0
IsRest text fault = (kind : Kind) (book : List Page) (steps : List StepSaid)
    (ending : EndingSaid)
    → IsFirstFault refutation_rules (InBody kind book (BodyRead steps ending)) text fault
