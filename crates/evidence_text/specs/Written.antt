-- The lines of a refutation after its title, as they are written one after another.
use Rattle.std.specs.Prelude.{◌≡◌, ℕ, ◌<◌, ◌^◌, List, [], ◌∷◌, ◌++◌, length, map}
use Rattle.std.specs.List.{AllByRecursion}
use Rattle.text_fields.specs.Lines.{text_of}
use Rattle.level_refutations.specs.Said as table
use Rattle.level_refutations.specs.Said.{EntrySaid}
use Rattle.refutation_text.specs.Said.{StepSaid, At, EndingSaid, Impossible, Takes, Find, Closed, Pairs, Levels, LineSaid, StepLine, ImpossibleLine, TakesLine, FindLine, PlainLine, PairsLine, LevelsLine, ItemLine, MoveLine, TableLine, EndLine}
use Rattle.refutation_text.specs.Grammar.{AreCounts, AreValues, MaySay, line_words}

-- a step back to a cut has a count for each of 16 callers
abbrev pub HasCounts : StepSaid → Type 0
HasCounts (At counts) = AreCounts counts
HasCounts step = Unit {0}

-- an entry of a table of levels has a number in its list, where it has a list
abbrev pub HasNumbers : EntrySaid → Type 0
HasNumbers (table.Cut p i) = Unit {0}
HasNumbers (table.Level v below) = 0 < length below
HasNumbers (table.At l cuts) = 0 < length cuts

-- the values that an ending counts are such as a line can say, and so are the entries that it lists
abbrev pub HasValues : EndingSaid → Type 0
HasValues (Takes value moment) = value < 2 ^ 32
HasValues (Find call values) = AreValues values
HasValues (Levels entries) = AllByRecursion HasNumbers entries
HasValues ending = Unit {0}

-- the lines of what an ending says
abbrev pub form_lines : EndingSaid → List LineSaid
form_lines (Impossible call) = ImpossibleLine call ∷ []
form_lines (Takes value moment) = TakesLine value moment ∷ []
form_lines (Find call values) = FindLine call values ∷ []
form_lines (Closed entries) = PlainLine ∷ map ItemLine entries
form_lines (Pairs entries) = PairsLine ∷ map MoveLine entries
form_lines (Levels entries) = LevelsLine ∷ map TableLine entries

-- the lines of an ending, up to the end
abbrev pub ending_lines : EndingSaid → List LineSaid
ending_lines ending = form_lines ending ++ EndLine ∷ []

-- the lines after the title
abbrev pub body_lines : List StepSaid → EndingSaid → List LineSaid
body_lines steps ending = map StepLine steps ++ ending_lines ending

-- Bytes are written after others: the lines that say this, each of which a line can say.
pub record IsWritten (old : List ℕ) (lines : List LineSaid) (new : List ℕ) : Type 0 where
  pub may : AllByRecursion MaySay lines
  pub text : new ≡ old ++ text_of (map line_words lines)
