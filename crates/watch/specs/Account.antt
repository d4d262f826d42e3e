-- What each line of the output means.
use Rattle.std.specs.Prelude.{◌≡◌, ◌⊎◌, ℕ, ◌-◌, ◌<◌, ◌≤◌, List, ◌++◌, length, take, Some, slice_get}
use Rattle.stream_text.specs.Stream.{Said, Due, ReadsAs}
use Rattle.watch.specs.Output.{OutputLine, Legal, Illegal, Unsure}
use Rattle.watch.specs.Lines.{Says, IsLegal, IsLegalOn, IsNamed, IsLimitMetAt, IsOnLine}
use Rattle.watch.specs.declared.settings.Settings.{Settings}

-- a line is one of the output
abbrev pub Has : List OutputLine → OutputLine → Type 0
Has output one = (k : ℕ) × (slice_get output k ≡ Some one)

-- a line of the output says of an object that its calls aren't decided
abbrev pub IsUnsureTold : Said → List OutputLine → ℕ → Type 0
IsUnsureTold said output object = (line : ℕ) × (name : List ℕ) × IsNamed said object name
    × Has output (Unsure line name)

-- no line of the output says of an object that its calls aren't decided
abbrev pub HasNoUnsure : List OutputLine → Type 0
HasNoUnsure output = (line : ℕ) (name : List ℕ) → Has output (Unsure line name) → ⊥

-- no line of the output says of an object that its calls have no legal order
abbrev pub GoesOn : List OutputLine → Type 0
GoesOn output = (first last : ℕ) (name : List ℕ) → Has output (Illegal first last name) → ⊥

-- the lines of the output that say how many lines are legal have lesser numbers than this one
abbrev pub AreBelow : List OutputLine → ℕ → Type 0
AreBelow output line = (other : ℕ) → Has output (Legal other) → other < line

-- of some object it isn't decided whether its calls have a legal order
abbrev pub IsLimitMet : Settings → Said → Type 0
IsLimitMet asked said = (object : ℕ) × (number : ℕ) × IsLimitMetAt asked said object number

-- What a line of the output means after others, where as many lines as `lines` says were read, and
-- have said this.
abbrev pub IsRight : Settings → ℕ → Said → List OutputLine → OutputLine → Type 0
-- All lines are legal, and there are more of them than any line before says.
IsRight asked lines said before (Legal line) = (line ≡ lines)
    × ((object : ℕ) → object < length said.names → IsLegal said object)
    × HasNoUnsure before × AreBelow before line
-- The calls of the object of this name have a legal order on the lines before the first one, and
-- none on the lines up to the last one, which was read. Those of each other object have one on the
-- lines before the first one, unless a line before says that it is unsure. And both are one line,
-- unless a limit was met.
IsRight asked lines said before (Illegal first last name) = (object : ℕ)
    × IsNamed said object name × (last ≤ lines) × IsLegalOn said object (first - 1)
    × (IsLegalOn said object last → ⊥) × ((other : ℕ) → other < length said.names
    → IsLegalOn said other (first - 1) ⊎ IsUnsureTold said before other)
    × ((first ≡ last) ⊎ IsLimitMet asked said)
-- At the event of the object of this name on this line the limit was met, and no line before says
-- so of this object.
IsRight asked lines said before (Unsure line name) = (object : ℕ) × (number : ℕ)
    × IsNamed said object name × IsLimitMetAt asked said object number
    × IsOnLine said object number line × (IsUnsureTold said before object → ⊥)

-- A line of the output, after others, is right for the lines of a stream: it was written when the
-- first of them were read, and means what is so then. Nothing comes after `Illegal`.
pub record IsWritten (asked : Settings) (lines : List (List ℕ)) (before : List OutputLine)
    (one : OutputLine) : Type 0 where
  pub first : List (List ℕ)
  pub rest : List (List ℕ)
  pub split : lines ≡ first ++ rest
  pub due : Due
  pub said : Said
  pub reads : ReadsAs first due
  pub says : Says due said
  pub goes_on : GoesOn before
  pub right : IsRight asked (length first) said before one

-- an output is right for the lines of a stream: each of its lines is
abbrev pub IsOutput : Settings → List (List ℕ) → List OutputLine → Type 0
IsOutput asked lines output = (k : ℕ) (one : OutputLine) → slice_get output k ≡ Some one
    → IsWritten asked lines (take k output) one
