-- A log: what its lines say, and its first fault.
use Rattle.std.specs.Prelude.{◌≡◌, ℕ, ◌⊎◌, ◌&&◌, not, Bool, true, List, [], ◌∷◌, ◌++◌, map, Some, None, Result, Ok, Err, bytes_eq}
use Rattle.std.specs.List.{list_any}
use Rattle.history_text.specs.declared.format.Format.{Format}
use Rattle.history_text.specs.declared.format.Format.TheVariants.{Edn, Json, Csv}
use Rattle.history_text.specs.declared.layout.Layout.{Layout}
use Rattle.history_text.specs.declared.clock.Clock.{Clock}
use Rattle.history_text.specs.declared.entry.Entry.{Entry}
use Rattle.history_text.specs.declared.entry.LinedEntry.{LinedEntry}
use Rattle.history_text.specs.declared.fault.LogFault.{LogFault}
use Rattle.history_text.specs.declared.fault.LogError.{LogError}
use Rattle.history_text.specs.declared.fault.LogError.TheVariants.{Fault, NoMemory}
use Rattle.history_text.specs.declared.fault.LogWhat.{LogWhat}
use Rattle.history_text.specs.declared.fault.LogWhat.TheVariants as fault
use Rattle.history_text.specs.Words.{plain_of}
use Rattle.history_text.specs.Layout.{FieldText}
use Rattle.history_text.specs.Fields.{fields_of, cells_of}
use Rattle.history_text.specs.Lines.{Line, lines_of}
use Rattle.history_text.specs.Entry.{IsRead}
use Rattle.history_text.specs.Pairing.{entry_fault}

-- whether no two names are the same
abbrev pub are_apart : List (List ℕ) → Bool
are_apart [] = true
are_apart (name ∷ names) = not (list_any (bytes_eq name) names) && are_apart names

-- The names of a header's columns: the cells of the line, no two of which are the same plain word.
pub record AreColumns (line : List ℕ) (names : List (List ℕ)) : Type 0 where
  pub cells : cells_of line ≡ Some names
  pub apart : are_apart (map plain_of names) ≡ true

-- The lines of a log after its header, where a CSV has one with columns of these names.
abbrev pub HasHeader : Format → List Line → List (List ℕ) → List Line → Type 0
HasHeader Edn lines names rows = rows ≡ lines
HasHeader Json lines names rows = rows ≡ lines
HasHeader Csv lines names rows = (header : Line) × (lines ≡ header ∷ rows)
    × AreColumns header.bytes names

-- The header of a CSV has a fault: it is missing, or isn't one.
abbrev pub IsHeaderFault : List Line → LogFault → Type 0
IsHeaderFault [] its = its ≡ record { line = 1; what = fault.Header }
IsHeaderFault (header ∷ rows) its =
    (its ≡ record { line = header.number; what = fault.Header })
    × ((names : List (List ℕ)) → AreColumns header.bytes names → ⊥)

-- A line says something by itself, or has a fault by itself.
pub record SaysBySelf (format : Format) (layout : Layout) (names : List (List ℕ)) (line : Line)
    (read : Result Entry LogWhat) : Type 0 where
  pub fields : List FieldText
  pub has : fields_of format names line.bytes ≡ Some fields
  pub says : IsRead layout line.number fields read

-- Lines are read as entries, one after another: each line says what its entry says, and its entry
-- has no fault after those before it.
pub data AreRead (format : Format) (layout : Layout) (clock : Clock) (names : List (List ℕ))
    : List Line → List LinedEntry → Type 0 where
  none : AreRead format layout clock names [] []
  more : (lines : List Line) (entries : List LinedEntry) (line : Line) (entry : Entry)
      → AreRead format layout clock names lines entries
      → SaysBySelf format layout names line (Ok entry)
      → entry_fault clock entries line.number entry ≡ None
      → AreRead format layout clock names (lines ++ line ∷ [])
      (entries ++ record { line = line.number; entry = entry } ∷ [])

-- What is wrong with a line after some entries: it has no fields, or a fault by itself, or its entry
-- has one after the earlier ones.
pub data IsFaultAt (format : Format) (layout : Layout) (clock : Clock) (names : List (List ℕ))
    (entries : List LinedEntry) (line : Line) : LogWhat → Type 0 where
  shapeless : fields_of format names line.bytes ≡ None
      → IsFaultAt format layout clock names entries line fault.Line
  alone : (what : LogWhat) → SaysBySelf format layout names line (Err what)
      → IsFaultAt format layout clock names entries line what
  beside : (entry : Entry) (what : LogWhat) → SaysBySelf format layout names line (Ok entry)
      → entry_fault clock entries line.number entry ≡ Some what
      → IsFaultAt format layout clock names entries line what

-- The bytes are a log without a fault, whose lines after the header are read as these entries.
pub record IsLog (format : Format) (layout : Layout) (clock : Clock) (bytes : List ℕ)
    (entries : List LinedEntry) : Type 0 where
  pub names : List (List ℕ)
  pub rows : List Line
  pub header : HasHeader format (lines_of bytes) names rows
  pub read : AreRead format layout clock names rows entries

-- A log has its first fault at a line after the header: the lines before it have none.
pub record IsFirstFault (format : Format) (layout : Layout) (clock : Clock) (bytes : List ℕ)
    (its : LogFault) : Type 0 where
  pub names : List (List ℕ)
  pub before : List Line
  pub at : Line
  pub after : List Line
  pub header : HasHeader format (lines_of bytes) names (before ++ at ∷ after)
  pub entries : List LinedEntry
  pub read : AreRead format layout clock names before entries
  pub number : its.line ≡ at.number
  pub wrong : IsFaultAt format layout clock names entries at its.what

-- Why a header isn't read: its fault, or want of memory.
abbrev pub IsHeaderCause : List Line → LogError → Type 0
IsHeaderCause lines (Fault its) = IsHeaderFault lines its
IsHeaderCause lines NoMemory = Unit {0}

-- Why a line isn't read after some entries: its fault, or want of memory.
abbrev pub IsCauseAt : Format → Layout → Clock → List (List ℕ) → List LinedEntry → Line → LogError
    → Type 0
IsCauseAt format layout clock names entries line (Fault its) =
    (its.line ≡ line.number) × IsFaultAt format layout clock names entries line its.what
IsCauseAt format layout clock names entries line NoMemory = Unit {0}

-- Why a log isn't read: its first fault, in the header or after it, or want of memory.
abbrev pub IsCause : Format → Layout → Clock → List ℕ → LogError → Type 0
IsCause format layout clock bytes (Fault its) =
    ((format ≡ Csv) × IsHeaderFault (lines_of bytes) its)
    ⊎ IsFirstFault format layout clock bytes its
IsCause format layout clock bytes NoMemory = Unit {0}
