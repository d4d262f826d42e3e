-- Laws of closed tables of levels.
use Rattle.std.specs.Prelude.{◌≡◌, List}
use Rattle.book_base.specs.Book.{Page}
use Rattle.book_base.specs.Order.{HasLegalOrder}
use Rattle.seq_objects.specs.declared.kind.Kind.TheVariants as kinds
use Rattle.seq_objects.specs.Objects.{kind_spec}
use Rattle.level_refutations.specs.declared.entry.LevelEntry.{LevelEntry}
use Rattle.level_refutations.specs.declared.fault.LevelFault.{LevelFault}
use Rattle.level_refutations.specs.Said.{entries_said}
use Rattle.level_refutations.specs.Closed.{MakeClosed}
use Rattle.level_refutations.specs.Fault.{IsFirstFault}

-- The book has no legal order of a stack, which begins empty.
abbrev pub StackHasNoOrder : List Page → Type 0
StackHasNoOrder book = HasLegalOrder (kind_spec kinds.Stack) book → ⊥

-- A book for which entries make a closed table has no legal order of a stack.
abbrev pub ClosedTablesHaveNoOrder : Type 0
ClosedTablesHaveNoOrder = (book : List Page) (entries : List LevelEntry)
    → MakeClosed book entries → StackHasNoOrder book

-- Entries that make a closed table fail no test.
abbrev pub ClosedTablesFailNoTest : Type 0
ClosedTablesFailNoTest = (book : List Page) (entries : List LevelEntry) (fault : LevelFault)
    → MakeClosed book entries → IsFirstFault book entries fault → ⊥

-- Entries have at most one first fault.
abbrev pub FirstFaultsAreOne : Type 0
FirstFaultsAreOne = (book : List Page) (entries : List LevelEntry) (e f : LevelFault)
    → IsFirstFault book entries e → IsFirstFault book entries f → e ≡ f

-- Entries that say the same have the same first fault.
abbrev pub FaultsAreOfWhatIsSaid : Type 0
FaultsAreOfWhatIsSaid = (book : List Page) (a b : List LevelEntry) (fault : LevelFault)
    → entries_said a ≡ entries_said b → IsFirstFault book a fault → IsFirstFault book b fault
