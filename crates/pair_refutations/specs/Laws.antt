-- Laws of entries that refute a queue's book.
use Rattle.std.specs.Prelude.{◌≡◌, List}
use Rattle.book_base.specs.Book.{Page}
use Rattle.book_base.specs.Order.{HasLegalOrder}
use Rattle.seq_objects.specs.declared.kind.Kind.TheVariants.{Queue}
use Rattle.seq_objects.specs.Objects.{kind_spec}
use Rattle.pair_refutations.specs.declared.entry.PairEntry.{PairEntry}
use Rattle.pair_refutations.specs.declared.fault.PairFault.{PairFault}
use Rattle.pair_refutations.specs.Fault.{Refute, HasTable, FailsTest, IsFirstFault}

-- A book of which a table has the calls, and which entries refute, has no legal order.
abbrev pub RefutedBooksHaveNoOrder : Type 0
RefutedBooksHaveNoOrder = (book : List Page) (entries : List PairEntry) → HasTable book
    → Refute book entries → HasLegalOrder (kind_spec Queue) book → ⊥

-- Entries that refute a book fail no test.
abbrev pub RefutationsFailNoTest : Type 0
RefutationsFailNoTest = (book : List Page) (entries : List PairEntry) → Refute book entries
    → (fault : PairFault) → FailsTest book entries fault → ⊥

-- Entries have at most one first fault.
abbrev pub FirstFaultsAreOne : Type 0
FirstFaultsAreOne = (book : List Page) (entries : List PairEntry) (e f : PairFault)
    → IsFirstFault book entries e → IsFirstFault book entries f → e ≡ f
