-- Laws of closed lists, of impossible replies, and of counts.
use Rattle.std.specs.Prelude.{◌≡◌, ℕ, List, []}
use Rattle.book_base.specs.declared.call.Call.{Call}
use Rattle.book_base.specs.SeqSpec.{SeqSpec}
use Rattle.book_base.specs.Book.{Page}
use Rattle.book_base.specs.Order.{HasLegalOrder}
use Rattle.legal_orders.specs.Container.{Reading, IsContainer}
use Rattle.refutations.specs.declared.entry.Entry.{Entry}
use Rattle.refutations.specs.declared.fault.ClosedFault.{ClosedFault}
use Rattle.refutations.specs.Closed.{Item, IsClosedList, MakeClosed}
use Rattle.refutations.specs.Fault.{FailsTest, IsFirstFault}
use Rattle.refutations.specs.Impossible.{IsImpossible}
use Rattle.refutations.specs.Counts.{TakesExceedPuts, FindMissesPuts}

-- A book for which some list of items is closed has no legal order.
abbrev pub ClosedListsHaveNoOrder : Type 0
ClosedListsHaveNoOrder = (spec : SeqSpec) (book : List Page) (items : List Item)
    → IsClosedList spec book items → HasLegalOrder spec book → ⊥

-- A book with an impossible reply has no legal order.
abbrev pub ImpossibleRepliesHaveNoOrder : Type 0
ImpossibleRepliesHaveNoOrder = (spec : SeqSpec) (book : List Page) (call : Call)
    → IsImpossible spec book call → HasLegalOrder spec book → ⊥

-- In a container that begins empty, no more takes show some values up to a moment than puts of them
-- begin up to it.
abbrev pub ExcessTakesHaveNoOrder : Type 0
ExcessTakesHaveNoOrder = (reading : Reading) (spec : SeqSpec) (book : List Page) (values : List ℕ)
    (m : ℕ) → IsContainer reading spec.next → reading.values spec.init ≡ []
    → TakesExceedPuts reading book values m → HasLegalOrder spec book → ⊥

-- In a container that begins empty, all that is put in before a take that finds nothing is taken
-- before it.
abbrev pub MissedPutsHaveNoOrder : Type 0
MissedPutsHaveNoOrder = (reading : Reading) (spec : SeqSpec) (book : List Page) (values : List ℕ)
    (find : Call) → IsContainer reading spec.next → reading.values spec.init ≡ []
    → FindMissesPuts reading book values find → HasLegalOrder spec book → ⊥

-- Entries that make a closed list fail no test.
abbrev pub ClosedListsFailNoTest : Type 0
ClosedListsFailNoTest = (spec : SeqSpec) (book : List Page) (entries : List Entry)
    → MakeClosed spec book entries → (fault : ClosedFault) → FailsTest spec book entries fault → ⊥

-- Entries have at most one first fault.
abbrev pub FirstFaultsAreOne : Type 0
FirstFaultsAreOne = (spec : SeqSpec) (book : List Page) (entries : List Entry) (e f : ClosedFault)
    → IsFirstFault spec book entries e → IsFirstFault spec book entries f → e ≡ f
