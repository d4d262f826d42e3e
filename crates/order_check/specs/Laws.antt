-- Laws of faults of orders.
use Rattle.std.specs.Prelude.{◌≡◌, List}
use Rattle.book_base.specs.declared.call.Place.{Place}
use Rattle.book_base.specs.SeqSpec.{SeqSpec}
use Rattle.book_base.specs.Book.{Page}
use Rattle.book_base.specs.Order.{IsLegalOrder}
use Rattle.order_check.specs.declared.fault.OrderFault.{OrderFault}
use Rattle.order_check.specs.Fault.{FailsTest, IsFirstFault}

-- A legal order of a book fails no test.
abbrev pub LegalOrdersFailNoTest : Type 0
LegalOrdersFailNoTest =
    (spec : SeqSpec) (book : List Page) (order : List Place)
    → IsLegalOrder spec book order
    → (fault : OrderFault) → FailsTest spec book order fault → ⊥

-- A list of places has at most one first fault.
abbrev pub FirstFaultsAreOne : Type 0
FirstFaultsAreOne = (spec : SeqSpec) (book : List Page)
    (order : List Place) (e f : OrderFault)
    → IsFirstFault spec book order e → IsFirstFault spec book order f → e ≡ f
