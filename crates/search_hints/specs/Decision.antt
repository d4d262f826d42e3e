-- What an object says of a whole book without a search.
use Rattle.std.specs.Prelude.{List}
use Rattle.search_hints.specs.declared.decision.Decision.{Decision}
use Rattle.search_hints.specs.declared.decision.Decision.TheVariants.{Order, NoOrder, Unsaid}
use Rattle.book_base.specs.SeqSpec.{SeqSpec}
use Rattle.book_base.specs.Book.{Page}
use Rattle.book_base.specs.Order.{IsLegalOrder, HasLegalOrder}

-- A decision on a book is right where it carries a legal order of the book, where it is `NoOrder`
-- and the book has no legal order, or where it says nothing.
abbrev pub IsRightDecision : SeqSpec → List Page → Decision → Type 0
IsRightDecision spec book (Order order) = IsLegalOrder spec book order.items
IsRightDecision spec book NoOrder = HasLegalOrder spec book → ⊥
IsRightDecision spec book Unsaid = Unit {0}
