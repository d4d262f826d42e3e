-- Pairs and legal orders.
use Rattle.std.specs.Prelude.{◌≡◌, [], List}
use Rattle.book_base.specs.SeqSpec.{SeqSpec}
use Rattle.book_base.specs.Book.{Page, IsValid}
use Rattle.book_base.specs.Order.{HasLegalOrder}
use Rattle.book_base.specs.Pruning.{HasOneOpen}
use Rattle.legal_orders.specs.Container.{Reading, IsQueue}
use Rattle.queue_pairs.specs.Pairs.{HasPairs}

-- Where a valid book with one open has a legal order for a queue that begins empty, the book has
-- pairs: some steps lead from the standing that covers no call to one that is whole.
abbrev pub LegalOrdersHavePairs : Type 0
LegalOrdersHavePairs =
    (reading : Reading) (spec : SeqSpec) (book : List Page)
    → IsQueue reading spec.next → reading.values spec.init ≡ []
    → IsValid book → HasOneOpen book → HasLegalOrder spec book → HasPairs reading book
