use Rattle.history_books.proofs.KeepingOrders.{wider_calls_keep_legal_orders}
use Rattle.history_books.proofs.laws.wider_calls_keep_legal_orders.Goals as goal

pub returns : goal.returns
returns c = wider_calls_keep_legal_orders
