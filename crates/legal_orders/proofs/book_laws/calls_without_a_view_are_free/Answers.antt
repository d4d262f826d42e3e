use Rattle.legal_orders.proofs.BookAtLaws.{keeps_each_record, keeps_each_held_call, keeps_each_operation, has_one_where_the_book_has}
use Rattle.legal_orders.proofs.book_laws.calls_without_a_view_are_free.Goals as goal

pub returns-clause-records : goal.returns-clause-records
returns-clause-records c = keeps_each_record

pub returns-clause-calls : goal.returns-clause-calls
returns-clause-calls c = keeps_each_held_call

pub returns-clause-operations : goal.returns-clause-operations
returns-clause-operations c = keeps_each_operation

pub returns-clause-orders : goal.returns-clause-orders
returns-clause-orders c = has_one_where_the_book_has
