use Rattle.std.proofs.Common.{◌∙◌, sym, ap}
use Rattle.legal_orders.specs.Deals.{deed_of}
use Rattle.stack_levels.proofs.stack_book.StackBook.shows_another.Goals as goal

pub returns-in-Take : goal.returns-in-Take
returns-in-Take g c told = (
  c.shown.result,
  (
    c.op.result,
    c.record.result,
    c.op.ensures,
    c.record.ensures.record,
    sym c.role.ensures ∙ ap deed_of c.in-Take.is,
    sym c.shown.ensures,
  ),
  c.is_another.ensures told,
)
