use Rattle.std.proofs.Common.{◌∙◌, sym, ap, inl, inr, arith}
use Rattle.legal_orders.specs.Deals.{deed_of}
use Rattle.stack_levels.proofs.stack_book.StackBook.leaves_top.Goals as goal

pub returns-in-Take : goal.returns-in-Take
returns-in-Take g c told = (
  λ answered. omega (arith, answered, c.answers.ensures),
  (
    c.op.result,
    c.op.ensures,
    inr (sym c.role.ensures ∙ ap deed_of c.in-Take.is, c.is_none.ensures told),
  ),
)

pub returns-in-Other : goal.returns-in-Other
returns-in-Other g c told = (
  λ answered. omega (arith, answered, c.answers.ensures),
  (c.op.result, c.op.ensures, inl (sym c.role.ensures ∙ ap deed_of c.in-Other.is)),
)
