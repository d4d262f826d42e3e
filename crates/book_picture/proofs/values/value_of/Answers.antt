use Rattle.std.proofs.Common.{ℕ, ◌∙◌, Option, unwrap_or, sym, ap}
use Rattle.book_base.specs.Book.{operation_of}
use Rattle.book_picture.specs.Values.{value_of_step}
use Rattle.book_picture.proofs.values.value_of.Goals as goal

pub returns : goal.returns
returns c =
    let kind = c.args.kind in
    let book = c.args.book.now in
    c.value_of_step.ensures
    ∙ (ap (λ (o : Option ℕ). value_of_step kind (unwrap_or o 0) c.reply_of-reply.result)
    (sym c.op-op.ensures)
    ∙ ap (λ (r : Option ℕ). value_of_step kind (unwrap_or (operation_of book c.args.call) 0) r)
    c.reply_of-reply.ensures)
