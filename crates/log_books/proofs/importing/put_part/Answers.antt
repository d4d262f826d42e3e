use Rattle.std.proofs.Common.{◌∙◌, ◌++◌, ℕ, List, arith, ap}
use Rattle.log_books.proofs.Growing.{parts_more_at}
use Rattle.log_books.proofs.importing.put_part.Goals as goal
use Rattle.log_books.proofs.importing.put_part.Goals.{then-imported, else-imported}

pub returns : goal.returns
returns c = λ options log keys at is are.
    parts_more_at options log keys at c.args.imported.now.has_books c.args.part.now.has_book
    c.if-imported.imported c.args.imported.now.text.items c.args.part.now.text.items
    c.extend_from_slice.new.self.items
    (elim c.if-imported.branch [
      | then-imported w ↦ grind (arith, w.if-imported, w.imported-is)
      | else-imported w ↦ grind (arith, w.if-imported, w.imported-is)
    ])
    (c.in_ok-extend_from_slice.ensures.items
    ∙ ap (λ (l : List ℕ). c.args.imported.now.text.items ++ l) c.deref.ensures.value)
    is are
