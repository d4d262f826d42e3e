use Rattle.std.proofs.Common.{arith}
use Rattle.book_base.specs.Book.{IsAnswered}
use Rattle.seq_objects.specs.Objects.{kind_next}
use Rattle.smaller_book.proofs.ReadOnly.{answered_read_only, unanswered_read_only}
use Rattle.smaller_book.proofs.read_only.is_read_only.Goals as goal

pub returns-then-call-answers : goal.returns-then-call-answers
returns-then-call-answers c =
    let is = answered_read_only (kind_next c.args.kind) c.args.book.now c.args.call c.op-op.result
    c.record-record.result c.requires c.op-op.ensures c.record-record.ensures.record in (
      λ true_is. is.0 (c.leaves.ensures.0 true_is),
      λ only. c.leaves.ensures.1 (is.1 only),
    )

pub returns-else-call-answers : goal.returns-else-call-answers
returns-else-call-answers c =
    let unanswered : ¬ IsAnswered c.args.book.now c.args.call =
    λ answered. omega (arith, answered, c.if-call-answers.false, c.answers.ensures) in
    let is = unanswered_read_only (kind_next c.args.kind) c.args.book.now c.args.call
    c.op-op.result c.requires c.op-op.ensures unanswered in (
      λ true_is. is.0 (c.leaves_always.ensures.0 true_is),
      λ only. c.leaves_always.ensures.1 (is.1 only),
    )
